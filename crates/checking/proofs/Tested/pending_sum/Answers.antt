-- `checking::Tested::pending_sum` meets its contract: the active places pass the test. Assumes nothing.
use borrow.Author.Rules.{rules}
use borrow.Author.Tests.{tests}
use mathlib.Core.Path.{ap, ◌∙◌}
use mathlib.Core.Bool.{cond}
use native.Mathlib.Omega.{arith}
use lib.Dec.{eqb}
use Rattle.sums.specs.Sums.{nat_sum_to}
use Rattle.quadrature.specs.Readings.{record_at}
use Rattle.soundness.specs.Held.{state_at}
use Rattle.soundness.specs.Totals.{pending_in}
use Rattle.checking.proofs.Tested.pending_sum.Goals as goal

pub returns : goal.returns
unfolding pending_in
returns c =
    let rs = c.args.self.now.held.now in
    c.indicator_sum.ensures (λ p. eqb (state_at rs p) 1) (λ p b h k. search (rules, tests))
    ∙ ap (λ n. nat_sum_to n (λ p. cond (eqb (state_at rs p) 1) (record_at rs p).indicator 0)) (omega arith)
