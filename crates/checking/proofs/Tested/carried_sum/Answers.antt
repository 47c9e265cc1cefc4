-- `checking::Tested::carried_sum` meets its contract: the old places at a ceiling, among eight axes as among the job's, pass the test. Assumes nothing.
use borrow.Author.Rules.{rules}
use borrow.Author.Tests.{tests}
use mathlib.Core.Path.{◌≡◌, ◌∙◌}
use mathlib.Core.Bool.{◌&&◌}
use lib.Dec.{eqb}
use Rattle.grid.specs.Index.{at_ceiling}
use Rattle.soundness.specs.Held.{state_at, levels_at}
use Rattle.soundness.specs.Totals.{carried_in}
use Rattle.checking.proofs.Passes.{place_within}
use Rattle.checking.proofs.Whole.{carried_eight}
use Rattle.checking.proofs.Tested.carried_sum.Goals as goal

pub indicator_sum-requires : goal.indicator_sum-requires
indicator_sum-requires c = λ p h. let within = place_within c.args.self.now.job.settings.axes c.args.self.now.held.now c.args.self.now.passed p h in search rules

pub returns : goal.returns
returns c =
    let t = c.args.self.now in
    let rs = t.held.now in
    let eight : c.indicator_sum.result ≡ carried_in 8 rs = unfold carried_in in c.indicator_sum.ensures (λ p. eqb (state_at rs p) 2 && at_ceiling 8 (levels_at rs p)) (λ p b h k. search (rules, tests)) in
    eight ∙ carried_eight t.job.settings.axes rs t.settings.axes.0 t.settings.axes.1 t.passed
