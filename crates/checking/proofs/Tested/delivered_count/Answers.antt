-- `checking::Tested::delivered_count` meets its contract: the delivered places are kept and counted. Assumes nothing.
use borrow.Author.Rules.{rules}
use borrow.Author.Tests.{tests}
use mathlib.Core.Path.{◌≡◌, refl, ap, ◌∙◌}
use mathlib.Core.Bool.{Bool, true, false, not, cond}
use Prim.Native.Nat.{ℕ}
use native.Mathlib.Omega.{arith}
use lib.Dec.{eqb}
use Rattle.std.proofs.lemmas.Iterator.{YieldsList-from_range}
use Rattle.std.proofs.lemmas.Iterator.Consumers.{YieldsList-from_filter, count_from_yields_List}
use Rattle.soundness.specs.Held.{state_at}
use Rattle.soundness.specs.Totals.{delivered_count}
use Rattle.sums.specs.Sums.{nat_sum_to}
use Rattle.sums.proofs.Sizes.{nat_sum_to_cong}
use Rattle.checking.proofs.Sums.{count_kept}
use Rattle.checking.proofs.Tested.delivered_count.Goals as goal

turned : (b : Bool) → ◌≡◌ {A = ℕ} (cond (not b) 1 0) (cond b 0 1)
turned true = refl
turned false = refl

pub returns : goal.returns
unfolding delivered_count
returns c =
    let rs = c.args.self.now.held.now in
    let delivered : ℕ → Bool = λ p. not (eqb (state_at rs p) 0) in
    count_from_yields_List c.filter.result c.count.result c.count.ensures.ran (YieldsList-from_filter _ delivered (YieldsList-from_range 0 c.len.result c.len.result c.filter.ensures.source (omega arith)) c.filter.ensures.closure (λ x b q k. search (rules, tests)))
    ∙ count_kept delivered c.len.result
    ∙ nat_sum_to_cong c.len.result (λ p. turned (eqb (state_at rs p) 0))
    ∙ ap (λ n. nat_sum_to n (λ p. cond (eqb (state_at rs p) 0) 0 1)) c.len.ensures
