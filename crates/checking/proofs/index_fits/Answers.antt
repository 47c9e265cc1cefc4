-- `checking::index_fits` meets its contract: each level beyond the last axis is asked. Assumes nothing.
use borrow.Author.Rules.{rules}
use borrow.Author.Tests.{tests}
use mathlib.Core.Path.{◌≡◌, refl, sym, ◌∙◌}
use native.Mathlib.Omega.{arith}
use Prim.Native.Nat.{◌-◌}
use lib.Dec.{eqb}
use lib.ListN.{length}
use Rattle.std.proofs.lemmas.Bool.Decides.{nat_tests}
use Rattle.std.proofs.lemmas.Iterator.{YieldsList-from_slice}
use Rattle.std.proofs.lemmas.Iterator.Search.{all_from_yields_List}
use Rattle.soundness.specs.Test.{index_test}
use Rattle.checking.proofs.Each.{all_in_slice}
use Rattle.checking.proofs.index_fits.Goals as goal

pub returns-then-within_ceilings : goal.returns-then-within_ceilings
unfolding index_test
returns-then-within_ceilings c =
    let few : length c.args.levels ≡ 8 = search rules in
    rw (sym c.within_ceilings.ensures ∙ c.if-within_ceilings.true)
    (all_from_yields_List (λ l. eqb l 1) _ _ c.all.result c.all.ensures.ran (YieldsList-from_slice _ c.iter.ensures.rest) (λ x b q k. search (rules, tests))
    ∙ all_in_slice (λ l. eqb l 1) c.args.levels 0 c.args.axes 8 (8 - c.args.axes) refl (omega arith))

pub returns-else-within_ceilings : goal.returns-else-within_ceilings
unfolding index_test
returns-else-within_ceilings c = grind (arith, nat_tests)
