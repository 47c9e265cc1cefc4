-- `checking::readings_fit` meets its contract: what is folded says whether the readings so far are in range. Assumes nothing.
use borrow.Author.Rules.{rules}
use borrow.Author.Tests.{tests}
use mathlib.Core.Path.{◌≡◌, refl, ◌∙◌}
use mathlib.Core.Bool.{Bool, ◌&&◌}
use mathlib.Core.List.{List, [], ◌∷◌, ◌++◌}
use Prim.Native.Nat.{◌+◌}
use native.Mathlib.Omega.{arith}
use denote.Ref.{Bor}
use lib.Dec.{leb}
use lib.IntN.{ℤ, pos, nat_abs}
use Rattle.std.proofs.iter.Yields.{fronts}
use Rattle.std.specs.List.{list_all}
use Rattle.std.proofs.lemmas.Fn.{fold_over}
use Rattle.std.proofs.lemmas.Grind.{common_steps}
use Rattle.std.proofs.lemmas.Iterator.{YieldsList-from_slice}
use Rattle.soundness.specs.Totals.{reading_test}
use Rattle.checking.proofs.Each.{all_in_slice}
use Rattle.checking.proofs.readings_fit.Goals as goal

abbrev in_size : ℤ → Bool
in_size z = leb (nat_abs z) 1048576

abbrev SoFar : List ℤ → Bool → Type 0
SoFar zs fits = fits ≡ list_all in_size zs

one_more : (zs : List ℤ) (z : ℤ) (a b : Bool) → SoFar zs a → b ≡ (a && in_size z) → SoFar (zs ++ (z ∷ [])) b
one_more zs z a b h e = grind (arith, common_steps)

pub returns : goal.returns
unfolding reading_test
returns c =
    fold_over fronts (λ (z : Bor ℤ). z.now) _ SoFar _ (λ zs a z b f' h k. (one_more zs z.now a b h (search (rules, tests)), search rules))
    c.iter.result _ _ c.fold.result (YieldsList-from_slice _ c.iter.ensures.rest).runs refl c.fold.ensures.ran
    ∙ all_in_slice in_size c.args.store.now (pos 0) c.args.first (c.args.first + c.args.size) c.args.size (omega arith) c.requires
