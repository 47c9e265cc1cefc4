-- Levels compared cell by cell, and the search for a level list.
-- The idea: what is still to be compared, or searched, answers as the whole did.
-- Assumes nothing.
use mathlib.Core.Path.{◌≡◌, refl, ap, sym, ◌∙◌}
use mathlib.Core.Bool.{Bool, true, false, cond, ◌&&◌}
use mathlib.Core.List.{List, [], ◌∷◌}
use lib.Dec.{eqb}
use Rattle.std.specs.Str.{bytes_eq}
use Prim.Native.Nat.{ℕ, zero, suc, ◌+◌, ◌≤◌, ◌<◌}
use native.Mathlib.Omega.{arith}
use native.Mathlib.Numerals.{add-one}
use lib.ListN.{length, get_or, drop, drop_of_length-le}
use lib.Seq.{drop-cons}
use Rattle.grid.specs.Coefficient.{same_levels}
use Rattle.std.specs.Option.{MatchOption}
use Rattle.std.specs.Prelude.{Option, Some, None}
use Rattle.area.specs.declared.IndexRecord.{IndexRecord}
use Rattle.area.specs.Records.{blank}
use Rattle.area.specs.Lookup.{lookup_from, lookup_in}

-- `==` of two level lists
pub equal-same : (k l : List ℕ) → bytes_eq k l ≡ same_levels k l
unfolding same_levels
equal-same [] [] = refl
equal-same [] (y ∷ l) = refl
equal-same (x ∷ k) [] = refl
equal-same (x ∷ k) (y ∷ l) = ap (λ t. eqb x y && t) (equal-same k l)

-- one record more of those left to search
module _ (p : ℕ) (rs : List IndexRecord) (k : List ℕ) where
  pub found_head : p < length rs → lookup_from p (drop p rs) k ≡ cond (same_levels (get_or rs p blank).levels k) (Some p) (lookup_from (p + 1) (drop (p + 1) rs) k)
  unfolding lookup_from
  found_head h = rw (drop-cons rs p blank h, add-one p)

  pub found_end : length rs ≤ p → lookup_from p (drop p rs) k ≡ None
  unfolding lookup_from
  found_end h = rw (drop_of_length-le rs h)

-- what a search through the places finds
module _ (rs : List IndexRecord) (k : List ℕ) where
  abbrev same : ℕ → Bool
  same p = same_levels (get_or rs p blank).levels k

  passed : (p : ℕ) → p ≤ length rs → ((i : ℕ) → 0 ≤ i → i < p → same i ≡ false) → lookup_from 0 rs k ≡ lookup_from p (drop p rs) k
  passed zero h others = refl
  passed (suc p) h others =
      passed p (omega arith) (λ i l j. others i l (omega arith)) ∙ found_head p rs k (omega arith)
      ∙ ap (λ t. cond t (Some p) (lookup_from (p + 1) (drop (p + 1) rs) k)) (others p (omega arith) (omega arith))
      ∙ ap (λ q. lookup_from q (drop q rs) k) (add-one p)

  pub searched : (n : ℕ) → n ≡ length rs → (r : Option ℕ)
      → MatchOption r ((i : ℕ) → 0 ≤ i → i < n → same i ≡ false) (λ i. (0 ≤ i) × (i < n) × (same i ≡ true) × ((j : ℕ) → 0 ≤ j → j < i → same j ≡ false))
      → r ≡ lookup_in rs k
  unfolding lookup_in
  searched n is None others = sym (passed n (omega arith) others ∙ found_end n rs k (omega arith))
  searched n is (Some i) here =
      sym (passed i (omega arith) here.3 ∙ found_head i rs k (omega arith) ∙ ap (λ t. cond t (Some i) (lookup_from (i + 1) (drop (i + 1) rs) k)) here.2)
