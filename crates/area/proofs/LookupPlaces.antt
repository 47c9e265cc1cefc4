-- The lookup as an answer and as a place: both stop at the first record with the levels.
-- Assumes nothing.
use mathlib.Core.Path.{◌≡◌, refl, ap, ◌∙◌}
use mathlib.Core.Bool.{Bool, true, false, cond}
use mathlib.Core.List.{List, [], ◌∷◌}
use Prim.Native.Nat.{ℕ, ◌+◌, ◌≤◌}
use native.Mathlib.Nat as NatL
use native.Mathlib.Omega.{arith}
use borrow.Author.Tests.{le-leb, lt-leb}
use lib.Dec.{leb}
use lib.ListN.{length}
use Rattle.grid.specs.Coefficient.{same_levels}
use Rattle.area.specs.declared.IndexRecord.{IndexRecord}
use native.Mathlib.Decide.{dec_le}
use Rattle.std.specs.Prelude.{Some, None, unwrap_or}
use Rattle.area.specs.Records.{levels_of}
use Rattle.area.specs.Lookup.{lookup_from, lookup_in}
use Rattle.area.specs.Encoding.{none, place_from, place_of}

pub found_from : (p : ℕ) (rs : List IndexRecord) (k : List ℕ) → p + length rs ≤ none → lookup_from p rs k ≡ cond (leb none (place_from p (levels_of rs) k)) None (Some (place_from p (levels_of rs) k))
unfolding lookup_from place_from levels_of
found_from p [] k h = rw (le-leb none none (NatL.le_refl none))
found_from p (r ∷ rs) k h = step (same_levels r.levels k) (found_from (p + 1) rs k (omega arith))
  where
    step : (t : Bool) → lookup_from (p + 1) rs k ≡ cond (leb none (place_from (p + 1) (levels_of rs) k)) None (Some (place_from (p + 1) (levels_of rs) k))
        → cond t (Some p) (lookup_from (p + 1) rs k) ≡ cond (leb none (cond t p (place_from (p + 1) (levels_of rs) k))) None (Some (cond t p (place_from (p + 1) (levels_of rs) k)))
    step true e = rw (lt-leb none p (omega arith))
    step false e = e

pub place_le : (p : ℕ) (rs : List IndexRecord) (k : List ℕ) → p + length rs ≤ none → place_from p (levels_of rs) k ≤ none
unfolding place_from levels_of
place_le p [] k h = NatL.le_refl none
place_le p (r ∷ rs) k h = step (same_levels r.levels k) (place_le (p + 1) rs k (omega arith))
  where
    step : (t : Bool) → place_from (p + 1) (levels_of rs) k ≤ none → cond t p (place_from (p + 1) (levels_of rs) k) ≤ none
    step true e = omega arith
    step false e = e

pub found_is : (rs : List IndexRecord) (k : List ℕ) → length rs ≤ none → lookup_in rs k ≡ cond (leb none (place_of (levels_of rs) k)) None (Some (place_of (levels_of rs) k))
unfolding lookup_in place_of
found_is rs k h = found_from 0 rs k (omega arith)

-- the place that the lookup finds, none where it finds nothing
pub place_found : (rs : List IndexRecord) (k : List ℕ) → length rs ≤ none → unwrap_or (lookup_in rs k) none ≡ place_of (levels_of rs) k
unfolding place_of
place_found rs k h = ap (λ o. unwrap_or o none) (found_is rs k h) ∙ step (dec_le none (place_of (levels_of rs) k))
  where
    step : Dec (none ≤ place_of (levels_of rs) k) → unwrap_or (cond (leb none (place_of (levels_of rs) k)) None (Some (place_of (levels_of rs) k))) none ≡ place_of (levels_of rs) k
    step (yes l) = rw (le-leb none (place_of (levels_of rs) k) l) (omega (arith, l, place_le 0 rs k (omega (arith, h))))
    step (no l) = rw (lt-leb none (place_of (levels_of rs) k) (omega (arith, l))) refl
