-- The place of an index among records: where it lies, whose levels stand there; lists of levels taken apart.
-- Assumes nothing.
use mathlib.Core.Path.{◌≡◌, refl, sym, ap, ◌∙◌}
use mathlib.Core.Bool.{Bool, true, false, cond}
use mathlib.Core.List.{List, [], ◌∷◌, ◌++◌}
use Prim.Native.Nat.{ℕ, suc, ◌+◌, ◌*◌, ◌<◌, min}
use native.Mathlib.Nat as NatL
use native.Mathlib.Omega.{arith}
use lib.ListN.{length, get_or, take, length-take}
use lib.Seq.{get_or-take}
use Rattle.rule.specs.Points.{new_count}
use Rattle.grid.specs.Index.{NowhereHigher}
use Rattle.grid.specs.Block.{block_size}
use Rattle.grid.specs.Coefficient.{same_levels}
use Rattle.grid.proofs.Levels.{higher_cons, higher_not_empty, higher_head_low, higher_head_high, higher_tail}
use Rattle.grid.proofs.Members.{same_sure}
use Rattle.area.specs.declared.IndexRecord.{IndexRecord}
use Rattle.area.specs.Records.{blank, levels_of}
use Rattle.area.specs.Encoding.{none, place_from, place_of}
use Rattle.quadrature.specs.Readings.{record_at, place_in}

-- ---- places

-- a place that is found is that of a record with the levels
record Found (rs : List IndexRecord) (k : List ℕ) (p place : ℕ) : Type 0 where
  at : ℕ
  is : place ≡ p + at
  inside : at < length rs
  levels : (get_or rs at blank).levels ≡ k

found_at : (p : ℕ) (rs : List IndexRecord) (k : List ℕ) → place_from p (levels_of rs) k < none → Found rs k p (place_from p (levels_of rs) k)
unfolding place_from levels_of
found_at p [] k h = absurd (omega arith)
found_at p (r ∷ rs) k h = step (same_levels r.levels k) refl h (λ q. found_at (p + 1) rs k q)
  where
    step : (t : Bool) → same_levels r.levels k ≡ t → cond t p (place_from (p + 1) (levels_of rs) k) < none
        → (place_from (p + 1) (levels_of rs) k < none → Found rs k (p + 1) (place_from (p + 1) (levels_of rs) k))
        → Found (r ∷ rs) k p (cond t p (place_from (p + 1) (levels_of rs) k))
    step true e q ih = record { at = 0; is = omega arith; inside = omega arith; levels = same_sure r.levels k e }
    step false e q ih =
        let f = ih q in
        record { at = suc f.at; is = omega (arith, f.is); inside = omega (arith, f.inside); levels = f.levels }

module _ (rs : List IndexRecord) (k : List ℕ) (h : place_in rs k < none) where
  found : Found rs k 0 (place_in rs k)
  unfolding place_of
  found = found_at 0 rs k h

  pub place_inside : place_in rs k < length rs
  place_inside = omega (arith, found.is, found.inside)

  pub place_levels : (record_at rs (place_in rs k)).levels ≡ k
  place_levels = ap (λ p. (get_or rs p blank).levels) (found.is ∙ NatL.zero-add found.at) ∙ found.levels

pub below_none : {p : ℕ} → p < 512 → p < none
unfolding none
below_none h = omega arith

-- ---- levels taken apart

pub higher_append : (l k m n : List ℕ) → NowhereHigher l k → NowhereHigher m n → NowhereHigher (l ++ m) (k ++ n)
higher_append [] [] m n a b = b
higher_append [] (y ∷ k) m n a b = absurd (higher_not_empty y k a)
higher_append (x ∷ l) [] m n a b = absurd (let e : suc (length l) ≡ 0 = a.axes in omega arith)
higher_append (x ∷ l) (y ∷ k) m n a b =
    higher_cons x y (l ++ m) (k ++ n) (higher_head_low x y l k a) (higher_head_high x y l k a) (higher_append l k m n (higher_tail x y l k a) b)

pub higher_take : (l k : List ℕ) (a : ℕ) → NowhereHigher l k → NowhereHigher (take a l) (take a k)
higher_take l k a h =
    record {
      axes = length-take a l ∙ ap (λ n. min a n) h.axes ∙ sym (length-take a k);
      low = λ i q. rw (get_or-take a l i 0 (below i q)) (h.low i (inside i q));
      high = λ i q. rw (get_or-take a l i 0 (below i q), get_or-take a k i 0 (below i q)) (h.high i (inside i q));
    }
  where
    below : (i : ℕ) → i < length (take a k) → i < a
    below i q = omega (arith, length-take a k)

    inside : (i : ℕ) → i < length (take a k) → i < length k
    inside i q = omega (arith, length-take a k)

pub size-append : (l m : List ℕ) → block_size (l ++ m) ≡ block_size l * block_size m
unfolding block_size
size-append [] m = sym (NatL.one-mul (block_size m))
size-append (x ∷ l) m = ap (λ s. new_count x * s) (size-append l m) ∙ sym (NatL.mul_assoc (new_count x) (block_size l) (block_size m))
