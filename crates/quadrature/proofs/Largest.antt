-- The largest difference of the delivered indices from a place on, as the search from the last place down keeps it: one place more
-- at the front is compared with the largest so far, and the 0 of a wanted record leaves that as it is.
-- Assumes nothing.
use mathlib.Core.Path.{◌≡◌, refl, sym, ap, ◌∙◌}
use mathlib.Core.Bool.{Bool, true, false, cond}
use mathlib.Core.List.{List, ◌∷◌}
use Prim.Native.Nat.{ℕ, zero, suc, ◌-◌, ◌<◌, ◌≤◌}
use native.Mathlib.Omega.{arith}
use lib.Dec.{leb}
use lib.IntN.{ℤ, pos, negsuc, nat_abs}
use lib.ListN.{length, take, drop, drop_of_length-le, length-take}
use lib.Seq.{get_or-take, length-take-le, drop-cons}
use Rattle.grid.specs.Difference.{scaled_difference}
use Rattle.grid.specs.Largest.{larger, largest_difference}
use Rattle.grid.proofs.Largest.{larger-first, larger_second}
use Rattle.area.specs.declared.IndexRecord.{IndexRecord}
use Rattle.area.specs.Records.{blank}
use Rattle.quadrature.specs.Readings.{record_at, stored_reading}
use Rattle.quadrature.specs.Linked.{delivered_in}
use Rattle.quadrature.specs.Parts.{delivered_difference}

-- 0 is never larger
larger-zero : (x : ℤ) → larger (pos 0) x ≡ x
larger-zero (pos zero) = larger-first (pos 0) (pos 0) (omega arith)
larger-zero (pos (suc n)) = larger_second (pos 0) (pos (suc n)) (omega arith)
larger-zero (negsuc n) = larger_second (pos 0) (negsuc n) (omega arith)

module _ (h : ℕ) (rs : List IndexRecord) (s : List ℤ) where
  abbrev pub largest_from : ℕ → ℤ
  largest_from p = largest_difference (delivered_in (drop p (take h rs))) (stored_reading rs s)

  -- from the end on there is none
  pub largest_end : largest_from h ≡ pos 0
  unfolding delivered_in largest_difference
  largest_end = ap (λ ks. largest_difference (delivered_in ks) (stored_reading rs s)) (drop_of_length-le (take h rs) short)
    where
      short : length (take h rs) ≤ h
      short = omega (arith, length-take h rs)

  -- one record in front of others
  in_front_lem : (r : IndexRecord) (ks : List IndexRecord)
      → largest_difference (delivered_in (r ∷ ks)) (stored_reading rs s)
      ≡ larger (cond (leb 1 r.state) (scaled_difference r.levels (stored_reading rs s)) (pos 0)) (largest_difference (delivered_in ks) (stored_reading rs s))
  unfolding delivered_in largest_difference
  in_front_lem r ks = by (leb 1 r.state)
    where
      by : (t : Bool) → largest_difference (cond t (r.levels ∷ delivered_in ks) (delivered_in ks)) (stored_reading rs s)
          ≡ larger (cond t (scaled_difference r.levels (stored_reading rs s)) (pos 0)) (largest_difference (delivered_in ks) (stored_reading rs s))
      by true = refl
      by false = sym (larger-zero (largest_difference (delivered_in ks) (stored_reading rs s)))

  module _ (room : h ≤ length rs) (p : ℕ) (inside : p ≤ h) (some : 0 < p) where
    front : drop (p - 1) (take h rs) ≡ record_at rs (p - 1) ∷ drop p (take h rs)
    front =
        drop-cons (take h rs) (p - 1) blank (omega (arith, length-take-le h rs room))
        ∙ ap (λ r. r ∷ drop (suc (p - 1)) (take h rs)) (get_or-take h rs (p - 1) blank (omega arith))
        ∙ ap (λ n. record_at rs (p - 1) ∷ drop n (take h rs)) on
      where
        on : suc (p - 1) ≡ p
        on = omega arith

    step : largest_from (p - 1) ≡ larger (delivered_difference rs s (p - 1)) (largest_from p)
    unfolding delivered_difference
    step = ap (λ ks. largest_difference (delivered_in ks) (stored_reading rs s)) front ∙ in_front_lem (record_at rs (p - 1)) (drop p (take h rs))

    -- `a` is the largest so far and m its size, `d` the difference in front of it and n its size
    module _ (a d : ℤ) (m n : ℕ) (so_far : a ≡ largest_from p) (is : d ≡ delivered_difference rs s (p - 1)) (a-size : m ≡ nat_abs a) (d-size : n ≡ nat_abs d) where
      -- it takes over where it is as large
      pub largest_new : m ≤ n → d ≡ largest_from (p - 1)
      largest_new q =
          is ∙ sym (step ∙ larger-first (delivered_difference rs s (p - 1)) (largest_from p) (omega (arith, ap nat_abs so_far, ap nat_abs is, a-size, d-size, q)))

      pub largest_kept : n < m → a ≡ largest_from (p - 1)
      largest_kept q =
          so_far
          ∙ sym (step ∙ larger_second (delivered_difference rs s (p - 1)) (largest_from p) (omega (arith, ap nat_abs so_far, ap nat_abs is, a-size, d-size, q)))
