-- The coefficient of a held index over the subsets of the job's axes: a subset that marks a later axis gives nothing, since there
-- the raised index would stand at level 2 and every held one stands at 1.
-- Assumes nothing.
use mathlib.Core.Path.{◌≡◌, refl, sym, ap, ◌∙◌}
use mathlib.Core.Bool.{Bool, true, false, cond}
use mathlib.Core.List.{List, [], ◌∷◌}
use Prim.Native.Nat.{ℕ, zero, suc, ◌+◌, ◌-◌, ◌/◌, ◌%◌, ◌^◌, ◌<◌, ◌≤◌}
use native.Mathlib.Nat as NatL
use native.Mathlib.Omega.{arith}
use borrow.Author.Tests.{eqb-false}
use lib.Dec.{eqb}
use lib.IntN.{pos, nat_abs, ◌+ℤ◌, +ℤ_idr}
use lib.ListN.{length}
use lib.Pow.{pow_mono}
use Rattle.sums.specs.Sums.{sum_to}
use Rattle.sums.proofs.Sums.{sum_to-append, sum_to-cong<, sum_to-zero}
use Rattle.sums.proofs.Sizes.{abs_neg, abs_sum_to, nat_sum_to_const}
use Rattle.grid.specs.Index.{level}
use Rattle.grid.specs.Coefficient.{is_in, sign, raised_on, marks, coefficient}
use Rattle.grid.proofs.Masks.{masks}
use Rattle.grid.proofs.Members.{in_no}
use Rattle.area.specs.declared.IndexRecord.{IndexRecord}
use Rattle.quadrature.specs.Readings.{record_at}
use Rattle.quadrature.specs.Linked.{delivered_in, subset_term, Linked}
use Rattle.quadrature.proofs.Raised.{Positive, positive_at}
use Rattle.quadrature.proofs.Delivered.{delivered_sure}

-- ---- sizes

sign-size : (S : List Bool) → nat_abs (sign S) ≤ 1
unfolding sign
sign-size [] = omega arith
sign-size (false ∷ S) = sign-size S
sign-size (true ∷ S) = omega (arith, abs_neg (sign S), sign-size S)

pub term_size : (rs : List IndexRecord) (k : List ℕ) (m : ℕ) → nat_abs (subset_term rs k m) ≤ 1
unfolding subset_term
term_size rs k m = step (is_in (delivered_in rs) (raised_on k (marks 8 m)))
  where
    step : (t : Bool) → nat_abs (cond t (sign (marks 8 m)) (pos 0)) ≤ 1
    step true = sign-size (marks 8 m)
    step false = omega arith

-- one for each subset of eight axes
pub coefficient-size : (rs : List IndexRecord) (k : List ℕ) → length k ≡ 8 → nat_abs (coefficient (delivered_in rs) k) ≤ 256
coefficient-size rs k e =
    let is : coefficient (delivered_in rs) k ≡ sum_to 256 (subset_term rs k) = unfold subset_term in masks (delivered_in rs) k e in
    omega (arith, ap nat_abs is, abs_sum_to 256 (subset_term rs k) (λ m. 1) (λ m h. term_size rs k m), nat_sum_to_const 256 1)

-- ---- marks on the later axes

-- where every axis from d on stays at level 1, none of them is marked
unmarked : (n d m : ℕ) (l : List ℕ) → length l ≡ n → Positive l → m < 2 ^ n
    → ((a : ℕ) → d ≤ a → a < n → level (raised_on l (marks n m)) a ≡ 1) → m < 2 ^ d
unfolding raised_on marks
unmarked zero d m l e w h f = NatL.lt_of_lt_of_le h (pow_mono {i = 0} {j = d} (omega arith))
unmarked (suc n) d m [] e w h f = absurd (omega arith)
unmarked (suc n) zero m (x ∷ l) e w h f = step (eqb (m % 2) 1) refl f (unmarked n 0 (m / 2) l (omega arith) w.1 (omega (arith, NatL.pow-suc 2 n)))
  where
    step : (t : Bool) → eqb (m % 2) 1 ≡ t → ((a : ℕ) → 0 ≤ a → a < suc n → level (raised_on (x ∷ l) (t ∷ marks n (m / 2))) a ≡ 1)
        → (((a : ℕ) → 0 ≤ a → a < n → level (raised_on l (marks n (m / 2))) a ≡ 1) → m / 2 < 2 ^ 0) → m < 2 ^ 0
    step true q g ih = absurd (omega (arith, g 0 (omega arith) (omega arith), w.0))
    step false q g ih = let even : m % 2 ≡ 1 → ⊥ = eqb-false (m % 2) 1 q in omega (arith, ih (λ a i j. g (suc a) (omega arith) (omega arith)))
unmarked (suc n) (suc d) m (x ∷ l) e w h f = step (eqb (m % 2) 1) f (unmarked n d (m / 2) l (omega arith) w.1 (omega (arith, NatL.pow-suc 2 n)))
  where
    step : (t : Bool) → ((a : ℕ) → suc d ≤ a → a < suc n → level (raised_on (x ∷ l) (t ∷ marks n (m / 2))) a ≡ 1)
        → (((a : ℕ) → d ≤ a → a < n → level (raised_on l (marks n (m / 2))) a ≡ 1) → m / 2 < 2 ^ d) → m < 2 ^ suc d
    step true g ih = omega (arith, NatL.pow-suc 2 d, ih (λ a i j. g (suc a) (omega arith) (omega arith)))
    step false g ih = omega (arith, NatL.pow-suc 2 d, ih (λ a i j. g (suc a) (omega arith) (omega arith)))

module _ {d : ℕ} {rs : List IndexRecord} (linked : Linked d rs) (p : ℕ) (inside : p < length rs) where
  abbrev levels : List ℕ
  levels = (record_at rs p).levels

  -- a subset that marks an axis behind the job's gives nothing
  beyond_zero : (m : ℕ) → 2 ^ d ≤ m → m < 256 → subset_term rs levels m ≡ pos 0
  unfolding subset_term
  beyond_zero m low high =
      rw
      (in_no (delivered_in rs) (raised_on levels (marks 8 m)) (λ member.
      let x = delivered_sure rs (raised_on levels (marks 8 m)) member in
      let below : m < 2 ^ d = unmarked 8 d m levels (linked.eight p inside) (positive_at linked p inside) (omega arith) (λ a i j. ap (λ l. level l a) (sym x.levels) ∙ linked.beyond x.place a x.inside i j) in
      omega arith))

  -- the coefficient, over the masks of the job's axes
  pub coefficient_masks : coefficient (delivered_in rs) levels ≡ sum_to (2 ^ d) (subset_term rs levels)
  coefficient_masks =
      unfold subset_term in masks (delivered_in rs) levels (linked.eight p inside)
      ∙ ap (λ n. sum_to n (subset_term rs levels)) (sym (NatL.add-sub_of_le all))
      ∙ sum_to-append (2 ^ d) (256 - 2 ^ d) (subset_term rs levels)
      ∙ ap (λ z. sum_to (2 ^ d) (subset_term rs levels) +ℤ z)
      (sum_to-cong< (256 - 2 ^ d) (λ i. subset_term rs levels (2 ^ d + i)) (λ i. pos 0) (λ i h. beyond_zero (2 ^ d + i) (omega arith) (omega arith)) ∙ sum_to-zero (256 - 2 ^ d))
      ∙ +ℤ_idr (sum_to (2 ^ d) (subset_term rs levels))
    where
      all : 2 ^ d ≤ 256
      all = pow_mono {i = d} {j = 8} linked.axes
