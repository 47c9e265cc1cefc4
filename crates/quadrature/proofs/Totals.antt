-- The scaled mean of the delivered indices, and the cross total, are sums over the places: a wanted record adds nothing.
-- Assumes nothing.
use mathlib.Core.Path.{◌≡◌, refl, sym, ap, ◌∙◌, subst}
use mathlib.Core.Bool.{Bool, true, false, cond}
use mathlib.Core.List.{List, [], ◌∷◌, Memᴰ}
use Prim.Native.Nat.{ℕ, zero, suc, ◌*◌, ◌^◌, ◌<◌, ◌≤◌}
use native.Mathlib.Nat.{le_trans, le_of_eq, mul-le-mul}
use native.Mathlib.Omega.{arith}
use lib.Dec.{leb}
use lib.IntN.{ℤ, pos, nat_abs, ◌+ℤ◌, ◌*ℤ◌, +ℤ_idl}
use lib.ListN.{length, take, length-take}
use lib.Seq.{get_or-take}
use Rattle.sums.specs.Sums.{sum_to, sum_of}
use Rattle.sums.proofs.Sums.{sum_to-front}
use Rattle.sums.proofs.Sizes.{abs_sum_of, abs_mul}
use Rattle.grid.specs.Difference.{scaled_difference, scaled_mean}
use Rattle.grid.specs.Tensor.{tensor_rule}
use Rattle.grid.specs.Coefficient.{coefficient}
use Rattle.grid.specs.Cross.{cross_total}
use Rattle.grid.proofs.Differences.{difference_size, tensor_size}
use Rattle.area.specs.declared.IndexRecord.{IndexRecord}
use Rattle.area.specs.Records.{blank}
use Rattle.quadrature.specs.Readings.{record_at, stored_reading}
use Rattle.quadrature.specs.Ready.{Ready, AllReady}
use Rattle.quadrature.specs.Linked.{delivered_in}
use Rattle.quadrature.specs.Parts.{delivered_difference, combined_rule}
use Rattle.quadrature.proofs.Delivered.{delivered_sure}
use Rattle.quadrature.proofs.Subsets.{coefficient-size}

-- over any number for each level list
sum_places : (g : List ℕ → ℤ) (n : ℕ) (rs : List IndexRecord) → n ≤ length rs
    → sum_of (delivered_in (take n rs)) g ≡ sum_to n (λ p. cond (leb 1 (record_at rs p).state) (g (record_at rs p).levels) (pos 0))
unfolding delivered_in sum_of
sum_places g zero [] h = unfold sum_to in refl
sum_places g zero (r ∷ rs) h = unfold sum_to in refl
sum_places g (suc n) [] h = absurd (omega arith)
sum_places g (suc n) (r ∷ rs) h =
    step (leb 1 r.state) (sum_places g n rs (omega arith))
    ∙ sym (sum_to-front n (λ p. cond (leb 1 (record_at (r ∷ rs) p).state) (g (record_at (r ∷ rs) p).levels) (pos 0)))
  where
    step : (t : Bool) {later : ℤ} → sum_of (delivered_in (take n rs)) g ≡ later
        → sum_of (cond t (r.levels ∷ delivered_in (take n rs)) (delivered_in (take n rs))) g ≡ cond t (g r.levels) (pos 0) +ℤ later
    step true e = ap (λ x. g r.levels +ℤ x) e
    step false {later} e = e ∙ sym (+ℤ_idl later)

pub mean_places : (n : ℕ) (rs : List IndexRecord) (s : List ℤ) → n ≤ length rs
    → scaled_mean (delivered_in (take n rs)) (stored_reading rs s) ≡ sum_to n (delivered_difference rs s)
unfolding scaled_mean delivered_difference
mean_places n rs s h = sum_places (λ k. scaled_difference k (stored_reading rs s)) n rs h

pub cross_places : (n : ℕ) (rs : List IndexRecord) (s : List ℤ) → n ≤ length rs
    → cross_total (delivered_in (take n rs)) (stored_reading rs s) ≡ sum_to n (combined_rule (take n rs) rs s)
unfolding cross_total combined_rule
cross_places n rs s h = sum_places (λ k. coefficient (delivered_in (take n rs)) k *ℤ tensor_rule k (stored_reading rs s)) n rs h

-- a coefficient is of size at most 2^8, a full tensor rule of size at most 2^40
pub product_size : (a b : ℤ) → nat_abs a ≤ 256 → nat_abs b ≤ 2 ^ 40 → nat_abs (a *ℤ b) ≤ 2 ^ 48
product_size a b h q = le_trans (le_of_eq (abs_mul a b)) (le_trans (mul-le-mul h q) (omega arith))

module _ (d n : ℕ) (rs : List IndexRecord) (s : List ℤ) (all : AllReady d n rs s) where
  ready_at : (k : List ℕ) → Memᴰ k (delivered_in (take n rs)) → Ready d rs s k
  ready_at k m =
      let x = delivered_sure (take n rs) k m in
      let inside : x.place < n = omega (arith, x.inside, length-take n rs) in
      let e = get_or-take n rs x.place blank inside in
      subst (Ready d rs s) (ap (λ (r : IndexRecord). r.levels) (sym e) ∙ x.levels) (all.ready x.place inside (subst (λ (r : IndexRecord). 1 ≤ r.state) e x.delivered))

  -- in size at most 2^40 for each delivered index
  pub mean_size : nat_abs (scaled_mean (delivered_in (take n rs)) (stored_reading rs s)) ≤ length (delivered_in (take n rs)) * 2 ^ 40
  unfolding scaled_mean
  mean_size = abs_sum_of (delivered_in (take n rs)) (λ k. scaled_difference k (stored_reading rs s)) (2 ^ 40) each
    where
      each : (k : List ℕ) → Memᴰ k (delivered_in (take n rs)) → nat_abs (scaled_difference k (stored_reading rs s)) ≤ 2 ^ 40
      each k m =
          let ready = ready_at k m in
          difference_size k (stored_reading rs s) ready.eight ready.ceilings ready.range

  -- and at most 2^48
  pub cross_size : nat_abs (cross_total (delivered_in (take n rs)) (stored_reading rs s)) ≤ length (delivered_in (take n rs)) * 2 ^ 48
  unfolding cross_total
  cross_size = abs_sum_of (delivered_in (take n rs)) (λ k. coefficient (delivered_in (take n rs)) k *ℤ tensor_rule k (stored_reading rs s)) (2 ^ 48) each
    where
      each : (k : List ℕ) → Memᴰ k (delivered_in (take n rs)) → nat_abs (coefficient (delivered_in (take n rs)) k *ℤ tensor_rule k (stored_reading rs s)) ≤ 2 ^ 48
      each k m =
          let ready = ready_at k m in
          product_size (coefficient (delivered_in (take n rs)) k) (tensor_rule k (stored_reading rs s)) (coefficient-size (take n rs) k ready.eight)
          (tensor_size k (stored_reading rs s) ready.eight ready.ceilings ready.range)
