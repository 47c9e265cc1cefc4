-- Axes at level 1 behind an index change nothing.
-- The idea: the rule of level 1 is one point of weight 1, and a set that is at level 1 on an axis holds nothing raised there.
-- Assumes nothing.
use mathlib.Core.Path.{◌≡◌, refl, sym, ap, ap₂, ◌∙◌, fun_ext}
use mathlib.Core.Bool.{Bool, true, false, cond, ◌&&◌}
use mathlib.Core.List.{List, [], ◌∷◌, ◌++◌, map}
use Prim.Native.Nat.{ℕ, zero, suc, ◌+◌, ◌*◌, ◌-◌, ◌/◌, ◌%◌, ◌^◌}
use native.Mathlib.Omega.{arith}
use lib.Dec.{leb, eqb}
use lib.ListN.{length, replicate, length-append, length-replicate}
use lib.IntN.{ℤ, pos, ◌-ℤ◌, ◌*ℤ◌, +ℤ_idl, +ℤ_idr}
use Rattle.sums.specs.Sums.{sum_to}
use Rattle.sums.proofs.Ring.{one-*ℤ}
use Rattle.sums.proofs.Sums.{sum_to_cong, sum_of_cong, sum_of-map}
use Rattle.rule.specs.Points.{new_count, new_point}
use Rattle.rule.specs.Rules.{unit}
use Rattle.rule.specs.Weights.{whole_weight, difference_weight}
use Rattle.grid.specs.Index.{excess, levels_within, within}
use Rattle.grid.specs.Block.{turned, block_size, point_after, point_of}
use Rattle.grid.specs.Difference.{Readings, units, scaled_difference, scaled_mean}
use Rattle.grid.specs.Tensor.{tensor_rule}
use Rattle.grid.specs.Coefficient.{same_levels, is_in, coefficient}
use Rattle.grid.specs.Terms.{block_sum, padded, pad}
use Rattle.grid.specs.Cross.{cross_total}
use Rattle.grid.proofs.Rules.{rule, rule_cong, tensor_is, difference_is}
use Rattle.grid.proofs.Parts.{delta, delta_only, delta_zero}
use Rattle.grid.proofs.Members.{characteristic, coefficient_delta}

-- ---- excess, units, size

ones_excess : (m : ℕ) → excess (replicate m 1) ≡ 0
unfolding excess
ones_excess zero = refl
ones_excess (suc m) = rw (ones_excess m)

pub excess_same : (k : List ℕ) (m : ℕ) → excess (pad m k) ≡ excess k
unfolding excess pad
excess_same [] m = ones_excess m
excess_same (k ∷ ks) m = ap (λ x. (k - 1) + x) (excess_same ks m)

ones_units : (m : ℕ) → units (replicate m 1) ≡ 0
unfolding units unit
ones_units zero = refl
ones_units (suc m) = rw (ones_units m)

pub units_same : (k : List ℕ) (m : ℕ) → units (pad m k) ≡ units k
unfolding units pad
units_same [] m = ones_units m
units_same (k ∷ ks) m = ap (λ x. unit k + x) (units_same ks m)

ones_size : (m : ℕ) → block_size (replicate m 1) ≡ 1
unfolding block_size new_count
ones_size zero = refl
ones_size (suc m) = rw (ones_size m)

pub size_same : (k : List ℕ) (m : ℕ) → block_size (pad m k) ≡ block_size k
unfolding block_size pad
size_same [] m = ones_size m
size_same (k ∷ ks) m = ap (λ x. new_count k * x) (size_same ks m)

-- ---- points

ones_point : (r m n : ℕ) → point_after r (replicate m 1) n ≡ replicate m 64
unfolding point_after new_point
ones_point r zero n = refl
ones_point r (suc m) n =
    ap (λ (l : List ℕ). 64 ∷ l) (ones_point (r * new_count 1 + n / block_size (replicate m 1)) m (n % block_size (replicate m 1)))

point_after_same : (r : ℕ) (k : List ℕ) (m n : ℕ) → point_after r (pad m k) n ≡ point_after r k n ++ replicate m 64
unfolding point_after pad
point_after_same r [] m n = ones_point r m n
point_after_same r (k ∷ ks) m n =
    rw (size_same ks m)
    (ap (λ (l : List ℕ). new_point k (turned r (new_count k) (n / block_size ks)) ∷ l) (point_after_same (r * new_count k + n / block_size ks) ks m (n % block_size ks)))

pub point_same : (k : List ℕ) (m n : ℕ) → point_of (pad m k) n ≡ point_of k n ++ replicate m 64
unfolding point_of
point_same k m n = point_after_same 0 k m n

-- ---- rules with a weight of one at level 1

module _ (w : ℕ → ℕ → ℤ) (one : w 1 1 ≡ pos 1) where
  ones_rule : (m : ℕ) (F : List ℕ → ℤ) → rule w (replicate m 1) F ≡ F (replicate m 1)
  unfolding rule sum_to
  ones_rule zero F = refl
  ones_rule (suc m) F =
      +ℤ_idl (w 1 1 *ℤ rule w (replicate m 1) (λ l. F (1 ∷ l)))
      ∙ ap₂ ◌*ℤ◌ one (ones_rule m (λ l. F (1 ∷ l))) ∙ one-*ℤ (F (1 ∷ replicate m 1))

  rule_same : (k : List ℕ) (m : ℕ) (F : List ℕ → ℤ) → rule w (pad m k) F ≡ rule w k (λ l. F (pad m l))
  unfolding rule pad
  rule_same [] m F = ones_rule m F
  rule_same (k ∷ ks) m F = sum_to_cong k (λ i. ap (λ x. w k (suc i) *ℤ x) (rule_same ks m (λ l. F (suc i ∷ l))))

block-padded : (R : Readings) (m : ℕ) (l : List ℕ) → block_sum R (pad m l) ≡ block_sum (padded m R) l
unfolding block_sum padded
block-padded R m l = ap (λ n. sum_to n (λ i. R (pad m l) i)) (size_same l m)

blocks-padded : (w : ℕ → ℕ → ℤ) → w 1 1 ≡ pos 1 → (k : List ℕ) (m : ℕ) (R : Readings) → rule w (pad m k) (block_sum R) ≡ rule w k (block_sum (padded m R))
blocks-padded w one k m R = rule_same w one k m (block_sum R) ∙ rule_cong w k (block-padded R m)

whole-one : whole_weight 1 1 ≡ pos 1
unfolding whole_weight
whole-one = refl

difference_one : difference_weight 1 1 ≡ pos 1
unfolding difference_weight
difference_one = refl

pub difference_same : (k : List ℕ) (m : ℕ) (R : Readings) → scaled_difference (pad m k) R ≡ scaled_difference k (padded m R)
unfolding scaled_difference
difference_same k m R =
    ap₂ (λ u x. pos (2 ^ (20 - u)) *ℤ x) (units_same k m)
    (difference_is (pad m k) R ∙ blocks-padded difference_weight difference_one k m R ∙ sym (difference_is k (padded m R)))

pub tensor_same : (k : List ℕ) (m : ℕ) (R : Readings) → tensor_rule (pad m k) R ≡ tensor_rule k (padded m R)
unfolding tensor_rule
tensor_same k m R =
    ap₂ (λ u x. pos (2 ^ (20 - u)) *ℤ x) (units_same k m)
    (tensor_is (pad m k) R ∙ blocks-padded whole_weight whole-one k m R ∙ sym (tensor_is k (padded m R)))

-- ---- coefficients

-- lists of different lengths are different
unlike : (j k : List ℕ) → (length j ≡ length k → ⊥) → same_levels j k ≡ false
unfolding same_levels
unlike [] [] f = absurd (f refl)
unlike [] (y ∷ ys) f = refl
unlike (x ∷ xs) [] f = refl
unlike (x ∷ xs) (y ∷ ys) f = step (eqb x y) (unlike xs ys (λ e. f (ap suc e)))
  where
    step : (t : Bool) → same_levels xs ys ≡ false → (t && same_levels xs ys) ≡ false
    step true e = e
    step false e = refl

and-false : (b : Bool) → (b && false) ≡ false
and-false true = refl
and-false false = refl

and_assoc : (a b c : Bool) → (a && (b && c)) ≡ ((a && b) && c)
and_assoc true b c = refl
and_assoc false b c = refl

-- two padded lists are the same where their fronts and their ends are
same_padded : (j l ys : List ℕ) (m : ℕ) → length ys ≡ m → same_levels (j ++ replicate m 1) (l ++ ys) ≡ (same_levels j l && same_levels (replicate m 1) ys)
unfolding same_levels
same_padded [] [] ys m e = refl
same_padded [] (y ∷ l) ys m e =
    unlike (replicate m 1) (y ∷ (l ++ ys)) (λ q. omega (arith, q, length-replicate {A = ℕ} m 1, length-append l ys))
same_padded (x ∷ j) [] ys m e =
    unlike (x ∷ (j ++ replicate m 1)) ys (λ q. omega (arith, q, length-append j (replicate m 1), length-replicate {A = ℕ} m 1))
same_padded (x ∷ j) (y ∷ l) ys m e =
    ap (λ t. eqb x y && t) (same_padded j l ys m e) ∙ and_assoc (eqb x y) (same_levels j l) (same_levels (replicate m 1) ys)

in_padded : (J : List (List ℕ)) (l ys : List ℕ) (m : ℕ) → length ys ≡ m → is_in (map (pad m) J) (l ++ ys) ≡ (is_in J l && same_levels (replicate m 1) ys)
unfolding is_in pad
in_padded [] l ys m e = refl
in_padded (j ∷ J) l ys m e =
    ap₂ (λ s t. cond s true t) (same_padded j l ys m e) (in_padded J l ys m e)
    ∙ step (same_levels j l) (same_levels (replicate m 1) ys) (is_in J l)
  where
    step : (s t u : Bool) → cond (s && t) true (u && t) ≡ (cond s true u && t)
    step true true u = refl
    step true false u = and-false u
    step false t u = refl

-- the adjoint difference of a function that is 0 unless the ends stand at level 1
Ended : ℕ → List ℕ → (List ℕ → ℤ) → Type 0
Ended m k χ = (l ys : List ℕ) → length l ≡ length k → length ys ≡ m → same_levels (replicate m 1) ys ≡ false → χ (l ++ ys) ≡ pos 0

ones_delta : (m : ℕ) (χ : List ℕ → ℤ) → ((ys : List ℕ) → length ys ≡ m → same_levels (replicate m 1) ys ≡ false → χ ys ≡ pos 0) → delta (replicate m 1) χ ≡ χ (replicate m 1)
unfolding delta
ones_delta zero χ h = refl
ones_delta (suc m) χ h =
    ap₂ ◌-ℤ◌ (ones_delta m (λ l. χ (1 ∷ l)) (λ ys e q. h (1 ∷ ys) (ap suc e) (unfold same_levels in q)))
    (delta_only (replicate m 1) (λ l. χ (2 ∷ l)) (λ l. pos 0) (λ l e. h (2 ∷ l) (ap suc (e ∙ length-replicate m 1)) (unfold same_levels in refl)) ∙ delta_zero (replicate m 1))
    ∙ +ℤ_idr (χ (1 ∷ replicate m 1))

delta_same : (k : List ℕ) (m : ℕ) (χ : List ℕ → ℤ) → Ended m k χ → delta (k ++ replicate m 1) χ ≡ delta k (λ l. χ (l ++ replicate m 1))
unfolding delta Ended
delta_same [] m χ h = ones_delta m χ (λ ys e q. h [] ys refl e q)
delta_same (k ∷ ks) m χ h =
    ap₂ ◌-ℤ◌ (delta_same ks m (λ l. χ (k ∷ l)) (λ l ys p e q. h (k ∷ l) ys (ap suc p) e q))
    (delta_same ks m (λ l. χ (suc k ∷ l)) (λ l ys p e q. h (suc k ∷ l) ys (ap suc p) e q))

same_ones : (m : ℕ) → same_levels (replicate m 1) (replicate m 1) ≡ true
unfolding same_levels
same_ones zero = refl
same_ones (suc m) = same_ones m

and-true : (b : Bool) → (b && true) ≡ b
and-true true = refl
and-true false = refl

pub in_same : (J : List (List ℕ)) (k : List ℕ) (m : ℕ) → is_in (map (pad m) J) (pad m k) ≡ is_in J k
unfolding pad
in_same J k m = in_padded J k (replicate m 1) m (length-replicate m 1) ∙ ap (λ t. is_in J k && t) (same_ones m) ∙ and-true (is_in J k)

pub coefficient_same : (J : List (List ℕ)) (k : List ℕ) (m : ℕ) → coefficient (map (pad m) J) (pad m k) ≡ coefficient J k
unfolding pad characteristic Ended
coefficient_same J k m =
    coefficient_delta (map (pad m) J) (k ++ replicate m 1)
    ∙ delta_same k m (characteristic (map (pad m) J)) (λ l ys p e q. ap (λ t. cond t (pos 1) (pos 0)) (in_padded J l ys m e ∙ ap (λ t. is_in J l && t) q ∙ and-false (is_in J l)))
    ∙ ap (delta k) (fun_ext (λ l. ap (λ t. cond t (pos 1) (pos 0)) (in_padded J l (replicate m 1) m (length-replicate m 1) ∙ ap (λ t. is_in J l && t) (same_ones m) ∙ and-true (is_in J l))))
    ∙ sym (coefficient_delta J k)

-- ---- ceilings, means and cross totals

ones_within : (m : ℕ) → levels_within (replicate m 1) ≡ true
unfolding levels_within
ones_within zero = refl
ones_within (suc m) = ones_within m

levels_same : (k : List ℕ) (m : ℕ) → levels_within (pad m k) ≡ levels_within k
unfolding levels_within pad
levels_same [] m = ones_within m
levels_same (k ∷ ks) m = ap (λ t. leb 1 k && leb k 8 && t) (levels_same ks m)

pub within_same : (k : List ℕ) (m : ℕ) → within (pad m k) ≡ within k
unfolding within
within_same k m = ap₂ (λ s e. s && leb e 12) (levels_same k m) (excess_same k m)

pub mean_same : (J : List (List ℕ)) (m : ℕ) (R : Readings) → scaled_mean (map (pad m) J) R ≡ scaled_mean J (padded m R)
unfolding scaled_mean
mean_same J m R = sum_of-map (pad m) J (λ k. scaled_difference k R) ∙ sum_of_cong J (λ k. difference_same k m R)

pub cross_same : (J : List (List ℕ)) (m : ℕ) (R : Readings) → cross_total (map (pad m) J) R ≡ cross_total J (padded m R)
unfolding cross_total
cross_same J m R =
    sum_of-map (pad m) J (λ k. coefficient (map (pad m) J) k *ℤ tensor_rule k R)
    ∙ sum_of_cong J (λ k. ap₂ ◌*ℤ◌ (coefficient_same J k m) (tensor_same k m R))
