-- Differences and full tensor rules: whole at the scale 2^20, bounded, linear, fixed by the blocks nowhere higher; and the
-- difference as the alternating sum of full tensor rules.
-- The idea: both are one rule with two kinds of weights (Rules), so each law is said once over the weights.
-- Assumes nothing.
use mathlib.Core.Path.{◌≡◌, refl, sym, ap, ap₂, ◌∙◌}
use mathlib.Core.Bool.{Bool, true, false}
use mathlib.Core.List.{List, [], ◌∷◌, map}
use Prim.Native.Nat.{ℕ, zero, suc, ◌*◌, ◌-◌, ◌^◌, ◌≤◌}
use native.Mathlib.Nat as NatL
use native.Mathlib.Nat.{le_refl, le_trans, le_of_eq, mul-le-mul}
use native.Mathlib.Omega.{arith}
use lib.ListN.{length}
use lib.IntN.{ℤ, pos, neg_ℤ, nat_abs, ◌+ℤ◌, ◌-ℤ◌, ◌*ℤ◌, +ℤ_idr}
use Rattle.sums.specs.Sums.{sum_of}
use Rattle.sums.proofs.Ring.{ring, one-*ℤ, *ℤ-assoc, *ℤ-left, neg_ℤ-*ℤ, mul_cancel}
use Rattle.sums.proofs.Sums.{sum_to-cong<, sum_to_add, sum_to_mul, sum_of_cong, sum_of-append, sum_of-map, sum_of_neg, sum_of_mul}
use Rattle.sums.proofs.Sizes.{abs_mul}
use Rattle.rule.specs.Rules.{unit}
use Rattle.rule.specs.Weights.{whole_weight, difference_weight}
use Rattle.grid.specs.Index.{Within}
use Rattle.grid.specs.Block.{block_size}
use Rattle.grid.specs.Difference.{Readings, units, difference_sum, scaled_difference}
use Rattle.grid.specs.Tensor.{tensor_sum, tensor_rule}
use Rattle.grid.specs.Coefficient.{subsets, sign}
use Rattle.grid.specs.Terms.{block_sum, lowered_on, InRange, Agree}
use Rattle.grid.proofs.Levels.{Levels, AtMost, at_most, within_levels, unit_mono, units_small}
use Rattle.grid.proofs.Rules.{rule, rule_cong, rule_add, rule_mul, rule_only, tensor_is, difference_is, whole_bound, difference_bound}
use Rattle.grid.proofs.Parts.{nabla}
use Rattle.grid.proofs.Scales.{scaled, nabla_rule, big, big_pos, filled, rule_tensor, rule_difference}

-- ---- only the readings of the blocks nowhere higher count

blocks-only : (w : ℕ → ℕ → ℤ) (k : List ℕ) (R S : Readings) → Agree k R S → rule w k (block_sum R) ≡ rule w k (block_sum S)
unfolding block_sum
blocks-only w k R S h = rule_only w k (block_sum R) (block_sum S) (λ l q. sum_to-cong< (block_size l) (R l) (S l) (λ n b. h l n q b))

pub difference_sum_only : (k : List ℕ) (R S : Readings) → Agree k R S → difference_sum k R ≡ difference_sum k S
difference_sum_only k R S h = difference_is k R ∙ blocks-only difference_weight k R S h ∙ sym (difference_is k S)

pub tensor_sum_only : (k : List ℕ) (R S : Readings) → Agree k R S → tensor_sum k R ≡ tensor_sum k S
tensor_sum_only k R S h = tensor_is k R ∙ blocks-only whole_weight k R S h ∙ sym (tensor_is k S)

pub difference_only : (k : List ℕ) (R S : Readings) → Agree k R S → scaled_difference k R ≡ scaled_difference k S
unfolding scaled_difference
difference_only k R S h = ap (λ x. pos (2 ^ (20 - units k)) *ℤ x) (difference_sum_only k R S h)

pub tensor_only : (k : List ℕ) (R S : Readings) → Agree k R S → tensor_rule k R ≡ tensor_rule k S
unfolding tensor_rule
tensor_only k R S h = ap (λ x. pos (2 ^ (20 - units k)) *ℤ x) (tensor_sum_only k R S h)

-- ---- nothing is truncated

whole_scale : (k : List ℕ) (x : ℤ) → length k ≡ 8 → Within k → pos (2 ^ units k) *ℤ (pos (2 ^ (20 - units k)) *ℤ x) ≡ pos (2 ^ 20) *ℤ x
whole_scale k x e w =
    sym (*ℤ-assoc (pos (2 ^ units k)) (pos (2 ^ (20 - units k))) x)
    ∙ ap (λ y. pos y *ℤ x) (NatL.mul_comm (2 ^ units k) (2 ^ (20 - units k)) ∙ filled (units k) (units_small k e w))

pub difference_whole : (k : List ℕ) (R : Readings) → length k ≡ 8 → Within k → pos (2 ^ units k) *ℤ scaled_difference k R ≡ pos (2 ^ 20) *ℤ difference_sum k R
unfolding scaled_difference
difference_whole k R e w = whole_scale k (difference_sum k R) e w

pub tensor_whole : (k : List ℕ) (R : Readings) → length k ≡ 8 → Within k → pos (2 ^ units k) *ℤ tensor_rule k R ≡ pos (2 ^ 20) *ℤ tensor_sum k R
unfolding tensor_rule
tensor_whole k R e w = whole_scale k (tensor_sum k R) e w

-- ---- of size at most 2^40

scaled_size : (k : List ℕ) (x : ℤ) → length k ≡ 8 → Within k → nat_abs x ≤ 2 ^ units k * 1048576 → nat_abs (pos (2 ^ (20 - units k)) *ℤ x) ≤ 2 ^ 40
scaled_size k x e w h =
    le_trans (le_of_eq (abs_mul (pos (2 ^ (20 - units k))) x))
    (le_trans (mul-le-mul (le_refl (2 ^ (20 - units k))) h)
    (le_of_eq (sym (NatL.mul_assoc (2 ^ (20 - units k)) (2 ^ units k) 1048576) ∙ ap (λ y. y * 1048576) (filled (units k) (units_small k e w)))))

pub difference_size : (k : List ℕ) (R : Readings) → length k ≡ 8 → Within k → InRange k R → nat_abs (scaled_difference k R) ≤ 2 ^ 40
unfolding scaled_difference
difference_size k R e w h =
    scaled_size k (difference_sum k R) e w (rw (difference_is k R) (difference_bound 8 k R 1048576 (within_levels k w) h))

pub tensor_size : (k : List ℕ) (R : Readings) → length k ≡ 8 → Within k → InRange k R → nat_abs (tensor_rule k R) ≤ 2 ^ 40
unfolding tensor_rule
tensor_size k R e w h =
    scaled_size k (tensor_sum k R) e w (rw (tensor_is k R) (whole_bound 8 k R 1048576 (within_levels k w) h))

-- ---- linear in the readings

block_linear : (a b : ℤ) (R S : Readings) (l : List ℕ) → block_sum (λ l n. a *ℤ R l n +ℤ b *ℤ S l n) l ≡ a *ℤ block_sum R l +ℤ b *ℤ block_sum S l
unfolding block_sum
block_linear a b R S l =
    sum_to_add (block_size l) (λ n. a *ℤ R l n) (λ n. b *ℤ S l n)
    ∙ ap₂ ◌+ℤ◌ (sum_to_mul (block_size l) a (R l)) (sum_to_mul (block_size l) b (S l))

rule_linear : (w : ℕ → ℕ → ℤ) (k : List ℕ) (a b : ℤ) (R S : Readings)
    → rule w k (block_sum (λ l n. a *ℤ R l n +ℤ b *ℤ S l n)) ≡ a *ℤ rule w k (block_sum R) +ℤ b *ℤ rule w k (block_sum S)
rule_linear w k a b R S =
    rule_cong w k (block_linear a b R S)
    ∙ rule_add w k (λ l. a *ℤ block_sum R l) (λ l. b *ℤ block_sum S l)
    ∙ ap₂ ◌+ℤ◌ (rule_mul w k a (block_sum R)) (rule_mul w k b (block_sum S))

shared_factor : (p a b x y : ℤ) → p *ℤ (a *ℤ x +ℤ b *ℤ y) ≡ a *ℤ (p *ℤ x) +ℤ b *ℤ (p *ℤ y)
shared_factor p a b x y = simp ring

pub difference_linear : (k : List ℕ) (a b : ℤ) (R S : Readings) → scaled_difference k (λ l n. a *ℤ R l n +ℤ b *ℤ S l n) ≡ a *ℤ scaled_difference k R +ℤ b *ℤ scaled_difference k S
unfolding scaled_difference
difference_linear k a b R S =
    ap (λ x. pos (2 ^ (20 - units k)) *ℤ x)
    (difference_is k (λ l n. a *ℤ R l n +ℤ b *ℤ S l n) ∙ rule_linear difference_weight k a b R S
    ∙ ap₂ (λ x y. a *ℤ x +ℤ b *ℤ y) (sym (difference_is k R)) (sym (difference_is k S)))
    ∙ shared_factor (pos (2 ^ (20 - units k))) a b (difference_sum k R) (difference_sum k S)

pub tensor_linear : (k : List ℕ) (a b : ℤ) (R S : Readings) → tensor_rule k (λ l n. a *ℤ R l n +ℤ b *ℤ S l n) ≡ a *ℤ tensor_rule k R +ℤ b *ℤ tensor_rule k S
unfolding tensor_rule
tensor_linear k a b R S =
    ap (λ x. pos (2 ^ (20 - units k)) *ℤ x)
    (tensor_is k (λ l n. a *ℤ R l n +ℤ b *ℤ S l n) ∙ rule_linear whole_weight k a b R S
    ∙ ap₂ (λ x y. a *ℤ x +ℤ b *ℤ y) (sym (tensor_is k R)) (sym (tensor_is k S)))
    ∙ shared_factor (pos (2 ^ (20 - units k))) a b (tensor_sum k R) (tensor_sum k S)

-- ---- the alternating sum

less_one : (k : ℕ) → suc k - 1 ≡ k
less_one k = omega arith

-- the mixed difference, subset by subset
nabla_subsets : (n : ℕ) (k : List ℕ) (T : List ℕ → ℤ) → Levels n k → nabla k T ≡ sum_of (subsets (length k)) (λ S. sign S *ℤ T (lowered_on k S))
unfolding nabla subsets sign lowered_on sum_of
nabla_subsets n [] T w = sym (+ℤ_idr (pos 1 *ℤ T []) ∙ one-*ℤ (T []))
nabla_subsets n (zero ∷ ks) T w = absurd (omega arith)
nabla_subsets n (suc k ∷ ks) T w =
    ap₂ ◌-ℤ◌ (nabla_subsets n ks (λ l. T (suc k ∷ l)) w.2) (nabla_subsets n ks (λ l. T (k ∷ l)) w.2)
    ∙ sym
    (sum_of-append (map (λ (S : List Bool). false ∷ S) (subsets (length ks))) (map (λ (S : List Bool). true ∷ S) (subsets (length ks)))
    (λ S. sign S *ℤ T (lowered_on (suc k ∷ ks) S))
    ∙ ap₂ ◌+ℤ◌
    (sum_of-map (λ (S : List Bool). false ∷ S) (subsets (length ks)) (λ S. sign S *ℤ T (lowered_on (suc k ∷ ks) S)))
    (sum_of-map (λ (S : List Bool). true ∷ S) (subsets (length ks)) (λ S. sign S *ℤ T (lowered_on (suc k ∷ ks) S))
    ∙ sum_of_cong (subsets (length ks)) (λ S.
    neg_ℤ-*ℤ (sign S) (T ((suc k - 1) ∷ lowered_on ks S)) ∙ ap (λ j. neg_ℤ (sign S *ℤ T (j ∷ lowered_on ks S))) (less_one k))
    ∙ sum_of_neg (subsets (length ks)) (λ S. sign S *ℤ T (k ∷ lowered_on ks S))))

-- lowering keeps the number of axes and raises neither a level nor the units
lowered_length : (k : List ℕ) (S : List Bool) → length (lowered_on k S) ≡ length k
unfolding lowered_on
lowered_length [] S = refl
lowered_length (k ∷ ks) [] = refl
lowered_length (k ∷ ks) (false ∷ S) = ap suc (lowered_length ks S)
lowered_length (k ∷ ks) (true ∷ S) = ap suc (lowered_length ks S)

lowered_at_most : (n : ℕ) (k : List ℕ) (S : List Bool) → AtMost n k → AtMost n (lowered_on k S)
unfolding lowered_on
lowered_at_most n [] S w = tt
lowered_at_most n (k ∷ ks) [] w = w
lowered_at_most n (k ∷ ks) (false ∷ S) w = (w.0, lowered_at_most n ks S w.1)
lowered_at_most n (k ∷ ks) (true ∷ S) w = (omega (arith, w.0), lowered_at_most n ks S w.1)

unit_less : (k : ℕ) → unit (k - 1) ≤ unit k
unit_less zero = le_refl (unit 0)
unit_less (suc k) = rw (less_one k) (unit_mono k)

lowered_units : (k : List ℕ) (S : List Bool) → units (lowered_on k S) ≤ units k
unfolding lowered_on units
lowered_units [] S = omega arith
lowered_units (k ∷ ks) [] = omega arith
lowered_units (k ∷ ks) (false ∷ S) = omega (arith, lowered_units ks S)
lowered_units (k ∷ ks) (true ∷ S) = omega (arith, lowered_units ks S, unit_less k)

pub alternating : (k : List ℕ) (R : Readings) → length k ≡ 8 → Within k → scaled_difference k R ≡ sum_of (subsets 8) (λ S. sign S *ℤ tensor_rule (lowered_on k S) R)
alternating k R e w =
    mul_cancel (big 7) (scaled_difference k R) (sum_of (subsets 8) (λ S. sign S *ℤ tensor_rule (lowered_on k S) R)) (big_pos 7)
    (sym (rule_difference R 8 7 (omega arith) k (at_most 8 k v) e (units_small k e w))
    ∙ sym (nabla_rule 8 (omega arith) k (block_sum R) v)
    ∙ nabla_subsets 8 k (λ m. rule (scaled whole_weight) m (block_sum R)) v
    ∙ ap (λ d. sum_of (subsets d) (λ S. sign S *ℤ rule (scaled whole_weight) (lowered_on k S) (block_sum R))) e
    ∙ sum_of_cong (subsets 8) (λ S. ap (λ x. sign S *ℤ x) (one S) ∙ *ℤ-left (sign S) (pos (big 7)) (tensor_rule (lowered_on k S) R))
    ∙ sum_of_mul (subsets 8) (pos (big 7)) (λ S. sign S *ℤ tensor_rule (lowered_on k S) R))
  where
    v : Levels 8 k
    v = within_levels k w

    one : (S : List Bool) → rule (scaled whole_weight) (lowered_on k S) (block_sum R) ≡ pos (big 7) *ℤ tensor_rule (lowered_on k S) R
    one S =
        rule_tensor R 8 7 (omega arith) (lowered_on k S) (lowered_at_most 8 k S (at_most 8 k v)) (lowered_length k S ∙ e)
        (le_trans (lowered_units k S) (units_small k e w))
