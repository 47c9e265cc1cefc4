-- The combination identity: over a downward closed set the sum of differences is the sum of coefficient times full tensor rule;
-- and the coefficients of such a set with the root come to 1.
-- The idea: both are sums over the box; by parts along every axis the difference of T passes to the set, and outside the set the
-- coefficient is 0, since whatever is above a missing index is missing.
-- Assumes nothing.
use mathlib.Core.Path.{◌≡◌, refl, sym, ap, ap₂, ◌∙◌, subst}
use mathlib.Core.Logic.{◌≢◌, ◌⊎◌, inl, inr}
use mathlib.Core.List.Memᴰ
use mathlib.Core.List.{List, [], ◌∷◌, ◌++◌, Memᴰ}
use Prim.Native.Nat.{ℕ, zero, suc, ◌+◌, ◌-◌, ◌<◌, ◌≤◌}
use native.Mathlib.Omega.{arith}
use lib.ListN.{length, set, replicate, length-append}
use lib.Seq.{set-append_seam, get_or-append_seam}
use lib.IntN.{ℤ, pos, ◌+ℤ◌, ◌-ℤ◌, ◌*ℤ◌, +ℤ_invr, zero-*ℤ}
use Rattle.sums.specs.Sums.{sum_of}
use Rattle.sums.proofs.Ring.{one-*ℤ, mul_one, *ℤ-left, mul_cancel}
use Rattle.sums.proofs.Sums.{sum_of_cong_in, sum_of-zero, sum_of_mul}
use Rattle.rule.specs.Weights.{whole_weight}
use Rattle.grid.specs.Index.{level, root, backward}
use Rattle.grid.specs.Difference.{Readings, units, scaled_difference, scaled_mean}
use Rattle.grid.specs.Tensor.{tensor_rule}
use Rattle.grid.specs.Coefficient.{coefficient}
use Rattle.grid.specs.Cross.{cross_total}
use Rattle.grid.specs.Terms.{NoDup, DownSet, block_sum}
use Rattle.grid.proofs.Levels.{Levels, at_most, within_levels, units_small}
use Rattle.grid.proofs.Rules.{rule}
use Rattle.grid.proofs.Parts.{box_sum_only, nabla, nabla_zero, delta, by_parts}
use Rattle.grid.proofs.Members.{member, characteristic, characteristic_in, characteristic_out, sum_of_box, coefficient_delta}
use Rattle.grid.proofs.Scales.{scaled, nabla_rule, rule_low, big, big_pos, rule_tensor, rule_difference}

-- ---- for any function T of the index that is 0 where a level is 0

-- downward closed, said of the list that a level stands in
abbrev pub Closed : List (List ℕ) → Type 0
Closed J = (p : List ℕ) (m : ℕ) (l : List ℕ) → Memᴰ (p ++ (suc (suc m) ∷ l)) J → Memᴰ (p ++ (suc m ∷ l)) J

-- the adjoint difference vanishes above a zero
delta_out : (k : List ℕ) (χ : List ℕ → ℤ) (n : ℕ)
    → ((p : List ℕ) (m : ℕ) (l : List ℕ) → χ (p ++ (suc m ∷ l)) ≡ pos 0 → χ (p ++ (suc (suc m) ∷ l)) ≡ pos 0)
    → Levels n k → χ k ≡ pos 0 → delta k χ ≡ pos 0
unfolding delta
delta_out [] χ n c w z = z
delta_out (zero ∷ ks) χ n c w z = absurd (omega arith)
delta_out (suc k ∷ ks) χ n c w z =
    ap₂ ◌-ℤ◌ (delta_out ks (λ l. χ (suc k ∷ l)) n (λ p m l. c (suc k ∷ p) m l) w.2 z)
    (delta_out ks (λ l. χ (suc (suc k) ∷ l)) n (λ p m l. c (suc (suc k) ∷ p) m l) w.2 (c [] k ks z))

module _ (n d : ℕ) (J : List (List ℕ)) (T : List ℕ → ℤ)
    (good : (j : List ℕ) → Memᴰ j J → (length j ≡ d) × Levels n j)
    (unique : NoDup J) (closed : Closed J) (low : (p l : List ℕ) → T (p ++ (0 ∷ l)) ≡ pos 0) where
  characteristic_closed : (p : List ℕ) (m : ℕ) (l : List ℕ) → characteristic J (p ++ (suc m ∷ l)) ≡ pos 0 → characteristic J (p ++ (suc (suc m) ∷ l)) ≡ pos 0
  characteristic_closed p m l z = step (member J (p ++ (suc (suc m) ∷ l)))
    where
      step : Memᴰ (p ++ (suc (suc m) ∷ l)) J ⊎ (Memᴰ (p ++ (suc (suc m) ∷ l)) J → ⊥) → characteristic J (p ++ (suc (suc m) ∷ l)) ≡ pos 0
      step (inl q) = let e : characteristic J (p ++ (suc m ∷ l)) ≡ pos 1 = characteristic_in J (p ++ (suc m ∷ l)) (closed p m l q) in cc
      step (inr f) = characteristic_out J (p ++ (suc (suc m) ∷ l)) f

  too_high : (p l : List ℕ) → Levels n (p ++ (suc n ∷ l)) → ⊥
  too_high [] l w = omega arith
  too_high (x ∷ p) l w = too_high p l w.2

  characteristic_high : (p l : List ℕ) → characteristic J (p ++ (suc n ∷ l)) ≡ pos 0
  characteristic_high p l = characteristic_out J (p ++ (suc n ∷ l)) (λ m. too_high p l (good (p ++ (suc n ∷ l)) m).1)

  absorb : (k : List ℕ) → length k ≡ d → Levels n k → delta k (characteristic J) *ℤ T k ≡ characteristic J k *ℤ (coefficient J k *ℤ T k)
  absorb k e w = rw (coefficient_delta J k) (step (member J k))
    where
      step : Memᴰ k J ⊎ (Memᴰ k J → ⊥) → delta k (characteristic J) *ℤ T k ≡ characteristic J k *ℤ (delta k (characteristic J) *ℤ T k)
      step (inl m) = rw (characteristic_in J k m) (sym (one-*ℤ (delta k (characteristic J) *ℤ T k)))
      step (inr f) = rw (characteristic_out J k f, delta_out k (characteristic J) n characteristic_closed w (characteristic_out J k f)) (simp zero-*ℤ)

  combination : sum_of J (λ k. nabla k T) ≡ sum_of J (λ k. coefficient J k *ℤ T k)
  combination =
      sum_of_box n d J (λ k. nabla k T) good unique
      ∙ by_parts n d (characteristic J) T low characteristic_high
      ∙ box_sum_only n d (λ k. delta k (characteristic J) *ℤ T k) (λ k. characteristic J k *ℤ (coefficient J k *ℤ T k)) absorb
      ∙ sym (sum_of_box n d J (λ k. coefficient J k *ℤ T k) good unique)

-- ---- T at 1: the mixed difference of the constant 1 is 1 at the root and 0 elsewhere

-- one where every level is at least 1
positive : List ℕ → ℤ
positive [] = pos 1
positive (zero ∷ ks) = pos 0
positive (suc k ∷ ks) = positive ks

positive_low : (p l : List ℕ) → positive (p ++ (0 ∷ l)) ≡ pos 0
unfolding positive
positive_low [] l = refl
positive_low (zero ∷ p) l = refl
positive_low (suc x ∷ p) l = positive_low p l

positive_in : (n : ℕ) (k : List ℕ) → Levels n k → positive k ≡ pos 1
unfolding positive
positive_in n [] w = refl
positive_in n (zero ∷ ks) w = absurd (omega arith)
positive_in n (suc k ∷ ks) w = positive_in n ks w.2

nabla_positive_root : (d : ℕ) → nabla (replicate d 1) positive ≡ pos 1
unfolding nabla positive
nabla_positive_root zero = refl
nabla_positive_root (suc d) = ap₂ ◌-ℤ◌ (nabla_positive_root d) (nabla_zero (replicate d 1))

nabla_positive_else : (n : ℕ) (k : List ℕ) → Levels n k → k ≢ replicate (length k) 1 → nabla k positive ≡ pos 0
unfolding nabla positive
nabla_positive_else n [] w f = absurd (f refl)
nabla_positive_else n (zero ∷ ks) w f = absurd (omega arith)
nabla_positive_else n (suc zero ∷ ks) w f =
    ap₂ ◌-ℤ◌ (nabla_positive_else n ks w.2 (λ e. f (ap (λ (l : List ℕ). 1 ∷ l) e))) (nabla_zero ks)
nabla_positive_else n (suc (suc k) ∷ ks) w f = +ℤ_invr (nabla ks positive)

-- of the differences of `positive` over a list with no element twice only the root's counts
Good : List (List ℕ) → Type 0
Good I = (j : List ℕ) → Memᴰ j I → (length j ≡ 8) × Levels 8 j

not_root : (k : List ℕ) → (length k ≡ 8) × Levels 8 k → k ≢ replicate 8 1 → nabla k positive ≡ pos 0
not_root k g f = nabla_positive_else 8 k g.1 (λ e. f (e ∙ ap (λ n. replicate n 1) g.0))

no_root : (I : List (List ℕ)) → (Memᴰ (replicate 8 1) I → ⊥) → Good I → sum_of I (λ k. nabla k positive) ≡ pos 0
unfolding Good
no_root I f good =
    sum_of_cong_in I (λ k. nabla k positive) (λ k. pos 0) (λ k m. not_root k (good k m) (λ e. f (Memᴰ.cast (sym e) m)))
    ∙ sum_of-zero I

at_root : (I : List (List ℕ)) → Memᴰ (replicate 8 1) I → NoDup I → Good I → sum_of I (λ k. nabla k positive) ≡ pos 1
unfolding Good sum_of
at_root [] m u good = absurd (Memᴰ.not-nil m)
at_root (x ∷ I) m u good = step (Memᴰ.cases_cons m) (λ q. at_root I q u.1 (λ j r. good j (Memᴰ.tail r)))
  where
    step : (replicate 8 1 ≡ x) ⊎ Memᴰ (replicate 8 1) I → (Memᴰ (replicate 8 1) I → sum_of I (λ k. nabla k positive) ≡ pos 1)
        → nabla x positive +ℤ sum_of I (λ k. nabla k positive) ≡ pos 1
    step (inl e) ih =
        ap₂ ◌+ℤ◌ (ap (λ k. nabla k positive) (sym e) ∙ nabla_positive_root 8)
        (no_root I (λ q. u.0 (Memᴰ.cast (sym e) q)) (λ j r. good j (Memᴰ.tail r)))
    step (inr q) ih = ap₂ ◌+ℤ◌ (not_root x (good x (Memᴰ.head refl)) (λ e. u.0 (Memᴰ.cast e q))) (ih q)

-- ---- the differences and the full tensor rules, for any number of axes

module _ (n d : ℕ) (low : n ≤ 20) (J : List (List ℕ)) (good : (j : List ℕ) → Memᴰ j J → (length j ≡ suc d) × Levels n j)
    (unique : NoDup J) (closed : Closed J) (small : (k : List ℕ) → Memᴰ k J → units k ≤ 20) where
  pub identity_on : (R : Readings) → scaled_mean J R ≡ cross_total J R
  unfolding scaled_mean cross_total
  identity_on R =
      mul_cancel (big d) (sum_of J (λ k. scaled_difference k R)) (sum_of J (λ k. coefficient J k *ℤ tensor_rule k R)) (big_pos d)
      (sym (sum_of_mul J (pos (big d)) (λ k. scaled_difference k R))
      ∙ sum_of_cong_in J (λ k. pos (big d) *ℤ scaled_difference k R) (λ k. nabla k (λ m. rule (scaled whole_weight) m (block_sum R)))
      (λ k m. sym (nabla_rule n low k (block_sum R) (good k m).1 ∙ rule_difference R n d low k (at_most n k (good k m).1) (good k m).0 (small k m)))
      ∙ combination n (suc d) J (λ m. rule (scaled whole_weight) m (block_sum R)) good unique closed (λ p l. rule_low (scaled whole_weight) p l (block_sum R))
      ∙ sum_of_cong_in J (λ k. coefficient J k *ℤ rule (scaled whole_weight) k (block_sum R)) (λ k. pos (big d) *ℤ (coefficient J k *ℤ tensor_rule k R))
      (λ k m.
      ap (λ x. coefficient J k *ℤ x) (rule_tensor R n d low k (at_most n k (good k m).1) (good k m).0 (small k m))
      ∙ *ℤ-left (coefficient J k) (pos (big d)) (tensor_rule k R))
      ∙ sum_of_mul J (pos (big d)) (λ k. coefficient J k *ℤ tensor_rule k R))

-- ---- a set of indices as the statement has it

module _ (J : List (List ℕ)) (set_is : DownSet J) where
  indices : Good J
  unfolding Good
  indices j m = (set_is.eight j m, within_levels j (set_is.ceilings j m))

  closed : Closed J
  unfolding backward
  closed p m l q =
      subst (λ x. Memᴰ x J) (lowered p m l)
      (set_is.closed (p ++ (suc (suc m) ∷ l)) (length p) q
      (rw (sym (length-append p (suc (suc m) ∷ l)) ∙ set_is.eight (p ++ (suc (suc m) ∷ l)) q) at (more p l))
      (rw (get_or-append_seam p (suc (suc m)) l 0) (omega arith)))
    where
      more : (p l : List ℕ) → length p < length p + suc (length l)
      more p l = omega arith

      one_less : (m : ℕ) → suc (suc m) - 1 ≡ suc m
      one_less m = omega arith

      lowered : (p : List ℕ) (m : ℕ) (l : List ℕ) → set (p ++ (suc (suc m) ∷ l)) (length p) (level (p ++ (suc (suc m) ∷ l)) (length p) - 1) ≡ p ++ (suc m ∷ l)
      lowered p m l = rw (get_or-append_seam p (suc (suc m)) l 0, one_less m) (set-append_seam p (suc (suc m)) l (suc m))

  pub coefficients_one : Memᴰ root J → sum_of J (coefficient J) ≡ pos 1
  unfolding root Good
  coefficients_one m =
      sum_of_cong_in J (coefficient J) (λ k. coefficient J k *ℤ positive k)
      (λ k q. sym (ap (λ x. coefficient J k *ℤ x) (positive_in 8 k (indices k q).1) ∙ mul_one (coefficient J k)))
      ∙ sym (combination 8 8 J positive indices set_is.once closed positive_low)
      ∙ at_root J m set_is.once indices

  pub identity : (R : Readings) → scaled_mean J R ≡ cross_total J R
  unfolding Good
  identity R =
      identity_on 8 7 (omega arith) J indices set_is.once closed (λ k m. units_small k (set_is.eight k m) (set_is.ceilings k m)) R
