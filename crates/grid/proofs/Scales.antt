-- The two scales: weights at 2^20 along every axis, where a difference rule is literally one whole rule less the one below, and
-- 2^20 for the whole index. Between them stands one power of two, which cancels.
-- Assumes nothing.
use mathlib.Core.Path.{◌≡◌, refl, sym, ap, ap₂, ◌∙◌, fun_ext}
use mathlib.Core.List.{List, [], ◌∷◌, ◌++◌}
use Prim.Native.Nat.{ℕ, zero, suc, ◌*◌, ◌-◌, ◌^◌, ◌<◌, ◌≤◌}
use native.Mathlib.Nat as NatL
use native.Mathlib.Omega.{arith}
use lib.ListN.{length}
use lib.Pow.{pow-add, pow_pos}
use lib.IntN.{ℤ, pos, neg_ℤ, ◌+ℤ◌, ◌-ℤ◌, ◌*ℤ◌, +ℤ_idr, *ℤ-zero, zero-*ℤ}
use Rattle.sums.specs.Sums.{sum_to}
use Rattle.sums.proofs.Ring.{ring, products, one-*ℤ, *ℤ-assoc}
use Rattle.sums.proofs.Sums.{sum_to-suc, sum_to_cong, sum_to-zero, sum_to_add, sum_to_neg, sum_to_mul}
use Rattle.rule.specs.Rules.{unit}
use Rattle.rule.specs.Weights.{whole_weight, difference_weight}
use Rattle.rule.proofs.Cases.{whole_beyond}
use Rattle.rule.proofs.Weights as Weights
use Rattle.grid.specs.Difference.{Readings, units, difference_sum, scaled_difference}
use Rattle.grid.specs.Tensor.{tensor_sum, tensor_rule}
use Rattle.grid.specs.Terms.{block_sum}
use Rattle.grid.proofs.Levels.{Levels, AtMost, unit_le, unit_mono}
use Rattle.grid.proofs.Rules.{rule, tensor_is, difference_is}
use Rattle.grid.proofs.Parts.{nabla, nabla_weighted}

-- ---- weights at the scale 2^20 along every axis

unfoldable pub scaled : (ℕ → ℕ → ℤ) → ℕ → ℕ → ℤ
scaled w k l = pos (2 ^ (20 - unit k)) *ℤ w k l

powers : (a b : ℕ) → a ≤ b → b ≤ 20 → 2 ^ (20 - b) * 2 ^ (b - a) ≡ 2 ^ (20 - a)
powers a b h l = sym (pow-add 2 (20 - b) (b - a)) ∙ ap (λ x. 2 ^ x) (omega arith)

distribute : (p q c a b : ℤ) → p *ℤ c ≡ q → p *ℤ (a -ℤ c *ℤ b) ≡ p *ℤ a -ℤ q *ℤ b
distribute p q c a b e = rw (← e) (simp ring)

scaled_step : (k l : ℕ) → k < 20 → scaled difference_weight (suc k) l ≡ scaled whole_weight (suc k) l -ℤ scaled whole_weight k l
unfolding scaled
scaled_step k l h =
    ap (λ x. pos (2 ^ (20 - unit (suc k))) *ℤ x) (Weights.difference_is k l)
    ∙ distribute (pos (2 ^ (20 - unit (suc k)))) (pos (2 ^ (20 - unit k))) (pos (2 ^ (unit (suc k) - unit k))) (whole_weight (suc k) l) (whole_weight k l)
    (ap pos (powers (unit k) (unit (suc k)) (unit_mono k) (omega (arith, unit_le (suc k)))))

scaled_beyond : (k l : ℕ) → k < l → scaled whole_weight k l ≡ pos 0
unfolding scaled
scaled_beyond k l h = ap (λ x. pos (2 ^ (20 - unit k)) *ℤ x) (whole_beyond k l h) ∙ *ℤ-zero (pos (2 ^ (20 - unit k)))

-- ---- the mixed difference of the whole rules is the rule of the differences

sub_mul : (a b c : ℤ) → (a -ℤ b) *ℤ c ≡ a *ℤ c +ℤ neg_ℤ (b *ℤ c)
sub_mul a b c = simp ring

-- the sum of level k may go one level further
one_further : (k : ℕ) (X : ℕ → ℤ) → sum_to k (λ i. scaled whole_weight k (suc i) *ℤ X i) ≡ sum_to (suc k) (λ i. scaled whole_weight k (suc i) *ℤ X i)
one_further k X =
    sym (sum_to-suc k (λ i. scaled whole_weight k (suc i) *ℤ X i)
    ∙ ap (λ x. sum_to k (λ i. scaled whole_weight k (suc i) *ℤ X i) +ℤ x) (ap (λ x. x *ℤ X k) (scaled_beyond k (suc k) (omega arith)) ∙ zero-*ℤ (X k))
    ∙ +ℤ_idr (sum_to k (λ i. scaled whole_weight k (suc i) *ℤ X i)))

nabla_axis : (k : ℕ) (ks : List ℕ) (F : List ℕ → ℤ) → k < 20
    → ((G : List ℕ → ℤ) → nabla ks (λ m. rule (scaled whole_weight) m G) ≡ rule (scaled difference_weight) ks G)
    → nabla ks (λ l. rule (scaled whole_weight) (suc k ∷ l) F) -ℤ nabla ks (λ l. rule (scaled whole_weight) (k ∷ l) F) ≡ rule (scaled difference_weight) (suc k ∷ ks) F
unfolding rule
nabla_axis k ks F b ih =
    ap₂ ◌-ℤ◌ (level (suc k)) (ap (nabla ks) (fun_ext (λ l. one_further k (λ i. rule (scaled whole_weight) l (λ m. F (suc i ∷ m))))) ∙ level k)
    ∙ sym
    (sum_to_cong (suc k) (λ i. ap (λ x. x *ℤ D i) (scaled_step k (suc i) b) ∙ sub_mul (scaled whole_weight (suc k) (suc i)) (scaled whole_weight k (suc i)) (D i))
    ∙ sum_to_add (suc k) (λ i. scaled whole_weight (suc k) (suc i) *ℤ D i) (λ i. neg_ℤ (scaled whole_weight k (suc i) *ℤ D i))
    ∙ ap (λ x. sum_to (suc k) (λ i. scaled whole_weight (suc k) (suc i) *ℤ D i) +ℤ x) (sum_to_neg (suc k) (λ i. scaled whole_weight k (suc i) *ℤ D i)))
  where
    D : ℕ → ℤ
    D i = rule (scaled difference_weight) ks (λ m. F (suc i ∷ m))

    level : (j : ℕ) → nabla ks (λ l. sum_to (suc k) (λ i. scaled whole_weight j (suc i) *ℤ rule (scaled whole_weight) l (λ m. F (suc i ∷ m)))) ≡ sum_to (suc k) (λ i. scaled whole_weight j (suc i) *ℤ D i)
    level j =
        nabla_weighted ks (suc k) (λ i. scaled whole_weight j (suc i)) (λ i l. rule (scaled whole_weight) l (λ m. F (suc i ∷ m)))
        ∙ sum_to_cong (suc k) (λ i. ap (λ x. scaled whole_weight j (suc i) *ℤ x) (ih (λ m. F (suc i ∷ m))))

pub nabla_rule : (n : ℕ) → n ≤ 20 → (k : List ℕ) (F : List ℕ → ℤ) → Levels n k
    → nabla k (λ m. rule (scaled whole_weight) m F) ≡ rule (scaled difference_weight) k F
unfolding nabla
nabla_rule n b [] F w = unfold rule in refl
nabla_rule n b (zero ∷ ks) F w = absurd (omega arith)
nabla_rule n b (suc k ∷ ks) F w = nabla_axis k ks F (omega arith) (λ G. nabla_rule n b ks G w.2)

-- a rule with a level 0 is empty
pub rule_low : (w : ℕ → ℕ → ℤ) (p l : List ℕ) (F : List ℕ → ℤ) → rule w (p ++ (0 ∷ l)) F ≡ pos 0
unfolding rule sum_to
rule_low w [] l F = refl
rule_low w (x ∷ p) l F =
    sum_to_cong x (λ i. ap (λ y. w x (suc i) *ℤ y) (rule_low w p l (λ m. F (suc i ∷ m))) ∙ *ℤ-zero (w x (suc i))) ∙ sum_to-zero x

-- ---- from the scale of every axis to the scale of the whole

scale : List ℕ → ℕ
scale [] = 1
scale (k ∷ ks) = 2 ^ (20 - unit k) * scale ks

regroup : (p w s r : ℤ) → (p *ℤ w) *ℤ (s *ℤ r) ≡ (p *ℤ s) *ℤ (w *ℤ r)
regroup p w s r = simp products

rule_scaled : (w : ℕ → ℕ → ℤ) (k : List ℕ) (F : List ℕ → ℤ) → rule (scaled w) k F ≡ pos (scale k) *ℤ rule w k F
unfolding rule scaled scale
rule_scaled w [] F = sym (one-*ℤ (F []))
rule_scaled w (k ∷ ks) F =
    sum_to_cong k (λ i.
    ap (λ x. pos (2 ^ (20 - unit k)) *ℤ w k (suc i) *ℤ x) (rule_scaled w ks (λ l. F (suc i ∷ l)))
    ∙ regroup (pos (2 ^ (20 - unit k))) (w k (suc i)) (pos (scale ks)) (rule w ks (λ l. F (suc i ∷ l))))
    ∙ sum_to_mul k (pos (2 ^ (20 - unit k) * scale ks)) (λ i. w k (suc i) *ℤ rule w ks (λ l. F (suc i ∷ l)))

-- 2^(20 d)
unfoldable pub big : ℕ → ℕ
big zero = 1
big (suc d) = 2 ^ 20 * big d

pub big_pos : (d : ℕ) → 0 < big d
unfolding big
big_pos zero = omega arith
big_pos (suc d) = omega (arith, big_pos d)

-- the powers 20 − u and u make 20
pub filled : (u : ℕ) → u ≤ 20 → 2 ^ (20 - u) * 2 ^ u ≡ 2 ^ 20
filled u h = sym (pow-add 2 (20 - u) u) ∙ ap (λ x. 2 ^ x) {y = 20} (omega arith)

scale_units : (n : ℕ) → n ≤ 20 → (k : List ℕ) → AtMost n k → scale k * 2 ^ units k ≡ big (length k)
unfolding scale units big
scale_units n b [] w = refl
scale_units n b (k ∷ ks) w =
    ap (λ x. 2 ^ (20 - unit k) * scale ks * x) (pow-add 2 (unit k) (units ks))
    ∙ shuffle (2 ^ (20 - unit k)) (scale ks) (2 ^ unit k) (2 ^ units ks)
    ∙ ap₂ ◌*◌ (filled (unit k) (omega (arith, unit_le k))) (scale_units n b ks w.1)
  where
    shuffle : (a b c d : ℕ) → a * b * (c * d) ≡ a * c * (b * d)
    shuffle a b c d = simp (NatL.mul_assoc, NatL.mul_left_comm)

scale_is : (n d : ℕ) → n ≤ 20 → (k : List ℕ) → AtMost n k → length k ≡ suc d → units k ≤ 20 → scale k ≡ big d * 2 ^ (20 - units k)
unfolding big
scale_is n d b k w e h =
    NatL.eq_of_mul-eq-mul_right (2 ^ units k) (pow_pos (units k)) (scale k) (big d * 2 ^ (20 - units k))
    (scale_units n b k w ∙ ap big e ∙ NatL.mul_comm (2 ^ 20) (big d) ∙ ap (λ x. big d * x) (sym (filled (units k) h))
    ∙ sym (NatL.mul_assoc (big d) (2 ^ (20 - units k)) (2 ^ units k)))

module _ (R : Readings) (n d : ℕ) (b : n ≤ 20) (k : List ℕ) (w : AtMost n k) (e : length k ≡ suc d) (h : units k ≤ 20) where
  pub rule_tensor : rule (scaled whole_weight) k (block_sum R) ≡ pos (big d) *ℤ tensor_rule k R
  unfolding tensor_rule
  rule_tensor =
      rule_scaled whole_weight k (block_sum R)
      ∙ ap₂ (λ x y. pos x *ℤ y) (scale_is n d b k w e h) (sym (tensor_is k R))
      ∙ *ℤ-assoc (pos (big d)) (pos (2 ^ (20 - units k))) (tensor_sum k R)

  pub rule_difference : rule (scaled difference_weight) k (block_sum R) ≡ pos (big d) *ℤ scaled_difference k R
  unfolding scaled_difference
  rule_difference =
      rule_scaled difference_weight k (block_sum R)
      ∙ ap₂ (λ x y. pos x *ℤ y) (scale_is n d b k w e h) (sym (difference_is k R))
      ∙ *ℤ-assoc (pos (big d)) (pos (2 ^ (20 - units k))) (difference_sum k R)
