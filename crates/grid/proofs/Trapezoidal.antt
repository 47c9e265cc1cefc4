-- The scaled difference is the tensor product of differences of trapezoidal rules, and the full tensor rule that of the rules, up to the units.
-- The idea: along one axis 256 times a rule is the trapezoidal rule in the level's unit, and a factor passes through the rules of the axes
-- in front.
-- Assumes nothing.
use mathlib.Core.Path.{◌≡◌, refl, sym, ap, ap₂, ◌∙◌, fun_ext, subst}
use mathlib.Core.Bool.{true}
use mathlib.Core.List.{List, [], ◌∷◌}
use Prim.Native.Nat.{ℕ, zero, suc, ◌+◌, ◌*◌, ◌-◌, ◌^◌, ◌≤◌}
use native.Mathlib.Nat.{pow-succ', le_refl}
use native.Mathlib.Omega.{arith}
use lib.ListN.{length, take}
use lib.Pow.{pow-add}
use lib.IntN.{ℤ, pos, ◌+ℤ◌, ◌-ℤ◌, ◌*ℤ◌, *ℤ-zero}
use Rattle.sums.proofs.Ring.{ring, one-*ℤ, *ℤ-assoc, *ℤ-left}
use Rattle.rule.specs.Points.{points}
use Rattle.rule.specs.Rules.{unit, whole_rule, unit_step, difference_rule, trapezoidal}
use Rattle.rule.proofs.Rules.{centre, source}
use Rattle.grid.specs.Index.{Within, levels_within, Index}
use Rattle.grid.specs.Difference.{Readings, units, scaled_difference}
use Rattle.grid.specs.Tensor.{tensor_rule}
use Rattle.grid.specs.Terms.{Agree, tensor_product, sampled, pad, padded, centred}
use Rattle.grid.specs.Trapezoidal.{trapezoidal_rule, trapezoidal_difference}
use Rattle.grid.proofs.Levels.{Levels, levels_back, within_levels, unit_mono, units_le}
use Rattle.grid.proofs.Scales.{filled}
use Rattle.grid.proofs.Differences.{difference_only, tensor_only}
use Rattle.grid.proofs.Sampled.{difference_sampled, tensor_sampled}
use Rattle.grid.proofs.LevelOne.{size_same, point_same, difference_same, tensor_same}
use Rattle.grid.proofs.Axes.{job_levels, higher_same, whole-none}

-- ---- along one axis

whole_is : (k : ℕ) → k ≤ 8 → (f : ℕ → ℤ) → pos 256 *ℤ whole_rule k f ≡ pos (2 ^ unit k) *ℤ trapezoidal_rule k f
unfolding unit trapezoidal_rule
whole_is zero b f = ap (λ x. pos 256 *ℤ x) (whole-none f)
whole_is (suc zero) b f = ap (λ x. pos 256 *ℤ x) (centre f) ∙ sym (one-*ℤ (pos 256 *ℤ f 64))
whole_is (suc (suc k)) b f = source (suc (suc k)) (omega arith) b f

unit_before : (k : ℕ) → unit (k - 1) ≤ unit k
unit_before zero = le_refl (unit 0)
unit_before (suc k) = rw (less_one k) (unit_mono k)
  where
    less_one : (k : ℕ) → suc k - 1 ≡ k
    less_one k = omega arith

powers : (a b : ℕ) → a ≤ b → 2 ^ (b - a) * 2 ^ a ≡ 2 ^ b
powers a b h = sym (pow-add 2 (b - a) a) ∙ ap (λ x. 2 ^ x) (omega arith)

mul_sub : (a x y : ℤ) → a *ℤ x -ℤ a *ℤ y ≡ a *ℤ (x -ℤ y)
mul_sub a x y = simp ring

spread : (c s x y : ℤ) → c *ℤ (x -ℤ s *ℤ y) ≡ c *ℤ x -ℤ s *ℤ (c *ℤ y)
spread c s x y = simp ring

gather : (u v s t r : ℤ) → u *ℤ t -ℤ s *ℤ (v *ℤ r) ≡ u *ℤ t -ℤ (s *ℤ v) *ℤ r
gather u v s t r = simp ring

combine : (c u v s x y t r : ℤ) → s *ℤ v ≡ u → c *ℤ x ≡ u *ℤ t → c *ℤ y ≡ v *ℤ r → c *ℤ (x -ℤ s *ℤ y) ≡ u *ℤ (t -ℤ r)
combine c u v s x y t r e p q =
    spread c s x y ∙ ap₂ (λ a b. a -ℤ s *ℤ b) p q ∙ gather u v s t r ∙ ap (λ w. u *ℤ t -ℤ w *ℤ r) e ∙ mul_sub u t r

pub axis : (k : ℕ) → k ≤ 8 → (f : ℕ → ℤ) → pos 256 *ℤ difference_rule k f ≡ pos (2 ^ unit k) *ℤ trapezoidal_difference k f
unfolding difference_rule unit_step trapezoidal_difference
axis k b f =
    combine (pos 256) (pos (2 ^ unit k)) (pos (2 ^ unit (k - 1))) (pos (2 ^ (unit k - unit (k - 1)))) (whole_rule k f) (whole_rule (k - 1) f)
    (trapezoidal_rule k f) (trapezoidal_rule (k - 1) f) (ap pos (powers (unit (k - 1)) (unit k) (unit_before k))) (whole_is k b f)
    (whole_is (k - 1) (omega arith) f)

-- ---- a factor comes out of the trapezoidal rule

factor : (s a x y z : ℤ) → s *ℤ (a *ℤ x +ℤ a *ℤ y) +ℤ a *ℤ z ≡ a *ℤ (s *ℤ (x +ℤ y) +ℤ z)
factor s a x y z = simp ring

trapezoidal_mul : (ps : List ℕ) (a : ℤ) (f : ℕ → ℤ) → trapezoidal ps (λ p. a *ℤ f p) ≡ a *ℤ trapezoidal ps f
unfolding trapezoidal
trapezoidal_mul [] a f = sym (*ℤ-zero a)
trapezoidal_mul (p ∷ []) a f = sym (*ℤ-zero a)
trapezoidal_mul (p ∷ q ∷ ps) a f =
    ap (λ x. pos (q - p) *ℤ (a *ℤ f p +ℤ a *ℤ f q) +ℤ x) (trapezoidal_mul (q ∷ ps) a f)
    ∙ factor (pos (q - p)) a (f p) (f q) (trapezoidal (q ∷ ps) f)

rule_mul : (k : ℕ) (a : ℤ) (f : ℕ → ℤ) → trapezoidal_rule k (λ p. a *ℤ f p) ≡ a *ℤ trapezoidal_rule k f
unfolding trapezoidal_rule
rule_mul zero a f = sym (*ℤ-zero a)
rule_mul (suc zero) a f = *ℤ-left (pos 256) a (f 64)
rule_mul (suc (suc k)) a f = trapezoidal_mul (points (suc (suc k))) a f

difference_mul : (k : ℕ) (a : ℤ) (f : ℕ → ℤ) → trapezoidal_difference k (λ p. a *ℤ f p) ≡ a *ℤ trapezoidal_difference k f
unfolding trapezoidal_difference
difference_mul k a f =
    ap₂ ◌-ℤ◌ (rule_mul k a f) (rule_mul (k - 1) a f) ∙ mul_sub a (trapezoidal_rule k f) (trapezoidal_rule (k - 1) f)

-- ---- along every axis

regroup : (c m x : ℤ) → (c *ℤ m) *ℤ x ≡ m *ℤ (c *ℤ x)
regroup c m x = simp ring

-- for rules Q of the axes, in the units of their levels, that are rules T divided by 256
module _ (Q T : ℕ → (ℕ → ℤ) → ℤ) (tie : (k : ℕ) → k ≤ 8 → (f : ℕ → ℤ) → pos 256 *ℤ Q k f ≡ pos (2 ^ unit k) *ℤ T k f)
    (mul : (k : ℕ) (a : ℤ) (f : ℕ → ℤ) → T k (λ p. a *ℤ f p) ≡ a *ℤ T k f) where
  -- one axis in front of a product of the others
  front : (k n u : ℕ) (g h : ℕ → ℤ) → k ≤ 8 → ((p : ℕ) → pos (256 ^ n) *ℤ g p ≡ pos (2 ^ u) *ℤ h p)
      → pos (256 ^ suc n) *ℤ Q k g ≡ pos (2 ^ (unit k + u)) *ℤ T k h
  front k n u g h b e =
      ap (λ x. pos x *ℤ Q k g) (pow-succ' 256 n)
      ∙ regroup (pos 256) (pos (256 ^ n)) (Q k g)
      ∙ ap (λ x. pos (256 ^ n) *ℤ x) (tie k b g)
      ∙ *ℤ-left (pos (256 ^ n)) (pos (2 ^ unit k)) (T k g)
      ∙ ap (λ x. pos (2 ^ unit k) *ℤ x) (sym (mul k (pos (256 ^ n)) g) ∙ ap (T k) (fun_ext e) ∙ mul k (pos (2 ^ u)) h)
      ∙ sym (*ℤ-assoc (pos (2 ^ unit k)) (pos (2 ^ u)) (T k h))
      ∙ ap (λ x. pos x *ℤ T k h) (sym (pow-add 2 (unit k) u))

  product_is : (k : List ℕ) (f : List ℕ → ℤ) → Levels 8 k → pos (256 ^ length k) *ℤ tensor_product Q k f ≡ pos (2 ^ units k) *ℤ tensor_product T k f
  unfolding tensor_product units
  product_is [] f w = refl
  product_is (k ∷ ks) f w =
      front k (length ks) (units ks) (λ p. tensor_product Q ks (λ ps. f (p ∷ ps))) (λ p. tensor_product T ks (λ ps. f (p ∷ ps))) w.1
      (λ p. product_is ks (λ ps. f (p ∷ ps)) w.2)

  -- at the scale 2^20
  scaled_is : (k : List ℕ) (f : List ℕ → ℤ) → length k ≤ 8 → Within k
      → pos (256 ^ length k) *ℤ (pos (2 ^ (20 - units k)) *ℤ tensor_product Q k f) ≡ pos (2 ^ 20) *ℤ tensor_product T k f
  scaled_is k f l w =
      *ℤ-left (pos (256 ^ length k)) s (tensor_product Q k f)
      ∙ ap (λ x. s *ℤ x) (product_is k f (within_levels k w))
      ∙ sym (*ℤ-assoc s (pos (2 ^ units k)) (tensor_product T k f))
      ∙ ap (λ x. pos x *ℤ tensor_product T k f) (filled (units k) (omega (arith, units_le k, w.small)))
    where
      s : ℤ
      s = pos (2 ^ (20 - units k))

-- ---- the scaled difference and the full tensor rule

levels_fit : (k : List ℕ) → Within k → levels_within k ≡ true
levels_fit k w = levels_back k (within_levels k w)

sampled_is : (k : List ℕ) (f : List ℕ → ℤ) → length k ≤ 8 → Within k
    → pos (256 ^ length k) *ℤ scaled_difference k (sampled f) ≡ pos (2 ^ 20) *ℤ tensor_product trapezoidal_difference k f
unfolding scaled_difference
sampled_is k f l w =
    ap (λ x. pos (256 ^ length k) *ℤ (pos (2 ^ (20 - units k)) *ℤ x)) (difference_sampled k f (levels_fit k w))
    ∙ scaled_is difference_rule trapezoidal_difference axis difference_mul k f l w

tensor_sampled_is : (k : List ℕ) (f : List ℕ → ℤ) → length k ≤ 8 → Within k
    → pos (256 ^ length k) *ℤ tensor_rule k (sampled f) ≡ pos (2 ^ 20) *ℤ tensor_product trapezoidal_rule k f
unfolding tensor_rule
tensor_sampled_is k f l w =
    ap (λ x. pos (256 ^ length k) *ℤ (pos (2 ^ (20 - units k)) *ℤ x)) (tensor_sampled k f (levels_fit k w))
    ∙ scaled_is whole_rule trapezoidal_rule whole_is rule_mul k f l w

pub difference : (k : List ℕ) (R : Readings) (f : List ℕ → ℤ) → length k ≤ 8 → Within k → Agree k R (sampled f)
    → pos (256 ^ length k) *ℤ scaled_difference k R ≡ pos (2 ^ 20) *ℤ tensor_product trapezoidal_difference k f
difference k R f l w a = ap (λ x. pos (256 ^ length k) *ℤ x) (difference_only k R (sampled f) a) ∙ sampled_is k f l w

pub tensor : (k : List ℕ) (R : Readings) (f : List ℕ → ℤ) → length k ≤ 8 → Within k → Agree k R (sampled f)
    → pos (256 ^ length k) *ℤ tensor_rule k R ≡ pos (2 ^ 20) *ℤ tensor_product trapezoidal_rule k f
tensor k R f l w a = ap (λ x. pos (256 ^ length k) *ℤ x) (tensor_only k R (sampled f) a) ∙ tensor_sampled_is k f l w

pub eight_axes : (k : List ℕ) (R : Readings) (f : List ℕ → ℤ) → length k ≡ 8 → Within k → Agree k R (sampled f)
    → pos (256 ^ 8) *ℤ scaled_difference k R ≡ pos (2 ^ 20) *ℤ tensor_product trapezoidal_difference k f
eight_axes k R f e w a = ap (λ n. pos (256 ^ n) *ℤ scaled_difference k R) {x = 8} (sym e) ∙ difference k R f (omega arith) w a

-- ---- over the job's axes

-- the readings with level 1 appended are those of the integrand with the axes behind at the centre
agree_padded : (k : List ℕ) (m : ℕ) (R : Readings) (f : List ℕ → ℤ) → Agree (pad m k) R (sampled f) → Agree k (padded m R) (sampled (centred m f))
unfolding padded sampled centred
agree_padded k m R f a l n h q =
    a (pad m l) n (higher_same l k m h) (omega (arith, size_same l m)) ∙ ap f (point_same l m n)

-- for whatever S of an index and readings is so tied, and is the same with level 1 appended
module _ (S : List ℕ → Readings → ℤ) (T : ℕ → (ℕ → ℤ) → ℤ) (same : (k : List ℕ) (m : ℕ) (R : Readings) → S (pad m k) R ≡ S k (padded m R))
    (tie : (k : List ℕ) (R : Readings) (f : List ℕ → ℤ) → length k ≤ 8 → Within k → Agree k R (sampled f)
    → pos (256 ^ length k) *ℤ S k R ≡ pos (2 ^ 20) *ℤ tensor_product T k f) where
  padded_is : (d m : ℕ) (k : List ℕ) (R : Readings) (f : List ℕ → ℤ) → length k ≡ d → d ≤ 8 → Within k → Agree (pad m k) R (sampled f)
      → pos (256 ^ d) *ℤ S (pad m k) R ≡ pos (2 ^ 20) *ℤ tensor_product T k (centred m f)
  padded_is d m k R f e b w a =
      ap₂ (λ n x. pos (256 ^ n) *ℤ x) (sym e) (same k m R) ∙ tie k (padded m R) (centred m f) (omega arith) w (agree_padded k m R f a)

  on_axes_lem : (d : ℕ) (k : List ℕ) (R : Readings) (f : List ℕ → ℤ) → d ≤ 8 → Index d k → Agree k R (sampled f)
      → pos (256 ^ d) *ℤ S k R ≡ pos (2 ^ 20) *ℤ tensor_product T (take d k) (centred (8 - d) f)
  on_axes_lem d k R f b v a = step (job_levels d k b v)
    where
      step : (k ≡ pad (8 - d) (take d k)) × (length (take d k) ≡ d) × Within (take d k)
          → pos (256 ^ d) *ℤ S k R ≡ pos (2 ^ 20) *ℤ tensor_product T (take d k) (centred (8 - d) f)
      step (e, l, w) =
          ap (λ (x : List ℕ). pos (256 ^ d) *ℤ S x R) e
          ∙ padded_is d (8 - d) (take d k) R f l b w (subst (λ (x : List ℕ). Agree x R (sampled f)) e a)

pub job_axes : (d : ℕ) (k : List ℕ) (R : Readings) (f : List ℕ → ℤ) → d ≤ 8 → Index d k → Agree k R (sampled f)
    → pos (256 ^ d) *ℤ scaled_difference k R ≡ pos (2 ^ 20) *ℤ tensor_product trapezoidal_difference (take d k) (centred (8 - d) f)
job_axes = on_axes_lem scaled_difference trapezoidal_difference difference_same difference

pub tensor_job_axes : (d : ℕ) (k : List ℕ) (R : Readings) (f : List ℕ → ℤ) → d ≤ 8 → Index d k → Agree k R (sampled f)
    → pos (256 ^ d) *ℤ tensor_rule k R ≡ pos (2 ^ 20) *ℤ tensor_product trapezoidal_rule (take d k) (centred (8 - d) f)
tensor_job_axes = on_axes_lem tensor_rule trapezoidal_rule tensor_same tensor
