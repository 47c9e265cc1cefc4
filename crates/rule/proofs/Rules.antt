-- The rules of one axis over a function of positions: level by level, and as the source's trapezoidal rule.
-- The idea: a point's weight depends only on the level at which it was new, so it comes out of the sum over that level's new
-- points; and every inner point of the trapezoidal rule is an end of two panels.
-- Assumes nothing.
use mathlib.Core.Path.{◌≡◌, refl, sym, ap, ap₂, ◌∙◌}
use Prim.Native.Nat.{ℕ, zero, suc, ◌+◌, ◌*◌, ◌-◌, ◌^◌, ◌<◌, ◌≤◌}
use native.Mathlib.Numerals.{add-one}
use native.Mathlib.Omega.{arith}
use borrow.Author.Tests.{eq-eqb, ne_eqb}
use lib.IntN.{ℤ, pos, neg_ℤ, ◌+ℤ◌, ◌-ℤ◌, ◌*ℤ◌, +ℤ_idl, +ℤ_idr, zero-*ℤ, *ℤ-zero}
use lib.Pow.{pow-add, pow_pos}
use Rattle.sums.specs.Sums.{sum_to, sum_of}
use Rattle.sums.specs.Lists.{tabulate}
use Rattle.sums.proofs.Ring.{sums, ring, small, distl, one-*ℤ, *ℤ-assoc, neg_ℤ-*ℤ}
use Rattle.sums.proofs.Sums.{sum_to-suc, sum_to-front, sum_to_cong, sum_to-cong<, sum_to_add, sum_to_mul, sum_of-tabulate}
use Rattle.rule.specs.Points.{points, new_count, new_point}
use Rattle.rule.specs.Rules.{unit, is_point, point_weight, whole_at, whole_rule, unit_step, difference_rule, trapezoidal}
use Rattle.rule.specs.Weights.{whole_weight, difference_weight}
use Rattle.rule.proofs.Cases.{whole_beyond}
use Rattle.rule.proofs.Weights.{difference_is}
use Rattle.rule.proofs.Tables.{in_range_lem, level_is, whole_at_lem, ends_of, whole_ends}
use Rattle.rule.proofs.Points.{by_levels}

-- ---- level by level

-- f over the points new at a level
new_sum : (ℕ → ℤ) → ℕ → ℤ
new_sum f l = sum_to (new_count l) (λ n. f (new_point l n))

whole_new : (k l n : ℕ) → 1 ≤ k → k ≤ 8 → 1 ≤ l → l ≤ 8 → n < new_count l → whole_at k (new_point l n) ≡ whole_weight k l
whole_new k l n a b c d h = whole_at_lem k (new_point l n) a b (in_range_lem l n c d h) ∙ ap (whole_weight k) (level_is l n c d h)

pub whole_rule_lem : (k : ℕ) → 1 ≤ k → k ≤ 8 → (f : ℕ → ℤ)
    → whole_rule k f ≡ sum_to k (λ i. whole_weight k (suc i) *ℤ sum_to (new_count (suc i)) (λ n. f (new_point (suc i) n)))
unfolding whole_rule
whole_rule_lem k a b f =
    by_levels k a b (λ p. whole_at k p *ℤ f p)
    ∙ sum_to-cong< k (λ i. sum_to (new_count (suc i)) (λ n. whole_at k (new_point (suc i) n) *ℤ f (new_point (suc i) n)))
    (λ i. whole_weight k (suc i) *ℤ sum_to (new_count (suc i)) (λ n. f (new_point (suc i) n))) (λ i h.
    sum_to-cong< (new_count (suc i)) (λ n. whole_at k (new_point (suc i) n) *ℤ f (new_point (suc i) n)) (λ n. whole_weight k (suc i) *ℤ f (new_point (suc i) n))
    (λ n q. ap (λ x. x *ℤ f (new_point (suc i) n)) (whole_new k (suc i) n a b (omega arith) (omega arith) q))
    ∙ sum_to_mul (new_count (suc i)) (whole_weight k (suc i)) (λ n. f (new_point (suc i) n)))

-- the rule of k, summed one level further
whole_rule_past : (k : ℕ) → k ≤ 8 → (f : ℕ → ℤ) → whole_rule k f ≡ sum_to (suc k) (λ i. whole_weight k (suc i) *ℤ new_sum f (suc i))
unfolding new_sum
whole_rule_past zero b f = unfold whole_rule points sum_of sum_to whole_weight in sym (+ℤ_idl (pos 0 *ℤ new_sum f 1) ∙ zero-*ℤ (new_sum f 1))
whole_rule_past (suc k) b f =
    whole_rule_lem (suc k) (omega arith) b f
    ∙ sym (sum_to-suc (suc k) (λ i. whole_weight (suc k) (suc i) *ℤ new_sum f (suc i))
    ∙ ap (λ x. sum_to (suc k) (λ i. whole_weight (suc k) (suc i) *ℤ new_sum f (suc i)) +ℤ x)
    (ap (λ x. x *ℤ new_sum f (suc (suc k))) (whole_beyond (suc k) (suc (suc k)) (omega arith)) ∙ zero-*ℤ (new_sum f (suc (suc k))))
    ∙ +ℤ_idr (sum_to (suc k) (λ i. whole_weight (suc k) (suc i) *ℤ new_sum f (suc i))))

distribute : (a b c d : ℤ) → (a -ℤ b *ℤ c) *ℤ d ≡ a *ℤ d +ℤ neg_ℤ b *ℤ (c *ℤ d)
distribute a b c d = simp ring

less_one : (k : ℕ) → suc k - 1 ≡ k
less_one k = omega arith

difference_from : (k : ℕ) → suc k ≤ 8 → (f : ℕ → ℤ)
    → difference_rule (suc k) f ≡ sum_to (suc k) (λ i. difference_weight (suc k) (suc i) *ℤ new_sum f (suc i))
unfolding difference_rule unit_step new_sum
difference_from k b f =
    rw (less_one k)
    (ap₂ (λ x y. x -ℤ c *ℤ y) (whole_rule_lem (suc k) (omega arith) b f) (whole_rule_past k (omega arith) f)
    ∙ ap (λ x. sum_to (suc k) (λ i. whole_weight (suc k) (suc i) *ℤ new_sum f (suc i)) +ℤ x)
    (sym (neg_ℤ-*ℤ c (sum_to (suc k) lower)) ∙ sym (sum_to_mul (suc k) (neg_ℤ c) lower))
    ∙ sym (sum_to_cong (suc k) (λ i.
    ap (λ x. x *ℤ new_sum f (suc i)) (difference_is k (suc i))
    ∙ distribute (whole_weight (suc k) (suc i)) c (whole_weight k (suc i)) (new_sum f (suc i)))
    ∙ sum_to_add (suc k) (λ i. whole_weight (suc k) (suc i) *ℤ new_sum f (suc i)) (λ i. neg_ℤ c *ℤ lower i)))
  where
    c : ℤ
    c = pos (2 ^ (unit (suc k) - unit k))

    lower : ℕ → ℤ
    lower i = whole_weight k (suc i) *ℤ new_sum f (suc i)

pub difference_rule_lem : (k : ℕ) → 1 ≤ k → k ≤ 8 → (f : ℕ → ℤ)
    → difference_rule k f ≡ sum_to k (λ i. difference_weight k (suc i) *ℤ sum_to (new_count (suc i)) (λ n. f (new_point (suc i) n)))
unfolding new_sum
difference_rule_lem zero a b f = absurd (omega arith)
difference_rule_lem (suc k) a b f = difference_from k b f

-- ---- the trapezoidal rule

-- over points at equal steps it is the step times the sum of both ends of every panel
panels : (n h : ℕ) (g : ℕ → ℕ) (f : ℕ → ℤ) → ((i : ℕ) → g (suc i) - g i ≡ h)
    → trapezoidal (tabulate (suc n) g) f ≡ pos h *ℤ sum_to n (λ i. f (g i) +ℤ f (g (suc i)))
unfolding trapezoidal tabulate
panels zero h g f e = unfold sum_to in sym (*ℤ-zero (pos h))
panels (suc n) h g f e =
    ap₂ (λ x y. pos x *ℤ (f (g 0) +ℤ f (g 1)) +ℤ y) (e 0) (panels n h (λ i. g (suc i)) f (λ i. e (suc i)))
    ∙ sym (distl (pos h) (f (g 0) +ℤ f (g 1)) (sum_to n (λ i. f (g (suc i)) +ℤ f (g (suc (suc i))))))
    ∙ ap (λ x. pos h *ℤ x) (sym (sum_to-front n (λ i. f (g i) +ℤ f (g (suc i)))))

-- both ends once, every other point twice
ends_first : (m : ℕ) → ends_of (suc m) 0 ≡ pos 1
unfolding ends_of
ends_first m = refl

ends_last : (m : ℕ) → ends_of (suc m) (suc m) ≡ pos 1
unfolding ends_of
ends_last m = rw (ne_eqb (suc m) 0 (omega arith), eq-eqb (suc m) (suc m) refl)

twice : (x : ℤ) → pos 2 *ℤ x ≡ x +ℤ x
twice x = simp (ring, small)

ends_inner : (m i : ℕ) (x : ℤ) → i < m → ends_of (suc m) (suc i) *ℤ x ≡ x +ℤ x
unfolding ends_of
ends_inner m i x h = rw (ne_eqb (suc i) 0 (omega arith), ne_eqb (suc i) (suc m) (omega arith)) (twice x)

ends : (m : ℕ) (g : ℕ → ℤ) → sum_to (suc (suc m)) (λ i. ends_of (suc m) i *ℤ g i) ≡ sum_to (suc m) (λ i. g i +ℤ g (suc i))
ends m g =
    sum_to-suc (suc m) (λ i. ends_of (suc m) i *ℤ g i)
    ∙ ap₂ ◌+ℤ◌ (sum_to-front m (λ i. ends_of (suc m) i *ℤ g i) ∙ ap₂ ◌+ℤ◌ (ap (λ x. x *ℤ g 0) (ends_first m) ∙ one-*ℤ (g 0)) middle)
    (ap (λ x. x *ℤ g (suc m)) (ends_last m) ∙ one-*ℤ (g (suc m)))
    ∙ regroup (g 0) (sum_to m (λ i. g (suc i))) (g (suc m))
    ∙ sym (sum_to_add (suc m) g (λ i. g (suc i)) ∙ ap₂ ◌+ℤ◌ (sum_to-front m g) (sum_to-suc m (λ i. g (suc i))))
  where
    middle : sum_to m (λ i. ends_of (suc m) (suc i) *ℤ g (suc i)) ≡ sum_to m (λ i. g (suc i)) +ℤ sum_to m (λ i. g (suc i))
    middle =
        sum_to-cong< m (λ i. ends_of (suc m) (suc i) *ℤ g (suc i)) (λ i. g (suc i) +ℤ g (suc i)) (λ i h. ends_inner m i (g (suc i)) h)
        ∙ sum_to_add m (λ i. g (suc i)) (λ i. g (suc i))

    regroup : (a b c : ℤ) → a +ℤ (b +ℤ b) +ℤ c ≡ a +ℤ b +ℤ (b +ℤ c)
    regroup a b c = simp sums

-- the points of level k are 2^(k−1) + 1, at steps of 2^(8−k)
powers : (k : ℕ) → k ≤ 8 → 256 ≡ 2 ^ k * 2 ^ (8 - k)
powers k h = ap (λ x. 2 ^ x) {x = 8} (sum k h) ∙ pow-add 2 k (8 - k)
  where
    sum : (k : ℕ) → k ≤ 8 → 8 ≡ k + (8 - k)
    sum k h = omega arith

positive : (k : ℕ) → (m : ℕ) × (2 ^ suc k ≡ suc m)
positive k = (2 ^ suc k - 1, omega (arith, pow_pos (suc k)))

one_step : (s i : ℕ) → suc i * s - i * s ≡ s
one_step s i = omega arith

whole_panels : (k m : ℕ) (f : ℕ → ℤ) → suc (suc k) ≤ 8 → 2 ^ suc k ≡ suc m
    → whole_rule (suc (suc k)) f ≡ sum_to (suc m) (λ i. f (i * 2 ^ (8 - suc (suc k))) +ℤ f (suc i * 2 ^ (8 - suc (suc k))))
unfolding whole_rule points
whole_panels k m f b e =
    sum_of-tabulate (2 ^ suc k + 1) (λ i. i * s) (λ p. whole_at (suc (suc k)) p *ℤ f p)
    ∙ sum_to-cong< (2 ^ suc k + 1) (λ i. whole_at (suc (suc k)) (i * s) *ℤ f (i * s)) (λ i. ends_of (2 ^ suc k) i *ℤ f (i * s))
    (λ i h. ap (λ x. x *ℤ f (i * s)) (whole_ends k i b h))
    ∙ rw (add-one (2 ^ suc k), e) (ends m (λ i. f (i * s)))
  where
    s : ℕ
    s = 2 ^ (8 - suc (suc k))

trapezoidal_panels : (k m : ℕ) (f : ℕ → ℤ) → 2 ^ suc k ≡ suc m
    → trapezoidal (points (suc (suc k))) f
    ≡ pos (2 ^ (8 - suc (suc k))) *ℤ sum_to (suc m) (λ i. f (i * 2 ^ (8 - suc (suc k))) +ℤ f (suc i * 2 ^ (8 - suc (suc k))))
unfolding points
trapezoidal_panels k m f e =
    rw (add-one (2 ^ suc k), e)
    (panels (suc m) (2 ^ (8 - suc (suc k))) (λ i. i * 2 ^ (8 - suc (suc k))) f (one_step (2 ^ (8 - suc (suc k)))))

pub source : (k : ℕ) → 2 ≤ k → k ≤ 8 → (f : ℕ → ℤ) → pos 256 *ℤ whole_rule k f ≡ pos (2 ^ k) *ℤ trapezoidal (points k) f
source zero a b f = absurd (omega arith)
source (suc zero) a b f = absurd (omega arith)
source (suc (suc k)) a b f = both (positive k)
  where
    both : (m : ℕ) × (2 ^ suc k ≡ suc m) → pos 256 *ℤ whole_rule (suc (suc k)) f ≡ pos (2 ^ suc (suc k)) *ℤ trapezoidal (points (suc (suc k))) f
    both (m, e) =
        ap₂ (λ x y. pos x *ℤ y) (powers (suc (suc k)) b) (whole_panels k m f b e)
        ∙ *ℤ-assoc (pos (2 ^ suc (suc k))) (pos (2 ^ (8 - suc (suc k)))) (sum_to (suc m) (λ i. f (i * 2 ^ (8 - suc (suc k))) +ℤ f (suc i * 2 ^ (8 - suc (suc k)))))
        ∙ ap (λ x. pos (2 ^ suc (suc k)) *ℤ x) (sym (trapezoidal_panels k m f e))

pub centre : (f : ℕ → ℤ) → whole_rule 1 f ≡ f 64
unfolding whole_rule points sum_of whole_at is_point point_weight
centre f = +ℤ_idr (pos 1 *ℤ f 64) ∙ one-*ℤ (f 64)
