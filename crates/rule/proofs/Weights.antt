-- The weights of one axis for every level, by the level at which a point is new.
-- The idea: the sums over the whole rule by induction on the level, where the points of one level more add its new ones;
-- the difference rule is the difference of two whole rules, so its sum is the difference of theirs.
-- Assumes nothing.
use mathlib.Core.Path.{◌≡◌, refl, sym, ap, ap₂, ◌∙◌}
use Prim.Native.Nat.{ℕ, zero, suc, ◌+◌, ◌*◌, ◌-◌, ◌^◌, ◌<◌}
use native.Mathlib.Decide.{ℕ_discrete, dec_lt}
use native.Mathlib.Omega.{arith}
use borrow.Author.Tests.{lt-leb, ne_eqb}
use lib.IntN.{ℤ, pos, neg_ℤ, nat_abs, ◌+ℤ◌, ◌-ℤ◌, ◌*ℤ◌, *ℤ-zero, +ℤ_idr, +ℤ_invr}
use Rattle.sums.specs.Sums.{sum_to, nat_sum_to}
use Rattle.sums.proofs.Ring.{ring, neg_ℤ-*ℤ}
use Rattle.sums.proofs.Sums.{sum_to-suc, sum_to_cong, sum_to-cong<, sum_to_add, sum_to_mul}
use Rattle.sums.proofs.Sizes.{nat_sum_to-suc, nat_sum_to-cong<}
use Rattle.rule.specs.Points.{new_count}
use Rattle.rule.specs.Rules.{unit}
use Rattle.rule.specs.Weights.{ends_one, ends_minus_one, whole_weight, difference_weight}
use Rattle.rule.proofs.Cases.{whole_beyond, whole_inside, difference_beyond}
use Rattle.rule.proofs.Cases.{difference_new, difference_older}

-- ---- the difference rule is the rule of k minus that of k − 1

data Order (l k : ℕ) : Type 0 where
  below : l < k → Order l k
  same : l ≡ k → Order l k
  above : k < l → Order l k

order : (l k : ℕ) → Order l k
order l k = step (dec_lt l k) (ℕ_discrete l k)
  where
    step : Dec (l < k) → Dec (l ≡ k) → Order l k
    step (yes h) e = below h
    step (no h) (yes e) = same e
    step (no h) (no e) = above (omega arith)

-- an older point: 2 − 2·2 = −2 inside, 1 − 2·1 = −1 at an end
older : (l : ℕ) → ends_minus_one l ≡ ends_one l -ℤ pos 2 *ℤ ends_one l
unfolding ends_minus_one ends_one
older zero = refl
older (suc zero) = refl
older (suc (suc zero)) = refl
older (suc (suc (suc l))) = refl

difference_two : (l : ℕ) → difference_weight 2 l ≡ whole_weight 2 l -ℤ pos 4 *ℤ whole_weight 1 l
unfolding difference_weight whole_weight ends_one
difference_two zero = refl
difference_two (suc zero) = refl
difference_two (suc (suc zero)) = refl
difference_two (suc (suc (suc l))) =
    rw (ne_eqb (suc (suc (suc l))) 1 (omega arith), ne_eqb (suc (suc (suc l))) 2 (omega arith), lt-leb (suc (suc (suc l))) 2 (omega arith))

difference_more : (k l : ℕ) → 2 < suc k → difference_weight (suc k) l ≡ whole_weight (suc k) l -ℤ pos 2 *ℤ whole_weight k l
difference_more k l h = step (order l (suc k))
  where
    step : Order l (suc k) → difference_weight (suc k) l ≡ whole_weight (suc k) l -ℤ pos 2 *ℤ whole_weight k l
    step (below q) =
        rw (difference_older (suc k) l h q, whole_inside (suc k) l (omega arith) (omega arith), whole_inside k l (omega arith) (omega arith)) (older l)
    step (same e) =
        rw (difference_new (suc k) l h e, whole_inside (suc k) l (omega arith) (omega arith), whole_beyond k l (omega arith)) (new l (omega arith))
      where
        new : (l : ℕ) → 2 < l → pos 2 ≡ ends_one l -ℤ pos 2 *ℤ pos 0
        new zero h = absurd (omega arith)
        new (suc zero) h = absurd (omega arith)
        new (suc (suc zero)) h = absurd (omega arith)
        new (suc (suc (suc l))) h = unfold ends_one in refl
    step (above q) = rw (difference_beyond (suc k) l q, whole_beyond (suc k) l q, whole_beyond k l (omega arith))

unit-one_more : (k : ℕ) → suc (suc (suc k)) - suc (suc k) ≡ 1
unit-one_more k = omega arith

pub difference_is : (k l : ℕ)
    → difference_weight (suc k) l ≡ whole_weight (suc k) l -ℤ pos (2 ^ (unit (suc k) - unit k)) *ℤ whole_weight k l
unfolding unit
difference_is zero l = unfold difference_weight whole_weight in sym (+ℤ_idr (whole_weight 1 l))
difference_is (suc zero) l = difference_two l
difference_is (suc (suc k)) l = rw (unit-one_more k) (difference_more (suc (suc k)) l (omega arith))

-- ---- over all points the whole weights come to one

next_level : (k : ℕ) → 2 ^ suc (suc k) + 2 ^ suc k * 2 ≡ 2 ^ suc (suc (suc k))
next_level k = omega arith

ends_one_sum : (k : ℕ) → sum_to (suc (suc k)) (λ i. pos (new_count (suc i)) *ℤ ends_one (suc i)) ≡ pos (2 ^ suc (suc k))
unfolding sum_to new_count ends_one
ends_one_sum zero = refl
ends_one_sum (suc k) = rw (ends_one_sum k) (ap pos (next_level k))

pub whole_sum : (k : ℕ)
    → sum_to (suc k) (λ i. pos (new_count (suc i)) *ℤ whole_weight (suc k) (suc i)) ≡ pos (2 ^ unit (suc k))
unfolding unit
whole_sum zero = unfold sum_to new_count whole_weight in refl
whole_sum (suc k) =
    sum_to-cong< (suc (suc k)) (λ i. pos (new_count (suc i)) *ℤ whole_weight (suc (suc k)) (suc i))
    (λ i. pos (new_count (suc i)) *ℤ ends_one (suc i))
    (λ i h. ap (λ x. pos (new_count (suc i)) *ℤ x) (whole_inside (suc (suc k)) (suc i) (omega arith) h))
    ∙ ends_one_sum k

-- one level further there is nothing to add
whole_sum_past : (k : ℕ)
    → sum_to (suc (suc k)) (λ i. pos (new_count (suc i)) *ℤ whole_weight (suc k) (suc i)) ≡ pos (2 ^ unit (suc k))
whole_sum_past k =
    sum_to-suc (suc k) (λ i. pos (new_count (suc i)) *ℤ whole_weight (suc k) (suc i))
    ∙ ap₂ ◌+ℤ◌ (whole_sum k)
    (ap (λ x. pos (new_count (suc (suc k))) *ℤ x) (whole_beyond (suc k) (suc (suc k)) (omega arith)) ∙ *ℤ-zero (pos (new_count (suc (suc k)))))
    ∙ +ℤ_idr (pos (2 ^ unit (suc k)))

-- ---- those of the difference rule, from level 2 up, come to zero

distribute : (a b c d : ℤ) → a *ℤ (b -ℤ c *ℤ d) ≡ a *ℤ b +ℤ neg_ℤ c *ℤ (a *ℤ d)
distribute a b c d = simp ring

twice : (k : ℕ) → 2 ^ 1 * 2 ^ suc (suc k) ≡ 2 ^ suc (suc (suc k))
twice k = omega arith

pub unit_step_lem : (k : ℕ) → 2 ^ (unit (suc k) - unit k) * 2 ^ unit k ≡ 2 ^ unit (suc k)
unfolding unit
unit_step_lem zero = refl
unit_step_lem (suc zero) = refl
unit_step_lem (suc (suc k)) = rw (unit-one_more k) (twice k)

pub difference_sum_lem : (k : ℕ)
    → sum_to (suc (suc k)) (λ i. pos (new_count (suc i)) *ℤ difference_weight (suc (suc k)) (suc i)) ≡ pos 0
difference_sum_lem k =
    sum_to_cong (suc (suc k))
    (λ i. ap (λ x. n i *ℤ x) (difference_is (suc k) (suc i)) ∙ distribute (n i) (whole_weight (suc (suc k)) (suc i)) c (whole_weight (suc k) (suc i)))
    ∙ sum_to_add (suc (suc k)) (λ i. n i *ℤ whole_weight (suc (suc k)) (suc i)) (λ i. neg_ℤ c *ℤ (n i *ℤ whole_weight (suc k) (suc i)))
    ∙ ap₂ ◌+ℤ◌ (whole_sum (suc k))
    (sum_to_mul (suc (suc k)) (neg_ℤ c) (λ i. n i *ℤ whole_weight (suc k) (suc i))
    ∙ ap (λ x. neg_ℤ c *ℤ x) (whole_sum_past k)
    ∙ neg_ℤ-*ℤ c (pos (2 ^ unit (suc k)))
    ∙ ap (λ x. neg_ℤ (pos x)) (unit_step_lem (suc k)))
    ∙ +ℤ_invr (pos (2 ^ unit (suc (suc k))))
  where
    c : ℤ
    c = pos (2 ^ (unit (suc (suc k)) - unit (suc k)))

    n : ℕ → ℤ
    n i = pos (new_count (suc i))

-- ---- the sizes of the weights come to one

ends_one-size : (k : ℕ) → nat_sum_to (suc (suc k)) (λ i. new_count (suc i) * nat_abs (ends_one (suc i))) ≡ 2 ^ suc (suc k)
unfolding nat_sum_to new_count ends_one
ends_one-size zero = refl
ends_one-size (suc k) = rw (ends_one-size k) (omega arith)

pub whole_size : (k : ℕ)
    → nat_sum_to (suc k) (λ i. new_count (suc i) * nat_abs (whole_weight (suc k) (suc i))) ≡ 2 ^ unit (suc k)
unfolding unit
whole_size zero = unfold nat_sum_to new_count whole_weight in refl
whole_size (suc k) =
    nat_sum_to-cong< (suc (suc k)) (λ i. new_count (suc i) * nat_abs (whole_weight (suc (suc k)) (suc i)))
    (λ i. new_count (suc i) * nat_abs (ends_one (suc i)))
    (λ i h. ap (λ x. new_count (suc i) * nat_abs x) (whole_inside (suc (suc k)) (suc i) (omega arith) h))
    ∙ ends_one-size k

-- an older point has the size that it has in the whole rule
same_size : (l : ℕ) → nat_abs (ends_minus_one l) ≡ nat_abs (ends_one l)
unfolding ends_minus_one ends_one
same_size zero = refl
same_size (suc zero) = refl
same_size (suc (suc zero)) = refl
same_size (suc (suc (suc l))) = refl

count_next : (k : ℕ) → new_count (suc (suc (suc k))) ≡ 2 ^ suc k
unfolding new_count
count_next k = refl

pub difference_size : (k : ℕ)
    → nat_sum_to (suc k) (λ i. new_count (suc i) * nat_abs (difference_weight (suc k) (suc i))) ≡ 2 ^ unit (suc k)
unfolding unit
difference_size zero = unfold nat_sum_to new_count difference_weight in refl
difference_size (suc zero) = unfold nat_sum_to new_count difference_weight in refl
difference_size (suc (suc k)) =
    nat_sum_to-suc (suc (suc k)) (λ i. new_count (suc i) * nat_abs (difference_weight (suc (suc (suc k))) (suc i)))
    ∙ ap₂ ◌+◌
    (nat_sum_to-cong< (suc (suc k)) (λ i. new_count (suc i) * nat_abs (difference_weight (suc (suc (suc k))) (suc i)))
    (λ i. new_count (suc i) * nat_abs (ends_one (suc i)))
    (λ i h. ap (λ x. new_count (suc i) * nat_abs x) (difference_older (suc (suc (suc k))) (suc i) (omega arith) (omega arith)) ∙ ap (λ x. new_count (suc i) * x) (same_size (suc i)))
    ∙ ends_one-size k)
    (ap₂ (λ x y. x * nat_abs y) (count_next k) (difference_new (suc (suc (suc k))) (suc (suc (suc k))) (omega arith) refl))
    ∙ next_level k
