-- What the definitions of weights, counts and points are in each of their cases.
-- The idea: the tests of a definition are answered by the order of the two levels.
-- Assumes nothing.
use mathlib.Core.Path.{◌≡◌, refl, ap, ◌∙◌}
use mathlib.Core.Logic.{◌≢◌}
use Prim.Native.Nat.{ℕ, zero, suc, ◌+◌, ◌*◌, ◌-◌, ◌^◌, ◌≤◌, ◌<◌, ◌%◌}
use native.Mathlib.Nat.{one-mul, pow-suc, lt_of_lt_of_le}
use native.Mathlib.Omega.{arith}
use borrow.Author.Tests.{le-leb, lt-leb, eq-eqb, ne_eqb}
use lib.Dec.{lit<}
use lib.IntN.{pos, negsuc}
use lib.Pow.{shl_exact, pow_mono}
use Rattle.rule.specs.Points.{new_count, new_point}
use Rattle.rule.specs.Weights.{ends_one, ends_minus_one, whole_weight, difference_weight}

-- ---- the whole rule

pub whole-none : (k l : ℕ) → l ≡ 0 → whole_weight k l ≡ pos 0
unfolding whole_weight ends_one
whole-none zero l e = refl
whole-none (suc zero) l e = rw (ne_eqb l 1 (omega arith))
whole-none (suc (suc k)) l e = rw (e, le-leb 0 (suc (suc k)) (omega arith))

pub whole_beyond : (k l : ℕ) → k < l → whole_weight k l ≡ pos 0
unfolding whole_weight
whole_beyond zero l h = refl
whole_beyond (suc zero) l h = rw (ne_eqb l 1 (omega arith))
whole_beyond (suc (suc k)) l h = rw (lt-leb l (suc (suc k)) h)

pub whole-one : (k l : ℕ) → k ≤ 1 → 1 ≤ l → l ≤ k → whole_weight k l ≡ pos 1
unfolding whole_weight
whole-one zero l h a b = absurd (omega arith)
whole-one (suc zero) l h a b = rw (eq-eqb l 1 (omega arith))
whole-one (suc (suc k)) l h a b = absurd (omega arith)

-- a point of the level, from level 2 up
pub whole_inside : (k l : ℕ) → 1 < k → l ≤ k → whole_weight k l ≡ ends_one l
unfolding whole_weight
whole_inside zero l h b = absurd (omega arith)
whole_inside (suc zero) l h b = absurd (omega arith)
whole_inside (suc (suc k)) l h b = rw (le-leb l (suc (suc k)) b)

pub ends_one_lem : (l : ℕ) → l ≡ 2 → ends_one l ≡ pos 1
unfolding ends_one
ends_one_lem l e = rw e

pub ends_one_other : (l : ℕ) → 1 ≤ l → l ≢ 2 → ends_one l ≡ pos 2
unfolding ends_one
ends_one_other zero a n = absurd (omega arith)
ends_one_other (suc zero) a n = refl
ends_one_other (suc (suc zero)) a n = absurd (n refl)
ends_one_other (suc (suc (suc l))) a n = refl

-- ---- the difference rule

pub difference_none : (k l : ℕ) → l ≡ 0 → difference_weight k l ≡ pos 0
unfolding difference_weight ends_minus_one
difference_none zero l e = refl
difference_none (suc zero) l e = rw (ne_eqb l 1 (omega arith))
difference_none (suc (suc zero)) l e = rw (ne_eqb l 2 (omega arith), ne_eqb l 1 (omega arith))
difference_none (suc (suc (suc k))) l e =
    rw (e, ne_eqb 0 (suc (suc (suc k))) (omega arith), le-leb 0 (suc (suc (suc k))) (omega arith))

pub difference_beyond : (k l : ℕ) → k < l → difference_weight k l ≡ pos 0
unfolding difference_weight
difference_beyond zero l h = refl
difference_beyond (suc zero) l h = rw (ne_eqb l 1 (omega arith))
difference_beyond (suc (suc zero)) l h = rw (ne_eqb l 2 (omega arith), ne_eqb l 1 (omega arith))
difference_beyond (suc (suc (suc k))) l h =
    rw (ne_eqb l (suc (suc (suc k))) (omega arith), lt-leb l (suc (suc (suc k))) h)

pub difference_one : (k l : ℕ) → k ≤ 1 → 1 ≤ l → l ≤ k → difference_weight k l ≡ pos 1
unfolding difference_weight
difference_one zero l h a b = absurd (omega arith)
difference_one (suc zero) l h a b = rw (eq-eqb l 1 (omega arith))
difference_one (suc (suc k)) l h a b = absurd (omega arith)

pub difference_two_ends : (k l : ℕ) → k ≡ 2 → l ≡ 2 → difference_weight k l ≡ pos 1
unfolding difference_weight
difference_two_ends k l p q = rw (p, q)

pub difference_two_centre : (k l : ℕ) → k ≡ 2 → l ≡ 1 → difference_weight k l ≡ negsuc 1
unfolding difference_weight
difference_two_centre k l p q = rw (p, q)

pub difference_new : (k l : ℕ) → 2 < k → l ≡ k → difference_weight k l ≡ pos 2
unfolding difference_weight
difference_new zero l h q = absurd (omega arith)
difference_new (suc zero) l h q = absurd (omega arith)
difference_new (suc (suc zero)) l h q = absurd (omega arith)
difference_new (suc (suc (suc k))) l h q = rw (eq-eqb l (suc (suc (suc k))) q)

pub difference_older : (k l : ℕ) → 2 < k → l < k → difference_weight k l ≡ ends_minus_one l
unfolding difference_weight
difference_older zero l h q = absurd (omega arith)
difference_older (suc zero) l h q = absurd (omega arith)
difference_older (suc (suc zero)) l h q = absurd (omega arith)
difference_older (suc (suc (suc k))) l h q =
    rw (ne_eqb l (suc (suc (suc k))) (omega arith), le-leb l (suc (suc (suc k))) (omega arith))

pub ends_minus_one_lem : (l : ℕ) → l ≡ 2 → ends_minus_one l ≡ negsuc 0
unfolding ends_minus_one
ends_minus_one_lem l e = rw e

pub ends_minus_one_other : (l : ℕ) → 1 ≤ l → l ≢ 2 → ends_minus_one l ≡ negsuc 1
unfolding ends_minus_one
ends_minus_one_other zero a n = absurd (omega arith)
ends_minus_one_other (suc zero) a n = refl
ends_minus_one_other (suc (suc zero)) a n = absurd (n refl)
ends_minus_one_other (suc (suc (suc l))) a n = refl

-- ---- new points

pub count_zero : (k : ℕ) → k ≡ 0 → new_count k ≡ 0
unfolding new_count
count_zero k e = rw e

pub count_one : (k : ℕ) → k ≡ 1 → new_count k ≡ 1
unfolding new_count
count_one k e = rw e

pub count_two : (k : ℕ) → k ≡ 2 → new_count k ≡ 2
unfolding new_count
count_two k e = rw e

pub count_more : (k : ℕ) → 2 < k → new_count k ≡ 2 ^ (k - 2)
unfolding new_count
count_more zero h = absurd (omega arith)
count_more (suc zero) h = absurd (omega arith)
count_more (suc (suc zero)) h = absurd (omega arith)
count_more (suc (suc (suc k))) h = ap (λ x. 2 ^ x) (less k)
  where
    less : (k : ℕ) → suc k ≡ suc (suc (suc k)) - 2
    less k = omega arith

pub point_one : (k n : ℕ) → k ≡ 1 → new_point k n ≡ 64
unfolding new_point
point_one k n e = rw e

pub point_two : (k n : ℕ) → k ≡ 2 → new_point k n ≡ 128 * n
unfolding new_point
point_two k n e = rw e

pub point_more : (k n : ℕ) → 2 < k → new_point k n ≡ (2 * n + 1) * 2 ^ (8 - k)
unfolding new_point
point_more zero n h = absurd (omega arith)
point_more (suc zero) n h = absurd (omega arith)
point_more (suc (suc zero)) n h = absurd (omega arith)
point_more (suc (suc (suc k))) n h = refl

-- ---- the shifts of the code lose no bit

pub shift_one : (k : ℕ) → k ≤ 8 → (1 * 2 ^ (k - 2)) % 2 ^ 64 ≡ 2 ^ (k - 2)
shift_one k h = shl_exact 1 (k - 2) 64 (lit< tt) (omega arith) ∙ one-mul _

-- from level 3 up the n-th odd number is below 2^(k−1)
pub odd_below : (k n : ℕ) → 2 < k → n < new_count k → 2 * n + 1 < 2 ^ (k - 1)
odd_below k n h p =
    let q : n < 2 ^ (k - 2) = rw (count_more k h) at p in
    let e : k - 1 ≡ suc (k - 2) = omega arith in
    rw (e, pow-suc 2 (k - 2)) (omega arith)

pub shift_odd : (k n : ℕ) → 2 < k → k ≤ 8 → n < new_count k
    → ((2 * n + 1) * 2 ^ (8 - k)) % 2 ^ 8 ≡ (2 * n + 1) * 2 ^ (8 - k)
shift_odd k n h b p = shl_exact (k - 1) (8 - k) 8 (odd_below k n h p) (omega arith)

pub odd_small : (k n : ℕ) → 2 < k → k ≤ 8 → n < new_count k → 2 * n + 1 < 128
odd_small k n h b p = lt_of_lt_of_le (odd_below k n h p) (pow_mono {j = 7} (omega arith))

-- a number of a new point fits a byte
pub number_small : (k n : ℕ) → k ≤ 8 → n < new_count k → n < 64
unfolding new_count
number_small zero n h p = absurd (omega arith)
number_small (suc zero) n h p = omega arith
number_small (suc (suc zero)) n h p = omega arith
number_small (suc (suc (suc k))) n h p = lt_of_lt_of_le p (pow_mono {j = 6} (omega arith))
