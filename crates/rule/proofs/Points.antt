-- The points of a level are the new points of all levels up to it.
-- The idea: of the points of one level more, the even multiples are the level's and the odd ones are new.
-- Assumes nothing.
use mathlib.Core.Path.{◌≡◌, refl, sym, ap, ◌∙◌}
use Prim.Native.Nat.{ℕ, zero, suc, ◌+◌, ◌*◌, ◌-◌, ◌^◌, ◌<◌, ◌≤◌}
use native.Mathlib.Nat as NatL
use native.Mathlib.Numerals.{add-one}
use native.Mathlib.Omega.{arith}
use lib.IntN.{ℤ, pos, ◌+ℤ◌, +ℤ_idl, +ℤ_idr}
use lib.ListN.{length, get_or}
use Rattle.sums.specs.Sums.{sum_to, sum_of}
use Rattle.sums.specs.Lists.{tabulate}
use Rattle.sums.proofs.Ring.{sums}
use Rattle.sums.proofs.Sums.{sum_to-suc, sum_to_cong, sum_of-tabulate}
use Rattle.sums.proofs.Lists.{length-tabulate, get_d_tabulate}
use Rattle.rule.specs.Points.{points, new_points, new_count, new_point}

-- ---- the new points by number

pub new_count_lem : (k : ℕ) → length (new_points k) ≡ new_count k
unfolding new_points new_count
new_count_lem zero = refl
new_count_lem (suc zero) = refl
new_count_lem (suc (suc zero)) = refl
new_count_lem (suc (suc (suc k))) = length-tabulate (2 ^ suc k) (λ n. (2 * n + 1) * 2 ^ (8 - suc (suc (suc k))))

pub new_point_lem : (k n : ℕ) → n < new_count k → get_or (new_points k) n 0 ≡ new_point k n
unfolding new_points new_count new_point
new_point_lem zero n h = absurd (omega arith)
new_point_lem (suc zero) zero h = refl
new_point_lem (suc zero) (suc n) h = absurd (omega arith)
new_point_lem (suc (suc zero)) zero h = refl
new_point_lem (suc (suc zero)) (suc zero) h = refl
new_point_lem (suc (suc zero)) (suc (suc n)) h = absurd (omega arith)
new_point_lem (suc (suc (suc k))) n h = get_d_tabulate (2 ^ suc k) (λ n. (2 * n + 1) * 2 ^ (8 - suc (suc (suc k)))) n 0 h

-- ---- even and odd multiples

double-suc : (n : ℕ) → 2 * suc n ≡ suc (suc (2 * n))
double-suc n = omega arith

-- g over 0 to 2n: the even places and the odd ones
interleave : (n : ℕ) (g : ℕ → ℤ) → sum_to (suc (2 * n)) g ≡ sum_to (suc n) (λ i. g (2 * i)) +ℤ sum_to n (λ i. g (2 * i + 1))
unfolding sum_to
interleave zero g = sym (+ℤ_idr (pos 0 +ℤ g 0))
interleave (suc n) g =
    rw (double-suc n)
    (ap (λ x. x +ℤ g (suc (2 * n)) +ℤ g (suc (suc (2 * n)))) (interleave n g)
    ∙ ap (λ x. sum_to (suc n) (λ i. g (2 * i)) +ℤ sum_to n (λ i. g (2 * i + 1)) +ℤ g x +ℤ g (suc (suc (2 * n)))) (sym (add-one (2 * n)))
    ∙ regroup (sum_to (suc n) (λ i. g (2 * i))) (sum_to n (λ i. g (2 * i + 1))) (g (2 * n + 1)) (g (suc (suc (2 * n)))))
  where
    regroup : (a b c d : ℤ) → a +ℤ b +ℤ c +ℤ d ≡ (a +ℤ d) +ℤ (b +ℤ c)
    regroup a b c d = simp sums

-- 2i steps of a level are i steps of the level below
half_step : (k i : ℕ) → suc (suc (suc k)) ≤ 8 → 2 * i * 2 ^ (8 - suc (suc (suc k))) ≡ i * 2 ^ (8 - suc (suc k))
half_step k i h = rw (one_less k h, NatL.pow-suc 2 (8 - suc (suc (suc k)))) (halves i (2 ^ (8 - suc (suc (suc k)))))
  where
    one_less : (k : ℕ) → suc (suc (suc k)) ≤ 8 → 8 - suc (suc k) ≡ suc (8 - suc (suc (suc k)))
    one_less k h = omega arith

    halves : (i x : ℕ) → 2 * i * x ≡ i * (x * 2)
    halves i x = omega arith

-- from level 2 on: one level more adds its new points
next_level : (k : ℕ) (f : ℕ → ℤ) → suc (suc (suc k)) ≤ 8
    → sum_of (points (suc (suc (suc k)))) f ≡ sum_of (points (suc (suc k))) f +ℤ sum_to (new_count (suc (suc (suc k)))) (λ n. f (new_point (suc (suc (suc k))) n))
unfolding points new_count new_point
next_level k f h =
    sum_of-tabulate (2 ^ suc (suc k) + 1) (λ i. i * s) f
    ∙ ap (λ x. sum_to x (λ i. f (i * s))) (count k)
    ∙ interleave (2 ^ suc k) (λ i. f (i * s))
    ∙ ap (λ x. x +ℤ sum_to (2 ^ suc k) (λ i. f ((2 * i + 1) * s)))
    (sum_to_cong (suc (2 ^ suc k)) (λ i. ap f (half_step k i h))
    ∙ ap (λ x. sum_to x (λ i. f (i * 2 ^ (8 - suc (suc k))))) (sym (add-one (2 ^ suc k)))
    ∙ sym (sum_of-tabulate (2 ^ suc k + 1) (λ i. i * 2 ^ (8 - suc (suc k))) f))
  where
    s : ℕ
    s = 2 ^ (8 - suc (suc (suc k)))

    count : (k : ℕ) → 2 ^ suc (suc k) + 1 ≡ suc (2 * 2 ^ suc k)
    count k = omega arith

pub by_levels : (k : ℕ) → 1 ≤ k → k ≤ 8 → (f : ℕ → ℤ)
    → sum_of (points k) f ≡ sum_to k (λ i. sum_to (new_count (suc i)) (λ n. f (new_point (suc i) n)))
by_levels zero a b f = absurd (omega arith)
by_levels (suc zero) a b f = unfold sum_to sum_of points new_count new_point in centre (f 64)
  where
    centre : (x : ℤ) → x +ℤ pos 0 ≡ pos 0 +ℤ (pos 0 +ℤ x)
    centre x = simp (+ℤ_idl, +ℤ_idr)
by_levels (suc (suc zero)) a b f = unfold sum_to sum_of points tabulate new_count new_point in three (f 0) (f 64) (f 128)
  where
    three : (x y z : ℤ) → x +ℤ (y +ℤ (z +ℤ pos 0)) ≡ pos 0 +ℤ (pos 0 +ℤ y) +ℤ (pos 0 +ℤ x +ℤ z)
    three x y z = simp (+ℤ_idl, +ℤ_idr, sums)
by_levels (suc (suc (suc k))) a b f =
    next_level k f b
    ∙ ap (λ x. x +ℤ sum_to (new_count (suc (suc (suc k)))) (λ n. f (new_point (suc (suc (suc k))) n))) (by_levels (suc (suc k)) (omega arith) (omega arith) f)
    ∙ sym (sum_to-suc (suc (suc k)) (λ i. sum_to (new_count (suc i)) (λ n. f (new_point (suc i) n))))
