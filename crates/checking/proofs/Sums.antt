-- Sums over the numbers below n: by one more, their size, and the count of those that pass a test.
-- Assumes nothing.
use mathlib.Core.Path.{◌≡◌, refl, ap, ◌∙◌}
use mathlib.Core.Bool.{Bool, true, false, cond}
use mathlib.Core.List.{List, ◌∷◌}
use Prim.Native.Nat.{ℕ, zero, suc, ◌+◌, ◌*◌, ◌<◌, ◌≤◌}
use native.Mathlib.Numerals.{add-one}
use native.Mathlib.Omega.{arith}
use lib.ListN.{length}
use Rattle.std.specs.List.{range_with_len, filter}
use Rattle.sums.specs.Sums.{nat_sum_to}
use Rattle.sums.proofs.Sizes.{nat_sum_to-suc, nat_sum_to_cong}

pub sum_next : (n : ℕ) (f : ℕ → ℕ) → nat_sum_to (n + 1) f ≡ nat_sum_to n f + f n
sum_next n f = rw (add-one n) (nat_sum_to-suc n f)

pub each_at_most : (n m : ℕ) (f : ℕ → ℕ) → ((i : ℕ) → i < n → f i ≤ m) → nat_sum_to n f ≤ n * m
unfolding nat_sum_to
each_at_most zero m f h = omega arith
each_at_most (suc n) m f h = omega (arith, h n (omega arith), each_at_most n m f (λ i l. h i (omega arith)))

front : (n : ℕ) (f : ℕ → ℕ) → nat_sum_to (suc n) f ≡ f 0 + nat_sum_to n (λ k. f (suc k))
unfolding nat_sum_to
front zero f = omega arith
front (suc n) f = omega (arith, front n f)

module _ (test : ℕ → Bool) where
  abbrev one : ℕ → ℕ
  one p = cond (test p) 1 0

  head : (b : Bool) (x : ℕ) (xs : List ℕ) → length (cond b (x ∷ xs) xs) ≡ cond b 1 0 + length xs
  head true x xs = omega arith
  head false x xs = omega arith

  kept_from : (n i : ℕ) → length (filter test (range_with_len i n)) ≡ nat_sum_to n (λ k. one (i + k))
  unfolding nat_sum_to
  kept_from zero i = refl
  kept_from (suc n) i =
      let rest = nat_sum_to_cong n {f = λ k. one (i + 1 + k)} {g = λ k. one (i + suc k)} (λ k. ap one (omega arith)) in
      let first : one (i + 0) ≡ one i = ap one (omega arith) in
      omega (arith, head (test i) i (filter test (range_with_len (i + 1) n)), kept_from n (i + 1), rest, first, front n (λ k. one (i + k)))

  pub count_kept : (n : ℕ) → length (filter test (range_with_len 0 n)) ≡ nat_sum_to n one
  count_kept n = kept_from n 0 ∙ nat_sum_to_cong n (λ k. ap one (omega arith))
