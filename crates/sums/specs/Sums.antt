-- Finite sums: of whole numbers over the numbers below n and over a list, and of natural numbers over the numbers below n.
use Rattle.std.specs.Prelude.{List, [], ◌∷◌, ℕ, zero, suc, ◌+◌, ℤ, pos, ◌+ℤ◌}

-- f 0 + f 1 + .. + f (n − 1)
unfoldable pub sum_to : ℕ → (ℕ → ℤ) → ℤ
sum_to zero f = pos 0
sum_to (suc n) f = sum_to n f +ℤ f n

-- f at each element of a list, added up
unfoldable pub sum_of : {A : Type 0} → List A → (A → ℤ) → ℤ
sum_of [] f = pos 0
sum_of (x ∷ xs) f = f x +ℤ sum_of xs f

-- the same over the numbers below n, for natural numbers
unfoldable pub nat_sum_to : ℕ → (ℕ → ℕ) → ℕ
nat_sum_to zero f = 0
nat_sum_to (suc n) f = nat_sum_to n f + f n
