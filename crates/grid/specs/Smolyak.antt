-- The combination coefficients beside document 004, section 2, "Smolyak's construction": over its simplex they and the cross total are the
-- source's, so that they widen it to any delivered set.
use Rattle.std.specs.Prelude.{◌≡◌, cond, ℕ, zero, suc, ◌+◌, ◌-◌, ◌<◌, ◌≤◌, leb, ℤ, pos, neg_ℤ, ◌*ℤ◌, length, replicate}
use mathlib.Core.List.{List, [], ◌∷◌, Memᴰ}
use Rattle.sums.specs.Sums.{sum_of}
use Rattle.grid.specs.Index.{level, Within, lower}
use Rattle.grid.specs.Difference.{Readings, scaled_mean}
use Rattle.grid.specs.Coefficient.{coefficient}
use Rattle.grid.specs.Tensor.{tensor_rule}
use Rattle.grid.specs.Cross.{cross_total}
use Rattle.grid.specs.Terms.{NoDup}

-- |k|, the sum of the levels.
unfoldable pub level_sum : List ℕ → ℕ
level_sum [] = 0
level_sum (l ∷ ls) = l + level_sum ls

-- C(n, j), the binomial coefficient, by Pascal's triangle.
unfoldable pub binomial : ℕ → ℕ → ℕ
binomial zero zero = 1
binomial zero (suc j) = 0
binomial (suc n) zero = 1
binomial (suc n) (suc j) = binomial n j + binomial n (suc j)

-- (−1)^n
unfoldable pub minus_one_to : ℕ → ℤ
minus_one_to zero = pos 1
minus_one_to (suc n) = neg_ℤ (minus_one_to n)

-- J holds, once each, exactly the lists of d levels from 1 up whose sum is at most q. No ceiling is asked.
pub record Simplex (d q : ℕ) (J : List (List ℕ)) : Type 0 where
  pub once : NoDup J
  pub axes : (k : List ℕ) → Memᴰ k J → length k ≡ d
  pub low : (k : List ℕ) (a : ℕ) → Memᴰ k J → a < d → 1 ≤ level k a
  pub small : (k : List ℕ) → Memᴰ k J → level_sum k ≤ q
  pub all : (k : List ℕ) → length k ≡ d → ((a : ℕ) → a < d → 1 ≤ level k a) → level_sum k ≤ q → Memᴰ k J

-- One such J: of all lists of d levels from 1 to q, which are nowhere higher than the list with level q throughout, those whose sum is at
-- most q.
unfoldable pub up_to_sum : ℕ → List (List ℕ) → List (List ℕ)
up_to_sum q [] = []
up_to_sum q (k ∷ ks) = cond (leb (level_sum k) q) (k ∷ up_to_sum q ks) (up_to_sum q ks)

unfoldable pub simplex_of : ℕ → ℕ → List (List ℕ)
simplex_of d q = up_to_sum q (lower (replicate d q))

-- Those of a list whose sum is at least s.
unfoldable pub from_sum : ℕ → List (List ℕ) → List (List ℕ)
from_sum s [] = []
from_sum s (k ∷ ks) = cond (leb s (level_sum k)) (k ∷ from_sum s ks) (from_sum s ks)

-- With d axes and q from d up, as the source has it. The subsets are of the d axes; with level 1 appended the coefficients are the same
-- (`LevelOneFacts.coefficient-same`).
pub record SmolyakFacts : Type 0 where
  -- there is such a J
  pub simplex : (d q : ℕ) → Simplex d q (simplex_of d q)
  -- the coefficient of k is (−1)^(q−|k|) · C(d−1, q−|k|)
  pub coefficient_is : (d q : ℕ) (J : List (List ℕ)) (k : List ℕ) → 1 ≤ d → d ≤ q → Simplex d q J → Memᴰ k J
      → coefficient J k ≡ minus_one_to (q - level_sum k) *ℤ pos (binomial (d - 1) (q - level_sum k))
  -- so it is 0 where |k| < q − d + 1
  pub coefficient_zero : (d q : ℕ) (J : List (List ℕ)) (k : List ℕ) → 1 ≤ d → d ≤ q → Simplex d q J → Memᴰ k J
      → level_sum k < q - d + 1 → coefficient J k ≡ pos 0
  -- up to an excess of 7, which is q − d, all of J is within the ceilings
  pub within_ceilings : (d q : ℕ) (J : List (List ℕ)) (k : List ℕ) → q ≤ d + 7 → Simplex d q J → Memᴰ k J → Within k
  -- the cross total is the source's formula of A(q, d), over all of J, with the full tensor rule of k in place of U^{k1} ⊗ … ⊗ U^{kd}; within
  -- the ceilings they are the same up to the units (`TrapezoidalFacts.tensor`)
  pub sum : (d q : ℕ) (J : List (List ℕ)) (R : Readings) → 1 ≤ d → d ≤ q → Simplex d q J
      → cross_total J R ≡ sum_of J (λ k. minus_one_to (q - level_sum k) *ℤ pos (binomial (d - 1) (q - level_sum k)) *ℤ tensor_rule k R)
  -- and over q − d + 1 ≤ |k| ≤ q alone, as the source writes it, since the others contribute 0
  pub sum_from : (d q : ℕ) (J : List (List ℕ)) (R : Readings) → 1 ≤ d → d ≤ q → Simplex d q J
      → cross_total J R ≡ sum_of (from_sum (q - d + 1) J) (λ k. minus_one_to (q - level_sum k) *ℤ pos (binomial (d - 1) (q - level_sum k)) *ℤ tensor_rule k R)
  -- A(q, d) is defined by the source's (1), the sum of the differences over J; up to an excess of 7 that is the cross total
  pub sum_of_differences : (d q : ℕ) (J : List (List ℕ)) (R : Readings) → 1 ≤ d → q ≤ d + 7 → Simplex d q J → scaled_mean J R ≡ cross_total J R
