-- The difference of an index ("Blocks and differences"), with the weights of the difference rule.
-- Readings come in as a function of the index and of the point's number in its block: they are numbered in the order of the walk.
use Rattle.std.specs.Prelude.{List, [], ◌∷◌, ℕ, suc, ◌+◌, ◌*◌, ◌-◌, ◌^◌, ℤ, pos, ◌*ℤ◌}
use Rattle.sums.specs.Sums.{sum_to, sum_of}
use Rattle.rule.specs.Points.{new_count}
use Rattle.rule.specs.Rules.{unit}
use Rattle.rule.specs.Weights.{difference_weight}
use Rattle.grid.specs.Index.{lower}
use Rattle.grid.specs.Block.{block_size}

abbrev pub Readings : Type 0
Readings = List ℕ → ℕ → ℤ

-- The units of the axes' levels together: a product of weights of k is in units of 2^−(units k).
unfoldable pub units : List ℕ → ℕ
units [] = 0
units (k ∷ ks) = unit k + units ks

-- The product of the axes' difference weights: k is the index, l the index in whose block the reading lies.
unfoldable pub difference_product : List ℕ → List ℕ → ℤ
difference_product [] [] = pos 1
difference_product [] (l ∷ ls) = pos 0
difference_product (k ∷ ks) [] = pos 0
difference_product (k ∷ ks) (l ∷ ls) = difference_weight k l *ℤ difference_product ks ls

-- The *difference* of an index: the sum of all readings of its own block and of the blocks of every index that is nowhere
-- higher, each times the product of the axes' weights, in units of 2^−(units k).
unfoldable pub difference_sum : List ℕ → Readings → ℤ
difference_sum k R = sum_of (lower k) (λ l. sum_to (block_size l) (λ n. difference_product k l *ℤ R l n))

-- The difference times 2^20; within the ceilings units k is at most 20, so it is a whole number.
unfoldable pub scaled_difference : List ℕ → Readings → ℤ
scaled_difference k R = pos (2 ^ (20 - units k)) *ℤ difference_sum k R

-- The readings that are left to the later axes once the first stands at its n-th point of level l in the order of the walk; they are
-- numbered as the later axes are walked behind that point (`BlockFacts.behind-point`).
unfoldable pub behind : Readings → ℕ → ℕ → Readings
behind R l n = λ ls m. R (l ∷ ls) (n * block_size ls + m)

-- The same worked axis by axis: along an axis the levels are gone through, in each level its points in the order of the walk, and
-- below each point the next axis.
unfoldable pub difference_walk : List ℕ → Readings → ℤ
difference_walk [] R = R [] 0
difference_walk (k ∷ ks) R =
    sum_to k (λ i. difference_weight k (suc i) *ℤ sum_to (new_count (suc i)) (λ n. difference_walk ks (behind R (suc i) n)))

-- The *scaled mean* of a list of delivered indices, none twice: the sum of their differences times 2^20.
unfoldable pub scaled_mean : List (List ℕ) → Readings → ℤ
scaled_mean J R = sum_of J (λ k. scaled_difference k R)
