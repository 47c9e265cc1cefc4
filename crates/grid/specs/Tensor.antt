-- The full tensor rule of an index ("Blocks and differences"), with the weights of the whole rule.
use Rattle.std.specs.Prelude.{List, [], ◌∷◌, ℕ, suc, ◌-◌, ◌^◌, ℤ, pos, ◌*ℤ◌}
use Rattle.sums.specs.Sums.{sum_to}
use Rattle.rule.specs.Points.{new_count}
use Rattle.rule.specs.Weights.{whole_weight}
use Rattle.grid.specs.Difference.{Readings, units, behind}

-- The product of the axes' whole rules, one axis taken off at a time, in units of 2^−(units k): along the first axis every
-- level up to k, in each level its new points in the order of the walk, and at each point the rule of the remaining axes.
unfoldable pub tensor_sum : List ℕ → Readings → ℤ
tensor_sum [] R = R [] 0
tensor_sum (k ∷ ks) R =
    sum_to k (λ i. whole_weight k (suc i) *ℤ sum_to (new_count (suc i)) (λ n. tensor_sum ks (behind R (suc i) n)))

-- The *full tensor rule* of an index is taken times 2^20, like the difference.
unfoldable pub tensor_rule : List ℕ → Readings → ℤ
tensor_rule k R = pos (2 ^ (20 - units k)) *ℤ tensor_sum k R
