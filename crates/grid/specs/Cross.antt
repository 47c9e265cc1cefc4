-- The cross total ("Blocks and differences").
use Rattle.std.specs.Prelude.{List, ℕ, ℤ, ◌*ℤ◌}
use Rattle.sums.specs.Sums.{sum_of}
use Rattle.grid.specs.Difference.{Readings}
use Rattle.grid.specs.Coefficient.{coefficient}
use Rattle.grid.specs.Tensor.{tensor_rule}

-- The *cross total*: the sum of full tensor rules over the delivered indices, each times its combination coefficient.
unfoldable pub cross_total : List (List ℕ) → Readings → ℤ
cross_total J R = sum_of J (λ k. coefficient J k *ℤ tensor_rule k R)
