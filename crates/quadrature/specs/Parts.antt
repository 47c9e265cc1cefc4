-- The parts of a difference that a walk has still to do, the part of a full tensor rule that a loop has already done, and the part
-- of one record in the sum of differences and in the sum of coefficient times full tensor rule.
use Rattle.std.specs.Prelude.{cond, List, ◌++◌, ℕ, suc, ◌+◌, ◌*◌, ◌-◌, ltb, leb, ℤ, pos, ◌+ℤ◌, ◌*ℤ◌, take, drop}
use Rattle.sums.specs.Sums.{sum_to}
use Rattle.rule.specs.Points.{new_count}
use Rattle.rule.specs.Weights.{whole_weight, difference_weight}
use Rattle.grid.specs.Index.{level}
use Rattle.grid.specs.Block.{block_size}
use Rattle.grid.specs.Difference.{Readings, behind, difference_walk, scaled_difference}
use Rattle.grid.specs.Tensor.{tensor_sum, tensor_rule}
use Rattle.grid.specs.Coefficient.{coefficient}
use Rattle.area.specs.declared.IndexRecord.{IndexRecord}
use Rattle.quadrature.specs.Readings.{record_at, stored_reading}
use Rattle.quadrature.specs.Linked.{delivered_in}

-- The readings that are left to the axes from here on, once the axes passed stand at these levels and at a point of this rank. They are
-- numbered as those axes are walked behind that point (`BlockFacts.behind-point`, crate `grid`).
unfoldable pub left : Readings → List ℕ → ℕ → Readings
left R passed rank = λ ls n. R (passed ++ ls) (rank * block_size ls + n)

-- The same, where the record at a place stands.
abbrev pub left_at : List IndexRecord → List ℤ → ℕ → ℕ → ℕ → Readings
left_at rs s axis place rank = left (stored_reading rs s) (take axis (record_at rs place).levels) rank

-- The new points of a level from `point` on in the order of the walk, `n` of them; below each the axes ks.
unfoldable pub points_left : ℕ → ℕ → ℕ → List ℕ → Readings → ℤ
points_left n point l ks R = sum_to n (λ i. difference_walk ks (behind R l (point + i)))

-- The levels of an axis from l on, `n` of them; in each its points.
unfoldable pub levels_left : ℕ → ℕ → ℕ → List ℕ → Readings → ℤ
levels_left n top l ks R = sum_to n (λ i. difference_weight top (l + i) *ℤ points_left (new_count (l + i)) 0 (l + i) ks R)

-- What a level walk has still to do: the levels from l on of an axis of the job; past the last axis, the reading itself, since the
-- axes left stand at level 1.
unfoldable pub walk_left : ℕ → List ℕ → ℕ → ℕ → Readings → ℤ
walk_left axes k axis l R =
    cond (ltb axis axes) (levels_left (suc (level k axis) - l) (level k axis) l (drop (axis + 1) k) R) (difference_walk (drop axis k) R)

-- The first `n` new points of a level in the order of the walk; below each the full tensor rule of the axes ks.
unfoldable pub points_done : ℕ → ℕ → List ℕ → Readings → ℤ
points_done n l ks R = sum_to n (λ i. tensor_sum ks (behind R l i))

-- The levels below l of an axis with the level `top`, and the first `point` new points of l in the order of the walk.
unfoldable pub tensor_done : ℕ → ℕ → ℕ → List ℕ → Readings → ℤ
tensor_done top l point ks R =
    sum_to (l - 1) (λ i. whole_weight top (suc i) *ℤ points_done (new_count (suc i)) (suc i) ks R) +ℤ whole_weight top l *ℤ points_done point l ks R

-- What the record at a place adds to the sum of differences, and is compared by for the largest: its difference once it is delivered.
unfoldable pub delivered_difference : List IndexRecord → List ℤ → ℕ → ℤ
delivered_difference rs s p = cond (leb 1 (record_at rs p).state) (scaled_difference (record_at rs p).levels (stored_reading rs s)) (pos 0)

-- What the record at a place adds to the cross total: its full tensor rule times its coefficient over the delivered among the held
-- records hs, once it is delivered.
unfoldable pub combined_rule : List IndexRecord → List IndexRecord → List ℤ → ℕ → ℤ
combined_rule hs rs s p =
    cond (leb 1 (record_at rs p).state) (coefficient (delivered_in hs) (record_at rs p).levels *ℤ tensor_rule (record_at rs p).levels (stored_reading rs s)) (pos 0)
