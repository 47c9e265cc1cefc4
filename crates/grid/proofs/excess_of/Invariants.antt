-- `grid::excess_of` meets its contract: the excess so far and that of the axes left are the whole. Assumes nothing.
use Rattle.std.proofs.Common.{◌≡◌, ◌≤◌, ◌+◌, ◌*◌, drop}
use Rattle.grid.specs.Index.{excess}
use Rattle.grid.proofs.excess_of.Given as goal

abbrev pub invariant-loop-level : goal.invariant-loop-level
invariant-loop-level l = (l.sum ≤ 7 * l.level-index) × (excess l.fn.levels ≡ l.sum + excess (drop l.level-index l.fn.levels))
