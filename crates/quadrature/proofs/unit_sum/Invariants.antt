-- `quadrature::unit_sum` meets its contract: the units so far and those of the axes left are the whole. Assumes nothing.
use Rattle.std.proofs.Common.{◌≡◌, ◌≤◌, ◌+◌, ◌*◌, drop}
use Rattle.grid.specs.Difference.{units}
use Rattle.quadrature.proofs.unit_sum.Given as goal

abbrev pub invariant-loop-level : goal.invariant-loop-level
invariant-loop-level l = (l.units ≤ 8 * l.level-index) × (units l.fn.target ≡ l.units + units (drop l.level-index l.fn.target))
