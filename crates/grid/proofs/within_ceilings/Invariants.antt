-- `grid::within_ceilings` meets its contract: the axes passed are in range, and their excess with that of the axes left is the
-- whole excess. Assumes nothing.
use Rattle.std.proofs.Common.{◌≡◌, ◌≤◌, ◌+◌, ◌*◌, drop}
use Rattle.grid.specs.Index.{excess, levels_within}
use Rattle.grid.proofs.within_ceilings.Given as goal

abbrev pub invariant-loop-level : goal.invariant-loop-level
invariant-loop-level l =
    (l.excess ≤ 7 * l.level-index) × (levels_within l.fn.levels ≡ levels_within (drop l.level-index l.fn.levels)) × (excess l.fn.levels ≡ l.excess + excess (drop l.level-index l.fn.levels))
