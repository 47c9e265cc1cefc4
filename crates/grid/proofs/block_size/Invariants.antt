-- `grid::block_size` meets its contract: the size so far times the size over the axes left is the whole size, which is at most
-- 4,096 within the ceilings. Assumes nothing.
use Rattle.std.proofs.Common.{◌≡◌, ◌*◌, drop}
use Rattle.grid.specs.Block.{block_size}
use Rattle.grid.proofs.block_size.Given as goal

abbrev pub invariant-loop-level : goal.invariant-loop-level
invariant-loop-level l = block_size l.fn.levels ≡ l.size * block_size (drop l.level-index l.fn.levels)
