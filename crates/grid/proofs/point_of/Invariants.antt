-- `grid::point_of` meets its contract: the positions passed are stored, their rank is carried, and the number left is that of the point
-- over the axes left. Assumes nothing.
use Rattle.std.proofs.Common.{◌≡◌, ◌+◌, ◌*◌, ◌<◌, ◌++◌, length, take, drop}
use Rattle.grid.specs.Block.{block_size, point_after, point_of}
use Rattle.grid.proofs.point_of.Given as goal

abbrev pub invariant-loop-axis : goal.invariant-loop-axis
invariant-loop-axis l =
    record {
      eight : length l.point ≡ 8;
      size : l.size ≡ block_size (drop l.axis l.fn.levels);
      left : l.left < l.size;
      point : point_of l.fn.levels l.n ≡ take l.axis l.point ++ point_after l.rank (drop l.axis l.fn.levels) l.left;
      rank : l.rank * l.size + l.left ≡ l.n;
    }
