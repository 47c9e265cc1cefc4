-- `grid::forward_neighbour` meets its contract: the copy gets one element stored. Assumes nothing.
use mathlib.Core.Path.{refl}
use Rattle.grid.specs.Index.{forward}
use Rattle.grid.proofs.forward_neighbour.Goals as goal

pub returns : goal.returns
unfolding forward
returns c = refl
