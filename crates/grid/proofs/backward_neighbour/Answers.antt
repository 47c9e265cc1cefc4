-- `grid::backward_neighbour` meets its contract: the copy gets one element stored. Assumes nothing.
use mathlib.Core.Path.{refl}
use Rattle.grid.specs.Index.{backward}
use Rattle.grid.proofs.backward_neighbour.Goals as goal

pub returns : goal.returns
unfolding backward
returns c = refl
