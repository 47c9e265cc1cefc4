-- `figures::figures_coefficient` meets its contract: there are as many held records as are asked for. Assumes nothing.
use Rattle.std.proofs.Common.{arith}
use Rattle.quadrature.proofs.Held.{held_length}
use Rattle.figures.proofs.figures_coefficient.Goals as goal

pub coefficient-requires : goal.coefficient-requires
coefficient-requires c = rw c.first-records.ensures (c.requires.0, omega (arith, held_length c.args.cells.now c.args.held c.requires.1, c.requires.2))
