-- `figures::figures_difference` meets its contract: the place is one of the records that the cells have room for. Assumes nothing.
use Rattle.std.proofs.Common.{arith}
use Rattle.area.proofs.Records.{length-records_of}
use Rattle.figures.proofs.figures_difference.Goals as goal

pub levels-requires : goal.levels-requires
levels-requires c = rw c.all-records.ensures (omega (arith, length-records_of c.args.cells.now, c.requires.0))
