-- `IndexRecords::all` meets its contract: they are all that there are. Assumes nothing.
use Prim.Native.Nat.{◌/◌}
use native.Mathlib.Omega.{arith}
use lib.ListN.{length}
use lib.Seq.{take_all}
use Rattle.area.specs.Records.{records_of, held_in}
use Rattle.area.proofs.Records.{length-records_of}
use Rattle.area.proofs.index_records.IndexRecords.all.Goals as goal

pub returns : goal.returns
unfolding held_in
returns c = take_all (length c.args.cells.now / 27) (records_of c.args.cells.now) (omega (arith, length-records_of c.args.cells.now))
