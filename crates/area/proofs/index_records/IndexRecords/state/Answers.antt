-- `IndexRecords::state` meets its contract: the cell of the row is the record's. Assumes nothing.
use mathlib.Core.Path.{ap}
use Rattle.area.specs.declared.IndexRecord.{IndexRecord}
use Rattle.area.specs.Records.{record_of}
use Rattle.area.proofs.index_records.IndexRecords.state.Goals as goal

pub returns : goal.returns
unfolding record_of
returns c = ap (λ (r : IndexRecord). r.state) c.row.ensures.record
