-- `IndexRecords::record` meets its contract: the row's parts are the record's. Assumes nothing.
use Rattle.area.specs.Records.{record_of}
use Rattle.area.proofs.index_records.IndexRecords.record.Goals as goal

pub returns : goal.returns
unfolding record_of
returns c = rw (c.run_at.ensures, c.run_at-2.ensures) c.row-row.ensures.record
