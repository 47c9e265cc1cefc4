-- Over lent records of the struct's type the pending error that doubles reports loses nothing.
-- The idea: the held records are the first of those lent, and the type has each indicator in 32 bits.
-- Assumes nothing.
use Prim.Native.Nat.{◌^◌, ◌<◌}
use Rattle.area.specs.declared.IndexRecord.{IndexRecord}
use Rattle.calls.proofs.ReportTold.{report-facts}
use Rattle.records.specs.Lent.{area_on}
use Rattle.records.specs.PendingError.{PendingOnRecords}
use Rattle.records.proofs.WellFormed.{each_taken}
use Rattle.records.proofs.Unwritten.{unwritten}

pub pending_records : PendingOnRecords
pending_records j rs s r typed told =
    report-facts.pending (area_on j rs s) r told (each_taken (λ (x : IndexRecord). x.indicator < 2 ^ 32) j.held rs (unwritten.typed_indicators rs typed))
