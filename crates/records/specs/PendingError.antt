-- The pending error that doubles reports over lent records of the struct's type: it is exactly the recorded one, altered area or not. Crate
-- `calls` says this of every area whose indicators are 32-bit numbers (specs/Doubles.antt, `ReportFacts.pending`); the struct's type has them so.
use Rattle.std.specs.Prelude.{List, ℤ, pos}
use Rattle.doubles.specs.declared.Report.{Report}
use Rattle.doubles.specs.Exact.{LosesNothing}
use Rattle.area.specs.declared.IndexRecord.{IndexRecord}
use Rattle.area.specs.declared.JobRecord.{JobRecord}
use Rattle.calls.specs.Doubles.{Reports}
use Rattle.records.specs.Lent.{area_on}
use Rattle.records.specs.Unwritten.{TypedRun}

abbrev pub PendingOnRecords : Type 0
PendingOnRecords = (j : JobRecord) (rs : List IndexRecord) (s : List ℤ) (r : Report) → TypedRun rs → Reports (area_on j rs s) r → LosesNothing r.pending (pos j.pending) 1
