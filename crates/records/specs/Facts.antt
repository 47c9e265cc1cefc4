-- A call looks at no record past the first 512, and leaves those that lie there as they are. So it is enough to serialize 512.
use Rattle.std.specs.Prelude.{◌≡◌, List, ◌++◌, ◌≤◌, length}
use Rattle.area.specs.declared.IndexRecord.{IndexRecord}
use Rattle.area.specs.Encoding.{Area}
use Rattle.calls.specs.Table.{Call}
use Rattle.calls.specs.Calls.{CallResult, call_on}

-- An area, and what a call leaves, with more records behind.
abbrev pub longer : Area → List IndexRecord → Area
longer a more = record { job = a.job; run = record { records = a.run.records ++ more; rest = a.run.rest }; store = a.store }

abbrev pub call_result_longer : CallResult → List IndexRecord → CallResult
call_result_longer x more = record { answer = x.answer; area = longer x.area more }

abbrev pub ExtraRecordsIgnored : Type 0
ExtraRecordsIgnored = (a : Area) (more : List IndexRecord) (c : Call) → 512 ≤ length a.run.records → call_on (longer a more) c ≡ call_result_longer (call_on a c) more
