-- The area over a lent run of index record structs. It is an area with no cells past the last record, so each contract is that of the call
-- on cells (crate `calls`, specs/Calls.antt; check: crate `soundness`, specs/Clauses.antt), at this area.
use Rattle.std.specs.Prelude.{List, [], ◌++◌, ℕ, ℤ, take, drop}
use Rattle.area.specs.declared.IndexRecord.{IndexRecord}
use Rattle.area.specs.declared.JobRecord.{JobRecord}
use Rattle.area.specs.Records.{Run, records_of}
use Rattle.area.specs.Encoding.{Area}
use Rattle.calls.specs.Replies.{Reply}
use Rattle.calls.specs.Table.{answer}
use Rattle.calls.specs.Calls.{CallResult}

abbrev pub area_on : JobRecord → List IndexRecord → List ℤ → Area
area_on j rs s = record { job = j; run = record { records = rs; rest = [] }; store = s }

-- What a call leaves: its answer, and the area over the job record and the records as they are then.
abbrev pub call_result_on : Reply → JobRecord → List IndexRecord → List ℤ → CallResult
call_result_on r j rs s = record { answer = answer r; area = area_on j rs s }

-- ---- for the functions between the records and the cells

-- The first n of a list, over the front of another.
unfoldable pub over : {A : Type 0} → ℕ → List A → List A → List A
over n xs ys = take n xs ++ drop n ys

abbrev pub over_run : ℕ → List IndexRecord → Run → Run
over_run n rs u = record { records = over n rs u.records; rest = u.rest }

-- The first n records that cells hold.
unfoldable pub front : ℕ → List ℕ → List IndexRecord
front n c = take n (records_of c)
