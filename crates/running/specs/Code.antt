-- What the code's answers come to.
use Rattle.std.specs.Prelude.{◌≡◌, cond, List, ◌++◌, ℕ, ◌+◌, ◌-◌, ◌<◌, ltb, ℤ, length, drop, ◌≤◌, Ok, Err, Option, Some, None}
use Rattle.std.specs.Prelude as std
use Rattle.area.specs.Log.{Machine}
use Rattle.area.specs.Encoding.{area_of, machine_of}
use Rattle.machine.specs.Log.{any_wanted}
use Rattle.writing.specs.ValidArea.{ValidArea}
use Rattle.calls.specs.Cause.{number_of_cause}
use Rattle.reporting.specs.declared.ReportValues as coded
use Rattle.reporting.specs.Code.{ending_in, report_values_in}
use Rattle.reporting.specs.Text.{ReportValues, report_text, refusal_text}
use Rattle.jobfile.specs.Form.{entry_count}
use Rattle.running.specs.declared.Refusal.{Refusal}
use Rattle.running.specs.declared.RefusalCause.{RefusalCause}
use Rattle.running.specs.declared.RefusalCause.TheVariants as causes
use Rattle.running.specs.declared.Execution.{Execution}
use Rattle.reporting.specs.declared.Ending.{Ending}
use Rattle.jobfile.specs.Facts.{FormedFile}
use Rattle.running.specs.declared.TooShort.{TooShort}
use Rattle.running.specs.Execution.{Result, refused_at, ended, unfinished, execution, result_of}
use Rattle.running.specs.Report.{report_values_of, text_of}

-- The number of a refusal's cause: 10, 12 or 13 for the part of the file whose form is broken, and a call's cause has its own.
abbrev pub number_of : RefusalCause → ℕ
number_of causes.Header = 10
number_of causes.Entry = 12
number_of causes.Readings = 13
number_of (causes.Call cause) = number_of_cause cause

-- The state of an execution under way.
abbrev pub state_of : Execution → Machine
state_of r = machine_of (area_of r.job r.cells r.store)

-- It is the execution of a file c of the right form, in a valid area.
pub record ValidExecution (c : List ℕ) (r : Execution) : Type 0 where
  pub bytes : r.bytes.now ≡ c
  pub formed : FormedFile c
  pub entries : r.entries ≡ entry_count c
  pub used : r.used ≤ r.entries
  pub area : ValidArea (area_of r.job r.cells r.store)

-- The result of an execution of c that goes on with a delivery, n steps at most after it: r is what the delivery left.
unfoldable pub after_delivery : List ℕ → (n : ℕ) → Execution → std.Result (Unit {0}) Refusal → Result
after_delivery c n r (Err e) = refused_at (number_of e.cause) e.byte
after_delivery c n r (Ok _) = execution c n (state_of r) r.used

-- The same with a step, which says whether the execution has ended.
unfoldable pub after_step : List ℕ → (n : ℕ) → Execution → std.Result (Option Ending) Refusal → Result
after_step c n r (Err e) = refused_at (number_of e.cause) e.byte
after_step c n r (Ok (Some e)) = ended (ending_in e) (state_of r) r.used
after_step c n r (Ok None) = execution c n (state_of r) r.used

-- A step that ends the execution leaves the area as it was, and delivers nothing. `after_step` says this of the state alone; here it is said of each cell
-- and each reading, those past the held ones too.
abbrev pub LeftAtEnd : Execution → Execution → std.Result (Option Ending) Refusal → Type 0
LeftAtEnd before after (Err r) = Unit {0}
LeftAtEnd before after (Ok (Some e)) = (area_of after.job after.cells after.store ≡ area_of before.job before.cells before.store) × (after.used ≡ before.used)
LeftAtEnd before after (Ok None) = Unit {0}

-- A step that goes on delivers one entry where a block is wanted, and none where a place is promoted. That the entry was one of those left follows,
-- as the execution stays valid.
abbrev pub CountedOn : Execution → Execution → std.Result (Option Ending) Refusal → Type 0
CountedOn before after (Err r) = Unit {0}
CountedOn before after (Ok (Some e)) = Unit {0}
CountedOn before after (Ok None) = after.used ≡ cond (any_wanted (state_of before).log.entries) (before.used + 1) before.used

-- The text for what a run gives: the report of its figures, or the line of its refusal.
abbrev pub text_for : std.Result coded.ReportValues Refusal → List ℕ
text_for (Ok values) = report_text (report_values_in values)
text_for (Err r) = refusal_text (number_of r.cause) r.byte

-- A text at the beginning of a buffer, and its length.
pub record Printed (text before after : List ℕ) (end : ℕ) : Type 0 where
  pub bytes : after ≡ text ++ drop (length text) before
  pub count : end ≡ length text

-- ---- what `run` answers

pub data RunAnswer : Type 0 where
  -- the buffer is too short for a text; this is no cause of the table and has no number
  too_short : RunAnswer
  -- the report with these figures was written, so many bytes
  report : ReportValues → (count : ℕ) → RunAnswer
  -- only `refused N at B` was written, with the number of the cause and the byte that it names, so many bytes
  refusal : (number byte count : ℕ) → RunAnswer
  -- nothing was written; that this never comes is a fact
  nothing : (count : ℕ) → RunAnswer

-- What was written for a result; n is the number of the file's entries.
unfoldable pub written_for : (n : ℕ) → Result → (count : ℕ) → RunAnswer
written_for n (refused_at number byte) count = refusal number byte count
written_for n (ended e m i) count = report (report_values_of e m (n - i)) count
written_for n unfinished count = nothing count

-- The code's answer on the file c, case by case. Reports and refusals have one case: which of the two was written, with which figures or which
-- number and byte, the file decides.
unfoldable pub answer_in : (c : List ℕ) → std.Result ℕ TooShort → RunAnswer
answer_in c (Err _) = too_short
answer_in c (Ok count) = written_for (entry_count c) (result_of c) count

-- What `run` leaves: its answer and the buffer. A buffer of fewer than 512 bytes is left as it was.
pub record RunResult : Type 0 where
  pub answer : RunAnswer
  pub buffer : List ℕ

unfoldable pub run_on : List ℕ → List ℕ → RunResult
run_on c buffer =
    cond (ltb (length buffer) 512) (record { answer = too_short; buffer = buffer })
    (record { answer = written_for (entry_count c) (result_of c) (length (text_of c)); buffer = text_of c ++ drop (length (text_of c)) buffer })
