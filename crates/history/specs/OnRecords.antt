-- Lists of calls over lent index record structs (crate `records`). The work area has records where Storage.antt has cells; a call is lent so
-- many of them. The calls are the same definitions, at the area that the contracts of `records` name (its specs/Lent.antt), and so is the log:
-- a call that is lent n records is, for the log, a call that is lent 27·n cells.
use Rattle.std.specs.Prelude.{◌≡◌, true, ℕ, ◌*◌, ◌<◌, ◌≤◌, ℤ, length, take, drop}
use mathlib.Core.List.{List, [], ◌∷◌, ◌++◌, map, Memᴰ}
use Rattle.area.specs.declared.IndexRecord.{IndexRecord}
use Rattle.area.specs.declared.JobRecord.{JobRecord}
use Rattle.area.specs.declared.Settings.{Settings}
use Rattle.area.specs.Settings.{least_store}
use Rattle.area.specs.Log.{Log}
use Rattle.area.specs.Encoding.{Area, entries_of, job_with}
use Rattle.soundness.specs.Clauses.{checked}
use Rattle.encoding.specs.Encodes.{WellFormed}
use Rattle.encoding.specs.Entries.{entry_at}
use Rattle.machine.specs.Steps.{start_log}
use Rattle.machine.specs.Counts.{counts_of}
use Rattle.machine.specs.Means.{mean_of, cross_of}
use Rattle.counting.specs.Doubles.{doubles_of}
use Rattle.calls.specs.Replies.{refused, accepted, counts, doubled, total}
use Rattle.calls.specs.Table.{Call, start, result, doubles, cross_total, Answer, answer}
use Rattle.calls.specs.Calls.{CallResult, call_on}
use Rattle.records.specs.Lent.{area_on}
use Rattle.records.specs.Unwritten.{TypedRun}
use Rattle.history.specs.LentCalls.{Part, LentCall}
use Rattle.history.specs.Logged.{state_of, log_after, answers_by}
use Rattle.history.specs.Doubles.{ReportByLog}
use Rattle.history.specs.Found.{Neighbours, LinksAgree}
use Rattle.history.specs.Promotions.{promotions_after, AllChosen}
use Rattle.history.specs.Source.{MeanFollows, StepsFollow, RuleFollows}
use Rattle.history.specs.Spent.{Admissions}

pub record RecordStorage : Type 0 where
  pub job : JobRecord
  pub records : List IndexRecord
  pub store : List ℤ

-- How much is lent: so many records and so many readings, counted from the start of each; the job record always is.
pub record RecordPart : Type 0 where
  pub records : ℕ
  pub readings : ℕ

pub record RecordCall : Type 0 where
  pub call : Call
  pub part : RecordPart

-- The same in cells, 27 to a record.
abbrev pub in_cells : RecordPart → Part
in_cells x = record { cells = x.records * 27; readings = x.readings }

abbrev pub call_in_cells : RecordCall → LentCall
call_in_cells x = record { call = x.call; part = in_cells x.part }

-- ---- the calls

-- What a call is lent.
unfoldable pub records_lent : RecordStorage → RecordPart → Area
records_lent w x = area_on w.job (take x.records w.records) (take x.readings w.store)

-- It is lent no more than there is.
pub record LentRecords (w : RecordStorage) (x : RecordPart) : Type 0 where
  pub records : x.records ≤ length w.records
  pub readings : x.readings ≤ length w.store

abbrev pub AllLentRecords : RecordStorage → List RecordCall → Type 0
AllLentRecords w [] = Unit {0}
AllLentRecords w (x ∷ xs) = LentRecords w x.part × AllLentRecords w xs

unfoldable pub call_in_records : RecordStorage → RecordCall → CallResult
call_in_records w x = call_on (records_lent w x.part) x.call

-- The area as the call leaves it, back in its place; what was not lent stays.
unfoldable pub records_returned : RecordStorage → RecordPart → Area → RecordStorage
records_returned w x a = record { job = a.job; records = a.run.records ++ drop x.records w.records; store = a.store ++ drop x.readings w.store }

unfoldable pub records_step : RecordStorage → RecordCall → RecordStorage
records_step w x = records_returned w x.part (call_in_records w x).area

unfoldable pub records_after : RecordStorage → List RecordCall → RecordStorage
records_after w [] = w
records_after w (x ∷ xs) = records_after (records_step w x) xs

unfoldable pub records_answers : RecordStorage → List RecordCall → List Answer
records_answers w [] = []
records_answers w (x ∷ xs) = (call_in_records w x).answer ∷ records_answers (records_step w x) xs

-- ---- what is found, field by field as in Found.antt

pub record RecordsFound (w : RecordStorage) (l : Log) : Type 0 where
  -- the held records are the log's entries in order, with its states, indicators and readings
  pub entries : entries_of (area_on w.job w.records w.store) ≡ l.entries
  -- the indicators are 0 while wanted
  pub wanted_indicator_zero : (p : ℕ) → p < length l.entries → (entry_at l.entries p).state ≡ 0 → (entry_at l.entries p).indicator ≡ 0
  -- the job record is worked from the log
  pub job : w.job ≡ job_with (state_of l)
  -- the area is sound
  pub sound : checked (area_on w.job w.records w.store) ≡ true
  pub neighbours : Neighbours l.settings.axes l.entries
  pub links : LinksAgree l.entries w.records
  -- the storage is long enough for the settings
  pub enough : (512 ≤ length w.records) × (least_store l.settings ≤ length w.store)
  -- so result and cross total, called on the whole of it, answer one and the same mean with nothing asked: the sum of full tensor rules
  -- over the delivered indices, each times its combination coefficient
  pub whole_result : (call_on (area_on w.job w.records w.store) result).answer ≡ answer (counts (counts_of (state_of l)))
  pub whole_cross : (call_on (area_on w.job w.records w.store) cross_total).answer ≡ answer (total (cross_of l.entries))
  pub alike : (counts_of (state_of l)).mean ≡ cross_of l.entries
  -- and doubles answers the report of the log's state
  pub whole_doubles : (call_on (area_on w.job w.records w.store) doubles).answer ≡ answer (doubled (doubles_of (state_of l)))
  -- and so they do on any part that is long enough
  pub result : (x : RecordPart) → LentRecords w x → 512 ≤ x.records → least_store l.settings ≤ x.readings
      → (call_on (records_lent w x) result).answer ≡ answer (counts (counts_of (state_of l)))
  pub cross : (x : RecordPart) → LentRecords w x → 512 ≤ x.records → least_store l.settings ≤ x.readings → (call_on (records_lent w x) cross_total).answer ≡ answer (total (cross_of l.entries))
  pub doubles : (x : RecordPart) → LentRecords w x → 512 ≤ x.records → least_store l.settings ≤ x.readings
      → (call_on (records_lent w x) doubles).answer ≡ answer (doubled (doubles_of (state_of l)))
  -- the mean is also the sum of the delivered indices' differences
  pub mean : cross_of l.entries ≡ mean_of l.entries
  -- the report's doubles are exactly that mean, the largest delivered difference and, where indicators have 32 bits (TypedCalls.antt), the pending
  -- error
  pub report : ReportByLog l

-- After `first`, a start with the settings g, and `later`:
pub record RecordsDemand (w : RecordStorage) (first : RecordCall) (later : List RecordCall) (g : Settings) : Type 0 where
  -- every answer, refusals included, follows from the arguments and the log
  pub answers : records_answers w (first ∷ later) ≡ answer accepted ∷ answers_by (start_log g) (map call_in_cells later)
  -- and 4 never comes
  pub never_unsound : (y : Answer) → Memᴰ y (records_answers w (first ∷ later)) → y.reply ≡ refused 4 → ⊥
  -- the storage is as long as before
  pub records : length (records_after w (first ∷ later)).records ≡ length w.records
  pub store : length (records_after w (first ∷ later)).store ≡ length w.store
  pub found : RecordsFound (records_after w (first ∷ later)) (log_after (start_log g) (map call_in_cells later))
  -- the second demand, of the same log: mean, steps and admissions are the published algorithm's
  pub means : MeanFollows (log_after (start_log g) (map call_in_cells later))
  pub steps : StepsFollow (log_after (start_log g) (map call_in_cells later)) (promotions_after (start_log g) [] (map call_in_cells later))
  pub by_rule : AllChosen (start_log g) (map call_in_cells later) → RuleFollows (log_after (start_log g) (map call_in_cells later)) (promotions_after (start_log g) [] (map call_in_cells later))
  pub admissions : Admissions (log_after (start_log g) (map call_in_cells later))

-- The third demand over lent records, whatever they hold. Every record of the struct's type has eight levels and sixteen links (crate
-- `records`, specs/Unwritten.antt, `RecordTyped`), so that is asked of the list.
abbrev pub ThirdDemandOnRecords : Type 0
ThirdDemandOnRecords = (w : RecordStorage) (first : RecordCall) (later : List RecordCall) (g : Settings) → WellFormed w.records → AllLentRecords w (first ∷ later)
    → first.call ≡ start g → (call_on (records_lent w first.part) (start g)).answer ≡ answer accepted → RecordsDemand w first later g

-- So it holds of all records of the struct's type, which are what a caller lends.
abbrev pub ThirdDemandOnTypedRecords : Type 0
ThirdDemandOnTypedRecords = (w : RecordStorage) (first : RecordCall) (later : List RecordCall) (g : Settings) → TypedRun w.records → AllLentRecords w (first ∷ later)
    → first.call ≡ start g → (call_on (records_lent w first.part) (start g)).answer ≡ answer accepted → RecordsDemand w first later g
