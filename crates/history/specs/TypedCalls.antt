-- Lists of calls whose deliveries have 32-bit indicators, as their type has it: then every indicator in the log is one, and the pending error that
-- doubles reports loses nothing, with no premise on the log (`ReportByLog.pending`). Over cells and over lent records; after lists of exported
-- calls it is `ExportsFound.exact-pending`.
use Rattle.std.specs.Prelude.{◌≡◌, List, [], ◌∷◌, map, ℕ, ◌^◌, ◌<◌, pos}
use Rattle.doubles.specs.Exact.{LosesNothing}
use Rattle.area.specs.declared.Settings.{Settings}
use Rattle.area.specs.Entry.{pending_of}
use Rattle.encoding.specs.Encodes.{WellFormed}
use Rattle.encoding.specs.Entries.{entry_at}
use Rattle.machine.specs.Steps.{start_log}
use Rattle.counting.specs.Doubles.{doubles_of}
use Rattle.calls.specs.Replies.{accepted}
use Rattle.calls.specs.Table.{Call, start, point, points, deliver, choose, promote, result, doubles, cross_total, check, answer}
use Rattle.calls.specs.Calls.{call_on}
use Rattle.history.specs.LentCalls.{LentCall}
use Rattle.history.specs.Logged.{state_of, log_after}
use Rattle.history.specs.Storage.{Storage, area_lent, AllLent}
use Rattle.history.specs.OnRecords.{RecordStorage, RecordCall, call_in_cells, records_lent, AllLentRecords}

-- The indicator of a delivery has 32 bits; other calls have none.
abbrev pub IndicatorFits : Call → Type 0
IndicatorFits (start g) = Unit {0}
IndicatorFits (point n buffer) = Unit {0}
IndicatorFits (points n buffer) = Unit {0}
IndicatorFits (deliver rs i) = i < 2 ^ 32
IndicatorFits choose = Unit {0}
IndicatorFits (promote p) = Unit {0}
IndicatorFits result = Unit {0}
IndicatorFits doubles = Unit {0}
IndicatorFits cross_total = Unit {0}
IndicatorFits check = Unit {0}

abbrev pub AllFit : List LentCall → Type 0
AllFit [] = Unit {0}
AllFit (x ∷ xs) = IndicatorFits x.call × AllFit xs

pub record TypedReports : Type 0 where
  -- every indicator in the log is a 32-bit number
  pub indicators : (g : Settings) (later : List LentCall) → AllFit later → (p : ℕ) → (entry_at (log_after (start_log g) later).entries p).indicator < 2 ^ 32
  -- so after every list of the third demand (`ThirdDemand`) the pending error loses nothing
  pub cells : (w : Storage) (first : LentCall) (later : List LentCall) (g : Settings) → AllLent w (first ∷ later)
      → first.call ≡ start g → (call_on (area_lent w first.part) (start g)).answer ≡ answer accepted → AllFit later
      → LosesNothing (doubles_of (state_of (log_after (start_log g) later))).pending (pos (pending_of (log_after (start_log g) later).entries)) 1
  -- and over lent records (`ThirdDemandOnRecords`)
  pub records : (w : RecordStorage) (first : RecordCall) (later : List RecordCall) (g : Settings) → WellFormed w.records → AllLentRecords w (first ∷ later)
      → first.call ≡ start g → (call_on (records_lent w first.part) (start g)).answer ≡ answer accepted → AllFit (map call_in_cells later)
      → LosesNothing (doubles_of (state_of (log_after (start_log g) (map call_in_cells later)))).pending (pos (pending_of (log_after (start_log g) (map call_in_cells later)).entries)) 1
