-- Where deliveries have 32-bit indicators the pending error that doubles reports loses nothing, over cells and over lent records: the third demand's
-- report, with its premise met.
-- Assumes nothing.
use mathlib.Core.List.{List, map}
use Prim.Native.Nat.{ℕ, ◌^◌, ◌<◌}
use Rattle.area.specs.declared.Settings.{Settings}
use Rattle.encoding.specs.Entries.{entry_at}
use Rattle.machine.specs.Steps.{start_log}
use Rattle.history.specs.LentCalls.{LentCall}
use Rattle.history.specs.Logged.{log_after}
use Rattle.history.specs.OnRecords.{call_in_cells}
use Rattle.history.specs.TypedCalls.{AllFit, TypedReports}
use Rattle.history.proofs.SmallIndicators.{small_at, started_small, after_small}
use Rattle.history.proofs.Demand.{third_demand}
use Rattle.history.proofs.OnRecords.{third_demand_on_records}

indicators : (g : Settings) (later : List LentCall) → AllFit later → (p : ℕ) → (entry_at (log_after (start_log g) later).entries p).indicator < 2 ^ 32
indicators g later fit = small_at (log_after (start_log g) later).entries (after_small (start_log g) (started_small g) later fit)

pub typed_reports : TypedReports
typed_reports =
    record {
      indicators = indicators;
      cells = λ w first later g lent is taken fit. (third_demand w first later g lent is taken).found.report.pending (λ p inside. indicators g later fit p);
      records = λ w first later g f lent is taken fit. (third_demand_on_records w first later g f lent is taken).found.report.pending (λ p inside. indicators g (map call_in_cells later) fit p);
    }
