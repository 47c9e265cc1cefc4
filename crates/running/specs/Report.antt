-- What a run prints: the report of its ending, or only `refused N at B`.
use Rattle.std.specs.Prelude.{List, [], ℕ, ◌-◌}
use Rattle.area.specs.Log.{Machine}
use Rattle.machine.specs.Counts.{counts_of}
use Rattle.jobfile.specs.Form.{entry_count}
use Rattle.reporting.specs.Text.{Ending, ReportValues, report_text, refusal_text}
use Rattle.running.specs.Execution.{Result, refused_at, ended, unfinished, result_of}

-- `axes` is d, `unused` counts entries not delivered, and `end` names the ending. The other lines are Result's.
unfoldable pub report_values_of : Ending → Machine → (unused : ℕ) → ReportValues
report_values_of e m u =
    record {
      axes = m.log.settings.axes;
      old = (counts_of m).old;
      active = (counts_of m).active;
      wanted = (counts_of m).wanted;
      reserved = (counts_of m).reserved;
      pending = (counts_of m).pending;
      carried = (counts_of m).carried;
      ceiling = (counts_of m).ceiling;
      scaled = (counts_of m).mean;
      unused = u;
      ending = e;
    }

-- n is the number of the file's entries.
unfoldable pub text_in : ℕ → Result → List ℕ
text_in n (refused_at number byte) = refusal_text number byte
text_in n (ended e m i) = report_text (report_values_of e m (n - i))
text_in n unfinished = []

-- The text that a file's bytes give.
unfoldable pub text_of : List ℕ → List ℕ
text_of c = text_in (entry_count c) (result_of c)
