-- The code's figures as the text's, and the parts of a report that it writes one after the other.
use Rattle.std.specs.Prelude.{List, ◌++◌, ℕ}
use Rattle.reporting.specs.declared.Ending as code
use Rattle.reporting.specs.declared.Ending.TheVariants as endings
use Rattle.reporting.specs.declared.ReportValues as coded
use Rattle.reporting.specs.Decimal.{decimal, signed_decimal}
use Rattle.reporting.specs.Text.{line, axes_word, old_word, active_word, wanted_word, reserved_word, pending_word, carried_word, ceiling_word, scaled_word, unused_word, end_word, Ending, met, capped, spent, short, ending_word, ReportValues}

unfoldable pub ending_in : code.Ending → Ending
ending_in endings.Met = met
ending_in endings.Capped = capped
ending_in endings.Spent = spent
ending_in endings.Short = short

unfoldable pub report_values_in : coded.ReportValues → ReportValues
report_values_in r =
    record {
      axes = r.axes;
      old = r.old;
      active = r.active;
      wanted = r.wanted;
      reserved = r.reserved;
      pending = r.pending;
      carried = r.carried;
      ceiling = r.ceiling;
      scaled = r.scaled;
      unused = r.unused;
      ending = ending_in r.ending;
    }

-- The first five lines of a report, and the last six.
unfoldable pub count_lines : ReportValues → List ℕ
count_lines f =
    line axes_word (decimal f.axes)
    ++ line old_word (decimal f.old)
    ++ line active_word (decimal f.active)
    ++ line wanted_word (decimal f.wanted)
    ++ line reserved_word (decimal f.reserved)

unfoldable pub sum_lines : ReportValues → List ℕ
sum_lines f =
    line pending_word (decimal f.pending)
    ++ line carried_word (decimal f.carried)
    ++ line ceiling_word (decimal f.ceiling)
    ++ line scaled_word (signed_decimal f.scaled)
    ++ line unused_word (decimal f.unused)
    ++ line end_word (ending_word f.ending)
