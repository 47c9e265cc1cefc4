-- `reporting::put_report` meets its contract: the first lines, then the last. Assumes nothing.
use mathlib.Core.Path.{◌≡◌}
use mathlib.Core.List.{append_assoc}
use Rattle.reporting.specs.Text.{report_text}
use Rattle.reporting.specs.Code.{count_lines, sum_lines, report_values_in}
use Rattle.reporting.proofs.put_report.Goals as goal

pub returns : goal.returns
unfolding count_lines sum_lines report_text
returns c =
    let is : c.push_sums.new.self ≡ report_text (report_values_in c.args.values) =
    rw (c.push_sums.ensures, c.push_counts.ensures.is, c.new-text.ensures) (simp append_assoc) in
    record { bytes = rw (c.copy_to.ensures.bytes, is); count = rw (c.copy_to.ensures.count, is) }
