-- `reporting::Text::push_counts` meets its contract: five lines, one after the other. Assumes nothing.
use mathlib.Core.List.{append_assoc}
use Rattle.reporting.specs.Code.{count_lines, report_values_in}
use Rattle.reporting.proofs.Text.push_counts.Goals as goal

pub returns-clause-is : goal.returns-clause-is
unfolding count_lines report_values_in
returns-clause-is c =
    rw (c.push_line-5.ensures.is, c.push_line-4.ensures.is, c.push_line-3.ensures.is, c.push_line-2.ensures.is, c.push_line.ensures.is) (simp append_assoc)
