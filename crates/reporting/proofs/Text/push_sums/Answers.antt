-- `reporting::Text::push_sums` meets its contract: six lines, one after the other. Assumes nothing.
use borrow.Author.Rules.{rules}
use mathlib.Core.List.{append_assoc}
use mir.Syntax.{w64}
use mir.Val.{SFits}
use Rattle.sums.proofs.Words.{back}
use Rattle.reporting.specs.Code.{sum_lines, report_values_in}
use Rattle.reporting.proofs.Text.push_sums.Goals as goal

pub returns : goal.returns
unfolding sum_lines report_values_in
returns c =
    let fits : SFits w64 c.args.values.scaled = search rules in
    rw (c.push_ending.ensures, c.push_line-5.ensures.is, c.push_line-4.ensures.is, c.push_line-3.ensures.is, c.push_line-2.ensures.is, c.push_line.ensures.is, back c.args.values.scaled fits) (simp append_assoc)
