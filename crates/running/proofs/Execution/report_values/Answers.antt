-- `running::Execution::report_values` meets its contract: the figures are the machine's counts. Assumes nothing.
use borrow.Author.Rules.{rules}
use mir.Syntax.{w64}
use mir.Val.{SFits}
use Rattle.std.proofs.Common.{◌-◌}
use Rattle.sums.proofs.Words.{back}
use Rattle.area.specs.Encoding.{area_of, machine_of}
use Rattle.running.proofs.Reports.{report_values_are}
use Rattle.running.proofs.Execution.report_values.Goals as goal

pub returns : goal.returns
unfolding machine_of
returns c =
    let a = c.args.self.now in
    let fits : SFits w64 c.result-counts.result.mean = search rules in
    report_values_are (machine_of (area_of a.job a.cells a.store)) c.args.ending (a.entries - a.used) c.result-counts.result _ (back c.result-counts.result.mean fits) c.result-counts.ensures
