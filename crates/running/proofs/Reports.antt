-- The figures of a report from the code's counts.
-- Assumes nothing.
use mathlib.Core.Path.{◌≡◌, ap, ◌∙◌}
use Prim.Native.Nat.{ℕ}
use lib.IntN.{ℤ}
use Rattle.area.specs.Log.{Machine}
use Rattle.machine.specs.Counts as machine
use Rattle.counting.specs.declared.Counts.{Counts}
use Rattle.counting.specs.Answer.{counts_in}
use Rattle.reporting.specs.declared.Ending as code
use Rattle.reporting.specs.Text.{ReportValues}
use Rattle.reporting.specs.Code.{ending_in, report_values_in}
use Rattle.running.specs.Report.{report_values_of}

pub report_values_are : (m : Machine) (e : code.Ending) (u : ℕ) (c : Counts) (z : ℤ) → z ≡ c.mean → counts_in c ≡ machine.counts_of m
    → report_values_in (record { axes = m.log.settings.axes; old = c.old; active = c.active; wanted = c.wanted; reserved = c.reserved; pending = c.pending; carried = c.carried; ceiling = c.ceiling; scaled = z; unused = u; ending = e })
    ≡ report_values_of (ending_in e) m u
unfolding report_values_in report_values_of counts_in
report_values_are m e u c z same is =
    ap {B = ReportValues}
    (λ x. record {
      axes = m.log.settings.axes;
      old = c.old;
      active = c.active;
      wanted = c.wanted;
      reserved = c.reserved;
      pending = c.pending;
      carried = c.carried;
      ceiling = c.ceiling;
      scaled = x;
      unused = u;
      ending = ending_in e;
    }) same
    ∙ ap {B = ReportValues}
    (λ (x : machine.Counts). record {
      axes = m.log.settings.axes;
      old = x.old;
      active = x.active;
      wanted = x.wanted;
      reserved = x.reserved;
      pending = x.pending;
      carried = x.carried;
      ceiling = x.ceiling;
      scaled = x.mean;
      unused = u;
      ending = ending_in e;
    }) is
