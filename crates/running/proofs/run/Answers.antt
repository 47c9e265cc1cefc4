-- `running::run` meets its contract: the buffer is too short, or what the file comes to is written. Assumes nothing.
use Rattle.std.proofs.Common.{ap, subst, ◌∙◌}
use Rattle.reporting.specs.Text.{refusal_text}
use Rattle.running.specs.Code.{Printed}
use Rattle.running.proofs.Whole.{too_short_lem, printed}
use Rattle.running.proofs.run.Goals as goal

pub returns-then-report-lt512 : goal.returns-then-report-lt512
returns-then-report-lt512 c = too_short_lem c.args.bytes.now c.args.report.now _ c.if-report-lt512.true

pub returns-in-Ok : goal.returns-in-Ok
returns-in-Ok c =
    printed c.args.bytes.now c.args.report.now _ _ c.if-report-lt512.false
    (subst (λ t. Printed t c.args.report.now c.put_report.new.buffer c.put_report.result) c.in-Ok.ensures (record { bytes = c.put_report.ensures.bytes; count = c.put_report.ensures.count }))

pub returns-in-Err : goal.returns-in-Err
returns-in-Err c =
    printed c.args.bytes.now c.args.report.now _ _ c.if-report-lt512.false
    (subst (λ t. Printed t c.args.report.now c.put_refusal.new.buffer c.put_refusal.result) (ap (λ n. refusal_text n c.in-Err.refusal.byte) c.from.ensures ∙ c.in-Err.ensures)
    (record { bytes = c.put_refusal.ensures.bytes; count = c.put_refusal.ensures.count }))
