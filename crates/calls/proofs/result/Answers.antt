-- `calls::result` meets its contract: refused by its cause, or the counts of a valid area. Assumes nothing.
use mathlib.Core.Path.{refl, ap, ◌∙◌}
use Rattle.area.specs.Encoding.{area_of}
use Rattle.machine.specs.Counts.{Counts}
use Rattle.calls.specs.Replies.{counts}
use Rattle.calls.specs.Table.{answer}
use Rattle.calls.proofs.Rows.{result_refuses, result_accepts}
use Rattle.calls.proofs.Validity.{st}
use Rattle.calls.proofs.Found.{handed_on, not_zero}
use Rattle.calls.proofs.result.Goals as goal

pub returns-in_err-area_cause : goal.returns-in_err-area_cause
returns-in_err-area_cause c =
    let a = area_of c.args.job c.args.cells.now c.args.store.now in
    let d = c.in_err-area_cause.field-0.0 in
    rw (handed_on c.from_residual.result d c.from_residual.ensures) (result_refuses a _ c.in_err-area_cause.ensures (not_zero d))

pub result-requires : goal.result-requires
result-requires c = st c.args.job c.args.cells.now c.args.store.now c.in_ok-area_cause.ensures

pub returns : goal.returns
returns c =
    let a = area_of c.args.job c.args.cells.now c.args.store.now in
    ap (λ (n : Counts). answer (counts n)) c.result.ensures ∙ result_accepts a 0 c.in_ok-area_cause.ensures refl
