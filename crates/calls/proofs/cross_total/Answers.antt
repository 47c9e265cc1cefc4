-- `calls::cross_total` meets its contract: refused by its cause, or the cross total of a valid area. Assumes nothing.
use borrow.Author.Rules.{sfits_of}
use mathlib.Core.Path.{refl, ap, ◌∙◌}
use lib.IntN.{ℤ}
use Rattle.sums.proofs.Words.{back}
use Rattle.area.specs.Encoding.{area_of}
use Rattle.calls.specs.Replies.{total}
use Rattle.calls.specs.Table.{answer}
use Rattle.calls.proofs.Rows.{cross_refuses, cross_accepts}
use Rattle.calls.proofs.Validity.{st}
use Rattle.calls.proofs.Found.{handed_on, not_zero}
use Rattle.calls.proofs.cross_total.Goals as goal

pub returns-in_err-area_cause : goal.returns-in_err-area_cause
returns-in_err-area_cause c =
    let a = area_of c.args.job c.args.cells.now c.args.store.now in
    let d = c.in_err-area_cause.field-0.0 in
    rw (handed_on c.from_residual.result d c.from_residual.ensures) (cross_refuses a _ c.in_err-area_cause.ensures (not_zero d))

pub cross_total-requires : goal.cross_total-requires
cross_total-requires c = st c.args.job c.args.cells.now c.args.store.now c.in_ok-area_cause.ensures

pub returns : goal.returns
returns c =
    let a = area_of c.args.job c.args.cells.now c.args.store.now in
    ap (λ (z : ℤ). answer (total z)) (back c.cross_total.result (sfits_of c.cross_total.type_inv) ∙ c.cross_total.ensures) ∙ cross_accepts a 0 c.in_ok-area_cause.ensures refl
