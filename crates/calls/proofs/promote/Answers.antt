-- `calls::promote` meets its contract: refused by its cause, or the machine's promotion of the place. Assumes nothing.
use mathlib.Core.Path.{refl, ap, ◌∙◌}
use Rattle.area.specs.Encoding.{area_of}
use Rattle.machine.specs.Areas.{AreaPromotion}
use Rattle.calls.specs.Replies.{promotion}
use Rattle.calls.specs.Table.{answer}
use Rattle.calls.proofs.Rows.{promote_refuses, promote_accepts}
use Rattle.calls.proofs.PromotedPlace.{refine_asks}
use Rattle.calls.proofs.Found.{handed_on, not_zero}
use Rattle.calls.proofs.promote.Goals as goal

pub returns-in_err-promote_cause : goal.returns-in_err-promote_cause
returns-in_err-promote_cause c =
    let a = area_of c.args.job.now c.args.cells.now c.args.store.now in
    let d = c.in_err-promote_cause.field-0.0 in
    rw (handed_on c.from_residual.result d c.from_residual.ensures) (promote_refuses a c.args.place _ c.in_err-promote_cause.ensures (not_zero d))

pub refine-requires : goal.refine-requires
refine-requires c =
    let w = refine_asks c.args.job.now c.args.cells.now c.args.store.now c.args.place c.in_ok-promote_cause.ensures in
    record { valid_area = w.0; place_lt_held = w.1 }

pub returns : goal.returns
returns c =
    let a = area_of c.args.job.now c.args.cells.now c.args.store.now in
    ap (λ (x : AreaPromotion). record { answer = answer (promotion x.outcome); area = x.area }) c.refine.ensures.is
    ∙ promote_accepts a c.args.place 0 c.in_ok-promote_cause.ensures refl
