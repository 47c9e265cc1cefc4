-- `calls::promote_cause` meets its contract: choose's causes, and then the place's record. Assumes nothing.
use native.Mathlib.Omega.{arith}
use Rattle.area.specs.Encoding.{area_of}
use Rattle.calls.proofs.Found.{handed_on, promote_refused}
use Rattle.calls.proofs.PromotedPlace.{room, past, other, active}
use Rattle.calls.proofs.promote_cause.Goals.{then-len-place-via-then-len-place, then-len-place-via-else-len-place+then-state-ne-ACTIVE}
use Rattle.calls.proofs.promote_cause.Goals as goal

pub returns-in_err-choose_cause : goal.returns-in_err-choose_cause
returns-in_err-choose_cause c =
    let d = c.in_err-choose_cause.field-0.0 in
    rw (handed_on c.from_residual.result d c.from_residual.ensures) (promote_refused (area_of c.args.job c.args.cells.now c.args.store.now) d c.args.place c.in_err-choose_cause.ensures)

pub first-held-requires : goal.first-held-requires
first-held-requires c = room c.args.job c.args.cells.now c.args.store.now c.args.place c.in_ok-choose_cause.ensures

pub returns-then-len-place : goal.returns-then-len-place
returns-then-len-place c =
    let none = c.in_ok-choose_cause.ensures in
    elim c.then-len-place.branch [
      | then-len-place-via-then-len-place w ↦
          past c.args.job c.args.cells.now c.args.store.now c.args.place none c.first-held.result c.first-held.ensures (omega (arith, c.len.ensures, w.if-len-place.true))
      | then-len-place-via-else-len-place+then-state-ne-ACTIVE w ↦
          other c.args.job c.args.cells.now c.args.store.now c.args.place none c.first-held.result c.first-held.ensures w.state.result w.state.ensures w.if-state-ne-ACTIVE.true
    ]

pub returns : goal.returns
returns c =
    active c.args.job c.args.cells.now c.args.store.now c.args.place c.in_ok-choose_cause.ensures c.first-held.result c.first-held.ensures c.state.result c.state.ensures
    (omega (arith, c.len.ensures, c.if-len-place.false)) c.if-state-ne-ACTIVE.false
