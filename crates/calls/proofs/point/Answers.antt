-- `calls::point` meets its contract: refused by its cause, or the positions of a point of the first wanted block. Assumes nothing.
use mathlib.Core.Path.{refl, ap, ◌∙◌}
use mathlib.Core.List.{◌++◌}
use lib.ListN.{length, take, drop}
use Rattle.grid.specs.Block.{point_of}
use Rattle.area.specs.Encoding.{area_of}
use Rattle.calls.specs.Replies.{accepted}
use Rattle.calls.proofs.Rows.{point_refuses, point_accepts}
use Rattle.calls.proofs.Pointing.{pointing_held, pointing}
use Rattle.calls.proofs.Found.{handed_on, not_zero}
use Rattle.calls.proofs.point.Goals as goal

pub returns-in_err-place : goal.returns-in_err-place
returns-in_err-place c =
    let a = area_of c.args.job c.args.cells.now c.args.store.now in
    let d = c.in_err-place.field-0.0 in
    rw (handed_on c.from_residual.result d c.from_residual.ensures) (point_refuses a c.args.n c.args.buffer.now _ c.in_err-place.ensures.cause (not_zero d))

pub first-held-requires : goal.first-held-requires
first-held-requires c = pointing_held c.args.job c.args.cells.now c.args.store.now c.args.n (length c.args.buffer.now) c.in_ok-place.ensures.cause

pub point-requires : goal.point-requires
point-requires c =
    let p = c.in_ok-place in
    let x = pointing c.args.job c.args.cells.now c.args.store.now c.args.n (length c.args.buffer.now) c.in_ok-place.ensures.cause c.first-held.result c.first-held.ensures p.place p.ensures.place in
    record {
      place_in_bounds = (x.there, x.axes_few, x.room);
      within = (x.ceilings, x.in_block);
    }

pub returns : goal.returns
returns c =
    let a = area_of c.args.job c.args.cells.now c.args.store.now in
    let none = c.in_ok-place.ensures.cause in
    let p = c.in_ok-place in
    let levels = (pointing c.args.job c.args.cells.now c.args.store.now c.args.n (length c.args.buffer.now) none c.first-held.result c.first-held.ensures p.place p.ensures.place).levels in
    ap (λ x. record { reply = accepted; buffer = x }) c.point.ensures
    ∙ ap (λ k. record { reply = accepted; buffer = take c.args.job.settings.axes (point_of k c.args.n) ++ drop c.args.job.settings.axes c.args.buffer.now }) levels
    ∙ point_accepts a c.args.n c.args.buffer.now 0 none refl
