-- `calls::points` meets its contract: refused by its cause, or the points of the first wanted block that are left and fit. Assumes nothing.
use mathlib.Core.Path.{refl, ap, ◌∙◌}
use lib.ListN.{length}
use Rattle.grid.specs.Block.{block_size}
use Rattle.area.specs.Encoding.{area_of}
use Rattle.quadrature.specs.Readings.{record_at}
use Rattle.machine.specs.Points.{points_fitting, positions_of, written_over}
use Rattle.calls.specs.Replies.{wrote}
use Rattle.calls.proofs.Rows.{points_refuses, points_accepts}
use Rattle.calls.proofs.Pointing.{pointing_held, pointing}
use Rattle.calls.proofs.Found.{handed_on, not_zero}
use Rattle.calls.proofs.points.Goals as goal

pub returns-in_err-place : goal.returns-in_err-place
returns-in_err-place c =
    let a = area_of c.args.job c.args.cells.now c.args.store.now in
    let d = c.in_err-place.field-0.0 in
    rw (handed_on c.from_residual.result d c.from_residual.ensures) (points_refuses a c.args.n c.args.buffer.now _ c.in_err-place.ensures.cause (not_zero d))

pub first-held-requires : goal.first-held-requires
first-held-requires c = pointing_held c.args.job c.args.cells.now c.args.store.now c.args.n (length c.args.buffer.now) c.in_ok-place.ensures.cause

pub points-requires : goal.points-requires
points-requires c =
    let p = c.in_ok-place in
    let x = pointing c.args.job c.args.cells.now c.args.store.now c.args.n (length c.args.buffer.now) c.in_ok-place.ensures.cause c.first-held.result c.first-held.ensures p.place p.ensures.place in
    record {
      place_in_bounds = (x.there, x.axes_some, x.axes_few);
      within = (x.ceilings, x.in_block);
    }

pub returns : goal.returns
returns c =
    let a = area_of c.args.job c.args.cells.now c.args.store.now in
    let none = c.in_ok-place.ensures.cause in
    let p = c.in_ok-place in
    let levels = (pointing c.args.job c.args.cells.now c.args.store.now c.args.n (length c.args.buffer.now) none c.first-held.result c.first-held.ensures p.place p.ensures.place).levels in
    let g = c.points in
    let d = c.args.job.settings.axes in
    let buffer = c.args.buffer.now in
    let all = points_fitting d (record_at c.first-held.result p.place).levels c.args.n (length buffer) in
    let left = g.new.buffer in
    ap (λ n. record { reply = wrote n g.result.size; buffer = left }) g.ensures.counts.0
    ∙ ap (λ n. record { reply = wrote (length all) n; buffer = left }) g.ensures.counts.1
    ∙ ap (λ x. record { reply = wrote (length all) (block_size (record_at c.first-held.result p.place).levels); buffer = x }) g.ensures.bytes
    ∙ ap (λ k. record { reply = wrote (length (points_fitting d k c.args.n (length buffer))) (block_size k); buffer = written_over (positions_of d (points_fitting d k c.args.n (length buffer))) buffer }) levels
    ∙ points_accepts a c.args.n buffer 0 none refl
