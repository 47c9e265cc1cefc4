-- `calls::point_cause` meets its contract: the tests in the table's order; the buffer's row has the number of the storage's. Assumes nothing.
use mathlib.Core.Path.{sym}
use native.Mathlib.Omega.{arith}
use Rattle.area.specs.Encoding.{area_of, machine_of}
use Rattle.soundness.specs.Clauses.{is_sound}
use Rattle.calls.specs.Replies.{lengths_of}
use Rattle.calls.proofs.Validity.{held_room, nothing, at_first, something, within, size_is}
use Rattle.calls.proofs.Causes.{point_buffer_lem, point_nothing, point_past, point_fits}
use Rattle.calls.proofs.Found.{handed_on, point_refused}
use Rattle.calls.proofs.point_cause.Goals as goal

pub returns-then-room-axes-clause-cause : goal.returns-then-room-axes-clause-cause
unfolding machine_of
returns-then-room-axes-clause-cause c =
    let a = area_of c.args.job c.args.cells.now c.args.store.now in
    sym (point_buffer_lem (lengths_of a) (is_sound a) (machine_of a).log c.args.n c.args.room c.if-room-axes.true)

pub returns-in_err-area_cause-clause-cause : goal.returns-in_err-area_cause-clause-cause
returns-in_err-area_cause-clause-cause c =
    let d = c.in_err-area_cause.field-0.0 in
    rw (handed_on c.from_residual.result d c.from_residual.ensures) (point_refused (area_of c.args.job c.args.cells.now c.args.store.now) d c.in_err-area_cause.ensures c.args.n c.args.room c.if-room-axes.false)

pub first-held-requires : goal.first-held-requires
first-held-requires c = held_room c.args.job c.args.cells.now c.args.store.now c.in_ok-area_cause.ensures

pub returns-in_default-clause-cause : goal.returns-in_default-clause-cause
unfolding machine_of
returns-in_default-clause-cause c =
    let a = area_of c.args.job c.args.cells.now c.args.store.now in
    let none = c.in_ok-area_cause.ensures in
    sym (point_nothing (lengths_of a) (is_sound a) (machine_of a).log c.args.n c.args.room c.if-room-axes.false (sym none) (nothing c.args.job c.args.cells.now c.args.store.now none c.first-held.result c.first-held.ensures c.in_default.ensures.place))

pub block_size-size-requires : goal.block_size-size-requires
block_size-size-requires c =
    let p = c.in-Some in
    within c.args.job c.args.cells.now c.args.store.now c.in_ok-area_cause.ensures c.first-held.result c.first-held.ensures p.place p.ensures.place p.ensures.within c.levels.result c.levels.ensures

pub returns-then-size-n-clause-cause : goal.returns-then-size-n-clause-cause
unfolding machine_of
returns-then-size-n-clause-cause c =
    let a = area_of c.args.job c.args.cells.now c.args.store.now in
    let none = c.in_ok-area_cause.ensures in
    let p = c.in-Some in
    let some = something c.args.job c.args.cells.now c.args.store.now none c.first-held.result c.first-held.ensures p.place p.ensures.place p.ensures.within in
    let size = size_is c.args.job c.args.cells.now c.args.store.now none c.first-held.result c.first-held.ensures p.place p.ensures.place p.ensures.within c.levels.result c.levels.ensures c.block_size-size.result c.block_size-size.ensures in
    sym (point_past (lengths_of a) (is_sound a) (machine_of a).log c.args.n c.args.room c.if-room-axes.false (sym none) some (omega (arith, size, c.if-size-n.true)))

pub returns : goal.returns
unfolding machine_of
returns c =
    let a = area_of c.args.job c.args.cells.now c.args.store.now in
    let none = c.in_ok-area_cause.ensures in
    let p = c.in-Some in
    let some = something c.args.job c.args.cells.now c.args.store.now none c.first-held.result c.first-held.ensures p.place p.ensures.place p.ensures.within in
    let size = size_is c.args.job c.args.cells.now c.args.store.now none c.first-held.result c.first-held.ensures p.place p.ensures.place p.ensures.within c.levels.result c.levels.ensures c.block_size-size.result c.block_size-size.ensures in
    record {
      cause = sym (point_fits (lengths_of a) (is_sound a) (machine_of a).log c.args.n c.args.room c.if-room-axes.false (sym none) some (omega (arith, size, c.if-size-n.false)));
      place = at_first c.args.job c.args.cells.now c.args.store.now none c.first-held.result c.first-held.ensures p.place p.ensures.place;
    }
