-- `calls::choose_cause` meets its contract: the tests in the table's order. Assumes nothing.
use mathlib.Core.Path.{◌≡◌, sym, ap, ◌∙◌}
use native.Mathlib.Omega.{arith}
use lib.ListN.{length}
use Rattle.std.specs.Prelude.{unwrap_or}
use Rattle.area.specs.Encoding.{area_of, machine_of}
use Rattle.soundness.specs.Clauses.{is_sound}
use Rattle.calls.specs.Replies.{lengths_of}
use Rattle.calls.proofs.Validity.{held_room, is_wanted, some_below, none_above}
use Rattle.calls.proofs.Causes.{choose_wanted, choose_free}
use Rattle.calls.proofs.Found.{handed_on, choose_refused}
use Rattle.calls.proofs.choose_cause.Goals as goal

pub returns-in_err-area_cause : goal.returns-in_err-area_cause
returns-in_err-area_cause c =
    let d = c.in_err-area_cause.field-0.0 in
    rw (handed_on c.from_residual.result d c.from_residual.ensures) (choose_refused (area_of c.args.job c.args.cells.now c.args.store.now) d c.in_err-area_cause.ensures)

pub first-held-requires : goal.first-held-requires
first-held-requires c = held_room c.args.job c.args.cells.now c.args.store.now c.in_ok-area_cause.ensures

pub returns-then-is_wanted : goal.returns-then-is_wanted
returns-then-is_wanted c =
    let a = area_of c.args.job c.args.cells.now c.args.store.now in
    let none = c.in_ok-area_cause.ensures in
    let w = c.first_wanted in
    sym (choose_wanted (lengths_of a) (is_sound a) (machine_of a).log (sym none)
    (sym (is_wanted c.args.job c.args.cells.now c.args.store.now none c.first-held.result c.first-held.ensures w.result w.ensures.place w.ensures.within)
    ∙ some_below w.result (length c.first-held.result) c.unwrap_or-place.result (c.unwrap_or-place.ensures ∙ ap (unwrap_or w.result) c.len-count.ensures) (omega (arith, c.if-is_wanted.true, c.len-count.ensures))))

pub returns : goal.returns
returns c =
    let a = area_of c.args.job c.args.cells.now c.args.store.now in
    let none = c.in_ok-area_cause.ensures in
    let w = c.first_wanted in
    sym (choose_free (lengths_of a) (is_sound a) (machine_of a).log (sym none)
    (sym (is_wanted c.args.job c.args.cells.now c.args.store.now none c.first-held.result c.first-held.ensures w.result w.ensures.place w.ensures.within)
    ∙ none_above w.result (length c.first-held.result) c.unwrap_or-place.result w.ensures.within (c.unwrap_or-place.ensures ∙ ap (unwrap_or w.result) c.len-count.ensures) (omega (arith, c.if-is_wanted.false, c.len-count.ensures))))
