-- `calls::deliver_cause` meets its contract: the tests in the table's order. Assumes nothing.
use mathlib.Core.Path.{sym, ◌∙◌}
use Rattle.area.specs.Encoding.{area_of, machine_of}
use Rattle.soundness.specs.Clauses.{is_sound}
use Rattle.calls.specs.Replies.{lengths_of}
use Rattle.calls.proofs.Validity.{held_room, nothing, at_first, something, within, count_is}
use Rattle.calls.proofs.Causes.{deliver-nothing, deliver_count, deliver_range, deliver-fits}
use Rattle.calls.proofs.Found.{handed_on, deliver_refused}
use Rattle.calls.proofs.deliver_cause.Goals as goal

pub returns-in_err-area_cause-clause-cause : goal.returns-in_err-area_cause-clause-cause
returns-in_err-area_cause-clause-cause c =
    let d = c.in_err-area_cause.field-0.0 in
    rw (handed_on c.from_residual.result d c.from_residual.ensures) (deliver_refused (area_of c.args.job c.args.cells.now c.args.store.now) d c.in_err-area_cause.ensures c.args.readings.now)

pub first-held-requires : goal.first-held-requires
first-held-requires c = held_room c.args.job c.args.cells.now c.args.store.now c.in_ok-area_cause.ensures

pub returns-in_default-clause-cause : goal.returns-in_default-clause-cause
returns-in_default-clause-cause c =
    let a = area_of c.args.job c.args.cells.now c.args.store.now in
    let none = c.in_ok-area_cause.ensures in
    sym (deliver-nothing (lengths_of a) (is_sound a) (machine_of a).log c.args.readings.now (sym none) (nothing c.args.job c.args.cells.now c.args.store.now none c.first-held.result c.first-held.ensures c.in_default.ensures.place))

pub reading_count-count-requires : goal.reading_count-count-requires
reading_count-count-requires c =
    let p = c.in-Some in
    within c.args.job c.args.cells.now c.args.store.now c.in_ok-area_cause.ensures c.first-held.result c.first-held.ensures p.place p.ensures.place p.ensures.within c.levels.result c.levels.ensures

pub returns-then-miscounted-clause-cause : goal.returns-then-miscounted-clause-cause
returns-then-miscounted-clause-cause c =
    let a = area_of c.args.job c.args.cells.now c.args.store.now in
    let none = c.in_ok-area_cause.ensures in
    let p = c.in-Some in
    let some = something c.args.job c.args.cells.now c.args.store.now none c.first-held.result c.first-held.ensures p.place p.ensures.place p.ensures.within in
    let count = count_is c.args.job c.args.cells.now c.args.store.now none c.first-held.result c.first-held.ensures p.place p.ensures.place p.ensures.within c.levels.result c.levels.ensures c.reading_count-count.result c.reading_count-count.ensures in
    sym (deliver_count (lengths_of a) (is_sound a) (machine_of a).log c.args.readings.now (sym none) some (λ e. c.if-miscounted.true (e ∙ sym count)))

pub returns-then-not-in_range-clause-cause : goal.returns-then-not-in_range-clause-cause
returns-then-not-in_range-clause-cause c =
    let a = area_of c.args.job c.args.cells.now c.args.store.now in
    let none = c.in_ok-area_cause.ensures in
    let p = c.in-Some in
    let some = something c.args.job c.args.cells.now c.args.store.now none c.first-held.result c.first-held.ensures p.place p.ensures.place p.ensures.within in
    let count = count_is c.args.job c.args.cells.now c.args.store.now none c.first-held.result c.first-held.ensures p.place p.ensures.place p.ensures.within c.levels.result c.levels.ensures c.reading_count-count.result c.reading_count-count.ensures in
    sym (deliver_range (lengths_of a) (is_sound a) (machine_of a).log c.args.readings.now (sym none) some (c.if-miscounted.false ∙ count) (sym c.in_range.ensures ∙ c.if-not-in_range.true))

pub returns : goal.returns
returns c =
    let a = area_of c.args.job c.args.cells.now c.args.store.now in
    let none = c.in_ok-area_cause.ensures in
    let p = c.in-Some in
    let some = something c.args.job c.args.cells.now c.args.store.now none c.first-held.result c.first-held.ensures p.place p.ensures.place p.ensures.within in
    let count = count_is c.args.job c.args.cells.now c.args.store.now none c.first-held.result c.first-held.ensures p.place p.ensures.place p.ensures.within c.levels.result c.levels.ensures c.reading_count-count.result c.reading_count-count.ensures in
    record {
      cause = sym (deliver-fits (lengths_of a) (is_sound a) (machine_of a).log c.args.readings.now (sym none) some (c.if-miscounted.false ∙ count) (sym c.in_range.ensures ∙ c.if-not-in_range.false));
      place = at_first c.args.job c.args.cells.now c.args.store.now none c.first-held.result c.first-held.ensures p.place p.ensures.place;
    }
