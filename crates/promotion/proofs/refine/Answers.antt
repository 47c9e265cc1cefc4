-- `promotion::refine` meets its contract: the marked axes are the admitted ones, their counts decide whether it is spent, and the records written are those of the refined entries. Assumes nothing.
use borrow.Author.Rules.{rules}
use mathlib.Core.Path.{subst}
use lib.ListN.{length}
use Rattle.area.specs.Packed.{PackedWords}
use Rattle.writing.proofs.Words.{state_words}
use Rattle.promotion.proofs.Refining.{room, refinable, place_inside, pack_asks, place_held, scannable, admitted_asks, indicator_pending, carried_asks, scanned, counted, too_many, too_large, append_asks, changed, promoted_is, promoted_valid}
use Rattle.promotion.proofs.refine.Goals as goal

pub first-held_records-requires : goal.first-held_records-requires
first-held_records-requires c = room c.args.job.now c.args.cells.now c.args.store.now c.requires.valid_area.0

pub hold-requires : goal.hold-requires
hold-requires c = pack_asks (refinable c.requires.valid_area c.requires.place_lt_held) c.first-held_records.ensures

pub levels-levels-requires : goal.levels-levels-requires
levels-levels-requires c = place_held (refinable c.requires.valid_area c.requires.place_lt_held) c.first-held_records.ensures

pub invariant_of-scan : goal.invariant_of-scan
invariant_of-scan c = scannable (refinable c.requires.valid_area c.requires.place_lt_held) c.first-held_records.ensures c.hold.ensures.words

pub admitted-neighbours-requires : goal.admitted-neighbours-requires
admitted-neighbours-requires c =
    admitted_asks (refinable c.requires.valid_area c.requires.place_lt_held) c.first-held_records.ensures c.levels-levels.ensures

pub returns-then-held-count-gt512-clause-is : goal.returns-then-held-count-gt512-clause-is
returns-then-held-count-gt512-clause-is c =
    too_many (refinable c.requires.valid_area c.requires.place_lt_held) (scanned c.first-held_records.ensures c.levels-levels.ensures c.admitted-neighbours.ensures)
    (counted c.count-count.ensures.0 c.sizes-sizes.ensures.0) c.if-held-count-gt512.true

pub returns-then-is_over-clause-is : goal.returns-then-is_over-clause-is
returns-then-is_over-clause-is c =
    too_large (refinable c.requires.valid_area c.requires.place_lt_held) (scanned c.first-held_records.ensures c.levels-levels.ensures c.admitted-neighbours.ensures)
    (counted c.count-count.ensures.0 c.sizes-sizes.ensures.0) c.if-held-count-gt512.false c.if-is_over.true

pub indicator-indicator-requires : goal.indicator-indicator-requires
indicator-indicator-requires c = place_held (refinable c.requires.valid_area c.requires.place_lt_held) c.first-held_records.ensures

pub set_state-requires : goal.set_state-requires
set_state-requires c = place_inside (refinable c.requires.valid_area c.requires.place_lt_held)

pub append-requires : goal.append-requires
append-requires c =
    let t = refinable c.requires.valid_area c.requires.place_lt_held in
    let e = c.set_state in
    let cells = c.args.cells.now in
    let i = c.indicator-indicator.result in
    record {
      in_bounds = append_asks t (scanned c.first-held_records.ensures c.levels-levels.ensures c.admitted-neighbours.ensures) (counted c.count-count.ensures.0 c.sizes-sizes.ensures.0) (length e.new.cells) c.readings_for-first.result e.auto.cells c.readings_for-first.ensures c.if-held-count-gt512.false c.if-is_over.false;
      packed = state_words cells e.new.cells c.hold.new.self c.args.job.now.held c.args.place 2 i e.ensures (subst (PackedWords c.hold.new.self) c.first-held_records.ensures c.hold.ensures.words);
    }

pub overflow_sub-job : goal.overflow_sub-job
overflow_sub-job c =
    let i = c.indicator-indicator in
    rw c.from.ensures (indicator_pending (refinable c.requires.valid_area c.requires.place_lt_held) c.first-held_records.ensures i.result i.ensures)

pub carried_after-job-requires : goal.carried_after-job-requires
carried_after-job-requires c =
    carried_asks (refinable c.requires.valid_area c.requires.place_lt_held) c.first-held_records.ensures c.levels-levels.ensures (search rules)

pub returns : goal.returns
returns c =
    let t = refinable c.requires.valid_area c.requires.place_lt_held in
    let few = c.if-held-count-gt512.false in
    let within = c.if-is_over.false in
    let u = scanned c.first-held_records.ensures c.levels-levels.ensures c.admitted-neighbours.ensures in
    let v = counted c.count-count.ensures.0 c.sizes-sizes.ensures.0 in
    let w = changed c.readings_for-first.ensures c.indicator-indicator.ensures c.set_state.ensures c.carried_after-job.ensures c.append.ensures.cells_after in
    rw c.from.ensures
    (record {
      is = promoted_is t u v few within w;
      valid = promoted_valid t u v few within w;
    })
