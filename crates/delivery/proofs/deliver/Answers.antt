-- `delivery::deliver` meets its contract: the block is stored, the record given its state, and the difference worked from what is then there. Assumes nothing.
use borrow.Author.Rules.{rules, sfits_of}
use mathlib.Core.Path.{◌≡◌, refl, sym, ap, ◌∙◌, subst}
use mathlib.Core.Bool.{true}
use mathlib.Core.List.{List}
use Prim.Native.Nat.{ℕ, ◌+◌, ◌*◌, ◌^◌, ◌<◌, ◌≤◌}
use native.Mathlib.Nat.{le_trans}
use native.Mathlib.Omega.{arith}
use lib.IntN.{ℤ, nat_abs, ◌+ℤ◌}
use lib.ListN.{length}
use lib.Seq.{sets}
use mir.Syntax.{w64}
use mir.Val.{SFits, to_z, of_z}
use Rattle.sums.proofs.Words.{sum_fits, sum_is}
use Rattle.sums.proofs.Sizes.{abs_add}
use Rattle.grid.specs.Difference.{scaled_difference}
use Rattle.area.specs.declared.JobRecord.{JobRecord}
use Rattle.area.specs.Settings.{reading_count}
use Rattle.area.proofs.Records.{length-records_of}
use Rattle.area.specs.Records.{records_of, run_of, stored}
use Rattle.area.specs.Entry.{reading_in}
use Rattle.area.specs.Encoding.{area_of, entries_of}
use Rattle.quadrature.specs.Readings.{record_at, stored_reading}
use Rattle.quadrature.specs.Ready.{Ready}
use Rattle.machine.specs.Log.{first_wanted, wanted_index}
use Rattle.machine.specs.Steps.{deliver_at}
use Rattle.machine.specs.Areas.{deliver_on}
use Rattle.machine.specs.Causes.{in_range}
use Rattle.writing.specs.Changes.{with_state}
use Rattle.writing.specs.ValidArea.{ValidArea}
use Rattle.delivery.proofs.Delivering.{held_there, block_there, pending_fits, mean_fits, ready, difference_is, area_is, valid_after}
use Rattle.delivery.proofs.deliver.Goals as goal

-- the laws at a place that is known to be the first wanted
module _ (j : JobRecord) (c : List ℕ) (s rs : List ℤ) (i place : ℕ) (valid : ValidArea (area_of j c s)) (is : place ≡ first_wanted (entries_of (area_of j c s))) (wanted : place < j.held)
    (whole : length rs ≡ reading_count j.settings (wanted_index (entries_of (area_of j c s)))) (range : in_range rs ≡ true) where
  wanted-first : first_wanted (entries_of (area_of j c s)) < j.held
  wanted-first = omega (arith, is, wanted)

  there : place < length (records_of c)
  there = omega (arith, valid.sound.held_lent, wanted)

  room : place * 27 + 27 ≤ length c
  room = omega (arith, held_there j c s rs i valid wanted-first whole range, wanted)

  block_room : (f : ℕ) → f ≡ (record_at (records_of c) place).first → f + length rs ≤ length s
  block_room f e = rw (e, is) (block_there j c s rs i valid wanted-first whole range)

  module _ (c₁ : List ℕ) (s₁ : List ℤ) (f : ℕ) (first : f ≡ (record_at (records_of c) place).first)
      (run : run_of c₁ ≡ stored (run_of c) place (with_state (record_at (records_of c) place) 1 i)) (store : s₁ ≡ sets s f rs) where
    run_first : run_of c₁ ≡ stored (run_of c) (first_wanted (entries_of (area_of j c s))) (with_state (record_at (records_of c) (first_wanted (entries_of (area_of j c s)))) 1 i)
    run_first = run ∙ ap (λ p. stored (run_of c) p (with_state (record_at (records_of c) p) 1 i)) is

    store-first : s₁ ≡ sets s (record_at (records_of c) (first_wanted (entries_of (area_of j c s)))).first rs
    store-first = store ∙ ap (λ x. sets s x rs) (first ∙ ap (λ p. (record_at (records_of c) p).first) is)

    ready_at : (k : List ℕ) → k ≡ (record_at (records_of c₁) place).levels → Ready j.settings.axes (records_of c₁) s₁ k
    ready_at k e =
        subst (Ready j.settings.axes (records_of c₁) s₁) (ap (λ p. (record_at (records_of c₁) p).levels) (sym is) ∙ sym e)
        (ready j c s rs i valid wanted-first whole range c₁ s₁ run_first store-first)

    difference_at_lem : (k : List ℕ) (x : ℤ) → k ≡ (record_at (records_of c₁) place).levels → x ≡ scaled_difference k (stored_reading (records_of c₁) s₁)
        → x ≡ scaled_difference (wanted_index (entries_of (area_of j c s))) (reading_in (deliver_at (entries_of (area_of j c s)) (first_wanted (entries_of (area_of j c s))) rs i))
    difference_at_lem k x e d =
        d ∙ ap (λ l. scaled_difference l (stored_reading (records_of c₁) s₁)) (e ∙ ap (λ p. (record_at (records_of c₁) p).levels) is)
        ∙ difference_is j c s rs i valid wanted-first whole range c₁ s₁ run_first store-first

    abbrev JobAfter : ℤ → JobRecord
    JobAfter m = record { settings = j.settings; held = j.held; reserved = j.reserved; pending = j.pending + i; carried = j.carried; mean = m }

    area_and_valid : (m : ℤ) → m ≡ j.mean +ℤ scaled_difference (wanted_index (entries_of (area_of j c s))) (reading_in (deliver_at (entries_of (area_of j c s)) (first_wanted (entries_of (area_of j c s))) rs i))
        → (area_of (JobAfter m) c₁ s₁ ≡ deliver_on (area_of j c s) rs i) × ValidArea (area_of (JobAfter m) c₁ s₁)
    area_and_valid m e =
        let is-area = area_is j c s rs i valid wanted-first whole range c₁ s₁ run_first store-first m e in
        (is-area, valid_after j c s rs i valid wanted-first whole range c₁ s₁ run_first store-first (JobAfter m) is-area)

    mean_small : (x : ℤ) → nat_abs x ≤ 2 ^ 40 → nat_abs (j.mean +ℤ x) ≤ 2 ^ 62
    mean_small x h = le_trans (abs_add j.mean x) (omega (arith, h, mean_fits j c s rs i valid wanted-first whole range))

-- @c.args.job c.args.cells.now c.args.store.now c.args.readings.now c.args.indicator c.args.place c.requires.valid_area.0 c.requires.valid_area.1 c.requires.valid_area.2 c.requires.readings_len.0 c.requires.readings_len.1
pub first_reading-first-requires : goal.first_reading-first-requires
first_reading-first-requires c = rw c.all.ensures (there c.args.job c.args.cells.now c.args.store.now c.args.readings.now c.args.indicator c.args.place c.requires.valid_area.0 c.requires.valid_area.1 c.requires.valid_area.2 c.requires.readings_len.0 c.requires.readings_len.1)

pub put_readings-requires : goal.put_readings-requires
put_readings-requires c = block_room c.args.job c.args.cells.now c.args.store.now c.args.readings.now c.args.indicator c.args.place c.requires.valid_area.0 c.requires.valid_area.1 c.requires.valid_area.2 c.requires.readings_len.0 c.requires.readings_len.1 c.first_reading-first.result (rw c.all.ensures at c.first_reading-first.ensures)

pub set_state-requires : goal.set_state-requires
set_state-requires c = room c.args.job c.args.cells.now c.args.store.now c.args.readings.now c.args.indicator c.args.place c.requires.valid_area.0 c.requires.valid_area.1 c.requires.valid_area.2 c.requires.readings_len.0 c.requires.readings_len.1

pub levels-levels-requires : goal.levels-levels-requires
levels-levels-requires c = rw c.all-records.ensures (omega (arith, length-records_of c.set_state.new.cells, room c.args.job c.args.cells.now c.args.store.now c.args.readings.now c.args.indicator c.args.place c.requires.valid_area.0 c.requires.valid_area.1 c.requires.valid_area.2 c.requires.readings_len.0 c.requires.readings_len.1))

pub scaled_difference-difference-requires : goal.scaled_difference-difference-requires
scaled_difference-difference-requires c =
    rw c.all-records.ensures
    (ready_at c.args.job c.args.cells.now c.args.store.now c.args.readings.now c.args.indicator c.args.place c.requires.valid_area.0 c.requires.valid_area.1 c.requires.valid_area.2 c.requires.readings_len.0 c.requires.readings_len.1
    c.set_state.new.cells c.put_readings.new.store c.first_reading-first.result (rw c.all.ensures at c.first_reading-first.ensures) c.set_state.ensures c.put_readings.ensures
    c.levels-levels.result (rw c.all-records.ensures at c.levels-levels.ensures))

pub overflow_add-result : goal.overflow_add-result
overflow_add-result c =
    omega (arith, pending_fits c.args.job c.args.cells.now c.args.store.now c.args.readings.now c.args.indicator c.requires.valid_area.0 (omega (arith, c.requires.valid_area.1, c.requires.valid_area.2)) c.requires.readings_len.0 c.requires.readings_len.1 (search rules) (omega (arith, c.ranges.indicator)))

pub overflow_add-result-2 : goal.overflow_add-result-2
overflow_add-result-2 c =
    let x = c.scaled_difference-difference.result in
    let m = c.args.job.mean in
    let fits : SFits w64 m = search rules in
    sum_fits m x (m +ℤ x) fits (sfits_of c.scaled_difference-difference.type_inv) refl
    (mean_small c.args.job c.args.cells.now c.args.store.now c.args.readings.now c.args.indicator c.args.place c.requires.valid_area.0 c.requires.valid_area.1 c.requires.valid_area.2 c.requires.readings_len.0 c.requires.readings_len.1 c.set_state.new.cells c.put_readings.new.store c.first_reading-first.result (rw c.all.ensures at c.first_reading-first.ensures) c.set_state.ensures c.put_readings.ensures x c.scaled_difference-difference.ensures.small)

pub returns : goal.returns
returns c =
    let x = c.scaled_difference-difference.result in
    let m = c.args.job.mean in
    let fits : SFits w64 m = search rules in
    let sum =
    sum_is m x (m +ℤ x) fits (sfits_of c.scaled_difference-difference.type_inv) refl
    (mean_small c.args.job c.args.cells.now c.args.store.now c.args.readings.now c.args.indicator c.args.place c.requires.valid_area.0 c.requires.valid_area.1 c.requires.valid_area.2 c.requires.readings_len.0 c.requires.readings_len.1 c.set_state.new.cells c.put_readings.new.store c.first_reading-first.result (rw c.all.ensures at c.first_reading-first.ensures) c.set_state.ensures c.put_readings.ensures x c.scaled_difference-difference.ensures.small) in
    let difference = difference_at_lem c.args.job c.args.cells.now c.args.store.now c.args.readings.now c.args.indicator c.args.place c.requires.valid_area.0 c.requires.valid_area.1 c.requires.valid_area.2 c.requires.readings_len.0 c.requires.readings_len.1 c.set_state.new.cells c.put_readings.new.store c.first_reading-first.result (rw c.all.ensures at c.first_reading-first.ensures) c.set_state.ensures c.put_readings.ensures c.levels-levels.result x (rw c.all-records.ensures at c.levels-levels.ensures) (rw c.all-records.ensures at c.scaled_difference-difference.ensures.is) in
    let w = area_and_valid c.args.job c.args.cells.now c.args.store.now c.args.readings.now c.args.indicator c.args.place c.requires.valid_area.0 c.requires.valid_area.1 c.requires.valid_area.2 c.requires.readings_len.0 c.requires.readings_len.1 c.set_state.new.cells c.put_readings.new.store c.first_reading-first.result (rw c.all.ensures at c.first_reading-first.ensures) c.set_state.ensures c.put_readings.ensures (to_z w64 (of_z w64 (to_z w64 (of_z w64 m) +ℤ to_z w64 (of_z w64 x)))) (sum ∙ ap (λ d. m +ℤ d) difference) in
    record { is = rw c.from.ensures w.0; valid = rw c.from.ensures w.1 }
