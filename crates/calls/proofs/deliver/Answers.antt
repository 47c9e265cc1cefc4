-- `calls::deliver` meets its contract: refused by its cause, or the first wanted block delivered. Assumes nothing.
use mathlib.Core.Path.{◌≡◌, refl, sym, ap, ◌∙◌}
use mathlib.Core.Bool.{true}
use mathlib.Core.List.{List}
use Prim.Native.Nat.{ℕ, ◌<◌}
use native.Mathlib.Omega.{arith}
use lib.IntN.{ℤ}
use lib.ListN.{length}
use Rattle.area.specs.Settings.{reading_count}
use Rattle.area.specs.declared.JobRecord.{JobRecord}
use Rattle.area.specs.Encoding.{Area, area_of, entries_of, machine_of}
use Rattle.soundness.specs.Clauses.{is_sound}
use Rattle.machine.specs.Log.{first_wanted, wanted_index}
use Rattle.machine.specs.Causes.{in_range}
use Rattle.writing.specs.ValidArea.{ValidArea}
use Rattle.calls.specs.Replies.{accepted, lengths_of}
use Rattle.calls.specs.Table.{answer}
use Rattle.calls.specs.Calls.{deliver_cause}
use Rattle.calls.proofs.Accepted.{Deliverable, deliverable}
use Rattle.calls.proofs.Validity.{valid, entries_count}
use Rattle.calls.proofs.Rows.{deliver_refuses, deliver_accepts}
use Rattle.calls.proofs.Found.{handed_on, not_zero}
use Rattle.calls.proofs.deliver.Goals as goal

module _ (j : JobRecord) (cells : List ℕ) (store rs : List ℤ) (none : 0 ≡ deliver_cause (area_of j cells store) rs) where
  open_to : Deliverable (lengths_of (area_of j cells store)) (is_sound (area_of j cells store)) (machine_of (area_of j cells store)).log rs
  open_to = deliverable (lengths_of (area_of j cells store)) (is_sound (area_of j cells store)) (machine_of (area_of j cells store)).log rs (sym none)

  st : ValidArea (area_of j cells store)
  st = valid j cells store open_to.clear

  inside : (p : ℕ) → p ≡ first_wanted (entries_of (area_of j cells store)) → p < j.held
  unfolding machine_of
  inside p e = omega (arith, e, entries_count j cells store st, open_to.wanted)

  readings_fit : (length rs ≡ reading_count j.settings (wanted_index (entries_of (area_of j cells store)))) × (in_range rs ≡ true)
  unfolding machine_of
  readings_fit = (open_to.whole, open_to.range)

pub returns-in_err-place : goal.returns-in_err-place
returns-in_err-place c =
    let a = area_of c.args.job.now c.args.cells.now c.args.store.now in
    let d = c.in_err-place.field-0.0 in
    rw (handed_on c.from_residual.result d c.from_residual.ensures) (deliver_refuses a c.args.readings.now c.args.indicator _ c.in_err-place.ensures.cause (not_zero d))

pub deliver-requires : goal.deliver-requires
deliver-requires c =
    let p = c.in_ok-place in
    let none = p.ensures.cause in
    record {
      valid_area = (st c.args.job.now c.args.cells.now c.args.store.now c.args.readings.now none, p.ensures.place, inside c.args.job.now c.args.cells.now c.args.store.now c.args.readings.now none p.place p.ensures.place);
      readings_len = readings_fit c.args.job.now c.args.cells.now c.args.store.now c.args.readings.now none;
    }

pub returns : goal.returns
returns c =
    let a = area_of c.args.job.now c.args.cells.now c.args.store.now in
    ap (λ (x : Area). record { answer = answer accepted; area = x }) c.deliver.ensures.is
    ∙ deliver_accepts a c.args.readings.now c.args.indicator 0 c.in_ok-place.ensures.cause refl
