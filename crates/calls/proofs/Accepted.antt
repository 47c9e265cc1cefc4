-- What holds where no cause refuses a call.
-- The idea: each test of the list failed.
-- Assumes nothing.
use mathlib.Core.Path.{◌≡◌, refl}
use mathlib.Core.Bool.{Bool, true, false, not, cond, ◌&&◌}
use mathlib.Core.List.{List, [], ◌∷◌}
use Prim.Native.Nat.{ℕ, suc, ◌<◌, ◌≤◌}
use native.Mathlib.Omega.{arith}
use borrow.Author.Tests.{not-false, eqb-true, ltb-true, ltb-false, leb-true, leb-false}
use lib.Dec.{leb, ltb, eqb}
use lib.IntN.{ℤ}
use lib.ListN.{length}
use Rattle.area.specs.declared.Settings.{Settings}
use Rattle.soundness.proofs.Settings.{reads_axes, reads_budget}
use Rattle.area.specs.Settings.{SettingsFit, axes_fit, budget_fit, reading_count, least_store}
use Rattle.grid.specs.Block.{block_size}
use Rattle.soundness.proofs.Exactly.{reads_and, reads_le}
use Rattle.area.specs.Log.{Log}
use Rattle.machine.specs.Log.{first_wanted, any_wanted, wanted_index, Active, active_at}
use Rattle.machine.specs.Causes.{Cause, Lengths, cause, first_cause, short, in_range, point_buffer_short, start_causes, point_causes, deliver_causes, choose_causes, promote_causes, result_causes}
use Rattle.machine.proofs.ActivePlaces.{place-facts}

-- no test of the list refuses
pub record Missed (t : Bool) (cs : List Cause) : Type 0 where
  pub here : t ≡ false
  pub later : first_cause cs ≡ 0

pub missed : (t : Bool) (n : ℕ) (cs : List Cause) → first_cause (cause t (suc n) ∷ cs) ≡ 0 → Missed t cs
unfolding first_cause
missed true n cs e = absurd (omega (arith, e))
missed false n cs e = record { here = refl; later = e }

-- neither the buffer nor the storage is too short
pub neither : (t u : Bool) → cond t true u ≡ false → (t ≡ false) × (u ≡ false)
neither true u e = let y : ◌≡◌ {A = ℕ} 0 1 = cc in absurd (omega arith)
neither false u e = (refl, e)

pub record Startable (z : Lengths) (g : Settings) : Type 0 where
  pub settings : SettingsFit g
  pub records : 512 ≤ z.records
  pub readings : least_store g ≤ z.readings

pub startable : (z : Lengths) (g : Settings) → first_cause (start_causes z g) ≡ 0 → Startable z g
unfolding start_causes short
startable z g e =
    let one = missed _ 0 _ e in
    let two = missed _ 1 _ one.later in
    let three = missed _ 2 _ two.later in
    let long = (reads_and _ _ (reads_le 512 z.records) (reads_le (least_store g) z.readings)).sure (not-false (leb 512 z.records && leb (least_store g) z.readings) three.here) in
    let axes = (reads_axes g).sure (not-false (axes_fit g) one.here) in
    let budget = (reads_budget g).sure (not-false (budget_fit g) two.here) in
    record { settings = record { axes = axes; budget = budget }; records = long.0; readings = long.1 }

module _ (z : Lengths) (sound : Bool) (l : Log) where
  abbrev common : ℕ
  common = first_cause (result_causes z sound l)

  -- the first two tests alone
  pub first_two : (cs : List Cause) → short z l.settings ≡ false → not sound ≡ false → common ≡ 0
  unfolding result_causes first_cause
  first_two cs e f = rw (e, f)

  -- so storage is long enough
  pub long_enough : common ≡ 0 → (512 ≤ z.records) × (least_store l.settings ≤ z.readings)
  unfolding result_causes short
  long_enough e =
      (reads_and _ _ (reads_le 512 z.records) (reads_le (least_store l.settings) z.readings)).sure
      (not-false (leb 512 z.records && leb (least_store l.settings) z.readings) (missed _ 2 _ e).here)

  wanted_is : not (any_wanted l.entries) ≡ false → first_wanted l.entries < length l.entries
  unfolding any_wanted
  wanted_is e = ltb-true (first_wanted l.entries) (length l.entries) (not-false (ltb (first_wanted l.entries) (length l.entries)) e)

  pub record Choosable : Type 0 where
    pub clear : common ≡ 0
    pub free : length l.entries ≤ first_wanted l.entries

  pub choosable : first_cause (choose_causes z sound l) ≡ 0 → Choosable
  unfolding choose_causes any_wanted
  choosable e =
      let one = missed _ 2 _ e in
      let two = missed _ 3 _ one.later in
      let three = missed _ 5 _ two.later in
      record { clear = first_two [] one.here two.here; free = ltb-false (first_wanted l.entries) (length l.entries) three.here }

  pub record Promotable (p : ℕ) : Type 0 where
    pub clear : common ≡ 0
    pub free : length l.entries ≤ first_wanted l.entries
    pub active : Active l.entries p

  pub promotable : (p : ℕ) → first_cause (promote_causes z sound l p) ≡ 0 → Promotable p
  unfolding promote_causes any_wanted
  promotable p e =
      let one = missed _ 2 _ e in
      let two = missed _ 3 _ one.later in
      let three = missed _ 5 _ two.later in
      let four = missed _ 10 _ three.later in
      record {
        clear = first_two [] one.here two.here;
        free = ltb-false (first_wanted l.entries) (length l.entries) three.here;
        active = place-facts.sure l.entries p (not-false (active_at l.entries p) four.here);
      }

  pub record Deliverable (rs : List ℤ) : Type 0 where
    pub clear : common ≡ 0
    pub wanted : first_wanted l.entries < length l.entries
    pub whole : length rs ≡ reading_count l.settings (wanted_index l.entries)
    pub range : in_range rs ≡ true

  pub deliverable : (rs : List ℤ) → first_cause (deliver_causes z sound l rs) ≡ 0 → Deliverable rs
  unfolding deliver_causes
  deliverable rs e =
      let one = missed _ 2 _ e in
      let two = missed _ 3 _ one.later in
      let three = missed _ 4 _ two.later in
      let four = missed _ 6 _ three.later in
      let five = missed _ 7 _ four.later in
      record {
        clear = first_two [] one.here two.here;
        wanted = wanted_is three.here;
        whole =
            eqb-true (length rs) (reading_count l.settings (wanted_index l.entries))
            (not-false (eqb (length rs) (reading_count l.settings (wanted_index l.entries))) four.here);
        range = not-false (in_range rs) five.here;
      }

  pub record Pointable (n w : ℕ) : Type 0 where
    pub clear : common ≡ 0
    pub room : l.settings.axes ≤ w
    pub wanted : first_wanted l.entries < length l.entries
    pub inside : n < block_size (wanted_index l.entries)

  pub pointable : (n w : ℕ) → first_cause (point_causes z sound l n w) ≡ 0 → Pointable n w
  unfolding point_causes
  pointable n w e =
      let one = missed _ 2 _ e in
      let long = neither (point_buffer_short l.settings w) (short z l.settings) one.here in
      let two = missed _ 3 _ one.later in
      let three = missed _ 4 _ two.later in
      let four = missed _ 8 _ three.later in
      record {
        clear = first_two [] long.1 two.here;
        room = leb-true l.settings.axes w (not-false (leb l.settings.axes w) long.0);
        wanted = wanted_is three.here;
        inside = leb-false (block_size (wanted_index l.entries)) n four.here;
      }
