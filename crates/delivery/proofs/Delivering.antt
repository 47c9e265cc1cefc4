-- A delivery on storage: what the code leaves is the area with the machine's delivery written into it.
-- The idea: the area after the delivery is sound, so the delivered index is ready there, and the difference that is worked from the
-- cells and the store is that of the entries.
-- Assumes nothing.
use mathlib.Core.Path.{◌≡◌, sym, ap, ◌∙◌, subst}
use mathlib.Core.Bool.{true}
use mathlib.Core.List.{List, [], ◌∷◌}
use Prim.Native.Nat.{ℕ, zero, suc, ◌+◌, ◌*◌, ◌^◌, ◌<◌, ◌≤◌}
use native.Mathlib.Omega.{arith}
use lib.IntN.{ℤ, pos, nat_abs, ◌+ℤ◌}
use lib.ListN.{length, get_or}
use lib.Seq.{sets, get_or-take, length-take-le, get_or-set_same}
use Rattle.grid.specs.Difference.{scaled_difference}
use Rattle.grid.specs.Terms.{IsReading}
use Rattle.area.specs.declared.IndexRecord.{IndexRecord}
use Rattle.area.specs.declared.JobRecord.{JobRecord}
use Rattle.area.specs.Records.{Run, records_of, run_of, stored, held_in, blank}
use Rattle.area.specs.Settings.{reading_count, least_store}
use Rattle.area.specs.Entry.{reading_in}
use Rattle.area.specs.Log.{Machine}
use Rattle.area.specs.Encoding.{Area, area_of, held_of, entries_of, machine_of, written}
use Rattle.area.proofs.Records.{length-records_of, indicators_small}
use Rattle.quadrature.specs.Readings.{record_at, stored_reading}
use Rattle.quadrature.specs.Ready.{Ready, AllReady}
use Rattle.quadrature.proofs.Facts.{entry-facts}
use Rattle.soundness.specs.Sound.{Sound}
use Rattle.soundness.proofs.Exactly.{reads_and, reads_le, reads_eq_true}
use Rattle.soundness.proofs.Gives.{sound_ready}
use Rattle.soundness.proofs.Facts.{sound_facts}
use Rattle.encoding.specs.Entries.{SoundMachine}
use Rattle.encoding.proofs.Facts.{range_facts}
use Rattle.machine.specs.Log.{first_wanted, wanted_index}
use Rattle.machine.specs.Steps.{deliver_at, deliver}
use Rattle.machine.specs.Areas.{deliver_on}
use Rattle.machine.specs.Causes.{in_range}
use Rattle.machine.proofs.Facts.{step_facts}
use Rattle.writing.specs.Changes.{with_state}
use Rattle.writing.specs.ValidArea.{ValidArea}
use Rattle.writing.proofs.Areas.{held_is, held_record, levels_is}
use Rattle.writing.proofs.Facts.{write_facts}
use Rattle.writing.proofs.After.{machine_sound, written_sound, written_long, written_machine, written_valid}

-- readings in range, one by one
each_in_range : (xs : List ℤ) → in_range xs ≡ true → (n : ℕ) → n < length xs → IsReading (get_or xs n (pos 0))
unfolding in_range
each_in_range [] e n h = absurd (omega arith)
each_in_range (x ∷ xs) e zero h = ((reads_and _ _ (reads_le (nat_abs x) 1048576) (reads_eq_true (in_range xs))).sure e).0
each_in_range (x ∷ xs) e (suc n) h = each_in_range xs ((reads_and _ _ (reads_le (nat_abs x) 1048576) (reads_eq_true (in_range xs))).sure e).1 n (omega arith)

module _ (j : JobRecord) (c : List ℕ) (s : List ℤ) (rs : List ℤ) (i : ℕ) where
  abbrev a : Area
  a = area_of j c s

  abbrev place : ℕ
  place = first_wanted (entries_of a)

  module _ (valid : ValidArea a) (wanted : place < j.held) (whole : length rs ≡ reading_count j.settings (wanted_index (entries_of a))) (range : in_range rs ≡ true) where
    pub held_there : j.held * 27 ≤ length c
    held_there = omega (arith, valid.sound.held_lent, length-records_of c)

    entries_count : length (entries_of a) ≡ j.held
    entries_count = sym (held_is a valid)

    wanted_there : place < length (entries_of a)
    wanted_there = omega (arith, entries_count)

    levels_are : wanted_index (entries_of a) ≡ (record_at (records_of c) place).levels
    levels_are = levels_is a valid place wanted_there

    -- the block lies in the store
    pub block_there : (record_at (records_of c) place).first + length rs ≤ length s
    block_there =
        let inside : place < length (held_of a) = omega (arith, length-take-le j.held (records_of c) valid.sound.held_lent) in
        let first = ap (λ (r : IndexRecord). r.first) (held_record a valid place wanted_there) in
        let levels = ap (λ (r : IndexRecord). reading_count j.settings r.levels) (held_record a valid place wanted_there) in
        omega (arith, range_facts.block a valid.sound place inside, first, levels, whole, ap (reading_count j.settings) levels_are, valid.lent.store)

    -- ---- after
    abbrev after : Machine
    after = deliver (machine_of a) rs i

    after_sound : SoundMachine after
    unfolding machine_of
    after_sound = step_facts.deliver (machine_of a) rs i (machine_sound a valid) wanted_there whole (each_in_range rs range)

    abbrev b : Area
    b = written a after

    changed : b ≡ record {
      job = record {
        settings = j.settings;
        held = j.held;
        reserved = j.reserved;
        pending = j.pending + i;
        carried = j.carried;
        mean = after.mean;
      };
      run = stored (run_of c) place (with_state (record_at (records_of c) place) 1 i);
      store = sets s (record_at (records_of c) place).first rs;
    }
    changed = write_facts.deliver a rs i valid wanted_there whole

    b_room : least_store b.job.settings ≤ length b.store
    b_room = (written_long a after after_sound valid.lent.records deliver_room).store
      where
        deliver_room : least_store after.log.settings ≤ length s
        deliver_room = unfold deliver in unfold machine_of in valid.lent.store

    -- the sums stay in their types
    pub pending_fits : ((n : ℕ) → get_or c n 0 < 2 ^ 32) → i < 2 ^ 32 → j.pending + i < 2 ^ 64
    pending_fits words h =
        let small = range_facts.pending a valid.sound (indicators_small c j.held words) in
        omega arith

    pub mean_fits : nat_abs j.mean + 2 ^ 40 ≤ 2 ^ 62
    mean_fits = omega (arith, range_facts.mean a valid.sound)

    -- ---- what the code leaves
    module _ (c₁ : List ℕ) (s₁ : List ℤ) (run : run_of c₁ ≡ stored (run_of c) place (with_state (record_at (records_of c) place) 1 i)) (store : s₁ ≡ sets s (record_at (records_of c) place).first rs) where
      run_is : b.run ≡ run_of c₁
      run_is = ap (λ (x : Area). x.run) changed ∙ sym run

      records-are₁ : b.run.records ≡ records_of c₁
      records-are₁ = ap (λ (u : Run). u.records) run_is

      store-is₁ : b.store ≡ s₁
      store-is₁ = ap (λ (x : Area). x.store) changed ∙ sym store

      -- the delivered record
      here : record_at (records_of c₁) place ≡ with_state (record_at (records_of c) place) 1 i
      here =
          ap (λ (u : Run). record_at u.records place) run
          ∙ get_or-set_same (records_of c) place (with_state (record_at (records_of c) place) 1 i) blank (omega (arith, valid.sound.held_lent))

      here_levels : (record_at (records_of c₁) place).levels ≡ wanted_index (entries_of a)
      unfolding with_state
      here_levels = ap (λ (r : IndexRecord). r.levels) here ∙ sym levels_are

      here_state : (record_at (records_of c₁) place).state ≡ 1
      unfolding with_state
      here_state = ap (λ (r : IndexRecord). r.state) here

      all_ready : AllReady b.job.settings.axes b.job.held b.run.records b.store
      all_ready = sound_facts.all_ready b (written_sound a after after_sound) b_room

      pub ready : Ready j.settings.axes (records_of c₁) s₁ (record_at (records_of c₁) place).levels
      ready =
          (subst (λ (x : Area). AllReady x.job.settings.axes x.job.held (records_of c₁) s₁) changed
          (subst (λ x. AllReady b.job.settings.axes b.job.held (records_of c₁) x) store-is₁ (subst (λ x. AllReady b.job.settings.axes b.job.held x b.store) records-are₁ all_ready))
          ).ready place wanted (omega (arith, here_state))

      -- the area that the cells and the store hold with the job record of b is b
      abbrev b₁ : Area
      b₁ = area_of b.job c₁ s₁

      same_area : b₁ ≡ b
      same_area = λ x. record { job = b.job; run = sym run_is x; store = sym store-is₁ x }

      sound₁ : Sound b₁
      sound₁ = subst Sound (sym same_area) (written_sound a after after_sound)

      held-is₁ : b.job.held ≡ j.held
      held-is₁ = ap (λ (x : Area). x.job.held) changed

      ready_held : Ready b.job.settings.axes (held_in c₁ b.job.held) s₁ (record_at (records_of c₁) place).levels
      unfolding held_in
      ready_held =
          let h : place < b.job.held = omega (arith, held-is₁, wanted) in
          let e : record_at (held_of b₁) place ≡ record_at (records_of c₁) place = get_or-take b.job.held (records_of c₁) place blank h in
          sound_ready b₁ sound₁ (subst (λ x. least_store b.job.settings ≤ length x) store-is₁ b_room) (record_at (records_of c₁) place).levels place
          (record { place = omega (arith, h, length-take-le b.job.held (records_of c₁) sound₁.held_lent); same = ap (λ (r : IndexRecord). r.levels) e })
          (subst (λ (r : IndexRecord). 1 ≤ r.state) (sym e) (omega (arith, here_state)))

      entries₁ : entries_of b₁ ≡ deliver_at (entries_of a) place rs i
      unfolding deliver machine_of
      entries₁ = ap entries_of same_area ∙ ap (λ (x : Machine). x.log.entries) (written_machine a after after_sound)

      pub difference_is : scaled_difference (record_at (records_of c₁) place).levels (stored_reading (records_of c₁) s₁)
          ≡ scaled_difference (wanted_index (entries_of a)) (reading_in (deliver_at (entries_of a) place rs i))
      difference_is =
          (entry-facts b.job c₁ s₁).difference b.job.settings.axes (record_at (records_of c₁) place).levels ready_held
          ∙ ap (λ k. scaled_difference k (reading_in (entries_of b₁))) here_levels
          ∙ ap (λ es. scaled_difference (wanted_index (entries_of a)) (reading_in es)) entries₁

      -- so the job record with the difference added makes the area that was to be written
      pub area_is : (m : ℤ) → m ≡ j.mean +ℤ scaled_difference (wanted_index (entries_of a)) (reading_in (deliver_at (entries_of a) place rs i))
          → area_of (record { settings = j.settings; held = j.held; reserved = j.reserved; pending = j.pending + i; carried = j.carried; mean = m }) c₁ s₁ ≡ deliver_on a rs i
      unfolding deliver_on deliver machine_of
      area_is m e =
          (λ x.
          record {
            job = record { settings = j.settings; held = j.held; reserved = j.reserved; pending = j.pending + i; carried = j.carried; mean = e x };
            run = run x;
            store = store x;
          })
          ∙ sym changed

      pub valid_after : (j₁ : JobRecord) → area_of j₁ c₁ s₁ ≡ deliver_on a rs i → ValidArea (area_of j₁ c₁ s₁)
      unfolding deliver_on
      valid_after j₁ e = written_valid a after after_sound valid.lent.records room_there j₁ c₁ s₁ e
        where
          room_there : least_store after.log.settings ≤ length s
          room_there = unfold deliver in unfold machine_of in valid.lent.store
