-- A call looks at no record past the first 512, and leaves the others as they are.
-- The idea: soundness and the log see the held records alone; a count of held records above 512 is not sound, however many are lent.
-- Assumes nothing.
use mathlib.Core.Path.{◌≡◌, refl, ap, sym, ◌∙◌}
use mathlib.Core.Logic.{inl, inr}
use mathlib.Core.Bool.{Bool, true, false}
use mathlib.Core.List.{List, ◌++◌, map, append_assoc}
use Prim.Native.Nat.{◌<◌, ◌≤◌}
use native.Mathlib.Omega.{arith}
use borrow.Author.Tests.{le-leb}
use lib.ListN.{length, drop, length-append, length-map}
use lib.Seq.{take-append-le, drop-append-le, length-take-le}
use Rattle.area.specs.declared.Settings.{Settings}
use Rattle.area.specs.declared.IndexRecord.{IndexRecord}
use Rattle.area.specs.Encoding.{Area, held_of, entry_of, entries_of, records_for, run_with, machine_of, written}
use Rattle.soundness.specs.Clauses.{is_sound, held_lent_clause, wanted_last_clause, wanted_indicator_zero_clause, first_readings_clause, readings_clause, numbers_clause}
use Rattle.soundness.proofs.Clauses.{clause_facts}
use Rattle.area.specs.Log.{Machine}
use Rattle.machine.specs.Causes.{short}
use Rattle.calls.specs.Replies.{lengths_of}
use Rattle.records.specs.Facts.{longer}
use Rattle.std.proofs.lemmas.Bool.{cases_lt}

-- ---- a count above 512

pub many_unsound : (a : Area) → 512 < a.job.held → is_sound a ≡ false
many_unsound a h = go (is_sound a) refl
  where
    go : (b : Bool) → is_sound a ≡ b → is_sound a ≡ false
    go false e = e
    go true e =
        let s = (clause_facts.agree a).sure e in
        absurd (omega (arith, h, length-take-le a.job.held a.run.records s.held_lent, s.structure.count.1))

module _ (a : Area) (more : List IndexRecord) (room : 512 ≤ length a.run.records) where
  abbrev rs : List IndexRecord
  rs = a.run.records

  abbrev a⁺ : Area
  a⁺ = longer a more

  room⁺ : 512 ≤ length (rs ++ more)
  room⁺ = omega (arith, room, length-append rs more)

  -- ---- the lengths that the causes ask for

  pub short_same : (g : Settings) → short (lengths_of a⁺) g ≡ short (lengths_of a) g
  unfolding short
  short_same g = rw (le-leb 512 (length (rs ++ more)) room⁺, le-leb 512 (length rs) room)

  -- ---- a count of at most 512: the held records are the same

  module _ (few : a.job.held ≤ 512) where
    within : a.job.held ≤ length rs
    within = omega (arith, few, room)

    pub held_same : held_of a⁺ ≡ held_of a
    held_same = take-append-le a.job.held rs more within

    pub entries_same : entries_of a⁺ ≡ entries_of a
    unfolding entries_of
    entries_same = ap (map (entry_of a.job.settings a.store)) held_same

    pub machine_same : machine_of a⁺ ≡ machine_of a
    unfolding machine_of
    machine_same = ap {B = Machine} (λ es. record { log = record { settings = a.job.settings; entries = es }; mean = a.job.mean }) entries_same

    pub sound_few : is_sound a⁺ ≡ is_sound a
    unfolding is_sound held_lent_clause wanted_last_clause wanted_indicator_zero_clause first_readings_clause readings_clause numbers_clause
    sound_few =
        rw (le-leb a.job.held (length (rs ++ more)) (omega (arith, within, length-append rs more)), le-leb a.job.held (length rs) within, entries_same, held_same)

    pub entries_few : length (entries_of a) ≤ 512
    unfolding entries_of
    entries_few = omega (arith, length-map (held_of a) (entry_of a.job.settings a.store), length-take-le a.job.held rs within, few)

  pub sound_same : is_sound a⁺ ≡ is_sound a
  sound_same = elim (cases_lt 512 a.job.held) [ inl h ↦ (many_unsound a⁺ h ∙ sym (many_unsound a h)) | inr h ↦ sound_few h ]

  -- ---- what is written: at most 512 records

  pub written-longer : (m : Machine) → length m.log.entries ≤ 512 → written a⁺ m ≡ longer (written a m) more
  unfolding written run_with
  written-longer m h =
      let e : records_for m.log.settings m.log.entries ++ drop (length m.log.entries) (rs ++ more) ≡ (records_for m.log.settings m.log.entries ++ drop (length m.log.entries) rs) ++ more
      = ap (λ (l : List IndexRecord). records_for m.log.settings m.log.entries ++ l) (drop-append-le (length m.log.entries) rs more (omega (arith, h, room)))
      ∙ sym (append_assoc (records_for m.log.settings m.log.entries) (drop (length m.log.entries) rs) more) in
      ap {B = Area} (λ (l : List IndexRecord). record { job = (written a m).job; run = record { records = l; rest = a.run.rest }; store = (written a m).store }) e
