-- A sound area encodes the entries that are read from it, and these satisfy the clauses.
-- The idea: records and the entries read from them agree at every place, so each clause passes over; the links are the neighbours'
-- places, so the records are what the entries make them, and the readings lie in the store where the entries put them.
-- Assumes nothing.
use mathlib.Core.Path.{◌≡◌, sym, ap, ap₂, ◌∙◌, subst}
use mathlib.Core.List.{List, [], ◌++◌, map}
use Prim.Native.Nat.{ℕ, ◌<◌, ◌≤◌}
use native.Mathlib.Omega.{arith}
use lib.IntN.{ℤ, pos}
use lib.ListN.{length, get_or, drop, length-drop, take-append-drop}
use lib.Seq.{length-take-le}
use Rattle.grid.specs.Index.{level, Index, backward}
use Rattle.grid.specs.Terms.{IsReading}
use Rattle.area.specs.declared.IndexRecord.{IndexRecord}
use Rattle.area.specs.Records.{Run}
use Rattle.area.specs.Entry.{Entry}
use Rattle.area.specs.declared.Settings.{Settings}
use Rattle.area.specs.Settings.{reading_count, least_store}
use Rattle.area.specs.Encoding.{Area, held_of, entry_of, entries_of, machine_of, records_for, run_with, job_with}
use Rattle.quadrature.specs.Readings.{record_at}
use Rattle.soundness.specs.Held.{levels_at, state_at}
use Rattle.soundness.specs.Sound.{Structure, Sound}
use Rattle.encoding.specs.Entries.{entry_at, EnteredOld, SoundMachine}
use Rattle.encoding.specs.Encodes.{Encodes, WellFormed}
use Rattle.encoding.proofs.Places.{entry_at_lem, levels_at_lem, state_at_lem, indicator_at, entries_length, has, entered_old, held_old, recorded_is}
use Rattle.encoding.proofs.Links.{links_place}
use Rattle.encoding.proofs.Store.{wanted-readings, delivered-readings, delivered_reading, blocks_of, written_back}
use Rattle.encoding.proofs.Ranges.{block_within}

module _ (a : Area) (sound : Sound a) (room : least_store a.job.settings ≤ length a.store) where
  abbrev g : Settings
  g = a.job.settings

  abbrev rs : List IndexRecord
  rs = held_of a

  abbrev s : List ℤ
  s = a.store

  abbrev es : List Entry
  es = map (entry_of g s) rs

  abbrev held : Structure g.axes rs
  held = sound.structure

  inside : (p : ℕ) → p < length es → p < length rs
  inside p h = omega (arith, entries_length g s rs)

  -- ---- the readings of the entries

  empty : (p : ℕ) → p < length es → (entry_at es p).state ≡ 0 → (entry_at es p).readings ≡ []
  empty p h z = ap (λ (e : Entry). e.readings) (entry_at_lem g s rs p) ∙ wanted-readings g s (record_at rs p) (sym (state_at_lem g s rs p) ∙ z)

  whole : (p : ℕ) → p < length es → 1 ≤ (entry_at es p).state → length (entry_at es p).readings ≡ reading_count g (entry_at es p).levels
  whole p h d =
      ap (λ (e : Entry). length e.readings) (entry_at_lem g s rs p)
      ∙ ap length (delivered-readings g s (record_at rs p) (omega (arith, state_at_lem g s rs p)))
      ∙ length-take-le (reading_count g (levels_at rs p)) (drop (record_at rs p).first s)
      (omega (arith, length-drop (record_at rs p).first s, block_within a sound p (inside p h)))
      ∙ ap (reading_count g) (sym (levels_at_lem g s rs p))

  in_range_lem : (p n : ℕ) → p < length es → 1 ≤ (entry_at es p).state → n < reading_count g (entry_at es p).levels → IsReading (get_or (entry_at es p).readings n (pos 0))
  in_range_lem p n h d l =
      let d' : 1 ≤ state_at rs p = omega (arith, state_at_lem g s rs p) in
      let l' : n < reading_count g (levels_at rs p) = subst (λ k. n < reading_count g k) (levels_at_lem g s rs p) l in
      subst IsReading
      (sym (ap (λ (e : Entry). get_or e.readings n (pos 0)) (entry_at_lem g s rs p) ∙ delivered_reading g s (record_at rs p) n d' l'))
      (sound.readings p n (inside p h) d' l').1

  -- ---- the clauses

  pub sound_entries : SoundMachine (machine_of a)
  unfolding entries_of machine_of
  sound_entries =
      record {
        settings = sound.settings;
        index = λ p h. subst (Index g.axes) (sym (levels_at_lem g s rs p)) (held.index p (inside p h));
        states = λ p h. omega (arith, state_at_lem g s rs p, held.states p (inside p h));
        count = (omega (arith, entries_length g s rs, held.count.0), omega (arith, entries_length g s rs, held.count.1));
        different = λ p q hp hq e. held.different p q (inside p hp) (inside q hq) (sym (levels_at_lem g s rs p) ∙ e ∙ levels_at_lem g s rs q);
        first = levels_at_lem g s rs 0 ∙ held.first;
        behind = λ p c hp hc l.
            subst (λ k. EnteredOld es (backward k c)) (sym (levels_at_lem g s rs p))
            (entered_old g s rs (backward (levels_at rs p) c) (held.behind p c (inside p hp) hc (subst (λ k. 1 < level k c) (levels_at_lem g s rs p) l)));
        admissible = λ k i old.
            let h = held.admissible k i (λ c hc l. held_old g s rs (backward k c) (old c hc l)) in
            (h.0, has g s rs k h.0 h.1);
        wanted_last = λ p q h hq z. state_at_lem g s rs q ∙ sound.wanted_last p q h (inside q hq) (sym (state_at_lem g s rs p) ∙ z);
        wanted_indicator_zero = λ p h z. indicator_at g s rs p ∙ sound.wanted_indicator_zero p (inside p h) (sym (state_at_lem g s rs p) ∙ z);
        wanted_empty = empty;
        within_budget = omega (arith, sound.numbers.reserved, sound.numbers.within_budget);
        whole = whole;
        readings = in_range_lem;
        mean = sound.numbers.mean;
      }

  -- ---- the encoding

  entries_count : length (entries_of a) ≡ a.job.held
  unfolding entries_of
  entries_count = entries_length g s rs ∙ length-take-le a.job.held a.run.records sound.held_lent

  module _ (well_formed : WellFormed rs) where
    records_are : records_for g (entries_of a) ≡ rs
    unfolding entries_of
    records_are =
        recorded_is g s rs
        (record {
          links = λ p h. links_place g.axes sound.settings.axes.1 rs held p h (well_formed p h).1;
          first = sound.first_readings;
        })

    job_is : a.job ≡ job_with (machine_of a)
    unfolding job_with machine_of
    job_is = λ i. record {
      settings = g;
      held = sym entries_count i;
      reserved = sound.numbers.reserved i;
      pending = sound.numbers.pending i;
      carried = sound.numbers.carried i;
      mean = a.job.mean;
    }

    run_is : a.run ≡ run_with a.run (machine_of a).log
    unfolding run_with machine_of
    run_is = ap {B = Run} (λ x. record { records = x; rest = a.run.rest }) (sym (ap₂ (λ x n. x ++ drop n a.run.records) records_are entries_count ∙ take-append-drop a.job.held a.run.records))

    read_again : map (entry_of g s) (records_for g (entries_of a)) ≡ entries_of a
    unfolding entries_of
    read_again = ap (map (entry_of g s)) records_are

    pub sound_encodes : Encodes a (machine_of a)
    unfolding machine_of
    sound_encodes =
        record {
          job = job_is;
          run = run_is;
          store = written_back g s (entries_of a) read_again (blocks_of sound_entries);
        }
