-- The way back: an area that encodes a state that satisfies the clauses is sound, and it is the state that is read from it.
-- The idea: the records at the held places are those of the entries, and the readings lie where these say, so the entries are read
-- again. Then each clause passes from the entries to the records that agree with them at every place, and the links, being the
-- neighbours' places, name exactly the held ones.
-- Assumes nothing.
use mathlib.Core.Path.{◌≡◌, refl, sym, ap, ap₂, ◌∙◌, subst}
use mathlib.Core.List.{List, ◌++◌, map}
use Prim.Native.Nat.{ℕ, ◌+◌, ◌<◌, ◌≤◌}
use native.Mathlib.Omega.{arith}
use lib.IntN.{ℤ, pos}
use lib.ListN.{length, get_or, take, drop, length-append, length-take, length-drop}
use lib.Seq.{take_at, drop_at}
use Rattle.grid.specs.Index.{level, Index, forward, backward}
use Rattle.grid.specs.Terms.{IsReading}
use Rattle.area.specs.declared.IndexRecord.{IndexRecord}
use Rattle.area.specs.declared.JobRecord.{JobRecord}
use Rattle.area.specs.Records.{Run, levels_of}
use Rattle.area.specs.declared.Settings.{Settings}
use Rattle.area.specs.Settings.{reading_count, least_store}
use Rattle.area.specs.Entry.{Entry, reserved_by, pending_of, carried_of}
use Rattle.area.specs.Log.{Machine}
use Rattle.area.specs.Encoding.{Area, held_of, entry_of, entries_of, machine_of, none, records_for, store_for, run_with, store_with, job_with}
use Rattle.quadrature.specs.Readings.{record_at, place_in}
use Rattle.soundness.specs.Held.{levels_at, state_at, forward_link, backward_link, HeldOld}
use Rattle.soundness.specs.Sound.{Structure, NumbersSound, Sound, LongEnough}
use Rattle.encoding.specs.Entries.{entry_at, SoundMachine}
use Rattle.encoding.specs.Encodes.{Encodes, encoded_area}
use Rattle.encoding.proofs.Places.{entry_at_lem, levels_at_lem, state_at_lem, indicator_at, entries_length, holds, entered_old, held_old, records-length, Recorded, is_recorded}
use Rattle.encoding.proofs.Links.{forward_at, backward_at, names, not_raised, not_lowered}
use Rattle.encoding.proofs.Store.{Blocks, blocks_of, delivered-readings, delivered_reading, read_back}

-- ---- the clauses on held indices and links

module _ (g : Settings) (m : ℤ) (s : List ℤ) (rs : List IndexRecord) (v : SoundMachine (record { log = record { settings = g; entries = map (entry_of g s) rs }; mean = m }))
    (r : Recorded g rs) where
  abbrev d : ℕ
  d = g.axes

  inside : (p : ℕ) → p < length rs → p < length (map (entry_of g s) rs)
  inside p h = omega (arith, entries_length g s rs)

  index : (p : ℕ) → p < length rs → Index d (levels_at rs p)
  index p h = subst (Index d) (levels_at_lem g s rs p) (v.index p (inside p h))

  few : length rs ≤ 512
  few = omega (arith, entries_length g s rs, v.count.1)

  different : (p q : ℕ) → p < length rs → q < length rs → levels_at rs p ≡ levels_at rs q → p ≡ q
  different p q hp hq e = v.different p q (inside p hp) (inside q hq) (levels_at_lem g s rs p ∙ e ∙ sym (levels_at_lem g s rs q))

  module _ (p a : ℕ) (hp : p < length rs) (ha : a < 8) where
    forward-place : forward_link rs p a ≡ place_in rs (forward (levels_at rs p) a)
    forward-place = ap (λ l. get_or l a none) (r.links p hp) ∙ forward_at (levels_of rs) (levels_at rs p) a ha

    backward-place : backward_link rs p a ≡ place_in rs (backward (levels_at rs p) a)
    backward-place = ap (λ l. get_or l (8 + a) none) (r.links p hp) ∙ backward_at (levels_of rs) (levels_at rs p) a ha

    no_backward : level (levels_at rs p) a ≡ 1 → backward_link rs p a ≡ none
    no_backward one = backward-place ∙ not_lowered rs few d index p a hp ha one

  structure : Structure d rs
  structure =
      record {
        index = index;
        beyond = λ p a hp hd ha. (forward-place p a hp ha ∙ not_raised rs few d index p a hp ha hd, no_backward p a hp ha ((index p hp).beyond a hd ha));
        states = λ p h. omega (arith, state_at_lem g s rs p, v.states p (inside p h));
        count = (omega (arith, entries_length g s rs, v.count.0), few);
        different = different;
        first = sym (levels_at_lem g s rs 0) ∙ v.first;
        behind = λ p a hp ha l.
            subst (λ k. HeldOld rs (backward k a)) (levels_at_lem g s rs p)
            (held_old g s rs (backward (entry_at (map (entry_of g s) rs) p).levels a) (v.behind p a (inside p hp) ha (subst (λ k. 1 < level k a) (sym (levels_at_lem g s rs p)) l)));
        admissible = λ k i old.
            let h = v.admissible k i (λ a ha l. entered_old g s rs (backward k a) (old a ha l)) in
            (h.0, holds g s rs k h.0 h.1);
        forward_links = λ p a hp ha.
            names rs few different (forward (levels_at rs p) a) (forward_link rs p a) (forward-place p a hp (omega (arith, v.settings.axes.1)));
        backward_links = λ p a hp ha l.
            names rs few different (backward (levels_at rs p) a) (backward_link rs p a) (backward-place p a hp (omega (arith, v.settings.axes.1)));
        no_backward_link = λ p a hp ha one. no_backward p a hp (omega (arith, v.settings.axes.1)) one;
      }

-- ---- the state of an area that encodes it

module _ (a : Area) (m : Machine) (e : Encodes a m) where
  abbrev rs : List IndexRecord
  rs = held_of a

  abbrev s : List ℤ
  s = a.store

  abbrev g : Settings
  g = m.log.settings

  abbrev es : List Entry
  es = m.log.entries

  held_count : a.job.held ≡ length es
  unfolding job_with
  held_count = ap (λ (j : JobRecord). j.held) e.job

  settings_are : a.job.settings ≡ g
  unfolding job_with
  settings_are = ap (λ (j : JobRecord). j.settings) e.job

  mean_is : a.job.mean ≡ m.mean
  unfolding job_with
  mean_is = ap (λ (j : JobRecord). j.mean) e.job

  records_are : a.run.records ≡ records_for g es ++ drop (length es) a.run.records
  unfolding run_with
  records_are = ap (λ (u : Run). u.records) e.run

  held_are : rs ≡ records_for g es
  held_are = ap₂ (λ n x. take n x) held_count records_are ∙ take_at (records_for g es) (drop (length es) a.run.records) (length es) (records-length g es)

  pub entries_are : Blocks g es → entries_of a ≡ es
  unfolding entries_of
  entries_are b =
      ap (λ h. map (entry_of h s) rs) settings_are
      ∙ ap₂ (λ x y. map (entry_of g x) y) e.store held_are
      ∙ read_back g s es b

  pub machine_is : Blocks g es → machine_of a ≡ m
  unfolding machine_of
  machine_is b = λ i. record { log = record { settings = settings_are i; entries = entries_are b i }; mean = mean_is i }

  -- ---- soundness

  module _ (v : SoundMachine m) where
    read : entries_of a ≡ es
    read = entries_are (blocks_of v)

    of_area : SoundMachine (record { log = record { settings = a.job.settings; entries = map (entry_of a.job.settings s) rs }; mean = a.job.mean })
    unfolding machine_of entries_of
    of_area = subst SoundMachine (sym (machine_is (blocks_of v))) v

    recorded : Recorded a.job.settings rs
    unfolding entries_of
    recorded = is_recorded a.job.settings s rs (ap₂ records_for settings_are read ∙ sym held_are)

    reserved_is : a.job.reserved ≡ reserved_by es
    unfolding job_with
    reserved_is = ap (λ (j : JobRecord). j.reserved) e.job

    pending_is : a.job.pending ≡ pending_of es
    unfolding job_with
    pending_is = ap (λ (j : JobRecord). j.pending) e.job

    carried_is : a.job.carried ≡ carried_of g.axes es
    unfolding job_with
    carried_is = ap (λ (j : JobRecord). j.carried) e.job

    -- a delivered entry has all its block's readings, so the store has them
    stored_there : (p n : ℕ) → p < length rs → 1 ≤ state_at rs p → n < reading_count a.job.settings (levels_at rs p) → (record_at rs p).first + n < length s
    stored_there p n h d l =
        let there = of_area.whole p (omega (arith, entries_length a.job.settings s rs)) (omega (arith, state_at_lem a.job.settings s rs p)) in
        let readings = ap (λ (x : Entry). length x.readings) (entry_at_lem a.job.settings s rs p) ∙ ap length (delivered-readings a.job.settings s (record_at rs p) d) in
        let cut = length-take (reading_count a.job.settings (levels_at rs p)) (drop (record_at rs p).first s) in
        let rest = length-drop (record_at rs p).first s in
        let size = ap (reading_count a.job.settings) (levels_at_lem a.job.settings s rs p) in
        omega (arith, there, readings, cut, rest, size, l)

    in_range_lem : (p n : ℕ) → p < length rs → 1 ≤ state_at rs p → n < reading_count a.job.settings (levels_at rs p)
        → ((record_at rs p).first + n < length s) × IsReading (get_or s ((record_at rs p).first + n) (pos 0))
    in_range_lem p n h d l = (
      stored_there p n h d l,
      subst IsReading (ap (λ (x : Entry). get_or x.readings n (pos 0)) (entry_at_lem a.job.settings s rs p) ∙ delivered_reading a.job.settings s (record_at rs p) n d l)
          (of_area.readings p n (omega (arith, entries_length a.job.settings s rs)) (omega (arith, state_at_lem a.job.settings s rs p))
          (subst (λ k. n < reading_count a.job.settings k) (sym (levels_at_lem a.job.settings s rs p)) l)),
    )

    numbers : NumbersSound a
    unfolding entries_of
    numbers =
        record {
          reserved = reserved_is ∙ ap reserved_by (sym read);
          within_budget = omega (arith, reserved_is, of_area.within_budget, ap reserved_by read);
          pending = pending_is ∙ ap pending_of (sym read);
          carried = carried_is ∙ ap₂ (λ (h : Settings) xs. carried_of h.axes xs) (sym settings_are) (sym read);
          mean = of_area.mean;
        }

    pub encodes_sound : Sound a
    encodes_sound =
        record {
          held_lent = omega (arith, held_count, ap length records_are, length-append (records_for g es) (drop (length es) a.run.records), records-length g es);
          settings = of_area.settings;
          structure = structure a.job.settings a.job.mean s rs of_area recorded;
          wanted_last = λ p q h hq z.
              sym (state_at_lem a.job.settings s rs q) ∙ of_area.wanted_last p q h (omega (arith, entries_length a.job.settings s rs)) (state_at_lem a.job.settings s rs p ∙ z);
          wanted_indicator_zero = λ p h z.
              sym (indicator_at a.job.settings s rs p) ∙ of_area.wanted_indicator_zero p (omega (arith, entries_length a.job.settings s rs)) (state_at_lem a.job.settings s rs p ∙ z);
          first_readings = recorded.first;
          readings = in_range_lem;
          numbers = numbers;
        }

-- ---- the area that encodes a state over a run and a store

module _ (m : Machine) (u : Run) (s : List ℤ) where
  abbrev h : List IndexRecord
  h = records_for m.log.settings m.log.entries

  abbrev r : List ℤ
  r = store_for m.log.entries

  abbrev n : ℕ
  n = length m.log.entries

  run_twice : run_with u m.log ≡ run_with (run_with u m.log) m.log
  unfolding run_with
  run_twice = ap {B = Run} (λ x. record { records = h ++ x; rest = u.rest }) (sym (drop_at h (drop n u.records) n (records-length m.log.settings m.log.entries)))

  store_twice : store_with s m.log.entries ≡ store_with (store_with s m.log.entries) m.log.entries
  unfolding store_with
  store_twice = ap (λ x. r ++ x) (sym (drop_at r (drop (length r) s) (length r) refl))

  pub area_encodes : Encodes (encoded_area m u s) m
  area_encodes = record { job = refl; run = run_twice; store = store_twice }

  -- nothing gets shorter
  pub area_long : 512 ≤ length u.records → least_store m.log.settings ≤ length s → LongEnough (encoded_area m u s)
  unfolding run_with store_with job_with
  area_long i k =
      record {
        records = omega (arith, length-append h (drop n u.records), records-length m.log.settings m.log.entries, length-drop n u.records);
        store = omega (arith, length-append r (drop (length r) s), length-drop (length r) s);
      }
