-- An area with a state written into it: it is valid and holds that state, and what lies past its last record is as it was.
-- The idea: a record made of an entry has the entry's eight levels, and sixteen links as two lists of eight.
-- Assumes nothing.
use mathlib.Core.Path.{◌≡◌, refl, sym, ap, ap₂, ◌∙◌, subst}
use mathlib.Core.Logic.{inl, inr}
use mathlib.Core.List.{List, [], ◌∷◌}
use Prim.Native.Nat.{ℕ, ◌+◌, ◌<◌, ◌≤◌}
use native.Mathlib.Omega.{arith}
use lib.ListN.{length, drop, length-append, length-drop}
use lib.Seq.{take_at, drop_at}
use Rattle.area.specs.declared.Settings.{Settings}
use Rattle.area.specs.Settings.{readings_for, least_store}
use Rattle.area.proofs.Readings.{reading_facts}
use Rattle.sums.specs.Lists.{tabulate}
use Rattle.sums.proofs.Lists.{length-tabulate}
use Rattle.grid.specs.Index.{forward, backward}
use Rattle.grid.specs.Block.{block_size}
use Rattle.area.specs.declared.IndexRecord.{IndexRecord}
use Rattle.area.specs.Entry.{Entry, indices_of, reserved_by}
use Rattle.area.specs.Encoding.{Area, held_of, place_of, links_of, encoded, records_for, store_for, run_with, store_with, job_with, machine_of, written}
use Rattle.encoding.specs.Entries.{entry_at}
use Rattle.encoding.specs.Encodes.{WellFormed}
use Rattle.encoding.proofs.Places.{record_at_lem, records-length}
use Rattle.encoding.proofs.Store.{Blocks, AllWanted, blocks_of}
use Rattle.area.specs.Log.{Machine}
use Rattle.encoding.specs.Entries.{SoundMachine}
use Rattle.writing.specs.ValidArea.{ValidArea}
use Rattle.writing.proofs.After.{written_sound, written_long, written_machine}
use Rattle.calls.specs.Replies.{lengths_of}
use Rattle.calls.specs.Facts.{PastUnchanged}

links_length : (ls : List (List ℕ)) (k : List ℕ) → length (links_of ls k) ≡ 16
unfolding links_of
links_length ls k =
    length-append (tabulate 8 (λ a. place_of ls (forward k a))) (tabulate 8 (λ a. place_of ls (backward k a)))
    ∙ ap₂ ◌+◌ (length-tabulate 8 (λ a. place_of ls (forward k a))) (length-tabulate 8 (λ a. place_of ls (backward k a)))

module _ (a : Area) (m : Machine) where
  abbrev es : List Entry
  es = m.log.entries

  held_records : held_of (written a m) ≡ records_for m.log.settings es
  unfolding written job_with run_with
  held_records = take_at (records_for m.log.settings es) (drop (length es) a.run.records) (length es) (records-length m.log.settings es)

  pub written_past : PastUnchanged a (written a m)
  unfolding written job_with run_with
  written_past =
      record {
        records = drop_at (records_for m.log.settings es) (drop (length es) a.run.records) (length es) (records-length m.log.settings es);
        rest = refl;
      }

  module _ (v : SoundMachine m) where
    pub well_formed_records : WellFormed (records_for m.log.settings es)
    unfolding encoded
    well_formed_records p h =
        let l : p < length es = omega (arith, h, records-length m.log.settings es) in (
          ap (λ (r : IndexRecord). length r.levels) (record_at_lem m.log.settings es p l) ∙ (v.index p l).eight,
          ap (λ (r : IndexRecord). length r.links) (record_at_lem m.log.settings es p l) ∙ links_length (indices_of es) (entry_at es p).levels,
        )

    pub written_valid : 512 ≤ length a.run.records → least_store m.log.settings ≤ length a.store → ValidArea (written a m)
    written_valid long room =
        record { sound = written_sound a m v; lent = written_long a m v long room; well_formed = subst WellFormed (sym held_records) well_formed_records }

    pub written_state : machine_of (written a m) ≡ m
    written_state = written_machine a m v

-- ---- how much storage a state takes

pub stored-length : (g : Settings) (es : List Entry) → Blocks g es → length (store_for es) ≤ readings_for g (reserved_by es)
unfolding store_for reserved_by
stored-length g [] b = omega arith
stored-length g (e ∷ es) (inl x) =
    omega (
      arith,
      length-append e.readings (store_for es),
      x.1,
      stored-length g es x.2,
      reading_facts.count g e.levels,
      reading_facts.sum g (block_size e.levels) (reserved_by es),
    )
stored-length g (e ∷ es) (inr x) = omega (arith, empty (e ∷ es) x)
  where
    empty : (fs : List Entry) → AllWanted fs → length (store_for fs) ≤ 0
    empty [] y = omega arith
    empty (f ∷ fs) y = omega (arith, length-append f.readings (store_for fs), ap length y.1, empty fs y.2)

pub store_small : (m : Machine) → SoundMachine m → length (store_for m.log.entries) ≤ least_store m.log.settings
store_small m v =
    omega (
      arith,
      stored-length m.log.settings m.log.entries (blocks_of v),
      reading_facts.more m.log.settings (reserved_by m.log.entries) m.log.settings.budget v.within_budget,
      reading_facts.least m.log.settings,
    )

-- ---- the lengths stay

-- the lengths of two areas
same_lengths : (a b : Area) → length b.run.records ≡ length a.run.records → length b.store ≡ length a.store → lengths_of b ≡ lengths_of a
same_lengths a b e f i = record { records = e i; readings = f i }

pub written_lengths : (a : Area) (m : Machine) → SoundMachine m → 512 ≤ length a.run.records → least_store m.log.settings ≤ length a.store → lengths_of (written a m) ≡ lengths_of a
unfolding written run_with store_with
written_lengths a m v long room =
    same_lengths a (written a m)
    (length-append (records_for m.log.settings m.log.entries) (drop (length m.log.entries) a.run.records)
    ∙ omega (arith, records-length m.log.settings m.log.entries, length-drop (length m.log.entries) a.run.records, v.count.1, long))
    (length-append (store_for m.log.entries) (drop (length (store_for m.log.entries)) a.store)
    ∙ omega (arith, length-drop (length (store_for m.log.entries)) a.store, store_small m v, room))
