-- A sound area and its entries: its run and its store begin with what the encoding makes of them, and records and entries agree by place.
-- Assumes nothing.
use mathlib.Core.Path.{◌≡◌, sym, ap, ap₂, ◌∙◌}
use mathlib.Core.List.{List, ◌++◌}
use Prim.Native.Nat.{ℕ, ◌<◌}
use native.Mathlib.Omega.{arith}
use lib.ListN.{length, set, drop, get_or-append}
use lib.Seq.{set-append_left, get_or-take}
use Rattle.area.specs.declared.IndexRecord.{IndexRecord}
use Rattle.area.specs.declared.JobRecord.{JobRecord}
use Rattle.area.specs.declared.Settings.{Settings}
use Rattle.area.specs.Records.{Run, blank}
use Rattle.area.specs.Entry.{Entry}
use Rattle.area.specs.Encoding.{Area, held_of, entries_of, machine_of, records_for, run_with, store_with, job_with}
use Rattle.quadrature.specs.Readings.{record_at}
use Rattle.soundness.specs.Held.{levels_at, state_at}
use Rattle.encoding.specs.Entries.{entry_at, SoundMachine}
use Rattle.encoding.specs.Encodes.{Encodes}
use Rattle.encoding.proofs.Places.{levels_at_lem, state_at_lem, indicator_at, records-length}
use Rattle.encoding.proofs.Facts.{encoding_facts}
use Rattle.writing.specs.Changes.{with_state}
use Rattle.writing.specs.ValidArea.{ValidArea}
use Rattle.writing.proofs.Entries.{with_state-records}

module _ (a : Area) (r : ValidArea a) where
  abbrev g : Settings
  g = a.job.settings

  abbrev es : List Entry
  es = entries_of a

  abbrev all : List IndexRecord
  all = a.run.records

  abbrev rest : List IndexRecord
  rest = drop (length es) all

  pub clauses : SoundMachine (machine_of a)
  clauses = encoding_facts.clauses a r.sound r.lent.store

  encodes : Encodes a (machine_of a)
  encodes = encoding_facts.encodes a r.sound r.lent.store r.well_formed

  -- ---- what the area holds is what its entries make

  pub held_is : a.job.held ≡ length es
  unfolding job_with machine_of
  held_is = ap (λ (j : JobRecord). j.held) encodes.job

  pub records_are : all ≡ records_for g es ++ rest
  unfolding run_with machine_of
  records_are = ap (λ (u : Run). u.records) encodes.run

  pub store_is : a.store ≡ store_with a.store es
  unfolding machine_of
  store_is = encodes.store

  module _ (p : ℕ) (h : p < length es) where
    pub held_record : record_at (held_of a) p ≡ record_at all p
    held_record = get_or-take a.job.held all p blank (omega (arith, held_is))

    pub entry_record : record_at all p ≡ record_at (records_for g es) p
    entry_record = ap (λ l. record_at l p) records_are ∙ get_or-append (records_for g es) rest blank p (omega (arith, records-length g es))

    pub levels_is : (entry_at es p).levels ≡ levels_at all p
    unfolding entries_of
    levels_is = levels_at_lem g a.store (held_of a) p ∙ ap (λ (x : IndexRecord). x.levels) held_record

    pub state_is : (entry_at es p).state ≡ state_at all p
    unfolding entries_of
    state_is = state_at_lem g a.store (held_of a) p ∙ ap (λ (x : IndexRecord). x.state) held_record

    pub indicator_is : (entry_at es p).indicator ≡ (record_at all p).indicator
    unfolding entries_of
    indicator_is = indicator_at g a.store (held_of a) p ∙ ap (λ (x : IndexRecord). x.indicator) held_record

    -- an entry replaced by one with its index is one record with another state
    pub entry_replaced : (e : Entry) → e.levels ≡ (entry_at es p).levels → records_for g (set es p e) ++ rest ≡ set all p (with_state (record_at all p) e.state e.indicator)
    entry_replaced e same =
        ap (λ l. l ++ rest) (with_state-records g es p e same)
        ∙ sym (set-append_left (records_for g es) rest p (new (record_at (records_for g es) p)) (omega (arith, records-length g es)))
        ∙ ap₂ (λ l x. set l p (new x)) (sym records_are) (sym entry_record)
      where
        new : IndexRecord → IndexRecord
        new x = with_state x e.state e.indicator
