-- All readings that the difference of a delivered index takes are in range.
-- The idea: an area that encodes the entries is sound, and in a sound area every delivered index is ready: the blocks nowhere higher are
-- held and delivered. What is found there is what the entries have.
-- Assumes nothing.
use mathlib.Core.Path.{refl, subst}
use mathlib.Core.List.{List, []}
use Prim.Native.Nat.{ℕ, ◌<◌, ◌≤◌}
use native.Mathlib.Omega.{arith}
use lib.IntN.{ℤ, pos}
use lib.ListN.{length, drop, replicate, length-append, length-drop, length-replicate}
use Rattle.grid.specs.Terms.{IsReading, InRange}
use Rattle.area.specs.Records.{Run}
use Rattle.area.specs.Settings.{least_store}
use Rattle.area.specs.Entry.{Entry, reading_in}
use Rattle.area.specs.Log.{Machine}
use Rattle.area.specs.Encoding.{Area, held_of, entries_of, machine_of, store_for, store_with, job_with}
use Rattle.quadrature.specs.Ready.{Ready}
use Rattle.quadrature.proofs.Encoded.{entries_agree}
use Rattle.soundness.specs.Sound.{Sound}
use Rattle.soundness.proofs.Gives.{sound_ready}
use Rattle.encoding.specs.Entries.{entry_at, SoundMachine}
use Rattle.encoding.specs.Encodes.{encoded_area}
use Rattle.encoding.proofs.Places.{state_at_lem, holds}
use Rattle.encoding.proofs.Facts.{encoding_facts}

module _ (a : Area) (sound : Sound a) (room : least_store a.job.settings ≤ length a.store) where
  area_range : (p : ℕ) → p < length (entries_of a) → 1 ≤ (entry_at (entries_of a) p).state → InRange (entry_at (entries_of a) p).levels (reading_in (entries_of a))
  unfolding entries_of
  area_range p h d l n w q = subst IsReading (entries_agree a.job.settings ready l n w q) (ready.range l n w q)
    where
      k : List ℕ
      k = (entry_at (entries_of a) p).levels

      ready : Ready a.job.settings.axes (held_of a) a.store k
      ready =
          sound_ready a sound room k p (holds a.job.settings a.store (held_of a) k p (record { place = h; same = refl })) (omega (arith, state_at_lem a.job.settings a.store (held_of a) p))

module _ {m : Machine} (v : SoundMachine m) where
  abbrev es : List Entry
  es = m.log.entries

  -- an area that encodes the state, in a store just long enough
  nothing : Run
  nothing = record { records = []; rest = [] }

  zeros : List ℤ
  zeros = replicate (least_store m.log.settings) (pos 0)

  room : least_store m.log.settings ≤ length (store_with zeros es)
  unfolding store_with zeros
  room =
      omega
      (arith, length-append (store_for es) (drop (length (store_for es)) zeros), length-drop (length (store_for es)) zeros, length-replicate (least_store m.log.settings) (pos 0))

  pub in_range_lem : (p : ℕ) → p < length es → 1 ≤ (entry_at es p).state → InRange (entry_at es p).levels (reading_in es)
  unfolding job_with machine_of
  in_range_lem =
      subst (λ (x : Machine). (p : ℕ) → p < length x.log.entries → 1 ≤ (entry_at x.log.entries p).state → InRange (entry_at x.log.entries p).levels (reading_in x.log.entries))
      (encoding_facts.read_back m v nothing zeros) (area_range (encoded_area m nothing zeros) (encoding_facts.sound m v nothing zeros) room)
