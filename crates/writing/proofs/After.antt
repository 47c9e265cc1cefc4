-- The area after a step is valid again, and holds the state that was written.
-- The idea: the step's state satisfies the clauses, so the area that encodes it is sound; nothing gets shorter; cells are
-- always well-formed.
-- Assumes nothing.
use mathlib.Core.Path.{◌≡◌, sym, subst}
use mathlib.Core.List.{List}
use Prim.Native.Nat.{ℕ, ◌≤◌}
use lib.IntN.{ℤ}
use lib.ListN.{length}
use Rattle.area.specs.declared.JobRecord.{JobRecord}
use Rattle.area.specs.Settings.{least_store}
use Rattle.area.specs.Log.{Machine}
use Rattle.area.specs.Encoding.{Area, area_of, machine_of, written}
use Rattle.soundness.specs.Sound.{Sound, LongEnough}
use Rattle.encoding.specs.Entries.{SoundMachine}
use Rattle.encoding.proofs.Facts.{encoding_facts}
use Rattle.writing.specs.ValidArea.{ValidArea}

-- what a valid area holds satisfies the clauses
pub machine_sound : (a : Area) → ValidArea a → SoundMachine (machine_of a)
machine_sound a s = encoding_facts.clauses a s.sound s.lent.store

module _ (a : Area) (m : Machine) (v : SoundMachine m) where
  pub written_sound : Sound (written a m)
  unfolding written
  written_sound = encoding_facts.sound m v a.run a.store

  pub written_long : 512 ≤ length a.run.records → least_store m.log.settings ≤ length a.store → LongEnough (written a m)
  unfolding written
  written_long = encoding_facts.long m a.run a.store

  pub written_machine : machine_of (written a m) ≡ m
  unfolding written
  written_machine = encoding_facts.read_back m v a.run a.store

  -- the same of cells that hold the area
  pub written_valid : 512 ≤ length a.run.records → least_store m.log.settings ≤ length a.store
      → (j : JobRecord) (c : List ℕ) (s : List ℤ) → area_of j c s ≡ written a m → ValidArea (area_of j c s)
  written_valid long room j c s e =
      record { sound = subst Sound (sym e) written_sound; lent = subst LongEnough (sym e) (written_long long room); well_formed = encoding_facts.well_formed j c s }
