-- A sound area encodes exactly one state that satisfies the clauses; and the way back.
use Rattle.std.specs.Prelude.{◌≡◌, List, ℕ, ◌+◌, ◌^◌, ◌<◌, ◌≤◌, ℤ, nat_abs, length}
use Rattle.area.specs.declared.JobRecord.{JobRecord}
use Rattle.area.specs.Records.{Run}
use Rattle.area.specs.Settings.{reading_count, least_store}
use Rattle.area.specs.Log.{Machine}
use Rattle.area.specs.Encoding.{Area, area_of, held_of, machine_of}
use Rattle.quadrature.specs.Readings.{record_at}
use Rattle.soundness.specs.Held.{levels_at}
use Rattle.soundness.specs.Sound.{Sound, LongEnough}
use Rattle.encoding.specs.Entries.{SoundMachine}
use Rattle.encoding.specs.Encodes.{Encodes, encoded_area, WellFormed}

pub record EncodingFacts : Type 0 where
  -- records read from cells are well-formed
  pub well_formed : (j : JobRecord) (c : List ℕ) (s : List ℤ) → WellFormed (held_of (area_of j c s))
  -- a sound area whose store is long enough encodes the state that is read from it
  pub encodes : (a : Area) → Sound a → least_store a.job.settings ≤ length a.store → WellFormed (held_of a) → Encodes a (machine_of a)
  -- this satisfies the clauses
  pub clauses : (a : Area) → Sound a → least_store a.job.settings ≤ length a.store → SoundMachine (machine_of a)
  -- and it encodes no other that does
  pub only : (a : Area) (m : Machine) → SoundMachine m → Encodes a m → m ≡ machine_of a
  -- the way back: an area that encodes a state that satisfies the clauses is sound
  pub given : (a : Area) (m : Machine) → SoundMachine m → Encodes a m → Sound a
  -- so is the area made from it, whatever lies past it, and it is read from there
  pub encoded : (m : Machine) (u : Run) (s : List ℤ) → Encodes (encoded_area m u s) m
  pub sound : (m : Machine) → SoundMachine m → (u : Run) (s : List ℤ) → Sound (encoded_area m u s)
  pub read_back : (m : Machine) → SoundMachine m → (u : Run) (s : List ℤ) → machine_of (encoded_area m u s) ≡ m
  -- and where the storage was long enough, it is so after writing
  pub long : (m : Machine) (u : Run) (s : List ℤ) → 512 ≤ length u.records → least_store m.log.settings ≤ length s → LongEnough (encoded_area m u s)

-- Ranges in a sound area: blocks, reserved, the two errors and the mean.
pub record RangeFacts : Type 0 where
  -- the block of a held index ends within the least store, so in every store that is long enough
  pub block : (a : Area) → Sound a → (p : ℕ) → p < length (held_of a)
      → (record_at (held_of a) p).first + reading_count a.job.settings (levels_at (held_of a) p) ≤ least_store a.job.settings
  -- at most 8,192 points are reserved
  pub reserved : (a : Area) → Sound a → a.job.reserved ≤ 8192
  -- where indicators are 32-bit numbers, the pending error is below 2^41
  pub pending : (a : Area) → Sound a → ((p : ℕ) → p < length (held_of a) → (record_at (held_of a) p).indicator < 2 ^ 32) → a.job.pending < 2 ^ 41
  -- and so are the pending and the carried error together
  pub errors : (a : Area) → Sound a → ((p : ℕ) → p < length (held_of a) → (record_at (held_of a) p).indicator < 2 ^ 32) → a.job.pending + a.job.carried < 2 ^ 41
  -- the scaled mean is below 2^50 in size, also after one more difference
  pub mean : (a : Area) → Sound a → nat_abs a.job.mean + 2 ^ 40 < 2 ^ 50
