-- **Doubles**: the report of doubles beside result. The mean and the pending error are those of result: the pending error is worked from the entries,
-- and in a sound area it is the recorded one. The largest delivered difference is worked out from the readings.
use Rattle.std.specs.Prelude.{◌≡◌, false, ℕ, ◌^◌, ◌<◌, pos, length, Float}
use Rattle.std.specs.Float.{fin}
use Rattle.doubles.specs.declared.Report.{Report}
use Rattle.doubles.specs.Double.{report_of}
use Rattle.doubles.specs.Exact.{LosesNothing}
use Rattle.area.specs.Entry.{pending_of}
use Rattle.area.specs.Log.{Machine}
use Rattle.encoding.specs.Entries.{entry_at, SoundMachine}
use Rattle.machine.specs.Largest.{largest_of, DeliveredAt}

unfoldable pub doubles_of : Machine → Report
doubles_of m = report_of m.mean (pending_of m.log.entries) (largest_of m.log.entries)

-- +0, whose bits are all zero.
abbrev pub plus_zero : Float
plus_zero = fin false 0 (pos 0)

-- Of every sound state: all three lose nothing.
pub record ReportOfSound : Type 0 where
  pub mean : (m : Machine) → SoundMachine m → LosesNothing (doubles_of m).mean m.mean (2 ^ 20)
  -- where indicators are 32-bit numbers, as their type has it
  pub pending : (m : Machine) → SoundMachine m → ((p : ℕ) → p < length m.log.entries → (entry_at m.log.entries p).indicator < 2 ^ 32)
      → LosesNothing (doubles_of m).pending (pos (pending_of m.log.entries)) 1
  pub largest : (m : Machine) → SoundMachine m → LosesNothing (doubles_of m).largest (largest_of m.log.entries) (2 ^ 20)
  -- with nothing delivered all three are zero
  pub nothing : (m : Machine) → SoundMachine m → ((p : ℕ) → DeliveredAt m.log.entries p → ⊥)
      → doubles_of m ≡ record { mean = plus_zero; pending = plus_zero; largest = plus_zero }
