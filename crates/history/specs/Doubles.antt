-- What the report of doubles is by the log: the mean is the sum of full tensor rules over the delivered indices, each times its combination
-- coefficient; nothing is lost.
use Rattle.std.specs.Prelude.{◌≡◌, ℕ, ◌^◌, ◌<◌, ◌≤◌, pos, nat_abs, length}
use Rattle.doubles.specs.Exact.{LosesNothing}
use Rattle.area.specs.Entry.{pending_of}
use Rattle.area.specs.Log.{Log}
use Rattle.encoding.specs.Entries.{entry_at}
use Rattle.machine.specs.Counts.{counts_of}
use Rattle.machine.specs.Means.{cross_of}
use Rattle.machine.specs.Largest.{largest_of, DeliveredAt, scaled_difference_at, LowestLargest}
use Rattle.counting.specs.Doubles.{doubles_of, plus_zero}
use Rattle.history.specs.Logged.{state_of}

pub record ReportByLog (l : Log) : Type 0 where
  pub mean : LosesNothing (doubles_of (state_of l)).mean (cross_of l.entries) (2 ^ 20)
  -- if the indicators are 32-bit numbers, as their type has it; they are, where every delivery has such a one (TypedCalls.antt)
  pub pending : ((p : ℕ) → p < length l.entries → (entry_at l.entries p).indicator < 2 ^ 32) → LosesNothing (doubles_of (state_of l)).pending (pos (pending_of l.entries)) 1
  -- mean and pending error are exactly result's, by which the mean is still judged
  pub as_result : LosesNothing (doubles_of (state_of l)).mean (counts_of (state_of l)).mean (2 ^ 20)
  pub pending_as_result : ((p : ℕ) → p < length l.entries → (entry_at l.entries p).indicator < 2 ^ 32)
      → LosesNothing (doubles_of (state_of l)).pending (pos (counts_of (state_of l)).pending) 1
  pub largest : LosesNothing (doubles_of (state_of l)).largest (largest_of l.entries) (2 ^ 20)
  -- no delivered difference is larger in size
  pub no_larger : (p : ℕ) → DeliveredAt l.entries p → nat_abs (scaled_difference_at l.entries p) ≤ nat_abs (largest_of l.entries)
  -- if something is delivered, a delivered place has it, and no lower one has one of that size
  pub lowest : (p : ℕ) → DeliveredAt l.entries p → LowestLargest l.entries
  -- with nothing delivered all three are +0
  pub nothing : ((p : ℕ) → DeliveredAt l.entries p → ⊥) → doubles_of (state_of l) ≡ record { mean = plus_zero; pending = plus_zero; largest = plus_zero }
