-- What doubles tells of any area that does not refuse it, altered or not.
use Rattle.std.specs.Prelude.{◌≡◌, List, ℕ, ◌^◌, ◌<◌, ◌≤◌, ℤ, pos, nat_abs, length, get_or}
use Rattle.doubles.specs.declared.Report.{Report}
use Rattle.doubles.specs.Exact.{LosesNothing, NoneNan}
use Rattle.area.specs.declared.JobRecord.{JobRecord}
use Rattle.area.specs.Encoding.{Area, area_of, held_of, entries_of}
use Rattle.quadrature.specs.Readings.{record_at}
use Rattle.machine.specs.Counts.{Counts}
use Rattle.machine.specs.Largest.{largest_of, DeliveredAt, scaled_difference_at, LowestLargest}
use Rattle.counting.specs.Doubles.{plus_zero}
use Rattle.calls.specs.Replies.{counts, doubled}
use Rattle.calls.specs.Table.{result, doubles}
use Rattle.calls.specs.Calls.{refusal_on, call_on}

-- Doubles answered the report r.
abbrev pub Reports : Area → Report → Type 0
Reports a r = (call_on a doubles).answer.reply ≡ doubled r

pub record ReportFacts : Type 0 where
  -- refused exactly as result is, and it changes nothing, refused or not
  pub refused_alike : (a : Area) → refusal_on a doubles ≡ refusal_on a result
  pub changes_nothing : (a : Area) → (call_on a doubles).area ≡ a
  -- none of the three is a NaN
  pub none_nan : (a : Area) (r : Report) → Reports a r → NoneNan r
  -- mean and pending error are the recorded ones, with nothing lost; for the pending error indicators are 32-bit numbers, as their type has it, and so
  -- they are in an area over 32-bit cells
  pub mean : (a : Area) (r : Report) → Reports a r → LosesNothing r.mean a.job.mean (2 ^ 20)
  pub pending : (a : Area) (r : Report) → Reports a r → ((p : ℕ) → p < length (held_of a) → (record_at (held_of a) p).indicator < 2 ^ 32) → LosesNothing r.pending (pos a.job.pending) 1
  pub pending_cells : (j : JobRecord) (c : List ℕ) (s : List ℤ) (r : Report) → Reports (area_of j c s) r → ((n : ℕ) → get_or c n 0 < 2 ^ 32) → LosesNothing r.pending (pos j.pending) 1
  -- they are those that result gives, by which the mean is still judged
  pub as_result : (a : Area) (r : Report) → Reports a r
      → (c : Counts) × ((call_on a result).answer.reply ≡ counts c) × LosesNothing r.mean c.mean (2 ^ 20) × (c.pending ≡ a.job.pending)
  -- the largest delivered difference is worked out from the readings, with nothing lost
  pub largest : (a : Area) (r : Report) → Reports a r → LosesNothing r.largest (largest_of (entries_of a)) (2 ^ 20)
  -- no delivered difference is larger in size
  pub no_larger : (a : Area) (p : ℕ) → DeliveredAt (entries_of a) p → nat_abs (scaled_difference_at (entries_of a) p) ≤ nat_abs (largest_of (entries_of a))
  -- if something is delivered, a delivered place has it, and no lower one has one of that size
  pub lowest : (a : Area) (p : ℕ) → DeliveredAt (entries_of a) p → LowestLargest (entries_of a)
  -- zero is +0
  pub zero_mean : (a : Area) (r : Report) → Reports a r → a.job.mean ≡ pos 0 → r.mean ≡ plus_zero
  pub zero_pending : (a : Area) (r : Report) → Reports a r → a.job.pending ≡ 0 → r.pending ≡ plus_zero
  pub zero_largest : (a : Area) (r : Report) → Reports a r → largest_of (entries_of a) ≡ pos 0 → r.largest ≡ plus_zero
  -- with nothing delivered all three are
  pub nothing : (a : Area) (r : Report) → Reports a r → ((p : ℕ) → DeliveredAt (entries_of a) p → ⊥) → r ≡ record { mean = plus_zero; pending = plus_zero; largest = plus_zero }
