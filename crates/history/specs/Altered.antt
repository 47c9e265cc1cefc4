-- "An altered area can be sound with another mean": soundness asks of the recorded mean its size alone. Result and doubles give the recorded
-- mean, whatever it is; the cross total and the largest delivered difference are worked out from the readings. That the means are all the sum
-- over the delivered indices is found after a list of calls that alter nothing in between (`Found`).
use Rattle.std.specs.Prelude.{◌≡◌, true, List, ℕ, ◌*◌, ◌^◌, ◌≤◌, ℤ, nat_abs, length}
use Rattle.grid.specs.Index.{root}
use Rattle.area.specs.declared.Settings.{Settings}
use Rattle.area.specs.Settings.{SettingsFit, reading_count, least_store}
use Rattle.doubles.specs.declared.Report.{Report}
use Rattle.doubles.specs.Double.{report_of}
use Rattle.doubles.specs.Exact.{LosesNothing}
use Rattle.area.specs.Entry.{delivered_of, pending_of}
use Rattle.area.specs.Encoding.{Area, entries_of, machine_of}
use Rattle.soundness.specs.Clauses.{checked}
use Rattle.machine.specs.Causes.{in_range}
use Rattle.machine.specs.Counts.{Counts, counts_of}
use Rattle.machine.specs.Means.{mean_of}
use Rattle.machine.specs.Largest.{largest_of}
use Rattle.writing.specs.ValidArea.{ValidArea}
use Rattle.calls.specs.Replies.{counts, doubled, total}
use Rattle.calls.specs.Table.{start, deliver, result, doubles, cross_total, answer}
use Rattle.calls.specs.Calls.{call_on}

-- The area with its recorded mean altered, and nothing else.
abbrev pub with_mean : Area → ℤ → Area
with_mean a x =
    record {
      job = record { settings = a.job.settings; held = a.job.held; reserved = a.job.reserved; pending = a.job.pending; carried = a.job.carried; mean = x };
      run = a.run;
      store = a.store;
    }

-- In size at most the delivered count times 2^40.
abbrev pub MeanFits : Area → ℤ → Type 0
MeanFits a x = nat_abs x ≤ length (delivered_of (entries_of a)) * 2 ^ 40

-- Sound with another mean: check says yes, and the mean that result answers is not the sum of the delivered indices' differences, which
-- is what cross total answers. Doubles answers a report with result's mean, exactly.
pub record OtherMean (a : Area) : Type 0 where
  pub yes : checked a ≡ true
  pub recorded : Counts
  pub by_result : (call_on a result).answer ≡ answer (counts recorded)
  pub by_doubles : (r : Report) × ((call_on a doubles).answer ≡ answer (doubled r)) × LosesNothing r.mean recorded.mean (2 ^ 20)
  pub by_cross : (call_on a cross_total).answer ≡ answer (total (mean_of (entries_of a)))
  pub differ : recorded.mean ≡ mean_of (entries_of a) → ⊥

pub record AlteredMeans : Type 0 where
  -- a valid area stays valid with every mean that fits
  pub valid : (a : Area) (x : ℤ) → ValidArea a → MeanFits a x → ValidArea (with_mean a x)
  -- result then answers this mean, and all else as before
  pub by_result : (a : Area) (x : ℤ) → ValidArea a → MeanFits a x
      → (call_on (with_mean a x) result).answer ≡ answer (counts (counts_of (record { log = (machine_of a).log; mean = x })))
  -- and so does doubles, with the pending error and the largest delivered difference as before
  pub by_doubles : (a : Area) (x : ℤ) → ValidArea a → MeanFits a x
      → (call_on (with_mean a x) doubles).answer ≡ answer (doubled (report_of x (pending_of (entries_of a)) (largest_of (entries_of a))))
  -- and cross total what it answered before, the sum over the delivered indices
  pub by_cross : (a : Area) (x : ℤ) → ValidArea a → MeanFits a x
      → ((call_on (with_mean a x) cross_total).answer ≡ (call_on a cross_total).answer) × ((call_on a cross_total).answer ≡ answer (total (mean_of (entries_of a))))
  -- so wherever an index is delivered, another mean is sound
  pub another : (a : Area) → ValidArea a → 1 ≤ length (delivered_of (entries_of a)) → (x : ℤ) × OtherMean (with_mean a x)
  -- an index is delivered, in any storage that is long enough, after start and the delivery of the root
  pub root_delivered : (a : Area) (g : Settings) (rs : List ℤ) (i : ℕ) → SettingsFit g → 512 ≤ length a.run.records → least_store g ≤ length a.store
      → length rs ≡ reading_count g root → in_range rs ≡ true
      → ValidArea (call_on (call_on a (start g)).area (deliver rs i)).area × (1 ≤ length (delivered_of (entries_of (call_on (call_on a (start g)).area (deliver rs i)).area)))
  -- and so there is an area that is sound with another mean
  pub exists : (a : Area) × OtherMean a
