-- `quadrature::coefficient` meets its contract: the masks passed have given their terms, and the masks of the job's axes are all.
-- Assumes nothing.
use Rattle.std.proofs.Common.{◌≡◌, ◌≤◌, ◌*◌, ◌^◌, ℕ, List}
use Rattle.std.specs.Prelude.{ℤ, nat_abs}
use Rattle.sums.specs.Sums.{sum_to}
use Rattle.area.specs.declared.IndexRecord.{IndexRecord}
use Rattle.quadrature.specs.Readings.{record_at}
use Rattle.quadrature.specs.Linked.{subset_term}
use Rattle.quadrature.proofs.coefficient.Given as goal

abbrev pub term : List IndexRecord → ℕ → ℕ → ℤ
term rs place = subset_term rs (record_at rs place).levels

abbrev pub invariant-loop-mask : goal.invariant-loop-mask
invariant-loop-mask l =
    (l.subsets ≡ 2 ^ l.axes) × (nat_abs l.sum ≤ l.mask * 1) × (l.sum ≡ sum_to l.mask (term l.held l.place))
