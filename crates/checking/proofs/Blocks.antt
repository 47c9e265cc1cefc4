-- The end of a block that passes its test.
-- Assumes nothing.
use mathlib.Core.Path.{◌≡◌}
use mathlib.Core.Bool.{true}
use mathlib.Core.List.{List}
use Prim.Native.Nat.{ℕ, ◌+◌, ◌≤◌}
use borrow.Author.Tests.{leb-true}
use lib.Dec.{eqb}
use lib.IntN.{ℤ}
use Rattle.sums.specs.Sums.{nat_sum_to}
use Rattle.grid.proofs.Levels.{and_left, and_right}
use Rattle.area.specs.declared.IndexRecord.{IndexRecord}
use Rattle.area.specs.declared.Settings.{Settings}
use Rattle.area.specs.Settings.{least_store}
use Rattle.quadrature.specs.Readings.{record_at}
use Rattle.soundness.specs.Held.{count_at}
use Rattle.soundness.specs.Totals.{block_test}

pub ends_within : (g : Settings) (rs : List IndexRecord) (s : List ℤ) (p : ℕ) → block_test g rs s p ≡ true → nat_sum_to p (count_at g rs) + count_at g rs p ≤ least_store g
unfolding block_test
ends_within g rs s p e =
    leb-true (nat_sum_to p (count_at g rs) + count_at g rs p) (least_store g)
    (and_left _ _ (and_right (eqb (record_at rs p).first (nat_sum_to p (count_at g rs))) _ e))
