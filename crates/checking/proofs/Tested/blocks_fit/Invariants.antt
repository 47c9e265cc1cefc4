-- `checking::Tested::blocks_fit` meets its contract: the blocks passed come to `first`, and those left to ask answer as all of them did.
-- Assumes nothing.
use mathlib.Core.Path.{◌≡◌}
use Prim.Native.Nat.{◌-◌, ◌≤◌}
use lib.ListN.{length}
use Rattle.sums.specs.Sums.{nat_sum_to}
use Rattle.soundness.specs.Held.{count_at}
use Rattle.soundness.specs.Test.{all_from}
use Rattle.soundness.specs.Totals.{block_test}
use Rattle.checking.proofs.Tested.blocks_fit.Given as goal

abbrev pub invariant-loop-place : goal.invariant-loop-place
invariant-loop-place l =
    (l.first ≤ 8192)
    × (l.first ≡ nat_sum_to l.place (count_at l.self.job.settings l.self.held.now))
    × (all_from (length l.self.held.now) 0 (block_test l.self.job.settings l.self.held.now l.store) ≡ all_from (length l.self.held.now - l.place) l.place (block_test l.self.job.settings l.self.held.now l.store))
