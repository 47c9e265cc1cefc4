-- `counting::ceiling_count` meets its contract: the count so far and that of the records left are the whole. Assumes nothing.
use mathlib.Core.Path.{◌≡◌}
use Prim.Native.Nat.{◌+◌, ◌*◌, ◌≤◌}
use lib.ListN.{drop}
use Rattle.machine.specs.Counts.{ceiling_count}
use Rattle.writing.specs.Heads.{heads_of}
use Rattle.counting.proofs.ceiling_count.Given as goal

abbrev pub invariant-loop-place : goal.invariant-loop-place
invariant-loop-place l = (l.count ≤ 8 * l.place) × (ceiling_count l.axes (heads_of l.held) ≡ l.count + ceiling_count l.axes (heads_of (drop l.place l.held)))
