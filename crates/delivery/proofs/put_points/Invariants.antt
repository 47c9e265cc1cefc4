-- `delivery::put_points` meets its contract: the points passed are written one after the other, and no later byte has changed.
-- Assumes nothing.
use mathlib.Core.Path.{◌≡◌}
use lib.ListN.{length}
use lib.Seq.{sets}
use Rattle.machine.proofs.Points.{bytes}
use Rattle.delivery.proofs.put_points.Given as goal

abbrev pub invariant-loop-written : goal.invariant-loop-written
invariant-loop-written l = (length l.buffer ≡ length l.initial.buffer) × (l.buffer ≡ sets l.initial.buffer 0 (bytes l.axes l.levels l.n l.written))
