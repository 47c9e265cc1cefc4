-- `promotion::Scan::admitted` meets its contract: the axes passed are marked where they admit, and the neighbours left answer as all of them did. Assumes nothing.
use mathlib.Core.Path.{◌≡◌}
use Prim.Native.Nat.{◌-◌}
use Rattle.soundness.specs.Test.{all_from}
use Rattle.machine.specs.Promote.{backward_old, admits}
use Rattle.promotion.proofs.Marks.{SoFar}
use Rattle.promotion.proofs.Scan.admitted.Given as goal

abbrev pub invariant-axes : goal.invariant-axes
invariant-axes l = SoFar (admits l.axes l.self l.levels) l.axis l.marks

abbrev pub invariant-loop-other : goal.invariant-loop-other
invariant-loop-other l = all_from l.axes 0 (backward_old l.self l.neighbour) ≡ all_from (l.axes - l.other) l.other (backward_old l.self l.neighbour)
