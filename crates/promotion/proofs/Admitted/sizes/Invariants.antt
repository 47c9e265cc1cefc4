-- `promotion::Admitted::sizes` meets its contract: the sizes so far and those of the axes left are the whole. Assumes nothing.
use mathlib.Core.Path.{◌≡◌}
use Prim.Native.Nat.{◌+◌, ◌*◌, ◌-◌, ◌≤◌}
use Rattle.promotion.specs.Marks.{marked_axes}
use Rattle.promotion.proofs.Marks.{marked}
use Rattle.machine.specs.Promote.{passing}
use Rattle.writing.specs.Changes.{sizes_of}
use Rattle.promotion.proofs.Admitted.sizes.Given as goal

abbrev pub invariant-loop-axis : goal.invariant-loop-axis
invariant-loop-axis l =
    let s = l.self-inside in
    (l.sum ≤ l.axis * 8192) × (sizes_of s.levels (marked_axes s.axes s.marks) ≡ l.sum + sizes_of s.levels (passing (s.axes - l.axis) l.axis (marked s.marks)))
