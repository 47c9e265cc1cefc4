-- `grid::subset_sign` meets its contract: the sign of the marks left, turned where the marks passed are odd in number, is the
-- whole sign. Assumes nothing.
use Rattle.std.proofs.Common.{◌≡◌, ◌-◌, ◌/◌, ◌^◌}
use Rattle.grid.specs.Coefficient.{sign, marks}
use Rattle.grid.proofs.LoopSteps.{turned}
use Rattle.grid.proofs.subset_sign.Given as goal

abbrev pub invariant-loop-axis : goal.invariant-loop-axis
invariant-loop-axis l = sign (marks 8 l.mask) ≡ turned l.odd (sign (marks (8 - l.axis) (l.mask / 2 ^ l.axis)))
