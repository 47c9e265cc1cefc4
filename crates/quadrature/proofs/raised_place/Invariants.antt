-- `quadrature::raised_place` meets its contract: the axes passed are raised where marked, and where a link names no held place the
-- raised index is not held. Assumes nothing.
use Rattle.std.proofs.Common.{◌≡◌, ◌<◌, length}
use Rattle.grid.specs.Coefficient.{raised_on, marks}
use Rattle.grid.proofs.LoopSteps.{raising}
use Rattle.quadrature.specs.Readings.{record_at}
use Rattle.quadrature.proofs.raised_place.Given as goal

abbrev pub invariant-loop-axis : goal.invariant-loop-axis
invariant-loop-axis l =
    (l.at < length l.held) × (raised_on (record_at l.held l.place).levels (marks 8 l.mask) ≡ raising (record_at l.held l.at).levels l.mask l.axis)
