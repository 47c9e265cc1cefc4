-- `quadrature::Walk::scaled` meets its contract: the units of an index that is ready are at most 20. Assumes nothing.
use Rattle.std.proofs.Common.{arith}
use Rattle.grid.proofs.Levels.{units_small}
use Rattle.quadrature.proofs.Walk.scaled.Goals as goal

pub overflow_sub-result : goal.overflow_sub-result
overflow_sub-result c =
    let ready = c.args.self.now.ready in
    omega (arith, c.unit_sum-units.ensures, units_small c.args.self.now.target.now ready.eight ready.ceilings)
