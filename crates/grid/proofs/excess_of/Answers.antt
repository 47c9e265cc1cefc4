-- `grid::excess_of` meets its contract: the excess so far and that of the axes left are the whole. Assumes nothing.
use Rattle.std.proofs.Common.{arith}
use Rattle.grid.proofs.LoopSteps.{excess_step, excess-done}
use Rattle.grid.proofs.excess_of.Goals as goal

pub overflow_sub-sum : goal.overflow_sub-sum
overflow_sub-sum c = c.requires.low c.loop-level.level-index (omega arith)

pub loop-level-preserved : goal.loop-level-preserved
loop-level-preserved c =
    let i = c.loop-level.level-index in (
      omega (arith, c.requires.high i (omega arith)),
      omega (arith, excess_step c.args.levels i (omega arith)),
    )

pub returns : goal.returns
returns c = omega (arith, excess-done c.args.levels c.loop-level.level-index (omega arith))
