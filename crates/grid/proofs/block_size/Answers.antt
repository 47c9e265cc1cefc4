-- `grid::block_size` meets its contract: the size so far times the size over the axes left is the whole size, which is at most
-- 4,096 within the ceilings. Assumes nothing.
use Rattle.std.proofs.Common.{◌+◌, ◌*◌, arith, ap}
use Rattle.grid.proofs.LoopSteps.{size_next, size-done, size_part}
use Rattle.grid.proofs.block_size.Goals as goal

pub overflow_mul-size : goal.overflow_mul-size
overflow_mul-size c =
    let k = c.args.levels in
    let l = c.loop-level in
    let n = c.new_count-size in
    omega (arith, size_part k (l.level-index + 1) (l.size * n.result) c.requires (size_next k l.level-index l.size n.result (omega arith) n.ensures l.invariant))

pub loop-level-preserved : goal.loop-level-preserved
loop-level-preserved c =
    let l = c.loop-level in
    let n = c.new_count-size in
    size_next c.args.levels l.level-index l.size n.result (omega arith) n.ensures l.invariant

pub returns : goal.returns
returns c =
    let l = c.loop-level in
    omega (arith, l.invariant, size-done c.args.levels l.level-index (omega arith), ap (λ x. l.size * x) (size-done c.args.levels l.level-index (omega arith)))
