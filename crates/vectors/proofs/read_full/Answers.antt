-- What came is taken off the input.
use Rattle.std.proofs.Common.{rules}
use Rattle.vectors.proofs.Taking.{taken_more}
use Rattle.vectors.proofs.read_full.Goals as goal

pub loop-at-preserved : goal.loop-at-preserved
loop-at-preserved g c =
    let came = c.in_ok-count.ensures in
    record { room = search rules; taken = taken_more _ _ _ _ _ _ _ _ c.loop-at.invariant.room came.bound.0 c.loop-at.invariant.taken came.bytes.0 }
