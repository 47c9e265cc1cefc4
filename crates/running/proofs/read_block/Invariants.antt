-- `running::read_block` meets its contract: the readings passed are in the block, and what lies past them is as it was. Assumes nothing.
use Rattle.std.proofs.Common.{◌≡◌, ◌++◌, drop}
use Rattle.jobfile.specs.File.{readings_at}
use Rattle.running.proofs.read_block.Given as goal

abbrev pub invariant-loop-n : goal.invariant-loop-n
invariant-loop-n l = l.block ≡ readings_at l.bytes l.n l.from ++ drop l.n l.initial.block
