-- `writing::new_links` meets its contract: the axes passed have their link, the others none. Assumes nothing.
use Rattle.area.specs.Records.{levels_of}
use Rattle.writing.proofs.Linking.{SoFar}
use Rattle.writing.proofs.new_links.Given as goal

abbrev pub invariant-loop-axis : goal.invariant-loop-axis
invariant-loop-axis l = SoFar (levels_of l.held) l.levels l.axis l.links
