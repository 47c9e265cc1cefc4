-- `wihupya::report_bits` meets its contract: the bits one after the other. Assumes nothing.
use mathlib.Core.Path.{refl}
use Rattle.wihupya.specs.Exports.{report_bits}
use Rattle.wihupya.proofs.report_bits.Goals as goal

pub returns : goal.returns
unfolding report_bits
returns c = refl
