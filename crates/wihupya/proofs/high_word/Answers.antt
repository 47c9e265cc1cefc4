-- `wihupya::high_word` meets its contract: the quotient. Assumes nothing.
use mathlib.Core.Path.{refl}
use Rattle.wihupya.specs.Words.{high_word}
use Rattle.wihupya.proofs.high_word.Goals as goal

pub returns : goal.returns
unfolding high_word
returns c = refl
