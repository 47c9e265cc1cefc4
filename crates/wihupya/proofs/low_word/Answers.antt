-- `wihupya::low_word` meets its contract: the remainder. Assumes nothing.
use mathlib.Core.Path.{refl}
use Rattle.wihupya.specs.Words.{low_word}
use Rattle.wihupya.proofs.low_word.Goals as goal

pub returns : goal.returns
unfolding low_word
returns c = refl
