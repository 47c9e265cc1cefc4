-- `wihupya::total_words` meets its contract: the two words of the total's bits. Assumes nothing.
use mathlib.Core.Path.{ap, ◌∙◌}
use mathlib.Core.List.{[], ◌∷◌}
use mir.Syntax.{w64}
use mir.Val.{of_z}
use Rattle.sums.proofs.Words.{back}
use Rattle.wihupya.specs.Words.{low_word, high_word}
use Rattle.wihupya.specs.Exports.{total_words}
use Rattle.wihupya.proofs.total_words.Goals as goal

pub returns : goal.returns
unfolding total_words
returns c =
    let bits = c.cast_unsigned-bits.ensures ∙ ap (of_z w64) (back c.args.total c.ranges.total) in
    λ i. (c.low_word.ensures ∙ ap low_word bits) i ∷ (c.high_word.ensures ∙ ap high_word bits) i ∷ []
