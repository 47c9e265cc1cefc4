-- `wihupya::count_words` meets its contract: the eleven words one after the other. Assumes nothing.
use mathlib.Core.Path.{ap, ◌∙◌}
use mathlib.Core.List.{[], ◌∷◌}
use mir.Syntax.{w64}
use mir.Val.{SFits, of_z}
use Rattle.sums.proofs.Words.{back}
use Rattle.wihupya.specs.Words.{low_word, high_word}
use Rattle.wihupya.specs.Exports.{count_words}
use borrow.Author.Rules.{rules}
use Rattle.counting.specs.Answer.{counts_in}
use Rattle.wihupya.proofs.count_words.Goals as goal

pub returns : goal.returns
unfolding count_words counts_in
returns c =
    let n = c.args.counts in
    let fits : SFits w64 c.args.counts.mean = search rules in
    let mean = c.cast_unsigned-mean.ensures ∙ ap (of_z w64) (back n.mean fits) in
    λ i. c.low_word.ensures i ∷ c.high_word.ensures i ∷ (c.low_word-2.ensures ∙ ap low_word mean) i ∷ (c.high_word-2.ensures ∙ ap high_word mean) i ∷ n.old ∷ n.active ∷ n.wanted ∷ n.reserved ∷ n.ceiling ∷ c.low_word-3.ensures i ∷ c.high_word-3.ensures i ∷ []
