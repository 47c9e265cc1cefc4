-- `JobWords::from` meets its contract: the twelve words one after the other. Assumes nothing.
use mathlib.Core.Path.{ap, ◌∙◌}
use mathlib.Core.List.{[], ◌∷◌}
use mir.Syntax.{w64}
use mir.Val.{SFits, of_z}
use Rattle.sums.proofs.Words.{back}
use Rattle.wihupya.specs.Words.{low_word, high_word, words_of}
use borrow.Author.Rules.{rules}
use Rattle.wihupya.proofs.JobWordsFromAreaJobRecord.from.Goals as goal

pub returns : goal.returns
unfolding words_of
returns c =
    let j = c.args.job in
    let fits : SFits w64 c.args.job.mean = search rules in
    let mean = c.cast_unsigned-mean.ensures ∙ ap (of_z w64) (back j.mean fits) in
    λ i. c.low_word.ensures i ∷ c.high_word.ensures i ∷ c.low_word-2.ensures i ∷ c.high_word-2.ensures i ∷ (c.low_word-3.ensures ∙ ap low_word mean) i ∷ (c.high_word-3.ensures ∙ ap high_word mean) i ∷ j.settings.axes ∷ j.settings.budget ∷ j.held ∷ j.reserved ∷ c.low_word-4.ensures i ∷ c.high_word-4.ensures i ∷ []
