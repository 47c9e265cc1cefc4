-- `wihupya::wihupya_result` meets its contract: the call on the words' job record; the counts are written, a refusal is not. Assumes nothing.
use mathlib.Core.Path.{ap, refl}
use Rattle.counting.specs.declared.Counts.{Counts}
use Rattle.counting.specs.Answer.{counts_in}
use Rattle.calls.specs.Replies.{counts}
use Rattle.calls.specs.Table as table
use Rattle.wihupya.specs.Exports.{number_of, answer_words}
use Rattle.wihupya.proofs.Refusals.{answer_left}
use Rattle.wihupya.proofs.wihupya_result.Goals as goal

pub returns : goal.returns
unfolding number_of answer_words
returns c =
    let is = ap (λ (x : table.Answer). x.reply) (rw c.into.ensures.0 at c.result.ensures) in
    answer_left (λ (x : Counts). counts (counts_in x)) c.result.result _ c.put_answer.result c.args.counts.now c.put_answer.new.lent (λ x. refl) is c.put_answer.ensures.number c.put_answer.ensures.words
