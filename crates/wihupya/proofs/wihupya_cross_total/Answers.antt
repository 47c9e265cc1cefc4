-- `wihupya::wihupya_cross_total` meets its contract: the call on the words' job record; the total is written, a refusal is not. Assumes nothing.
use mathlib.Core.Path.{ap, refl}
use Rattle.calls.specs.Replies.{total}
use Rattle.calls.specs.Table as table
use Rattle.wihupya.specs.Exports.{number_of, answer_words}
use Rattle.wihupya.proofs.Refusals.{answer_left}
use Rattle.wihupya.proofs.wihupya_cross_total.Goals as goal

pub returns : goal.returns
unfolding number_of answer_words
returns c =
    let is = ap (λ (x : table.Answer). x.reply) (rw c.into.ensures.0 at c.cross_total.ensures) in
    answer_left total c.cross_total.result _ c.put_answer.result c.args.total.now c.put_answer.new.lent (λ x. refl) is c.put_answer.ensures.number c.put_answer.ensures.words
