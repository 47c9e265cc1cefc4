-- `wihupya::wihupya_points` meets its contract: the call on the words' job record; the counts are written, a refusal is not. Assumes nothing.
use mathlib.Core.Path.{ap, refl}
use Rattle.delivery.specs.declared.PointCounts.{PointCounts}
use Rattle.calls.specs.Replies.{wrote}
use Rattle.calls.specs.Table as table
use Rattle.wihupya.specs.Exports.{number_of, answer_words}
use Rattle.wihupya.proofs.Refusals.{answer_left}
use Rattle.wihupya.proofs.wihupya_points.Goals as goal

pub returns : goal.returns
unfolding number_of answer_words
returns c =
    let is = rw c.into.ensures.0 at c.points.ensures in
    let left = answer_left (λ (x : PointCounts). wrote x.written x.size) c.points.result _ c.put_answer.result c.args.counts.now c.put_answer.new.lent (λ x. refl) (ap (λ (x : table.Answer). x.reply) is) c.put_answer.ensures.number c.put_answer.ensures.words in
    (left.0, left.1, ap (λ (x : table.Answer). x.buffer) is)
