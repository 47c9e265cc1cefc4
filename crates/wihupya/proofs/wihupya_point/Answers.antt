-- `wihupya::wihupya_point` meets its contract: the call on the words' job record. Assumes nothing.
use mathlib.Core.Path.{ap, ◌∙◌, refl}
use Rattle.calls.specs.Replies.{accepted}
use Rattle.calls.specs.Table as table
use Rattle.wihupya.specs.Exports.{number_of}
use Rattle.wihupya.proofs.Refusals.{cause_number}
use Rattle.wihupya.proofs.wihupya_point.Goals as goal

pub returns : goal.returns
unfolding number_of
returns c =
    let is = rw c.into.ensures.0 at c.point.ensures in
    (c.number_of.ensures ∙ cause_number (λ u. accepted) c.point.result (λ u. refl) ∙ ap (λ (x : table.Answer). number_of x.reply) is, ap (λ (x : table.Answer). x.buffer) is)
