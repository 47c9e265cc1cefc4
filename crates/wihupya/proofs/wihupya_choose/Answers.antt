-- `wihupya::wihupya_choose` meets its contract: the call on the words' job record; a choice is written, a refusal is not. Assumes nothing.
use mathlib.Core.Path.{◌≡◌, sym, ap, ◌∙◌, refl}
use Prim.Native.Nat.{ℕ, ◌^◌, ◌<◌}
use native.Mathlib.Omega.{arith}
use Rattle.std.specs.Prelude.{Result, Ok, Err, IfOk}
use Rattle.area.specs.Encoding.{Area, area_of}
use Rattle.machine.specs.Choose.{place}
use Rattle.promotion.specs.declared.Choice.{Choice}
use Rattle.promotion.specs.Outcomes.{choice_of}
use Rattle.calls.specs.declared.cause.Cause.{Cause}
use Rattle.calls.specs.Replies.{chosen, reply_of_choose}
use Rattle.calls.specs.Table as table
use Rattle.calls.specs.Calls.{call_on}
use Rattle.calls.proofs.Facts.{call_facts}
use Rattle.wihupya.specs.Exports.{number_of, answer_words}
use Rattle.wihupya.proofs.Refusals.{answer_left}
use Rattle.wihupya.proofs.wihupya_choose.Goals as goal

-- the place that is chosen is one of 512
small : (a : Area) (r : Result Choice Cause) → table.answer (reply_of_choose r) ≡ (call_on a table.choose).answer → IfOk r (λ x. (p : ℕ) → choice_of x ≡ place p → p < 2 ^ 32)
small a (Ok x) is = λ p e. let h = call_facts.place_active a p (sym (ap (λ (y : table.Answer). y.reply) is) ∙ ap chosen e) in omega (arith, h.2)
small a (Err d) is = tt

pub put_answer-requires : goal.put_answer-requires
put_answer-requires c = small (area_of c.into.result c.args.cells.now c.args.store.now) c.choose.result c.choose.ensures

pub returns : goal.returns
unfolding number_of answer_words
returns c =
    let is = ap (λ (x : table.Answer). x.reply) (rw c.into.ensures.0 at c.choose.ensures) in
    answer_left (λ (x : Choice). chosen (choice_of x)) c.choose.result _ c.put_answer.result c.args.choice.now c.put_answer.new.lent (λ x. refl) is c.put_answer.ensures.number c.put_answer.ensures.words
