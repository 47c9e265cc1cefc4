-- `wihupya::wihupya_promote` meets its contract: the call on the words' job record, written as words again; a refusal writes none. Assumes nothing.
use mathlib.Core.Path.{◌≡◌, sym, ap, ◌∙◌, refl}
use mathlib.Core.Bool.{cond}
use mathlib.Core.List.{[], ◌∷◌}
use Rattle.std.specs.Prelude.{Result, is_ok}
use Rattle.calls.specs.declared.cause.Cause.{Cause}
use Rattle.promotion.specs.declared.Outcome.{Outcome}
use Rattle.promotion.specs.Outcomes.{outcome_of}
use Rattle.calls.specs.Cause.{cause_of}
use Rattle.calls.specs.Replies.{promotion}
use Rattle.calls.specs.Table as table
use Rattle.calls.specs.Calls.{CallResult}
use Rattle.wihupya.specs.Words.{words_of}
use Rattle.wihupya.specs.Exports.{number_of, answer_words}
use Rattle.wihupya.proofs.Refusals.{words_left}
use Rattle.wihupya.proofs.wihupya_promote.Goals as goal
use Rattle.wihupya.proofs.wihupya_promote.Goals.{in-Ok, in_default}

pub returns-clause-is : goal.returns-clause-is
unfolding number_of
returns-clause-is c =
    let is = rw c.from-after.ensures.0 at c.promote-promoted.ensures in
    let same : c.match-promoted.promoted ≡ c.promote-promoted.result = elim c.match-promoted.branch [ in-Ok w ↦ (w.promoted-is ∙ sym w.in-Ok.is) | in_default w ↦ w.promoted-is ] in
    words_left (λ (o : Outcome). promotion (outcome_of o)) c.args.job.now c.args.cells.now c.args.store.now (table.promote c.args.place) c.promote-promoted.result c.promote-promoted.new.job c.promote-promoted.new.cells c.args.store.now
    c.put_job.new.words c.put_job.result (λ o. refl) c.from-after.ensures.1 is
    (c.put_job.ensures.words ∙ ap (λ (r : Result Outcome Cause). cond (is_ok r) (words_of c.promote-promoted.new.job) c.args.job.now) same)
    (c.put_job.ensures.number ∙ ap (λ (r : Result Outcome Cause). cause_of r) same)

pub returns-clause-outcome : goal.returns-clause-outcome
unfolding answer_words
returns-clause-outcome c =
    elim c.match-promoted.branch [
      | in-Ok w ↦ (w.outcome-is ∙ ap (λ n. n ∷ []) w.outcome_word.ensures ∙ ap (λ (x : CallResult). answer_words x.answer.reply c.args.outcome.now) (rw c.from-after.ensures.0 at w.in-Ok.ensures))
      | in_default w ↦ (w.outcome-is ∙ ap (λ (x : CallResult). answer_words x.answer.reply c.args.outcome.now) (rw c.from-after.ensures.0 at w.in_default.ensures))
    ]
