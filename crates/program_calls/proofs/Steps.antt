-- The execution beside the calls, step by step.
-- The idea: both ask whether a block is wanted; a delivery is refused by the cause that the execution looks for, and each accepted call does
-- to the log what the execution does to its state, whose mean is worked from its readings.
-- Assumes nothing.
use mathlib.Core.Path.{◌≡◌, refl, ap, sym, ◌∙◌, subst}
use mathlib.Core.Bool.{Bool, true, false, cond}
use mathlib.Core.List.{List, [], ◌∷◌}
use Prim.Native.Nat.{ℕ, zero, suc, ◌+◌}
use native.Mathlib.Omega.{arith}
use borrow.Author.Tests.{eqb-true, eqb-false, leb-true, leb-false}
use lib.Dec.{leb, eqb}
use lib.IntN.{ℤ}
use Rattle.area.specs.Log.{Log, Machine}
use Rattle.machine.specs.Log.{any_wanted, Active}
use Rattle.machine.specs.Choose as choice
use Rattle.machine.specs.Promote as refining
use Rattle.machine.specs.Steps as steps
use Rattle.machine.proofs.Answers.{promoted_settings, spent_not}
use Rattle.machine.proofs.Choices.{choose-facts}
use Rattle.calls.specs.Replies.{refused, accepted, chosen, promotion}
use Rattle.calls.specs.Table.{Call, deliver, choose, promote, Answer, answer, row, effect_of, changed}
use Rattle.calls.proofs.Rows.{promote_effect}
use Rattle.history.specs.Logged.{state_of, refusal_by, log_step, log_after, answer_by, answers_by}
use Rattle.history.specs.Source.{lend_all, Taken, is_accepted, is_chosen, is_promoted}
use Rattle.history.proofs.Moves.{MachineInvariant, from_log, moved_fine}
use Rattle.history.proofs.LogSteps.{promote_accepted, log_facts}
use Rattle.jobfile.specs.Form.{entry_count}
use Rattle.jobfile.specs.File.{entry_of}
use Rattle.reporting.specs.Text.{Ending, met, capped, spent, short}
use Rattle.running.specs.Execution.{Result, refused_at, ended, unfinished, delivery_cause, delivery_byte, by_outcome, by_choice, execution, file_settings}
use Rattle.running.specs.Facts.{NamesReading}
use Rattle.running.proofs.Ends.{delivery_numbers}
use Rattle.running.proofs.NamedBytes.{range_only}
use Rattle.running.proofs.Facts.{execution-facts}
use Rattle.program_calls.specs.Calls.{own_part, own_lent, lent, entry_call, goes_on_with, goes_on_after, goes_on, followed_by, chosen_place, promote_call, calls_from, next_entry, deliveries_from}
use Rattle.program_calls.specs.Facts.{LastAnswer, EndingAnswers, EndsBy, RefusedBy, ResultBy}
use Rattle.program_calls.proofs.Answers.{deliver-cause, deliver_taken, deliver_refused, choose-answer, promote_clear, promote_answer, goes_on_lem, stops, only, after_taken}

-- ---- a call before the others, which the program goes on after

module _ (c : List ℕ) (l : Log) (i : ℕ) (x : Call) (xs : List Call) (t : Taken (answer_by own_lent l x)) where
  ending_too : (e : Ending) (m : Machine) (used : ℕ) → EndingAnswers c e m used (answers_by (log_step l (lent x)) (lend_all own_part xs)) → EndingAnswers c e m used (answers_by l (lend_all own_part (x ∷ xs)))
  unfolding lend_all answers_by
  ending_too met m used a = (after_taken _ _ _ t a.0, a.1, a.2)
  ending_too capped m used a = (after_taken _ _ _ t a.0, a.1, a.2)
  ending_too spent m used a = (after_taken _ _ _ t a.0, a.1, a.2)
  ending_too short m used a = ((t, a.0), a.1, a.2)

  one_more : (r : Result) → ResultBy c (log_step l (lent x)) (next_entry i x) xs r → ResultBy c l i (x ∷ xs) r
  unfolding lend_all answers_by log_after deliveries_from
  one_more (refused_at number byte) o =
      record {
        cause = o.cause;
        answers = after_taken _ _ _ t o.answers;
        entry = o.entry;
        there = o.there;
        last = o.last;
        before = x ∷ o.before;
        delivery = ap (λ ys. x ∷ ys) o.delivery;
        named = o.named;
        count_field = o.count_field;
        reading = o.reading;
      }
  one_more (ended e m used) o = record { state = o.state; settings = o.settings; answers = ending_too e m used o.answers; entries = o.entries }
  one_more unfinished o = tt

-- ---- one step, and all

module _ (c : List ℕ) where
  abbrev Agrees : ℕ → Type 0
  Agrees n = (m : Machine) (i : ℕ) → MachineInvariant m → m.log.settings ≡ file_settings c → ResultBy c m.log i (calls_from c n m.log i) (execution c n m i)

  module _ (n : ℕ) (later : Agrees n) (m : Machine) (i : ℕ) (f : MachineInvariant m) (g : m.log.settings ≡ file_settings c) where
    abbrev l : Log
    l = m.log

    abbrev rs : List ℤ
    rs = (entry_of c i).readings

    abbrev ind : ℕ
    ind = (entry_of c i).indicator

    abbrev next : List Call
    next = calls_from c n (log_step l (lent (entry_call c i))) (i + 1)

    -- entry i is delivered
    delivering : delivery_cause c m i ≡ 0 → ResultBy c l i (followed_by l (entry_call c i) next) (execution c n (steps.deliver m rs ind) (i + 1))
    unfolding next_entry goes_on
    delivering none =
        subst (λ xs. ResultBy c l i xs (execution c n (steps.deliver m rs ind) (i + 1))) (sym (goes_on_lem l (entry_call c i) (answer accepted) next taken refl))
        (one_more c l i (entry_call c i) next (is_accepted taken) (execution c n (steps.deliver m rs ind) (i + 1))
        (subst (λ (o : Log). ResultBy c o (i + 1) (calls_from c n o (i + 1)) (execution c n (steps.deliver m rs ind) (i + 1))) (sym stepped)
        (later (steps.deliver m rs ind) (i + 1) fine (unfold steps.deliver in g))))
      where
        taken : answer_by own_lent m.log (deliver (entry_of c i).readings (entry_of c i).indicator) ≡ answer accepted
        taken = deliver_taken m.log (entry_of c i).readings (entry_of c i).indicator none

        stepped : log_step m.log (lent (entry_call c i)) ≡ (steps.deliver m (entry_of c i).readings (entry_of c i).indicator).log
        stepped =
            unfold steps.deliver in
            log_facts.accepted_deliver m.log (lent (entry_call c i)) (entry_of c i).readings (entry_of c i).indicator refl
            (deliver-cause m.log (entry_of c i).readings (entry_of c i).indicator ∙ none)

        fine : MachineInvariant (steps.deliver m (entry_of c i).readings (entry_of c i).indicator)
        fine =
            unfold effect_of row changed in
            moved_fine m f own_lent (deliver (entry_of c i).readings (entry_of c i).indicator) (deliver-cause m.log (entry_of c i).readings (entry_of c i).indicator ∙ none)

    -- its delivery is refused
    refusing : any_wanted l.entries ≡ true → leb (entry_count c) i ≡ false → eqb (delivery_cause c m i) 0 ≡ false
        → ResultBy c l i (followed_by l (entry_call c i) next) (refused_at (delivery_cause c m i) (delivery_byte c i (delivery_cause c m i)))
    unfolding goes_on
    refusing some left e =
        subst (λ xs. RefusedBy c l i xs (delivery_cause c m i) (delivery_byte c i (delivery_cause c m i)))
        (sym (stops l (entry_call c i) (answer (refused (delivery_cause c m i))) next said refl)) last_one
      where
        said : answer_by own_lent m.log (deliver (entry_of c i).readings (entry_of c i).indicator) ≡ answer (refused (delivery_cause c m i))
        said = deliver_refused m.log (entry_of c i).readings (entry_of c i).indicator (eqb-false (delivery_cause c m i) 0 e)

        last_one : RefusedBy c m.log i (entry_call c i ∷ []) (delivery_cause c m i) (delivery_byte c i (delivery_cause c m i))
        last_one =
            unfold lend_all answers_by deliveries_from next_entry in
            record {
              cause = delivery_numbers m (entry_of c i).readings f.sound some e;
              answers = only _ _ said;
              entry = i;
              there = leb-false (entry_count c) i left;
              last = omega arith;
              before = [];
              delivery = refl;
              named = refl;
              count_field = λ q. ap (delivery_byte c i) q ∙ execution-facts.count_byte c i;
              reading = λ q. subst (NamesReading c i) (ap (delivery_byte c i) (sym q)) (execution-facts.reading_byte c i (range_only m.log (entry_of c i).readings q));
            }

    with_wanted : any_wanted l.entries ≡ true → (t : Bool) → leb (entry_count c) i ≡ t
        → ResultBy c l i (cond t [] (followed_by l (entry_call c i) next))
        (cond t (ended short m i) (cond (eqb (delivery_cause c m i) 0) (execution c n (steps.deliver m rs ind) (i + 1)) (refused_at (delivery_cause c m i) (delivery_byte c i (delivery_cause c m i)))))
    unfolding lend_all answers_by log_after deliveries_from
    with_wanted some true e = record { state = from_log m f; settings = g; answers = (tt, some, leb-true (entry_count c) i e); entries = refl }
    with_wanted some false e = step (eqb (delivery_cause c m i) 0) refl
      where
        step : (t : Bool) → eqb (delivery_cause c m i) 0 ≡ t
            → ResultBy c m.log i (followed_by m.log (entry_call c i) (calls_from c n (log_step m.log (lent (entry_call c i))) (i + 1)))
            (cond t (execution c n (steps.deliver m (entry_of c i).readings (entry_of c i).indicator) (i + 1)) (refused_at (delivery_cause c m i) (delivery_byte c i (delivery_cause c m i))))
        step true q = delivering (eqb-true (delivery_cause c m i) 0 q)
        step false q = refusing some e q

    -- ---- nothing is wanted
    module _ (free : any_wanted l.entries ≡ false) where
      said : answer_by own_lent l choose ≡ answer (chosen (choice.choose l))
      said = choose-answer l f.sound.settings free

      -- a call that leaves the log, and the last one
      last_call : (x : Call) (y : Answer) (xs : List Call) (e : Ending) → answer_by own_lent l x ≡ y → goes_on y.reply ≡ false → log_step l (lent x) ≡ l → next_entry i x ≡ i
          → ((ys : List Answer) → LastAnswer y ys → EndingAnswers c e m i ys) → ResultBy c l i (followed_by l x xs) (ended e m i)
      last_call x y xs e there stop same used so =
          subst (λ zs. EndsBy c l i zs e m i) (sym (stops l x y xs there stop))
          (unfold lend_all answers_by log_after deliveries_from in
          record { state = from_log m f ∙ ap state_of (sym same); settings = g; answers = so _ (only _ _ there); entries = sym used })

      -- ---- a place is chosen
      module _ (p : ℕ) (chose : choice.choose m.log ≡ choice.place p) where
        abbrev after : List Call
        after = calls_from c n (log_step l (lent (promote p))) i

        a : Active m.log.entries p
        a = choose-facts.place_active m.log p chose

        answers : (o : refining.Outcome) → (refining.promote_at l p).outcome ≡ o → answer_by own_lent l (promote p) ≡ answer (promotion o)
        answers o is = promote_answer l f.sound.settings free p a ∙ ap (λ x. answer (promotion x)) is

        spending : (refining.promote_at l p).outcome ≡ refining.spent → ResultBy c l i (followed_by l (promote p) after) (ended spent m i)
        unfolding goes_on goes_on_after next_entry
        spending is =
            last_call (promote p) (answer (promotion refining.spent)) after spent (answers refining.spent is) refl
            (log_facts.idle_promote l (lent (promote p)) p refl (λ q. spent_not is q)) refl (λ ys x. (x, free, (p, chose, is)))

        promoting : (refining.promote_at l p).outcome ≡ refining.promoted → ResultBy c l i (followed_by l (promote p) after) (execution c n (steps.promote_step m p) i)
        unfolding next_entry goes_on goes_on_after
        promoting is =
            subst (λ xs. ResultBy c l i xs (execution c n (steps.promote_step m p) i)) (sym (goes_on_lem l (promote p) (answer (promotion refining.promoted)) after (answers refining.promoted is) refl))
            (one_more c l i (promote p) after (is_promoted (answers refining.promoted is)) (execution c n (steps.promote_step m p) i)
            (subst (λ (o : Log). ResultBy c o i (calls_from c n o i) (execution c n (steps.promote_step m p) i)) (sym stepped)
            (later (steps.promote_step m p) i fine (unfold steps.promote_step in promoted_settings m.log.settings.budget m.log p ∙ g))))
          where
            none : refusal_by own_lent m.log (promote p) ≡ 0
            none = promote_clear m.log f.sound.settings free p a

            stepped : log_step m.log (lent (promote p)) ≡ (steps.promote_step m p).log
            stepped = unfold steps.promote_step in promote_accepted m.log (lent (promote p)) p refl none

            fine : MachineInvariant (steps.promote_step m p)
            fine = subst MachineInvariant (promote_effect m p) (moved_fine m f own_lent (promote p) none)

        by_outcome_lem : (o : refining.Outcome) → (refining.promote_at l p).outcome ≡ o → ResultBy c l i (followed_by l (promote p) after) (by_outcome o m i (execution c n (steps.promote_step m p) i))
        unfolding by_outcome
        by_outcome_lem refining.spent e = spending e
        by_outcome_lem refining.promoted e = promoting e

        place_is : chosen_place (choice.choose m.log) ≡ p
        place_is = ap chosen_place chose ∙ unfold chosen_place in refl

        abbrev made : Result
        made = by_outcome (refining.promote_at l p).outcome m i (execution c n (steps.promote_step m p) i)

        choosing : ResultBy c l i (followed_by l choose (followed_by l (promote_call l) (calls_from c n (log_step l (lent (promote_call l))) i))) made
        unfolding next_entry goes_on goes_on_with
        choosing =
            subst (λ xs. ResultBy c l i xs made) (sym (goes_on_lem l choose (answer (chosen (choice.place p))) rest there refl))
            (one_more c l i choose rest (is_chosen p there) made
            (subst (λ (o : Log). ResultBy c o i rest made) (sym (log_facts.after_choose l (lent choose) refl))
            (subst (λ q. ResultBy c l i (followed_by l (promote q) (calls_from c n (log_step l (lent (promote q))) i)) made) (sym place_is)
            (by_outcome_lem (refining.promote_at l p).outcome refl))))
          where
            rest : List Call
            rest = followed_by m.log (promote_call m.log) (calls_from c n (log_step m.log (lent (promote_call m.log))) i)

            there : answer_by own_lent m.log choose ≡ answer (chosen (choice.place p))
            there = said ∙ ap (λ x. answer (chosen x)) chose

      abbrev rest : List Call
      rest = followed_by l (promote_call l) (calls_from c n (log_step l (lent (promote_call l))) i)

      by_choice_lem : (x : choice.Choice) → choice.choose l ≡ x → ResultBy c l i (followed_by l choose rest) (by_choice x m i (λ p. execution c n (steps.promote_step m p) i))
      unfolding by_choice goes_on goes_on_with next_entry
      by_choice_lem choice.met e =
          last_call choose (answer (chosen choice.met)) rest met (said ∙ ap (λ x. answer (chosen x)) e) refl (log_facts.after_choose l (lent choose) refl) refl (λ ys x. (x, free, e))
      by_choice_lem choice.capped e =
          last_call choose (answer (chosen choice.capped)) rest capped (said ∙ ap (λ x. answer (chosen x)) e) refl (log_facts.after_choose l (lent choose) refl) refl (λ ys x. (x, free, e))
      by_choice_lem (choice.place p) e = choosing p e

    one_step : ResultBy c l i (calls_from c (suc n) l i) (execution c (suc n) m i)
    unfolding execution calls_from
    one_step = step (any_wanted l.entries) refl
      where
        step : (t : Bool) → any_wanted m.log.entries ≡ t
            → ResultBy c m.log i
            (cond t
            (cond (leb (entry_count c) i) [] (followed_by m.log (entry_call c i) (calls_from c n (log_step m.log (lent (entry_call c i))) (i + 1))))
            (followed_by m.log choose (followed_by m.log (promote_call m.log) (calls_from c n (log_step m.log (lent (promote_call m.log))) i))))
            (cond t
            (cond (leb (entry_count c) i) (ended short m i)
            (cond (eqb (delivery_cause c m i) 0) (execution c n (steps.deliver m (entry_of c i).readings (entry_of c i).indicator) (i + 1)) (refused_at (delivery_cause c m i) (delivery_byte c i (delivery_cause c m i)))))
            (by_choice (choice.choose m.log) m i (λ p. execution c n (steps.promote_step m p) i)))
        step true e = with_wanted e (leb (entry_count c) i) refl
        step false e = by_choice_lem e (choice.choose m.log) refl

  pub agrees : (n : ℕ) → Agrees n
  unfolding execution calls_from
  agrees zero m i f g = tt
  agrees (suc n) m i f g = one_step n (agrees n) m i f g
