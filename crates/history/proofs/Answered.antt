-- No call of a run is refused.
-- Assumes nothing.
use mathlib.Core.Path.{◌≡◌, refl, ap, sym, ◌∙◌, subst}
use mathlib.Core.Logic.{◌⊎◌, inl, inr}
use mathlib.Core.List.Memᴰ
use mathlib.Core.List.{List, [], ◌∷◌, ◌++◌, Memᴰ}
use Prim.Native.Nat.{ℕ, zero, suc, ◌*◌, ◌<◌, ◌≤◌}
use lib.ListN.{length}
use Rattle.area.specs.declared.Settings.{Settings}
use Rattle.area.specs.Settings.{least_store}
use Rattle.area.specs.Log.{Log, Machine}
use Rattle.machine.specs.Log.{first_wanted, Active}
use Rattle.machine.specs.Promote as refining
use Rattle.machine.specs.Counts.{count_of}
use Rattle.machine.specs.Steps as steps
use Rattle.encoding.specs.Entries.{SoundMachine}
use Rattle.machine.proofs.Answers.{promoted_settings}
use Rattle.machine.proofs.Choices.{choose-facts}
use Rattle.machine.proofs.Facts.{step_facts}
use Rattle.calls.specs.Replies.{chosen, promotion}
use Rattle.published.specs.Figure.{Problem}
use Rattle.published.specs.Turns.{supply, TurnMade, ReadingValued}
use Rattle.calls.specs.Table.{Call, choose, promote, Answer, answer}
use Rattle.history.specs.LentCalls.{Part, LentCall, lengths_lent}
use Rattle.history.specs.Logged.{log_step, log_after, answers_by}
use Rattle.history.specs.Source.{supply_call, supplied_log, supply_calls, next_place, turn_calls, lend_all, Taken, is_accepted, is_chosen, is_promoted}
use Rattle.history.proofs.Moves.{step_log}
use Rattle.history.proofs.LogSteps.{promote_accepted, log_facts}
use Rattle.history.proofs.Accepts.{some-wanted, supply_step, supply-answer, choose-answer, promote_clear, promote_answer}
use Rattle.history.proofs.Runs.{enough, supply_sound, supply_settings, supply_count}

abbrev pub AllTaken : List Answer → Type 0
AllTaken [] = Unit {0}
AllTaken (y ∷ ys) = Taken y × AllTaken ys

pub one_taken : (ys : List Answer) → AllTaken ys → (y : Answer) → Memᴰ y ys → Taken y
one_taken [] t y m = absurd (Memᴰ.not-nil m)
one_taken (z ∷ ys) t y m = step (Memᴰ.cases_cons m) (one_taken ys t.1 y)
  where
    step : (y ≡ z) ⊎ Memᴰ y ys → (Memᴰ y ys → Taken y) → Taken y
    step (inl e) later = subst Taken (sym e) t.0
    step (inr n) later = later n

-- one list after another
pub both_taken : (l : Log) (xs ys : List LentCall) → AllTaken (answers_by l xs) → AllTaken (answers_by (log_after l xs) ys) → AllTaken (answers_by l (xs ++ ys))
unfolding answers_by log_after
both_taken l [] ys s t = t
both_taken l (x ∷ xs) ys s t = (s.0, both_taken (log_step l x) xs ys s.1 t)

module _ (x : Part) (P : Problem) (g : Settings) (long : 512 * 27 ≤ x.cells) (room : least_store g ≤ x.readings) (measured : ReadingValued P) where
  abbrev lend : Call → LentCall
  lend c = record { call = c; part = x }

  pub supplies_taken : (n : ℕ) (m : Machine) → SoundMachine m → m.log.settings ≡ g → count_of 0 m.log.entries ≡ n
      → AllTaken (answers_by m.log (lend_all x (supply_calls P n m.log)))
  unfolding lend_all supply_calls answers_by
  supplies_taken zero m v e c = tt
  supplies_taken (suc n) m v e c =
      let h = some-wanted m.log.entries n c in (
        is_accepted (supply-answer (lengths_lent x) m.log (enough x P g long room measured m e) P measured h),
        subst (λ (o : Log). AllTaken (answers_by o (lend_all x (supply_calls P n (supplied_log P m.log))))) (sym (stepped h))
            (subst (λ (o : Log). AllTaken (answers_by (supply P m).log (lend_all x (supply_calls P n o)))) supplied_is
            (supplies_taken n (supply P m) (supply_sound P measured m v h) (supply_settings P m ∙ e) (supply_count P measured m v h n c))),
      )
    where
      supplied_is : (supply P m).log ≡ supplied_log P m.log
      supplied_is = unfold supplied_log supply steps.deliver in refl

      stepped : first_wanted m.log.entries < length m.log.entries → log_step m.log (lend (supply_call P m.log)) ≡ (supply P m).log
      stepped h =
          sym (step_log m (lend (supply_call P m.log)))
          ∙ ap (λ (y : Machine). y.log) (supply_step P (lend (supply_call P m.log)) m (enough x P g long room measured m e) measured h refl)

  -- a turn
  pub turn_taken : (m : Machine) → SoundMachine m → m.log.settings ≡ g → length m.log.entries ≤ first_wanted m.log.entries → TurnMade m.log
      → AllTaken (answers_by m.log (lend_all x (turn_calls P m.log)))
  unfolding lend_all turn_calls answers_by steps.promote_step
  turn_taken m v e free made = (
    is_chosen p (choose-answer (lengths_lent x) m.log (enough x P g long room measured m e) free ∙ ap (λ o. answer (chosen o)) made.0),
    subst (λ (o : Log). AllTaken (answers_by o (lend_all x (promote p ∷ supply_calls P (count_of 0 after.entries) after)))) (sym chose) (
      is_promoted (promote_answer (lengths_lent x) m.log (enough x P g long room measured m e) free p a ∙ ap (λ o. answer (promotion o)) made.1),
      subst (λ (o : Log). AllTaken (answers_by o (lend_all x (supply_calls P (count_of 0 after.entries) after)))) (sym stepped)
          (supplies_taken (count_of 0 after.entries) (steps.promote_step m p) (step_facts.promote m p v a) (promoted_settings m.log.settings.budget m.log p ∙ e) refl),
    ),
  )
    where
      p : ℕ
      p = next_place m.log

      after : Log
      after = (refining.promote_at m.log (next_place m.log)).log

      a : Active m.log.entries (next_place m.log)
      a = choose-facts.place_active m.log p made.0

      chose : log_step m.log (lend choose) ≡ m.log
      chose = log_facts.after_choose m.log (lend choose) refl

      stepped : log_step m.log (lend (promote (next_place m.log))) ≡ (refining.promote_at m.log (next_place m.log)).log
      stepped = promote_accepted m.log (lend (promote p)) p refl (promote_clear (lengths_lent x) m.log (enough x P g long room measured m e) free p a)
