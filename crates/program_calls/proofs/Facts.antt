-- The program is a list of calls, proved.
-- The idea: from the start on the execution and the calls agree step by step; what is found after a list of calls is then said of them.
-- Assumes nothing.
use mathlib.Core.Path.{◌≡◌, refl, ap, sym, ◌∙◌, subst}
use mathlib.Core.Logic.{◌⊎◌, inl, inr}
use mathlib.Core.Bool.{false}
use mathlib.Core.List.{List, [], ◌∷◌, ◌++◌}
use Prim.Native.Nat.{ℕ, ◌-◌}
use native.Mathlib.Omega.{arith}
use Rattle.area.specs.declared.Settings.{Settings}
use Rattle.area.specs.Settings.{SettingsFit}
use Rattle.area.specs.Log.{Log, Machine}
use Rattle.machine.specs.Log.{any_wanted}
use Rattle.machine.specs.Choose as choice
use Rattle.machine.specs.Counts.{count_of}
use Rattle.machine.specs.Steps as steps
use Rattle.machine.specs.Causes.{first_cause, start_causes}
use Rattle.machine.proofs.Facts.{step_facts}
use Rattle.machine.proofs.Means.{mean_facts}
use Rattle.calls.specs.Replies.{accepted}
use Rattle.calls.specs.Table.{Call, start, answer}
use Rattle.calls.specs.Calls.{CallResult, call_on}
use Rattle.calls.proofs.Accepted.{startable}
use Rattle.calls.proofs.Rows.{start_accepts}
use Rattle.published.specs.Figure.{Problem}
use Rattle.published.specs.Turns.{SettingsMatch, Supplied}
use Rattle.published.proofs.Course.{Course, start_course}
use Rattle.published.proofs.ByRule.{ByRule, start_rule}
use Rattle.history.specs.LentCalls.{LentCall}
use Rattle.history.specs.Logged.{state_of, answers_by}
use Rattle.history.specs.Promotions.{AllChosen}
use Rattle.history.specs.Storage.{Storage, area_lent, Lent, AllLent}
use Rattle.history.specs.Found.{Demand}
use Rattle.history.specs.Source.{MeanFollows, StepsFollow, RuleFollows, lend_all}
use Rattle.history.proofs.Moves.{MachineInvariant}
use Rattle.history.proofs.Steps.{lengths}
use Rattle.history.proofs.Lists.{machine_after, after_log, after_fine}
use Rattle.history.proofs.Demand.{third_demand}
use Rattle.history.proofs.Published.{mean_follows}
use Rattle.history.proofs.Moments.{after_course, steps_of, after_rule, rule_of}
use Rattle.jobfile.specs.Form.{formed, form_of, entry_count}
use Rattle.reporting.specs.Text.{line, end_word, Ending, met, capped, spent, short, ending_word, report_text, refusal_text}
use Rattle.running.specs.Execution.{own_lengths, refused_at, ended, execution, step_limit, start_byte, start_cause, result_of, file_settings}
use Rattle.running.specs.Report.{report_values_of, text_in, text_of}
use Rattle.running.specs.Facts.{AllowedResult}
use Rattle.running.proofs.Whole.{refused_start, executed}
use Rattle.running.proofs.Facts.{execution-facts}
use Rattle.program_calls.specs.Calls.{own_part, lent, start_call, InTurn, later_calls, program_log, program_promotions}
use Rattle.program_calls.specs.Facts.{EndingAnswers, EndsBy, RefusedBy, ResultBy, LoopEnded, Posed, ProgramIsCalls, PrintedEnd, EndMet, EndCapped, EndSpent, EndShort, ProgramFacts}
use Rattle.program_calls.proofs.Answers.{start_taken, start_refused}
use Rattle.program_calls.proofs.Places.{in_turn, turn_chosen}
use Rattle.program_calls.proofs.Steps.{agrees}
use Rattle.program_calls.proofs.Endings.{only_ended, right_form, start_accepts_it}
use Rattle.program_calls.proofs.Loops.{state_is, loop_ended, ended_problem, met_within, capped_above, loop_spent, spent_problem, still_wanted, loop_short, short_problem}

all_lent : (w : Storage) → Lent w own_part → (xs : List Call) → AllLent w (lend_all own_part xs)
unfolding lend_all
all_lent w h [] = tt
all_lent w h (x ∷ xs) = (h, all_lent w h xs)

module _ (c : List ℕ) (right : form_of c ≡ formed) (none : start_cause c ≡ 0) where
  abbrev g : Settings
  g = file_settings c

  abbrev later : List LentCall
  later = lend_all own_part (later_calls c)

  fit : SettingsFit (file_settings c)
  fit = (startable own_lengths (file_settings c) none).settings

  begun : MachineInvariant (steps.started (file_settings c))
  begun = record { sound = step_facts.start (file_settings c) fit; mean = unfold steps.started in sym (mean_facts.start (file_settings c)) }

  -- ---- what it comes to

  by_calls : ResultBy c (steps.start_log (file_settings c)) 0 (later_calls c) (result_of c)
  by_calls = subst (ResultBy c (steps.start_log (file_settings c)) 0 (later_calls c)) (sym (executed c right none)) agree
    where
      agree : ResultBy c (steps.start_log (file_settings c)) 0 (later_calls c) (execution c step_limit (steps.started (file_settings c)) 0)
      agree = unfold later_calls steps.started in agrees c step_limit (steps.started (file_settings c)) 0 begun (unfold steps.started in refl)

  -- ---- the third demand

  accepted_there : (w : Storage) → Lent w own_part → (call_on (area_lent w own_part) (start (file_settings c))).answer ≡ answer accepted
  accepted_there w h =
      ap (λ (y : CallResult). y.answer)
      (sym (start_accepts (area_lent w own_part) (file_settings c) _ refl (ap (λ z. first_cause (start_causes z (file_settings c))) (lengths w own_part h) ∙ none)))

  demand : (w : Storage) → Lent w own_part → Demand w (lent (start_call c)) later g
  demand w h = third_demand w (lent (start_call c)) later g (h, all_lent w h (later_calls c)) refl (accepted_there w h)

  -- ---- the log after the calls

  abbrev state : Machine
  state = machine_after (steps.started g) later

  state_fine : MachineInvariant (machine_after (steps.started (file_settings c)) (lend_all own_part (later_calls c)))
  state_fine = after_fine (steps.started (file_settings c)) begun (lend_all own_part (later_calls c))

  log_is : (machine_after (steps.started (file_settings c)) (lend_all own_part (later_calls c))).log ≡ program_log c
  log_is = unfold program_log steps.started in after_log (steps.started (file_settings c)) (lend_all own_part (later_calls c))

  means : MeanFollows (program_log c)
  means = subst MeanFollows log_is (mean_follows state state_fine)

  course : Course (machine_after (steps.started (file_settings c)) (lend_all own_part (later_calls c))).log (program_promotions c)
  unfolding program_promotions steps.started
  course = after_course (steps.started g) begun [] (start_course g) later

  follows : StepsFollow (program_log c) (program_promotions c)
  follows = subst (λ (l : Log). StepsFollow l (program_promotions c)) log_is (steps_of state state_fine (program_promotions c) course)

  both_in_turn : InTurn (steps.start_log (file_settings c)) (later_calls c)
  unfolding later_calls
  both_in_turn = in_turn c step_limit (steps.start_log g) 0

  places : AllChosen (steps.start_log (file_settings c)) (lend_all own_part (later_calls c))
  places = turn_chosen (steps.start_log g) (later_calls c) both_in_turn

  ruled : RuleFollows (program_log c) (program_promotions c)
  ruled = subst (λ (l : Log). RuleFollows l (program_promotions c)) log_is (rule_of state.log (program_promotions c) by_rule)
    where
      by_rule : ByRule (machine_after (steps.started (file_settings c)) (lend_all own_part (later_calls c))).log (program_promotions c)
      by_rule = unfold program_promotions steps.started in after_rule (steps.started g) begun [] (start_course g) later (inl (start_rule g)) places

  -- ---- where it ends

  module _ (e : Ending) (m : Machine) (used : ℕ) (is : result_of c ≡ ended e m used) where
    ends : EndsBy c (steps.start_log (file_settings c)) 0 (later_calls c) e m used
    ends = subst (ResultBy c (steps.start_log (file_settings c)) 0 (later_calls c)) is by_calls

    text_is : text_of c ≡ report_text (report_values_of e m (entry_count c - used))
    unfolding text_of
    text_is = ap (text_in (entry_count c)) is ∙ unfold text_in in refl

    printed : (m ≡ state_of (program_log c)) × (text_of c ≡ report_text (report_values_of e (state_of (program_log c)) (entry_count c - used)))
    printed =
        let same = state_is c fit follows ruled e m used ends in
        (same, text_is ∙ ap (λ (x : Machine). report_text (report_values_of e x (entry_count c - used))) same)

  refuses : (number byte : ℕ) → result_of c ≡ refused_at number byte → RefusedBy c (steps.start_log g) 0 (later_calls c) number byte × (text_of c ≡ refusal_text number byte)
  refuses number byte is = (subst (ResultBy c (steps.start_log g) 0 (later_calls c)) is by_calls, text)
    where
      text : text_of c ≡ refusal_text number byte
      text = unfold text_of in ap (text_in (entry_count c)) is ∙ unfold text_in in refl

  -- met or capped is what choose answers last, with nothing wanted
  ended_choice : (e : Ending) (m : Machine) (used : ℕ) → (e ≡ met) ⊎ (e ≡ capped) → EndsBy c (steps.start_log g) 0 (later_calls c) e m used
      → (any_wanted m.log.entries ≡ false) × ((choice.choose m.log ≡ choice.met) ⊎ (choice.choose m.log ≡ choice.capped))
  ended_choice e m used (inl q) by =
      let x = subst (λ k. EndingAnswers c k m used (answers_by (steps.start_log g) (lend_all own_part (later_calls c)))) q by.answers in
      (x.1, inl x.2)
  ended_choice e m used (inr q) by =
      let x = subst (λ k. EndingAnswers c k m used (answers_by (steps.start_log g) (lend_all own_part (later_calls c)))) q by.answers in
      (x.1, inr x.2)

  ended_loop : (e : Ending) (m : Machine) (used : ℕ) → (e ≡ met) ⊎ (e ≡ capped) → EndsBy c (steps.start_log g) 0 (later_calls c) e m used
      → (P : Problem) → SettingsMatch (file_settings c) P → Supplied P (program_log c).entries → LoopEnded P c e m used (count_of 2 (program_log c).entries)
  ended_loop e m used which by P posed supplied = let x = ended_choice e m used which by in loop_ended c fit follows ruled e m used by x.0 P posed supplied x.1

  ended_posed : (e : Ending) (m : Machine) (used : ℕ) → (e ≡ met) ⊎ (e ≡ capped) → EndsBy c (steps.start_log g) 0 (later_calls c) e m used → Posed c
  ended_posed e m used which by = ended_problem c fit follows ruled e m used by (ended_choice e m used which by).0

  pub is_calls : ProgramIsCalls c
  is_calls =
      record {
        starts = λ l. start_taken l g none;
        demand = demand;
        means = means;
        steps = follows;
        in_turn = both_in_turn;
        places = places;
        rule = ruled;
        result = by_calls;
        ends = ends;
        printed = printed;
        refuses = refuses;
        loop_ended = λ e m used which is. ended_loop e m used which (ends e m used is);
        problem = λ e m used which is. ended_posed e m used which (ends e m used is);
      }

refused_text : (c : List ℕ) → form_of c ≡ formed → (start_cause c ≡ 0 → ⊥) → text_of c ≡ refusal_text (start_cause c) (start_byte (start_cause c))
unfolding text_of
refused_text c right f = ap (text_in (entry_count c)) (refused_start c right f) ∙ unfold text_in in refl

-- ---- the last line

-- whose execution then ends with that word
printed_end : (c before : List ℕ) (e : Ending) → text_of c ≡ before ++ line end_word (ending_word e) → PrintedEnd c e
printed_end c before e h =
    let (m, used, is) = only_ended e (entry_count c) (result_of c) before (unfold text_of in h) in
    record { right = right_form c e m used is; starts = start_accepts_it c e m used is; state = m; used = used; result = is }

module _ (c : List ℕ) (e : Ending) (p : PrintedEnd c e) where
  by_end : EndsBy c (steps.start_log (file_settings c)) 0 (later_calls c) e p.state p.used
  by_end = ends c p.right p.starts e p.state p.used p.result

  fit_there : SettingsFit (file_settings c)
  fit_there = fit c p.right p.starts

  follows_there : StepsFollow (program_log c) (program_promotions c)
  follows_there = follows c p.right p.starts

  ruled_there : RuleFollows (program_log c) (program_promotions c)
  ruled_there = ruled c p.right p.starts

end_met : (c before : List ℕ) → text_of c ≡ before ++ line end_word (ending_word met) → EndMet c
end_met c before h =
    let p = printed_end c before met h in
    let by = by_end c met p in
    let calls = is_calls c p.right p.starts in
    record {
      printed = p;
      loop = λ P posed supplied. (
        calls.loop_ended met p.state p.used (inl refl) p.result P posed supplied,
        met_within c (fit_there c met p) (follows_there c met p) (ruled_there c met p) met p.state p.used by by.answers.1 P posed supplied by.answers.2,
      );
      problem = calls.problem met p.state p.used (inl refl) p.result;
    }

end_capped : (c before : List ℕ) → text_of c ≡ before ++ line end_word (ending_word capped) → EndCapped c
end_capped c before h =
    let p = printed_end c before capped h in
    let by = by_end c capped p in
    let calls = is_calls c p.right p.starts in
    record {
      printed = p;
      loop = λ P posed supplied. (
        calls.loop_ended capped p.state p.used (inr refl) p.result P posed supplied,
        capped_above c (fit_there c capped p) (follows_there c capped p) (ruled_there c capped p) capped p.state p.used by by.answers.1 P posed supplied by.answers.2,
      );
      problem = calls.problem capped p.state p.used (inr refl) p.result;
    }

end_spent : (c before : List ℕ) → text_of c ≡ before ++ line end_word (ending_word spent) → EndSpent c
end_spent c before h =
    let p = printed_end c before spent h in
    record {
      printed = p;
      loop = loop_spent c (fit_there c spent p) (follows_there c spent p) (ruled_there c spent p) p.state p.used (by_end c spent p);
      problem = spent_problem c (fit_there c spent p) (follows_there c spent p) (ruled_there c spent p) p.state p.used (by_end c spent p);
    }

end_short : (c before : List ℕ) → text_of c ≡ before ++ line end_word (ending_word short) → EndShort c
end_short c before h =
    let p = printed_end c before short h in
    let by = by_end c short p in
    let most = (subst (AllowedResult (entry_count c)) p.result (execution-facts.well_formed c p.right)).1 in
    record {
      printed = p;
      exhausted = omega (arith, by.answers.2, most);
      wanted = still_wanted c (fit_there c short p) (follows_there c short p) (ruled_there c short p) p.state p.used by;
      loop = loop_short c (fit_there c short p) (follows_there c short p) (ruled_there c short p) p.state p.used by;
      problem = short_problem c (fit_there c short p) (follows_there c short p) (ruled_there c short p) p.state p.used by;
    }

pub program_facts : ProgramFacts
program_facts =
    record {
      calls = is_calls;
      start_refused = λ c right f l. (start_refused l (file_settings c) f, refused_text c right f);
      end_met = end_met;
      end_capped = end_capped;
      end_spent = end_spent;
      end_short = end_short;
    }
