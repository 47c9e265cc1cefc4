-- Where a run ends, beside the loop of Fig. 1.
-- The idea: the state that is printed is the one that the log after the calls stands for, and that log follows Fig. 1; what choose
-- answers at it says whether the loop's test holds, and promote whether the next turn passes the limits.
-- Assumes nothing.
use mathlib.Core.Path.{◌≡◌, refl, ap, sym, ◌∙◌, subst}
use mathlib.Core.Logic.{◌⊎◌, inl, inr}
use mathlib.Core.Bool.{Bool, true, false}
use mathlib.Core.List.{List}
use Prim.Native.Nat.{ℕ, suc, ◌+◌, ◌-◌, ◌<◌}
use native.Mathlib.Omega.{arith}
use lib.IntN.{◌+ℤ◌}
use Rattle.sums.specs.Sums.{sum_of}
use Rattle.area.specs.declared.Settings.{Settings}
use Rattle.area.specs.Settings.{SettingsFit}
use Rattle.area.specs.Entry.{pending_of, carried_of}
use Rattle.area.specs.Log.{Log, Machine}
use Rattle.encoding.specs.Entries.{entry_at}
use Rattle.machine.specs.Log.{any_wanted, Active}
use Rattle.machine.specs.Choose as choice
use Rattle.machine.specs.Promote as refining
use Rattle.machine.specs.Steps.{start_log}
use Rattle.machine.specs.Counts.{count_of, counts_of}
use Rattle.machine.specs.Means.{cross_of}
use Rattle.machine.specs.Admitted.{total_of}
use Rattle.calls.specs.Replies.{chosen, promotion}
use Rattle.calls.specs.Table.{choose, promote, answer}
use Rattle.published.specs.Figure.{Problem, increment, loop_condition, select, turn_at, turn, turns, led}
use Rattle.published.specs.Turns.{wanted_of, SettingsMatch, ReadingValued, Supplied, SuppliedSoFar, ExceedsLimits}
use Rattle.history.specs.Logged.{state_of, answer_by}
use Rattle.history.specs.Source.{Follows, FollowsSoFar, StepsFollow, RuleFollows}
use Rattle.jobfile.specs.Form.{entry_count}
use Rattle.reporting.specs.Text.{Ending, spent, short}
use Rattle.running.specs.Execution.{file_settings}
use Rattle.running.specs.Report.{report_values_of}
use Rattle.program_calls.specs.Calls.{own_lent, later_calls, program_log, program_promotions}
use Rattle.program_calls.specs.Facts.{EndsBy, LoopEnded, WithinTolerance, LoopSpent, LoopShort, Posed}
use Rattle.program_calls.proofs.Answers.{choose-answer, promote_answer}

module _ (c : List ℕ) (fit : SettingsFit (file_settings c)) (follows : StepsFollow (program_log c) (program_promotions c)) (ruled : RuleFollows (program_log c) (program_promotions c)) where
  -- as many turns as old indices
  abbrev made : ℕ
  made = count_of 2 (program_log c).entries

  abbrev Ends : Ending → Machine → ℕ → Type 0
  Ends e m used = EndsBy c (start_log (file_settings c)) 0 (later_calls c) e m used

  -- Fig. 1 led by what was made old makes its own turns
  module _ (P : Problem) (posed : SettingsMatch (program_log c).settings P) (given : SuppliedSoFar P (program_log c).entries) where
    itself : led P (program_promotions c) ≡ turns P made
    itself = ruled.itself P posed given ∙ ap (turns P) follows.count

    went : (k : ℕ) → k < made → loop_condition P (turns P k) ≡ true
    went k h = ruled.went_on P posed given k (omega (arith, h, follows.count))

  so_far : (P : Problem) → Supplied P (program_log c).entries → SuppliedSoFar P (program_log c).entries
  so_far P given = record { readings = λ p h s. given.readings p h; indicators = λ p h s. given.indicators p h }

  module _ (e : Ending) (m : Machine) (used : ℕ) (ends : Ends e m used) where
    pub state_is : m ≡ state_of (program_log c)
    state_is = unfold program_log in ends.state

    log_same : m.log ≡ program_log c
    log_same = ap (λ (x : Machine). x.log) state_is ∙ unfold state_of in refl

    settings_are : (program_log c).settings ≡ file_settings c
    settings_are = ap (λ (o : Log). o.settings) (sym log_same) ∙ ends.settings

    posed_here : (P : Problem) → SettingsMatch (file_settings c) P → SettingsMatch (program_log c).settings P
    posed_here P posed = subst (λ s. SettingsMatch s P) (sym settings_are) posed

    -- what is printed as `scaled` is the log's mean
    scaled_is : (report_values_of e m (entry_count c - used)).scaled ≡ cross_of (program_log c).entries
    scaled_is = unfold report_values_of counts_of in ap (λ (x : Machine). x.mean) state_is ∙ unfold state_of in refl

    -- and the errors are the log's
    pending_is : (report_values_of e m (entry_count c - used)).pending ≡ pending_of (program_log c).entries
    pending_is = unfold report_values_of counts_of in ap (λ (l : Log). pending_of l.entries) log_same

    carried_is : (report_values_of e m (entry_count c - used)).carried ≡ carried_of (program_log c).settings.axes (program_log c).entries
    carried_is = unfold report_values_of counts_of in ap (λ (l : Log). carried_of l.settings.axes l.entries) log_same

    -- ---- with nothing wanted
    module _ (none : any_wanted m.log.entries ≡ false) where
      free : any_wanted (program_log c).entries ≡ false
      free = subst (λ (x : Log). any_wanted x.entries ≡ false) log_same none

      fit_here : SettingsFit (program_log c).settings
      fit_here = subst SettingsFit (sym settings_are) fit

      -- what choose answers at that log
      chooses : (x : choice.Choice) → choice.choose m.log ≡ x → answer_by own_lent (program_log c) choose ≡ answer (chosen x)
      chooses x is = choose-answer (program_log c) fit_here free ∙ ap (λ y. answer (chosen y)) (subst (λ (o : Log). choice.choose o ≡ x) log_same is)

      promotes : (p : ℕ) (o : refining.Outcome) → Active (program_log c).entries p → (refining.promote_at m.log p).outcome ≡ o → answer_by own_lent (program_log c) (promote p) ≡ answer (promotion o)
      promotes p o a is =
          promote_answer (program_log c) fit_here free p a ∙ ap (λ y. answer (promotion y)) (subst (λ (x : Log). (refining.promote_at x p).outcome ≡ o) log_same is)

      there : (P : Problem) → SettingsMatch (file_settings c) P → Supplied P (program_log c).entries → Follows P (program_log c) (turns P made)
      there P posed supplied =
          let match = posed_here P posed in
          subst (Follows P (program_log c)) (itself P match (so_far P supplied)) (follows.every P match supplied)

      posed_problem : Posed c
      posed_problem =
          let x = follows.some (λ q. let clash : true ≡ false = sym q ∙ free in let z : ◌≡◌ {A = ℕ} 0 1 = cc in omega arith) in
          (x.0, subst (λ s. SettingsMatch s x.0) settings_are x.1, x.2, x.3)

  -- ---- met or capped
  module _ (e : Ending) (m : Machine) (used : ℕ) (ends : Ends e m used) (none : any_wanted m.log.entries ≡ false) where
    pub ended_problem : Posed c
    ended_problem = posed_problem e m used ends none

    module _ (P : Problem) (posed : SettingsMatch (file_settings c) P) (supplied : Supplied P (program_log c).entries) where
      here : Follows P (program_log c) (turns P made)
      here = there e m used ends none P posed supplied

      ended_met : choice.choose m.log ≡ choice.met → (loop_condition P (turns P made) ≡ true → ⊥) × WithinTolerance P made
      ended_met is = here.met_only own_lent (chooses e m used ends none choice.met is)

      ended_capped : choice.choose m.log ≡ choice.capped → (loop_condition P (turns P made) ≡ true → ⊥) × (P.tolerance < (turns P made).estimate + (turns P made).carried)
      ended_capped is = here.capped_only own_lent (chooses e m used ends none choice.capped is)

      fails : (choice.choose m.log ≡ choice.met) ⊎ (choice.choose m.log ≡ choice.capped) → loop_condition P (turns P made) ≡ true → ⊥
      fails (inl is) = (ended_met is).0
      fails (inr is) = (ended_capped is).0

      pub loop_ended : (choice.choose m.log ≡ choice.met) ⊎ (choice.choose m.log ≡ choice.capped) → LoopEnded P c e m used made
      loop_ended Ended-by =
          record {
            follows = here;
            went_on = went P (posed_here e m used ends P posed) (so_far P supplied);
            over = over_by (loop_condition P (turns P made)) refl;
            scaled = scaled_is e m used ends ∙ here.result;
            pending = pending_is e m used ends ∙ here.pending;
            carried = carried_is e m used ends ∙ here.carried;
          }
        where
          over_by : (t : Bool) → loop_condition P (turns P made) ≡ t → loop_condition P (turns P made) ≡ false
          over_by true q = absurd (fails Ended-by q)
          over_by false q = q

      -- η and carried together, as the choice says
      pub met_within : choice.choose m.log ≡ choice.met → WithinTolerance P made
      met_within is = (ended_met is).1

      pub capped_above : choice.choose m.log ≡ choice.capped → WithinTolerance P made → ⊥
      capped_above is w = omega (arith, w, (ended_capped is).1)

  -- ---- spent
  module _ (m : Machine) (used : ℕ) (ends : Ends spent m used) where
    pub loop_spent : (P : Problem) → SettingsMatch (file_settings c) P → Supplied P (program_log c).entries → LoopSpent P c m used made
    loop_spent P posed supplied =
        record {
          follows = here;
          went_on = went P (posed_here spent m used ends P posed) (so_far P supplied);
          not_over = chosen_there.0;
          exceeds = subst (λ (s : Settings). ExceedsLimits s.budget (turns P (suc made))) (settings_are spent m used ends) next;
          scaled = scaled_is spent m used ends ∙ here.result;
          pending = pending_is spent m used ends ∙ here.pending;
          carried = carried_is spent m used ends ∙ here.carried;
        }
      where
        here : Follows P (program_log c) (turns P made)
        here = there spent m used ends ends.answers.1 P posed supplied

        p : ℕ
        p = ends.answers.2.0

        chosen_there : (loop_condition P (turns P made) ≡ true) × Active (program_log c).entries p × ((entry_at (program_log c).entries p).levels ≡ select P (turns P made))
        chosen_there = here.place_only own_lent p (chooses spent m used ends ends.answers.1 (choice.place p) ends.answers.2.1)

        next : ExceedsLimits (program_log c).settings.budget (turns P (suc made))
        next =
            unfold turns turn in
            subst (λ i. ExceedsLimits (program_log c).settings.budget (turn_at P i (turns P made))) chosen_there.2
            (here.spent_only own_lent p (promotes spent m used ends ends.answers.1 p refining.spent chosen_there.1 ends.answers.2.2)).1

    pub spent_problem : Posed c
    spent_problem = posed_problem spent m used ends ends.answers.1

  -- ---- short
  module _ (m : Machine) (used : ℕ) (ends : Ends short m used) where
    pub still_wanted : any_wanted (program_log c).entries ≡ true
    still_wanted = subst (λ (x : Log). any_wanted x.entries ≡ true) (log_same short m used ends) ends.answers.1

    pub loop_short : (P : Problem) → SettingsMatch (file_settings c) P → SuppliedSoFar P (program_log c).entries → LoopShort P c m used made
    loop_short P posed supplied =
        record {
          follows = here;
          went_on = went P (posed_here short m used ends P posed) supplied;
          scaled = ap (λ z. z +ℤ sum_of (wanted_of (program_log c).entries) (increment P)) (scaled_is short m used ends) ∙ here.result;
          pending = ap (λ n. n + total_of P.indicator (wanted_of (program_log c).entries)) (pending_is short m used ends) ∙ here.pending;
          carried = carried_is short m used ends ∙ here.carried;
        }
      where
        here : FollowsSoFar P (program_log c) (turns P made)
        here =
            let match = posed_here short m used ends P posed in
            subst (FollowsSoFar P (program_log c)) (itself P match supplied) (follows.every_moment P match supplied)

    pub short_problem : (P : Problem) × SettingsMatch (file_settings c) P × ReadingValued P × SuppliedSoFar P (program_log c).entries
    short_problem =
        let x = follows.some_moment in
        (x.0, subst (λ s. SettingsMatch s x.0) (settings_are short m used ends) x.1, x.2, x.3)
