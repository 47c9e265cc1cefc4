-- The second demand at any moment: after every list of calls Fig. 1, led by the indices made old, has the log's state but for what is wanted; and
-- where each promoted place was choose's, these are its own turns.
-- The idea: every accepted call keeps Fig. 1 beside the machine, and a refused one leaves both.
-- Assumes nothing.
use mathlib.Core.Path.{◌≡◌, refl, sym, ap, ◌∙◌, subst}
use mathlib.Core.Logic.{◌⊎◌, inl, inr, ⊎_elim}
use mathlib.Core.Bool.{Bool, true, false, cond}
use mathlib.Core.List.{List, [], ◌∷◌}
use Prim.Native.Nat.{ℕ, ◌<◌, ◌≤◌}
use native.Mathlib.Decide.{dec_lt}
use native.Mathlib.Omega.{arith}
use borrow.Author.Tests.{eqb-true}
use lib.Dec.{eqb}
use lib.IntN.{◌+ℤ◌}
use lib.ListN.{length}
use Rattle.sums.specs.Sums.{sum_of}
use Rattle.encoding.specs.Entries.{entry_at, SoundMachine}
use Rattle.area.specs.declared.Settings.{Settings}
use Rattle.area.specs.Log.{Log, Machine}
use Rattle.machine.specs.Log.{first_wanted, any_wanted}
use Rattle.machine.specs.Choose as choice
use Rattle.machine.specs.Promote as refining
use Rattle.machine.specs.Steps as steps
use Rattle.machine.specs.Causes.{Lengths, deliver_causes, promote_causes}
use Rattle.machine.proofs.Wanted.{none-wanted, reads_wanted}
use Rattle.machine.proofs.Answers.{Answered, is_promoted, is_spent}
use Rattle.machine.proofs.Answers as answers
use Rattle.calls.specs.Replies.{accepted}
use Rattle.calls.specs.Table.{Call, start, point, points, deliver, choose, promote, result, doubles, cross_total, check, answer, row, causes_of, effect_of, refusal, changed, state_after}
use Rattle.calls.specs.Calls.{call_on}
use Rattle.calls.proofs.Accepted.{deliverable, promotable, Promotable}
use Rattle.calls.proofs.Rows.{promote_effect}
use Rattle.published.specs.Figure.{Problem, increment, led}
use Rattle.published.specs.Turns.{wanted_of, SettingsMatch, SuppliedSoFar}
use Rattle.published.proofs.Problems.{posed_so_far, posed}
use Rattle.published.proofs.Led.{led_itself}
use Rattle.published.proofs.Course.{Course, start_course, deliver_course, promote_course}
use Rattle.published.proofs.Standing.{Underway, course_underway, course_simulates, course_count}
use Rattle.published.proofs.ByRule.{ByRule, start_rule, deliver_rule, promote_rule}
use Rattle.history.specs.LentCalls.{LentCall, lengths_lent}
use Rattle.history.specs.Logged.{refusal_by, log_step, log_after}
use Rattle.history.specs.Storage.{Storage, area_lent, AllLent}
use Rattle.history.specs.Promotions.{with_promoted, promotions_by, promotions_step, promotions_after, PlaceChosen, BeginsAnew, AllChosen}
use Rattle.history.specs.Source.{FollowsSoFar, StepsFollow, StepsFollowAll, RuleFollows, RuleFollowsAll}
use Rattle.history.proofs.Moves.{moved, machine_step, step_log, MachineInvariant, combined, from_log, step_fine}
use Rattle.history.proofs.Lists.{machine_after}
use Rattle.history.proofs.Demand.{log_there, state_fine}
use Rattle.history.proofs.LogSteps.{log_facts}
use Rattle.history.proofs.Promotions.{answers_so, promotions_facts}
use Rattle.history.proofs.Simulation.{follows_at}

-- the indices made old, in order
abbrev Made : Type 0
Made = List (List ℕ)

-- what holds of the log and the list before a call, and after it where it is accepted, holds after it
either_step : (P : Log → Made → Type 0) (m : Machine) (is : Made) (x : LentCall) → P m.log is
    → (refusal_by (lengths_lent x.part) m.log x.call ≡ 0 → P (moved m x.call).log (promotions_by m.log x.call is)) → P (machine_step m x).log (promotions_step m.log is x)
unfolding state_after promotions_step
either_step P m is x before after = split (eqb (refusal_by (lengths_lent x.part) m.log x.call) 0) refl
  where
    split : (t : Bool) → eqb (refusal_by (lengths_lent x.part) m.log x.call) 0 ≡ t → P (cond t (moved m x.call) m).log (cond t (promotions_by m.log x.call is) is)
    split true e = after (eqb-true (refusal_by (lengths_lent x.part) m.log x.call) 0 e)
    split false e = before

-- and of a promotion, whether promoted or spent
either_promotion : (P : Log → Made → Type 0) (m : Machine) (is : Made) (p : ℕ) → P m.log is
    → ((refining.promote_at m.log p).outcome ≡ refining.promoted → P (answers.refined_log m.log p) (with_promoted refining.promoted (entry_at m.log.entries p).levels is))
    → P (moved m (promote p)).log (with_promoted (refining.promote_at m.log p).outcome (entry_at m.log.entries p).levels is)
either_promotion P m is p before after =
    subst (λ (n : Machine). P n.log (with_promoted (refining.promote_at m.log p).outcome k is)) (sym (promote_effect m p))
    (unfold steps.promote_step in split (answers.answered m.log.settings.budget m.log p))
  where
    k : List ℕ
    k = (entry_at m.log.entries p).levels

    split : Answered m.log.settings.budget m.log p → P (refining.promote_at m.log p).log (with_promoted (refining.promote_at m.log p).outcome k is)
    split (is_promoted e h) = subst (λ (y : refining.Promotion). P y.log (with_promoted y.outcome k is)) (sym e) (after (ap (λ (y : refining.Promotion). y.outcome) e))
    split (is_spent e h) = subst (λ (y : refining.Promotion). P y.log (with_promoted y.outcome k is)) (sym e) (unfold with_promoted in before)

-- ---- Fig. 1 led by the list

module _ (m : Machine) (f : MachineInvariant m) (is : Made) (c : Course m.log is) where
  moved_course : (z : Lengths) (x : Call) → refusal_by z m.log x ≡ 0 → Course (moved m x).log (promotions_by m.log x is)
  unfolding refusal causes_of effect_of row changed deliver_causes promote_causes promotions_by
  moved_course z (start g) e = unfold steps.started in start_course g
  moved_course z (point n buffer) e = c
  moved_course z (points n buffer) e = c
  moved_course z (deliver rs i) e = unfold steps.deliver in deliver_course m.log rs i (deliverable z true m.log rs e).wanted is c
  moved_course z choose e = c
  moved_course z (promote p) e =
      either_promotion Course m is p c (λ o. unfold with_promoted in promote_course m f.sound p (promotable z true m.log p e).active is c)
  moved_course z result e = c
  moved_course z doubles e = c
  moved_course z cross_total e = c
  moved_course z check e = c

  step_course : (x : LentCall) → Course (machine_step m x).log (promotions_step m.log is x)
  step_course x = either_step Course m is x c (moved_course (lengths_lent x.part) x.call)

pub after_course : (m : Machine) → MachineInvariant m → (is : Made) → Course m.log is → (xs : List LentCall) → Course (machine_after m xs).log (promotions_after m.log is xs)
unfolding machine_after promotions_after
after_course m f is c [] = c
after_course m f is c (x ∷ xs) =
    subst (λ (o : Log). Course (machine_after (machine_step m x) xs).log (promotions_after o (promotions_step m.log is x) xs)) (step_log m x)
    (after_course (machine_step m x) (step_fine m f x) (promotions_step m.log is x) (step_course m f is c x) xs)

-- ---- and by the rule

module _ (m : Machine) (f : MachineInvariant m) (is : Made) (c : Course m.log is) where
  moved_rule : ByRule m.log is → (z : Lengths) (x : Call) → refusal_by z m.log x ≡ 0 → ((p : ℕ) → x ≡ promote p → (refining.promote_at m.log p).outcome ≡ refining.promoted → choice.choose m.log ≡ choice.place p)
      → ByRule (moved m x).log (promotions_by m.log x is)
  unfolding refusal causes_of effect_of row changed deliver_causes promote_causes promotions_by
  moved_rule r z (start g) e h = unfold steps.started in start_rule g
  moved_rule r z (point n buffer) e h = r
  moved_rule r z (points n buffer) e h = r
  moved_rule r z (deliver rs i) e h = unfold steps.deliver in deliver_rule m.log rs i is (deliverable z true m.log rs e).wanted r
  moved_rule r z choose e h = r
  moved_rule r z (promote p) e h =
      let y : Promotable z true m.log p = promotable z true m.log p e in
      either_promotion ByRule m is p r (λ o. unfold with_promoted in promote_rule m f.sound f.mean y.free is c r p y.active (h p refl o))
  moved_rule r z result e h = r
  moved_rule r z doubles e h = r
  moved_rule r z cross_total e h = r
  moved_rule r z check e h = r

  step_rule : ByRule m.log is → (x : LentCall) → PlaceChosen m.log x → ByRule (machine_step m x).log (promotions_step m.log is x)
  step_rule r x chosen =
      either_step ByRule m is x r (λ e.
      moved_rule r (lengths_lent x.part) x.call e (λ p i o. chosen p i (answers_so (lengths_lent x.part) m.log p refining.promoted (ap (refusal_by (lengths_lent x.part) m.log) (sym i) ∙ e) o)))

  -- an accepted start begins anew
  start_again : (x : LentCall) (g : Settings) → x.call ≡ start g → refusal_by (lengths_lent x.part) m.log x.call ≡ 0 → ByRule (machine_step m x).log (promotions_step m.log is x)
  start_again x g e none =
      subst (λ (l : Log). ByRule l (promotions_step m.log is x)) (sym (step_log m x ∙ log_facts.accepted_start m.log x g e none))
      (subst (ByRule (steps.start_log g)) (sym (promotions_facts.accepted_start m.log is x g e none)) (start_rule g))

-- by the rule so far, or with a start to come
pub after_rule : (m : Machine) → MachineInvariant m → (is : Made) → Course m.log is → (xs : List LentCall) → ByRule m.log is ⊎ BeginsAnew m.log xs → AllChosen m.log xs
    → ByRule (machine_after m xs).log (promotions_after m.log is xs)
unfolding machine_after promotions_after
after_rule m f is c [] r all = ⊎_elim (λ now. now) absurd r
after_rule m f is c (x ∷ xs) r all =
    subst (λ (o : Log). ByRule (machine_after (machine_step m x) xs).log (promotions_after o (promotions_step m.log is x) xs)) (step_log m x)
    (after_rule (machine_step m x) (step_fine m f x) (promotions_step m.log is x) (step_course m f is c x) xs (next r all.0)
    (subst (λ (o : Log). AllChosen o xs) (sym (step_log m x)) all.1))
  where
    there : BeginsAnew (log_step m.log x) xs → BeginsAnew (machine_step m x).log xs
    there = subst (λ (o : Log). BeginsAnew o xs) (sym (step_log m x))

    next : ByRule m.log is ⊎ BeginsAnew m.log (x ∷ xs) → PlaceChosen m.log x ⊎ BeginsAnew (log_step m.log x) xs
        → ByRule (machine_step m x).log (promotions_step m.log is x) ⊎ BeginsAnew (machine_step m x).log xs
    next now (inr later) = inr (there later)
    next (inl now) (inl chosen) = inl (step_rule m f is c now x chosen)
    next (inr (inl here)) (inl chosen) = inl (start_again m f is c x here.0 here.1 here.2)
    next (inr (inr later)) (inl chosen) = inr (there later)

-- ---- the machine's log

pub steps_of : (m : Machine) → MachineInvariant m → (is : Made) → Course m.log is → StepsFollow m.log is
steps_of m f is c =
    record {
      sound = subst SoundMachine (from_log m f) f.sound;
      count = course_count m f.sound is c;
      every = λ P posing given. follows_at P m (led P is) f (course_simulates m f.sound is c P posing given f.mean);
      some = λ none. posed f.sound (all none);
      every_moment = moment;
      some_moment = posed_so_far f.sound;
    }
  where
    moment : (P : Problem) → SettingsMatch m.log.settings P → SuppliedSoFar P m.log.entries → FollowsSoFar P m.log (led P is)
    moment P posing given =
        let u : Underway P m (led P is) = course_underway m f.sound is c P posing given in
        record {
          old_there = u.old_there;
          old_here = u.old_here;
          not_old = u.not_old;
          pending = u.pending;
          carried = u.carried;
          result = ap (λ y. y +ℤ sum_of (wanted_of m.log.entries) (increment P)) (sym (combined m f) ∙ f.mean) ∙ u.result;
        }

    all : (any_wanted m.log.entries ≡ true → ⊥) → (p : ℕ) → p < length m.log.entries → 1 ≤ (entry_at m.log.entries p).state
    all none = none-wanted m.log.entries (step (dec_lt (first_wanted m.log.entries) (length m.log.entries)))
      where
        step : Dec (first_wanted m.log.entries < length m.log.entries) → length m.log.entries ≤ first_wanted m.log.entries
        step (yes h) = absurd (none ((reads_wanted m.log.entries).back h))
        step (no h) = omega arith

pub rule_of : (l : Log) (is : Made) → ByRule l is → RuleFollows l is
rule_of l is r =
    record {
      own = λ P posing given. (r P posing given).own;
      itself = λ P posing given. ap (led P) (r P posing given).own ∙ led_itself P (length is);
      went_on = λ P posing given. (r P posing given).went_on;
    }

module _ (w : Storage) (first : LentCall) (later : List LentCall) (g : Settings) (lent : AllLent w (first ∷ later))
    (is : first.call ≡ start g) (taken : (call_on (area_lent w first.part) (start g)).answer ≡ answer accepted) where
  -- with no later call
  begun : MachineInvariant (steps.started g)
  begun = unfold machine_after in state_fine w first [] g (lent.0, tt) is taken

  made : Made
  made = promotions_after (steps.start_log g) [] later

  course : Course (machine_after (steps.started g) later).log made
  unfolding steps.started made
  course = after_course (steps.started g) begun [] (start_course g) later

  steps_here : StepsFollow (log_after (steps.start_log g) later) (promotions_after (steps.start_log g) [] later)
  unfolding made
  steps_here =
      subst (λ (l : Log). StepsFollow l made) (log_there w first later g lent is taken)
      (steps_of (machine_after (steps.started g) later) (state_fine w first later g lent is taken) made course)

  rule_here : AllChosen (steps.start_log g) later → RuleFollows (log_after (steps.start_log g) later) (promotions_after (steps.start_log g) [] later)
  unfolding steps.started
  rule_here chosen =
      subst (λ (l : Log). RuleFollows l (promotions_after (steps.start_log g) [] later)) (log_there w first later g lent is taken)
      (rule_of (machine_after (steps.started g) later).log (promotions_after (steps.start_log g) [] later)
      (after_rule (steps.started g) begun [] (start_course g) later (inl (start_rule g)) chosen))

pub steps_follow : StepsFollowAll
steps_follow = steps_here

pub rule_follows : RuleFollowsAll
rule_follows = rule_here
