-- The second demand: the means and the runs follow the source.
-- The idea: the calls of a run make the machine's turns, which are those of Fig. 1; and the third demand says what storage holds after them.
-- Assumes nothing.
use mathlib.Core.Path.{◌≡◌, refl, ap, sym, ◌∙◌, subst}
use mathlib.Core.Bool.{true}
use mathlib.Core.List.{List, [], ◌∷◌, ◌++◌, map-append, Memᴰ}
use Prim.Native.Nat.{ℕ, zero, suc, ◌*◌, ◌<◌, ◌≤◌}
use native.Mathlib.Omega.{arith}
use lib.ListN.{length}
use Rattle.area.specs.declared.Settings.{Settings}
use Rattle.area.specs.Settings.{SettingsFit, least_store}
use Rattle.area.specs.Log.{Log, Machine}
use Rattle.machine.specs.Log.{wanted, first_wanted}
use Rattle.machine.specs.Steps as steps
use Rattle.machine.specs.Causes.{first_cause, start_causes}
use Rattle.machine.proofs.Wanted.{first-none}
use Rattle.machine.proofs.Facts.{step_facts}
use Rattle.machine.proofs.Means.{mean_facts}
use Rattle.calls.specs.Replies.{accepted}
use Rattle.calls.specs.Table.{Call, start, Answer, answer, row, causes_of, accepted_answer, refusal, answer_of}
use Rattle.calls.specs.Calls.{CallResult, call_on}
use Rattle.calls.proofs.Tests as tests
use Rattle.calls.proofs.Rows.{start_accepts}
use Rattle.published.specs.Figure.{Problem, loop_condition, turns}
use Rattle.published.specs.Turns.{turns_on, TurnMade, SettingsMatch, ReadingValued}
use Rattle.published.proofs.Facts.{published_facts}
use Rattle.published.proofs.Sums.{sum_facts}
use Rattle.history.specs.LentCalls.{Part, LentCall, lengths_lent}
use Rattle.history.specs.Logged.{log_step, log_after, answer_by, answers_by}
use Rattle.history.specs.Storage.{Storage, area_lent, Lent, AllLent, storage_after, answers_of}
use Rattle.history.specs.Found.{Found, Demand}
use Rattle.history.specs.Source.{MeanFollows, MeansFollow, supply_call, next_place, turn_calls, lend_all, begun, log_of, calls_of, is_accepted, Follows, RunFollows, RunsFollow}
use Rattle.history.proofs.Moves.{MachineInvariant, step_log}
use Rattle.history.proofs.Steps.{lengths}
use Rattle.history.proofs.Lists.{machine_after, after_log, after_fine}
use Rattle.history.proofs.Demand.{third_demand, log_there, state_fine}
use Rattle.history.proofs.Accepts.{supply-answer}
use Rattle.history.proofs.Runs.{AfterTurns, after_turns, start_clear, start_step}
use Rattle.history.proofs.Simulation.{follows_at}
use Rattle.history.proofs.TrapezoidalMean.{trapezoidal_difference_lem, trapezoidal_mean, trapezoidal_combination}
use Rattle.history.proofs.Answered.{AllTaken, one_taken, both_taken, turn_taken}

-- ---- the mean after every list

pub mean_follows : (m : Machine) → MachineInvariant m → MeanFollows m.log
mean_follows m f =
    record {
      difference = λ P r k n. sum_facts.difference m P f.sound r k n;
      sum = λ P r. sym (mean_facts.cross m f.sound) ∙ sum_facts.sum m P f.sound r;
      some = sum_facts.some m f.sound;
      trapezoidal_difference_lem = trapezoidal_difference_lem m f.sound;
      trapezoidal_mean = trapezoidal_mean m f.sound;
      trapezoidal_combination = trapezoidal_combination m f.sound;
    }

pub means_follow : MeansFollow
means_follow w first later g lent is taken =
    subst MeanFollows (log_there w first later g lent is taken)
    (mean_follows (machine_after (steps.started g) later) (state_fine w first later g lent is taken))

-- ---- a run

all_lent : (w : Storage) (x : Part) → Lent w x → (cs : List Call) → AllLent w (lend_all x cs)
unfolding lend_all
all_lent w x l [] = tt
all_lent w x l (c ∷ cs) = (l, all_lent w x l cs)

lent_both : (x : Part) (cs ds : List Call) → lend_all x (cs ++ ds) ≡ lend_all x cs ++ lend_all x ds
unfolding lend_all
lent_both x cs ds = map-append (λ (c : Call). record { call = c; part = x }) cs ds

module _ (x : Part) (P : Problem) (g : Settings) where
  abbrev first : LentCall
  first = record { call = start g; part = x }

  abbrev l₀ : Log
  l₀ = steps.start_log g

  -- the calls past the start
  past : ℕ → List Call
  past zero = supply_call P l₀ ∷ []
  past (suc n) = past n ++ turn_calls P (log_of x P g n)

  begins : (n : ℕ) → calls_of x P g n ≡ start g ∷ past n
  unfolding calls_of begun past
  begins zero = refl
  begins (suc n) = ap (λ cs. cs ++ turn_calls P (log_of x P g n)) (begins n)

  module _ (long : 512 * 27 ≤ x.cells) (room : least_store g ≤ x.readings) (measured : ReadingValued P) (fit : SettingsFit g) (posed : SettingsMatch g P) where
    abbrev m₀ : Machine
    m₀ = steps.started g

    abbrev Each : ℕ → Type 0
    Each n = (i : ℕ) → i < n → TurnMade (log_of x P g i)

    runs : (n : ℕ) → Each n → AfterTurns x P g long room measured fit posed n
    runs n each = after_turns x P g long room measured fit posed n each

    started_log : log_step l₀ first ≡ l₀
    unfolding steps.started
    started_log = sym (step_log m₀ first) ∙ ap (λ (y : Machine). y.log) (start_step x P g long room measured fit posed)

    -- ---- no call is refused

    first_taken : answer_by (lengths_lent x) l₀ (start g) ≡ answer accepted
    unfolding answer_by answer_of refusal causes_of accepted_answer row
    first_taken = rw (start_clear x P g long room measured fit posed) refl

    begun_taken : AllTaken (answers_by l₀ (lend_all x (begun P g)))
    unfolding lend_all begun answers_by
    begun_taken = (
      is_accepted first_taken,
      (is_accepted (ap (λ (o : Log). answer_by (lengths_lent x) o (supply_call P l₀)) started_log ∙ supply-answer (lengths_lent x) l₀ (tests.enough (lengths_lent x) g (omega (arith, long)) room) P measured (unfold first_wanted wanted in omega arith)), tt),
    )

    free : (n : ℕ) (r : AfterTurns x P g long room measured fit posed n) → length (turns_on P g n).log.entries ≤ first_wanted (turns_on P g n).log.entries
    free n r = omega (arith, first-none (turns_on P g n).log.entries r.simulates.supplied.delivered)

    log_after_lem : (n : ℕ) (r : AfterTurns x P g long room measured fit posed n) → log_after l₀ (lend_all x (calls_of x P g n)) ≡ (turns_on P g n).log
    unfolding steps.started
    log_after_lem n r = sym (after_log m₀ (lend_all x (calls_of x P g n))) ∙ ap (λ (y : Machine). y.log) r.machine

    all_taken : (n : ℕ) → Each n → AllTaken (answers_by l₀ (lend_all x (calls_of x P g n)))
    unfolding calls_of
    all_taken zero each = begun_taken
    all_taken (suc n) each =
        let before : Each n = λ i h. each i (omega (arith, h)) in
        let r = runs n before in
        subst (λ xs. AllTaken (answers_by l₀ xs)) (sym (lent_both x (calls_of x P g n) (turn_calls P (log_of x P g n))))
        (both_taken l₀ (lend_all x (calls_of x P g n)) (lend_all x (turn_calls P (log_of x P g n))) (all_taken n before)
        (subst (λ (o : Log). AllTaken (answers_by o (lend_all x (turn_calls P (log_of x P g n))))) (sym (log_after_lem n r))
        (subst (λ (o : Log). AllTaken (answers_by (turns_on P g n).log (lend_all x (turn_calls P o)))) (sym r.log)
        (turn_taken x P g long room measured (turns_on P g n) r.sound r.settings (free n r) (subst TurnMade r.log (each n (omega arith)))))))

    -- ---- where it stands

    went_on : (n : ℕ) → Each n → (i : ℕ) → i < n → loop_condition P (turns P i) ≡ true
    went_on n each i h =
        let there : AfterTurns x P g long room measured fit posed i = runs i (λ j l. each j (omega (arith, l, h))) in
        (published_facts.place_only P (turns_on P g i) (turns P i) (next_place (turns_on P g i).log) there.simulates (subst TurnMade there.log (each i h)).0).0

    module _ (n : ℕ) (each : Each n) where
      r : AfterTurns x P g long room measured fit posed n
      r = runs n each

      invariant : MachineInvariant (turns_on P g n)
      invariant = subst MachineInvariant r.machine (after_fine m₀ begun_fine (lend_all x (calls_of x P g n)))
        where
          begun_fine : MachineInvariant m₀
          begun_fine = record { sound = step_facts.start g fit; mean = unfold steps.started in sym (mean_facts.start g) }

      pub follows : Follows P (log_of x P g n) (turns P n)
      follows = subst (λ (o : Log). Follows P o (turns P n)) (sym r.log) (follows_at P (turns_on P g n) (turns P n) invariant r.simulates)

      -- ---- the storage
      module _ (w : Storage) (lent : Lent w x) where
        taken : (call_on (area_lent w x) (start g)).answer ≡ answer accepted
        taken =
            ap (λ (y : CallResult). y.answer)
            (sym (start_accepts (area_lent w x) g _ refl
            (ap (λ z. first_cause (start_causes z g)) (lengths w x lent) ∙ start_clear x P g long room measured fit posed)))

        -- the third demand after these calls
        shown : Demand w first (lend_all x (past n)) g
        shown = third_demand w first (lend_all x (past n)) g (lent, all_lent w x lent (past n)) refl taken

        log_is : log_after l₀ (lend_all x (past n)) ≡ log_of x P g n
        unfolding log_after lend_all
        log_is =
            ap (λ (o : Log). log_after o (lend_all x (past n))) (sym started_log)
            ∙ ap (λ cs. log_after l₀ (lend_all x cs)) (sym (begins n))
            ∙ log_after_lem n r
            ∙ sym r.log

        answers_are : answers_of w (lend_all x (calls_of x P g n)) ≡ answers_by l₀ (lend_all x (calls_of x P g n))
        unfolding lend_all answers_by
        answers_are =
            ap (λ cs. answers_of w (lend_all x cs)) (begins n)
            ∙ shown.answers
            ∙ ap (λ (y : Answer). y ∷ answers_by l₀ (lend_all x (past n))) (sym first_taken)
            ∙ ap (λ (o : Log). answer_by (lengths_lent x) l₀ (start g) ∷ answers_by o (lend_all x (past n))) (sym started_log)
            ∙ ap (λ cs. answers_by l₀ (lend_all x cs)) (sym (begins n))

        pub runs_there : RunFollows w x P g n
        runs_there =
            record {
              answers = λ y m. one_taken (answers_by l₀ (lend_all x (calls_of x P g n))) (all_taken n each) y (subst (Memᴰ y) answers_are m);
              found = found_there;
              follows = follows;
              went_on = went_on n each;
            }
          where
            found_there : Found (storage_after w (lend_all x (calls_of x P g n))) (log_of x P g n)
            found_there =
                subst (λ cs. Found (storage_after w (lend_all x cs)) (log_of x P g n)) (sym (begins n))
                (unfold lend_all in subst (Found (storage_after w (first ∷ lend_all x (past n)))) log_is shown.found)

pub runs_follow : RunsFollow
runs_follow w x P g n lent long room measured fit posed each = runs_there x P g long room measured fit posed n each w lent
