-- The calls of a run make the machine's turns.
-- The idea: every one of them is accepted, so each does its step; a turn is a choice, its promotion and as many deliveries as there are wanted.
-- Assumes nothing.
use mathlib.Core.Path.{◌≡◌, refl, ap, sym, ◌∙◌, subst}
use mathlib.Core.Bool.{false}
use mathlib.Core.List.{List, [], ◌∷◌, ◌++◌, map, map-append}
use Prim.Native.Nat.{ℕ, zero, suc, ◌*◌, ◌<◌, ◌≤◌}
use native.Mathlib.Omega.{arith}
use lib.IntN.{ℤ, pos}
use lib.ListN.{length, get_or, length-map}
use Rattle.grid.specs.Block.{block}
use Rattle.grid.specs.Terms.{IsReading}
use Rattle.grid.proofs.Facts.{block-facts}
use Rattle.encoding.specs.Entries.{entry_at}
use Rattle.area.specs.declared.Settings.{Settings}
use Rattle.area.specs.Settings.{SettingsFit, least_store}
use Rattle.area.specs.Log.{Log, Machine}
use Rattle.area.proofs.Readings.{reading_facts}
use Rattle.machine.specs.Log.{wanted, first_wanted, wanted_index, Active}
use Rattle.machine.specs.Promote as refining
use Rattle.machine.specs.Counts.{count_of}
use Rattle.machine.specs.Steps as steps
use Rattle.encoding.specs.Entries.{SoundMachine}
use Rattle.machine.specs.Causes.{short, first_cause, start_causes}
use Rattle.machine.proofs.Wanted.{first-none}
use Rattle.machine.proofs.Answers.{promoted_settings}
use Rattle.machine.proofs.Choices.{choose-facts}
use Rattle.machine.proofs.Facts.{step_facts}
use Rattle.calls.proofs.Tests as tests
use Rattle.calls.proofs.Causes.{start_fits}
use Rattle.published.specs.Figure.{Problem, turn, turns}
use Rattle.published.specs.Turns.{supply, supplies, turn_on, turns_on, TurnMade, SettingsMatch, ReadingValued, Simulates}
use Rattle.published.proofs.Facts.{published_facts, next_turn}
use Rattle.published.proofs.Increments.{value_at}
use Rattle.calls.specs.Table.{Call, start, choose, promote, row, causes_of, effect_of, refusal, changed, state_after}
use Rattle.history.specs.LentCalls.{Part, LentCall, lengths_lent}
use Rattle.history.specs.Logged.{log_after}
use Rattle.history.specs.Source.{supply_call, supplied_log, supply_calls, next_place, turn_calls, lend_all, begun, log_of, calls_of}
use Rattle.history.proofs.Moves.{machine_step}
use Rattle.history.proofs.Lists.{machine_after, after_log, after_both}
use Rattle.history.proofs.Accepts.{some-wanted, one_fewer, supply_step, choose_step, promote_step_lem}

-- ---- a supplied state

pub supply_settings : (P : Problem) (m : Machine) → (supply P m).log.settings ≡ m.log.settings
unfolding supply steps.deliver
supply_settings P m = refl

supplies_settings : (P : Problem) (n : ℕ) (m : Machine) → (supplies P n m).log.settings ≡ m.log.settings
unfolding supplies
supplies_settings P zero m = refl
supplies_settings P (suc n) m = supplies_settings P n (supply P m) ∙ supply_settings P m

turn_settings : (P : Problem) (m : Machine) (p : ℕ) → (turn_on P m p).log.settings ≡ m.log.settings
unfolding turn_on steps.promote_step
turn_settings P m p =
    supplies_settings P (count_of 0 (steps.promote_step m p).log.entries) (steps.promote_step m p) ∙ promoted_settings m.log.settings.budget m.log p

module _ (P : Problem) (measured : ReadingValued P) (m : Machine) (v : SoundMachine m) (h : first_wanted m.log.entries < length m.log.entries) where
  abbrev k : List ℕ
  k = wanted_index m.log.entries

  abbrev values : List ℤ
  values = map P.integrand (block k)

  values_range : (n : ℕ) → n < length values → IsReading (get_or values n (pos 0))
  values_range n l =
      subst IsReading (sym (value_at P.integrand (block k) n (omega (arith, l, length-map (block k) P.integrand)))) (measured (get_or (block k) n []))

  pub supply_sound : SoundMachine (supply P m)
  unfolding supply
  supply_sound = step_facts.deliver m values (P.indicator k) v h (length-map (block k) P.integrand ∙ block-facts.size k ∙ sym (reading_facts.single m.log.settings k)) values_range

  pub supply_count : (n : ℕ) → count_of 0 m.log.entries ≡ suc n → count_of 0 (supply P m).log.entries ≡ n
  unfolding supply steps.deliver steps.deliver_at steps.delivered
  supply_count n e = omega (arith, e, one_fewer m.log.entries (steps.delivered (entry_at m.log.entries (first_wanted m.log.entries)) values (P.indicator k)) refl h)

-- ---- the same part lent to each call

module _ (x : Part) (P : Problem) (g : Settings) (long : 512 * 27 ≤ x.cells) (room : least_store g ≤ x.readings) (measured : ReadingValued P) where
  abbrev pub lend : Call → LentCall
  lend c = record { call = c; part = x }

  pub enough : (m : Machine) → m.log.settings ≡ g → short (lengths_lent x) m.log.settings ≡ false
  enough m e = tests.enough (lengths_lent x) m.log.settings (omega (arith, long)) (subst (λ s. least_store s ≤ x.readings) (sym e) room)

  pub supplies_run : (n : ℕ) (m : Machine) → SoundMachine m → m.log.settings ≡ g → count_of 0 m.log.entries ≡ n
      → machine_after m (lend_all x (supply_calls P n m.log)) ≡ supplies P n m
  unfolding lend_all supply_calls machine_after supplies
  supplies_run zero m v e c = refl
  supplies_run (suc n) m v e c =
      let h = some-wanted m.log.entries n c in
      ap (λ (y : Machine). machine_after y (lend_all x (supply_calls P n (supplied_log P m.log)))) (supply_step P (lend (supply_call P m.log)) m (enough m e) measured h refl)
      ∙ ap (λ (o : Log). machine_after (supply P m) (lend_all x (supply_calls P n o))) supplied_is
      ∙ supplies_run n (supply P m) (supply_sound P measured m v h) (supply_settings P m ∙ e) (supply_count P measured m v h n c)
    where
      supplied_is : supplied_log P m.log ≡ (supply P m).log
      supplied_is = unfold supplied_log supply steps.deliver in refl

  pub turn_run : (m : Machine) → SoundMachine m → m.log.settings ≡ g → length m.log.entries ≤ first_wanted m.log.entries → Active m.log.entries (next_place m.log)
      → machine_after m (lend_all x (turn_calls P m.log)) ≡ turn_on P m (next_place m.log)
  unfolding lend_all turn_calls machine_after turn_on steps.promote_step
  turn_run m v e free a =
      ap (λ (y : Machine). machine_after y (lend_all x (promote p ∷ supply_calls P (count_of 0 after.entries) after))) (choose_step P (lend choose) m (enough m e) free refl)
      ∙ ap (λ (y : Machine). machine_after y (lend_all x (supply_calls P (count_of 0 after.entries) after))) (promote_step_lem P (lend (promote p)) m (enough m e) p free a refl)
      ∙ supplies_run (count_of 0 after.entries) (steps.promote_step m p) (step_facts.promote m p v a) (promoted_settings m.log.settings.budget m.log p ∙ e) refl
    where
      p : ℕ
      p = next_place m.log

      after : Log
      after = (refining.promote_at m.log (next_place m.log)).log

  -- ---- from the start
  module _ (fit : SettingsFit g) (posed : SettingsMatch g P) where
    abbrev m₀ : Machine
    m₀ = steps.started g

    pub start_clear : first_cause (start_causes (lengths_lent x) g) ≡ 0
    start_clear =
        start_fits (lengths_lent x) g fit (tests.enough (lengths_lent x) g (omega (arith, long)) room)

    pub start_step : machine_step m₀ (lend (start g)) ≡ m₀
    unfolding state_after refusal causes_of effect_of row changed
    start_step = rw start_clear refl

    begun_run : machine_after m₀ (lend_all x (begun P g)) ≡ turns_on P g 0
    unfolding lend_all begun machine_after turns_on
    begun_run = ap (λ (y : Machine). machine_step y (lend (supply_call P (steps.start_log g)))) start_step ∙ supplied
      where
        supplied : machine_step m₀ (lend (supply_call P (steps.start_log g))) ≡ supply P m₀
        supplied =
            unfold steps.started in
            supply_step P (lend (supply_call P (steps.start_log g))) m₀
            (enough m₀ (unfold steps.started in refl)) measured
            (unfold steps.started first_wanted wanted in omega arith) refl

    -- the machine after n turns, as the calls leave it, and where it stands
    pub record AfterTurns (n : ℕ) : Type 0 where
      pub log : log_of x P g n ≡ (turns_on P g n).log
      pub machine : machine_after m₀ (lend_all x (calls_of x P g n)) ≡ turns_on P g n
      pub sound : SoundMachine (turns_on P g n)
      pub simulates : Simulates P (turns_on P g n) (turns P n)
      pub settings : (turns_on P g n).log.settings ≡ g

    none_left : (m : Machine) → ((p : ℕ) → p < length m.log.entries → 1 ≤ (entry_at m.log.entries p).state) → length m.log.entries ≤ first_wanted m.log.entries
    none_left m f = omega (arith, first-none m.log.entries f)

    after_turns-first : AfterTurns 0
    after_turns-first =
        let both = published_facts.any_turns P g 0 measured fit posed (λ i h. absurd (omega (arith, h))) in
        record {
          log = unfold log_of steps.started in sym (after_log m₀ (lend_all x (begun P g))) ∙ ap (λ (y : Machine). y.log) begun_run;
          machine = unfold calls_of in begun_run;
          sound = both.0;
          simulates = both.1;
          settings = unfold turns_on supply steps.deliver steps.started in refl;
        }

    after_turns_next : (n : ℕ) → AfterTurns n → TurnMade (log_of x P g n) → AfterTurns (suc n)
    after_turns_next n r made =
        record {
          log = unfold log_of in
              ap (λ (o : Log). log_after o (lend_all x (turn_calls P o))) r.log ∙ sym (after_log m (lend_all x (turn_calls P m.log))) ∙ ap (λ (y : Machine). y.log) turned;
          machine = unfold calls_of in
              ap (machine_after m₀) (lent_both (calls_of x P g n) (turn_calls P (log_of x P g n)))
              ∙ after_both m₀ (lend_all x (calls_of x P g n)) (lend_all x (turn_calls P (log_of x P g n)))
              ∙ ap (λ (y : Machine). machine_after y (lend_all x (turn_calls P (log_of x P g n)))) r.machine
              ∙ ap (λ (o : Log). machine_after m (lend_all x (turn_calls P o))) r.log
              ∙ turned;
          sound = unfold turns_on in both.0;
          simulates = unfold turns_on turns in both.1;
          settings = unfold turns_on in turn_settings P m (next_place m.log) ∙ r.settings;
        }
      where
        m : Machine
        m = turns_on P g n

        made_here : TurnMade (turns_on P g n).log
        made_here = subst TurnMade r.log made

        both : SoundMachine (turn_on P (turns_on P g n) (next_place (turns_on P g n).log)) × Simulates P (turn_on P (turns_on P g n) (next_place (turns_on P g n).log)) (turn P (turns P n))
        both = next_turn P measured (turns_on P g n) (turns P n) r.sound r.simulates made_here

        turned : machine_after (turns_on P g n) (lend_all x (turn_calls P (turns_on P g n).log)) ≡ turns_on P g (suc n)
        turned =
            unfold turns_on in
            turn_run (turns_on P g n) r.sound r.settings (none_left (turns_on P g n) r.simulates.supplied.delivered) (choose-facts.place_active (turns_on P g n).log (next_place (turns_on P g n).log) made_here.0)

        lent_both : (cs ds : List Call) → lend_all x (cs ++ ds) ≡ lend_all x cs ++ lend_all x ds
        lent_both cs ds = unfold lend_all in map-append lend cs ds

    pub after_turns : (n : ℕ) → ((i : ℕ) → i < n → TurnMade (log_of x P g i)) → AfterTurns n
    after_turns zero f = after_turns-first
    after_turns (suc n) f = after_turns_next n (after_turns n (λ i h. f i (omega (arith, h)))) (f n (omega arith))
