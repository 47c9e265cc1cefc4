-- The machine's steps are the lines of Fig. 1, proved.
-- Assumes nothing.
use mathlib.Core.Path.{◌≡◌, refl, ap₂, subst}
use mathlib.Core.List.Memᴰ
use mathlib.Core.List.{[], ◌∷◌}
use Prim.Native.Nat.{ℕ, zero, suc, ◌<◌}
use native.Mathlib.Nat.{zero-add}
use native.Mathlib.Omega.{arith}
use lib.IntN.{pos, +ℤ_idl}
use Rattle.grid.specs.Index.{root}
use Rattle.area.specs.declared.Settings.{Settings}
use Rattle.area.specs.Settings.{SettingsFit}
use Rattle.area.specs.Entry.{reserved_by, pending_of, carried_of}
use Rattle.area.specs.Log.{Machine}
use Rattle.encoding.specs.Entries.{SoundMachine}
use Rattle.machine.specs.Choose.{selected}
use Rattle.machine.specs.Steps.{started}
use Rattle.machine.specs.Admitted.{total_of}
use Rattle.machine.proofs.Facts.{step_facts}
use Rattle.published.specs.Figure.{Problem, Figure, increment, initial, joined, turn_at, turn, turns}
use Rattle.published.specs.Turns.{supply, supplies, turn_on, turns_on, TurnMade, active_of, SettingsMatch, ReadingValued, Simulates}
use Rattle.published.specs.Facts.{PublishedFacts}
use Rattle.published.proofs.Scans.{joined_all}
use Rattle.published.proofs.Joins.{Agrees, Waiting}
use Rattle.published.proofs.Supplies.{supplies-join}
use Rattle.published.proofs.Outcomes as Outcomes
use Rattle.published.proofs.OneTurn as OneTurn
use Rattle.published.proofs.Led.{led_more, led_old, led_itself}
use Rattle.published.proofs.Standing.{some_state}

-- ---- the lines before the loop: nothing yet, and then the root is joined

pub nothing : Figure
nothing = record { old = []; active = []; result = pos 0; estimate = 0; carried = 0 }

module _ (P : Problem) where
  nothing_agrees : Agrees P [] nothing
  unfolding nothing active_of pending_of carried_of reserved_by total_of
  nothing_agrees =
      record {
        supplied =
            record { delivered = λ p h. absurd (omega arith); readings = λ p h. absurd (omega arith); indicators = λ p h. absurd (omega arith) };
        old_there = λ k h. absurd (omega (arith, h.1.place));
        old_here = λ k h. absurd (Memᴰ.not-nil h);
        active = refl;
        pending = refl;
        carried = refl;
        held = refl;
        reserved = refl;
        once = tt;
      }

  pub started_waits : (g : Settings) → SettingsMatch g P → Waiting P (started g) [] (root ∷ []) nothing
  unfolding started nothing
  started_waits g posed = record { posed = posed; entries = refl; agrees = nothing_agrees; result = refl }

  pub root-joined : joined_all P (root ∷ []) nothing ≡ initial P
  unfolding joined_all joined nothing initial
  root-joined = ap₂ {C = Figure} (λ r n. record { old = []; active = root ∷ []; result = r; estimate = n; carried = 0 }) (+ℤ_idl (increment P root)) (zero-add (P.indicator root))

  -- the turn at the place that the rule selects
  pub next_turn : ReadingValued P → (m : Machine) (s : Figure) → SoundMachine m → Simulates P m s → TurnMade m.log
      → SoundMachine (turn_on P m (selected m.log.entries)) × Simulates P (turn_on P m (selected m.log.entries)) (turn P s)
  unfolding turn
  next_turn measured m s v at made =
      let p = selected m.log.entries in
      let a = Outcomes.place_only P m s at p made.0 in
      subst (λ i. SoundMachine (turn_on P m p) × Simulates P (turn_on P m p) (turn_at P i s)) a.2
      (OneTurn.one_turn P m s v at p a.1.place a.1.active made.1 measured)

  module _ (g : Settings) (measured : ReadingValued P) (fit : SettingsFit g) (posed : SettingsMatch g P) where
    begins_both : SoundMachine (turns_on P g 0) × Simulates P (turns_on P g 0) (initial P)
    unfolding turns_on supplies
    begins_both =
        subst (λ s. SoundMachine (supply P (started g)) × Simulates P (supply P (started g)) s) root-joined
        (supplies-join P measured (root ∷ []) (started g) [] nothing (step_facts.start g fit) (started_waits g posed))

    any_turns : (n : ℕ) → ((i : ℕ) → i < n → TurnMade (turns_on P g i).log) → SoundMachine (turns_on P g n) × Simulates P (turns_on P g n) (turns P n)
    unfolding turns_on turns
    any_turns zero all = begins_both
    any_turns (suc n) all =
        let x = any_turns n (λ i h. all i (omega arith)) in
        next_turn measured (turns_on P g n) (turns P n) x.0 x.1 (all n (omega arith))

pub published_facts : PublishedFacts
published_facts =
    record {
      some = some_state;
      begins = λ P g measured fit posed. (begins_both P g measured fit posed).1;
      over_met = Outcomes.over_met;
      over_capped = Outcomes.over_capped;
      goes_on_lem = Outcomes.goes_on_lem;
      selects = Outcomes.selects_same;
      met_only = Outcomes.met_only;
      capped_only = Outcomes.capped_only;
      place_only = λ P m s p at. Outcomes.place_only P m s at p;
      refines = λ P m s p v at a. OneTurn.refines P m s v at p a.place a.active;
      once_after = λ P m s p v at a. OneTurn.once_after P m s v at p a.place a.active;
      spent_at = λ P m s p v at a. OneTurn.spent_at P m s v at p a.place a.active;
      promoted_at = λ P m s p v at a. OneTurn.promoted_at P m s v at p a.place a.active;
      spent_at_only = λ P m s p v at a. OneTurn.spent_at_only P m s v at p a.place a.active;
      one_turn = λ P m s p measured v at a e. OneTurn.one_turn P m s v at p a.place a.active e measured;
      led_more = led_more;
      led_old = led_old;
      led_by_itself = led_itself;
      any_turns = λ P g n measured fit posed. any_turns P g measured fit posed n;
    }
