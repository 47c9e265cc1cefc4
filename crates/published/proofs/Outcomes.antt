-- Where the loop ends choose answers met or capped, where it goes on the place of the index that Fig. 1 selects.
-- Assumes nothing.
use mathlib.Core.Path.{◌≡◌, sym, ap, ◌∙◌}
use mathlib.Core.Bool.{true}
use Prim.Native.Nat.{ℕ, ◌+◌, ◌<◌, ◌≤◌}
use native.Mathlib.Decide.{dec_lt}
use native.Mathlib.Omega.{arith}
use borrow.Author.Tests.{ltb-true, lt-ltb}
use Rattle.area.specs.Entry.{pending_of}
use Rattle.area.specs.Log.{Machine}
use Rattle.encoding.specs.Entries.{entry_at}
use Rattle.machine.specs.Log.{Active}
use Rattle.machine.specs.Choose.{met, capped, place, selected, choose}
use Rattle.machine.proofs.Choices.{choose-facts}
use Rattle.published.specs.Figure.{Problem, Figure, loop_condition, select}
use Rattle.published.specs.Turns.{Simulates}
use Rattle.published.proofs.Selects.{select_same}

module _ (P : Problem) (m : Machine) (s : Figure) (at : Simulates P m s) where
  -- the loop's test fails exactly where η is at most TOL
  below : (loop_condition P s ≡ true → ⊥) → s.estimate ≤ P.tolerance
  unfolding loop_condition
  below n = step (dec_lt P.tolerance s.estimate)
    where
      step : Dec (P.tolerance < s.estimate) → s.estimate ≤ P.tolerance
      step (yes h) = absurd (n (lt-ltb P.tolerance s.estimate h))
      step (no h) = omega (arith, h)

  above : loop_condition P s ≡ true → m.log.settings.threshold < pending_of m.log.entries
  unfolding loop_condition
  above g = omega (arith, ltb-true P.tolerance s.estimate g, at.pending, at.posed.tolerance)

  pub above_goes_on : m.log.settings.threshold < pending_of m.log.entries → loop_condition P s ≡ true
  unfolding loop_condition
  above_goes_on h = lt-ltb P.tolerance s.estimate (omega (arith, h, at.pending, at.posed.tolerance))

  -- ---- each answer in its case

  pub over_met : (loop_condition P s ≡ true → ⊥) → s.estimate + s.carried ≤ P.tolerance → choose m.log ≡ met
  over_met n h = choose-facts.met_if m.log (omega (arith, h, at.pending, at.carried, at.posed.tolerance))

  pub over_capped : (loop_condition P s ≡ true → ⊥) → P.tolerance < s.estimate + s.carried → choose m.log ≡ capped
  over_capped n h =
      choose-facts.capped_if m.log (omega (arith, below n, at.pending, at.posed.tolerance)) (omega (arith, h, at.pending, at.carried, at.posed.tolerance))

  pub goes_on_lem : loop_condition P s ≡ true → choose m.log ≡ place (selected m.log.entries)
  goes_on_lem g = choose-facts.place_if m.log (above g)

  -- ---- and in no other

  pub met_only : choose m.log ≡ met → (loop_condition P s ≡ true → ⊥) × (s.estimate + s.carried ≤ P.tolerance)
  met_only e =
      let h = choose-facts.met_only m.log e in
      (λ g. omega (arith, h, above g), omega (arith, h, at.pending, at.carried, at.posed.tolerance))

  pub capped_only : choose m.log ≡ capped → (loop_condition P s ≡ true → ⊥) × (P.tolerance < s.estimate + s.carried)
  capped_only e =
      let h = choose-facts.capped_only m.log e in
      (λ g. omega (arith, h.0, above g), omega (arith, h.1, at.pending, at.carried, at.posed.tolerance))

  -- Fig. 1 selects the index of the selected place
  pub selects_same : select P s ≡ (entry_at m.log.entries (selected m.log.entries)).levels
  selects_same = select_same P m.log.entries s at.supplied.indicators at.active

  pub place_only : (p : ℕ) → choose m.log ≡ place p → (loop_condition P s ≡ true) × Active m.log.entries p × ((entry_at m.log.entries p).levels ≡ select P s)
  place_only p e =
      let h = choose-facts.place_only m.log p e in (
        above_goes_on h.0,
        choose-facts.place_active m.log p e,
        ap (λ q. (entry_at m.log.entries q).levels) h.1 ∙ sym selects_same,
      )
