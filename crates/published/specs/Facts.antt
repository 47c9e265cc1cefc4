-- The machine's steps are the lines of Fig. 1.
use Rattle.std.specs.Prelude.{◌≡◌, true, List, [], ◌∷◌, ◌++◌, ℕ, ◌+◌, ◌<◌, ◌≤◌}
use Rattle.grid.specs.Terms.{NoDup}
use Rattle.area.specs.declared.Settings.{Settings}
use Rattle.area.specs.Settings.{SettingsFit}
use Rattle.area.specs.Log.{Machine}
use Rattle.encoding.specs.Entries.{entry_at, SoundMachine}
use Rattle.machine.specs.Log.{any_wanted, Active}
use Rattle.machine.specs.Choose.{met, capped, place, selected, choose}
use Rattle.machine.specs.Promote as refining
use Rattle.published.specs.Figure.{Problem, Figure, initial, loop_condition, select, turn_at, turns, led, selections}
use Rattle.published.specs.Turns.{turn_on, turns_on, TurnMade, SettingsMatch, ReadingValued, Simulates, ExceedsLimits, PromotionFollows}

pub record PublishedFacts : Type 0 where
  -- every sound state with nothing wanted, also one that no list of calls gives, is a state of Fig. 1 on some problem, whose mean is the recorded
  -- one: so what is said of such states below is said of each of its steps
  pub some : (m : Machine) → SoundMachine m → (any_wanted m.log.entries ≡ true → ⊥) → (P : Problem) × (s : Figure) × ReadingValued P × Simulates P m s
  -- start and the root's delivery are the lines before the loop
  pub begins : (P : Problem) (g : Settings) → ReadingValued P → SettingsFit g → SettingsMatch g P → Simulates P (turns_on P g 0) (initial P)
  -- where the loop ends, choose answers met or capped as η and carried together compare with TOL
  pub over_met : (P : Problem) (m : Machine) (s : Figure) → Simulates P m s → (loop_condition P s ≡ true → ⊥) → s.estimate + s.carried ≤ P.tolerance → choose m.log ≡ met
  pub over_capped : (P : Problem) (m : Machine) (s : Figure) → Simulates P m s → (loop_condition P s ≡ true → ⊥) → P.tolerance < s.estimate + s.carried → choose m.log ≡ capped
  -- where it goes on, a place, which has the index that Fig. 1 selects
  pub goes_on_lem : (P : Problem) (m : Machine) (s : Figure) → Simulates P m s → loop_condition P s ≡ true → choose m.log ≡ place (selected m.log.entries)
  pub selects : (P : Problem) (m : Machine) (s : Figure) → Simulates P m s → select P s ≡ (entry_at m.log.entries (selected m.log.entries)).levels
  -- and each answer in no other case
  pub met_only : (P : Problem) (m : Machine) (s : Figure) → Simulates P m s → choose m.log ≡ met → (loop_condition P s ≡ true → ⊥) × (s.estimate + s.carried ≤ P.tolerance)
  pub capped_only : (P : Problem) (m : Machine) (s : Figure) → Simulates P m s → choose m.log ≡ capped → (loop_condition P s ≡ true → ⊥) × (P.tolerance < s.estimate + s.carried)
  pub place_only : (P : Problem) (m : Machine) (s : Figure) (p : ℕ) → Simulates P m s → choose m.log ≡ place p
      → (loop_condition P s ≡ true) × Active m.log.entries p × ((entry_at m.log.entries p).levels ≡ select P s)
  -- refining any active place is on 𝒪 and 𝒜 the move of its index and the scan
  pub refines : (P : Problem) (m : Machine) (s : Figure) (p : ℕ) → SoundMachine m → Simulates P m s → Active m.log.entries p
      → PromotionFollows P s (entry_at m.log.entries p).levels m.log.entries (refining.refine m.log.settings.axes m.log.entries p)
  -- after the turn with its index no index stands twice in 𝒪 and 𝒜, so that the limits count indices
  pub once_after : (P : Problem) (m : Machine) (s : Figure) (p : ℕ) → SoundMachine m → Simulates P m s → Active m.log.entries p
      → NoDup ((turn_at P (entry_at m.log.entries p).levels s).old ++ (turn_at P (entry_at m.log.entries p).levels s).active)
  -- it is *spent* exactly if after the turn with its index 𝒪 and 𝒜 are past the limits, and *promoted* otherwise
  pub spent_at : (P : Problem) (m : Machine) (s : Figure) (p : ℕ) → SoundMachine m → Simulates P m s → Active m.log.entries p
      → ExceedsLimits m.log.settings.budget (turn_at P (entry_at m.log.entries p).levels s) → (refining.promote_at m.log p).outcome ≡ refining.spent
  pub promoted_at : (P : Problem) (m : Machine) (s : Figure) (p : ℕ) → SoundMachine m → Simulates P m s → Active m.log.entries p
      → (ExceedsLimits m.log.settings.budget (turn_at P (entry_at m.log.entries p).levels s) → ⊥) → (refining.promote_at m.log p).outcome ≡ refining.promoted
  pub spent_at_only : (P : Problem) (m : Machine) (s : Figure) (p : ℕ) → SoundMachine m → Simulates P m s → Active m.log.entries p
      → (refining.promote_at m.log p).outcome ≡ refining.spent → ExceedsLimits m.log.settings.budget (turn_at P (entry_at m.log.entries p).levels s)
  -- a promotion of any active place that is promoted, and the deliveries of all that it admitted, are the loop's body with its index
  pub one_turn : (P : Problem) (m : Machine) (s : Figure) (p : ℕ) → ReadingValued P → SoundMachine m → Simulates P m s → Active m.log.entries p
      → (refining.promote_at m.log p).outcome ≡ refining.promoted → SoundMachine (turn_on P m p) × Simulates P (turn_on P m p) (turn_at P (entry_at m.log.entries p).levels s)
  -- led by one index more, Fig. 1 makes the loop's body with it once more; 𝒪 is the list; led by what it selects itself, it makes its own turns
  pub led_more : (P : Problem) (is : List (List ℕ)) (i : List ℕ) → led P (is ++ i ∷ []) ≡ turn_at P i (led P is)
  pub led_old : (P : Problem) (is : List (List ℕ)) → (led P is).old ≡ is
  pub led_by_itself : (P : Problem) (n : ℕ) → led P (selections P n) ≡ turns P n
  -- so after any number of turns at the places that the rule selects, as long as each is made
  pub any_turns : (P : Problem) (g : Settings) (n : ℕ) → ReadingValued P → SettingsFit g → SettingsMatch g P
      → ((i : ℕ) → i < n → TurnMade (turns_on P g i).log) → SoundMachine (turns_on P g n) × Simulates P (turns_on P g n) (turns P n)
