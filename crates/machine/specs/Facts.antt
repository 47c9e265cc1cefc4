-- Each step keeps the clauses on the state, so the area that encodes its result is sound; and each cause is returned in its own case.
use Rattle.std.specs.Prelude.{◌≡◌, true, false, cond, ℕ, ◌+◌, ◌<◌, ◌≤◌, ℤ, pos, length, get_or}
use mathlib.Core.List.{List, ◌∷◌, ◌++◌, Memᴰ}
use Rattle.grid.specs.Index.{at_ceiling}
use Rattle.grid.specs.Terms.{IsReading}
use Rattle.area.specs.declared.Settings.{Settings}
use Rattle.area.specs.Settings.{SettingsFit, reading_count}
use Rattle.area.specs.Entry.{Entry, pending_of, carried_of}
use Rattle.area.specs.Log.{Log, Machine, machine_with_entries}
use Rattle.encoding.specs.Entries.{entry_at, SoundMachine}
use Rattle.machine.specs.Log.{first_wanted, any_wanted, wanted_index, Active, active_at}
use Rattle.machine.specs.Choose.{met, capped, place, selected, choose}
use Rattle.machine.specs.Promote.{refine, fits}
use Rattle.machine.specs.Steps.{started, deliver_at, deliver, promote_step}
use Rattle.machine.specs.Causes.{Cause, cause, first_cause}

pub record StepFacts : Type 0 where
  pub start : (g : Settings) → SettingsFit g → SoundMachine (started g)
  -- readings as many as the block has, all in range
  pub deliver : (m : Machine) (rs : List ℤ) (i : ℕ) → SoundMachine m → first_wanted m.log.entries < length m.log.entries
      → length rs ≡ reading_count m.log.settings (wanted_index m.log.entries) → ((n : ℕ) → n < length rs → IsReading (get_or rs n (pos 0))) → SoundMachine (deliver m rs i)
  -- refining any active place, where it fits
  pub refine : (m : Machine) (p : ℕ) → SoundMachine m → Active m.log.entries p → fits m.log.settings.budget (refine m.log.settings.axes m.log.entries p) ≡ true
      → SoundMachine (machine_with_entries m (refine m.log.settings.axes m.log.entries p))
  -- where the pending error is above the threshold, what is selected is active
  pub selects : (l : Log) → l.settings.threshold < pending_of l.entries → Active l.entries (selected l.entries)
  -- with the largest indicator, at the lowest place among equals
  pub largest : (l : Log) → l.settings.threshold < pending_of l.entries → (q : ℕ) → Active l.entries q
      → (entry_at l.entries q).indicator ≤ (entry_at l.entries (selected l.entries)).indicator
  pub lowest : (l : Log) → l.settings.threshold < pending_of l.entries → (q : ℕ) → Active l.entries q
      → (entry_at l.entries q).indicator ≡ (entry_at l.entries (selected l.entries)).indicator → selected l.entries ≤ q
  -- a promotion of any active place keeps the clauses, whatever its answer
  pub promote : (m : Machine) (p : ℕ) → SoundMachine m → Active m.log.entries p → SoundMachine (promote_step m p)

-- ---- the carried error

-- How the steps move it, for any number of axes.
pub record CarriedSteps : Type 0 where
  -- a job that was just started carries nothing
  pub start : (d : ℕ) (g : Settings) → carried_of d (started g).log.entries ≡ 0
  -- a delivery keeps it: what was wanted is then active
  pub deliver : (d : ℕ) (es : List Entry) (rs : List ℤ) (i : ℕ) → first_wanted es < length es → carried_of d (deliver_at es (first_wanted es) rs i) ≡ carried_of d es
  -- refining an active place adds its indicator if its index is at a ceiling; what is admitted is wanted, and adds nothing
  pub refine : (d : ℕ) (es : List Entry) (p : ℕ) → p < length es → (entry_at es p).state ≡ 1
      → carried_of d (refine d es p) ≡ carried_of d es + cond (at_ceiling d (entry_at es p).levels) (entry_at es p).indicator 0

-- ---- choosing

-- The pending and the carried error of a log together.
abbrev pub errors_of : Log → ℕ
errors_of l = pending_of l.entries + carried_of l.settings.axes l.entries

-- Each answer exactly in its case.
pub record ChooseFacts : Type 0 where
  -- *met*: pending and carried together are at most the threshold, and so is the pending error
  pub met_if : (l : Log) → errors_of l ≤ l.settings.threshold → choose l ≡ met
  pub met_only : (l : Log) → choose l ≡ met → errors_of l ≤ l.settings.threshold
  -- *capped*: the pending error alone is
  pub capped_if : (l : Log) → pending_of l.entries ≤ l.settings.threshold → l.settings.threshold < errors_of l → choose l ≡ capped
  pub capped_only : (l : Log) → choose l ≡ capped → (pending_of l.entries ≤ l.settings.threshold) × (l.settings.threshold < errors_of l)
  -- and the selected place where the pending error is above it, whatever is carried
  pub place_if : (l : Log) → l.settings.threshold < pending_of l.entries → choose l ≡ place (selected l.entries)
  pub place_only : (l : Log) (p : ℕ) → choose l ≡ place p → (l.settings.threshold < pending_of l.entries) × (p ≡ selected l.entries)
  -- which is that of an active index
  pub place_active : (l : Log) (p : ℕ) → choose l ≡ place p → Active l.entries p
  -- a threshold equal to the pending error is met exactly if the carried error is 0
  pub equal_met : (l : Log) → pending_of l.entries ≡ l.settings.threshold → carried_of l.settings.axes l.entries ≡ 0 → choose l ≡ met
  pub equal_met_only : (l : Log) → pending_of l.entries ≡ l.settings.threshold → choose l ≡ met → carried_of l.settings.axes l.entries ≡ 0

-- ---- what is wanted, and the place of a promotion

-- A block is wanted exactly if some entry is in that state, and the first wanted place is the lowest of these.
pub record WantedFacts : Type 0 where
  pub sure : (es : List Entry) → any_wanted es ≡ true → (first_wanted es < length es) × ((entry_at es (first_wanted es)).state ≡ 0)
  pub back : (es : List Entry) (p : ℕ) → p < length es → (entry_at es p).state ≡ 0 → (any_wanted es ≡ true) × (first_wanted es ≤ p)
  pub none : (es : List Entry) → any_wanted es ≡ false → (p : ℕ) → p < length es → (entry_at es p).state ≡ 0 → ⊥

-- The test is the statement: true exactly at the place of an active index.
pub record PlaceFacts : Type 0 where
  pub sure : (es : List Entry) (p : ℕ) → active_at es p ≡ true → Active es p
  pub back : (es : List Entry) (p : ℕ) → Active es p → active_at es p ≡ true
  -- false at the number held and above, and where the entry is not active
  pub past : (es : List Entry) (p : ℕ) → length es ≤ p → active_at es p ≡ false
  pub other : (es : List Entry) (p : ℕ) → ((entry_at es p).state ≡ 1 → ⊥) → active_at es p ≡ false

-- ---- causes

-- In the list of causes cs the one with the number n applies, and none before it does.
pub record FirstToApply (cs : List Cause) (n : ℕ) : Type 0 where
  pub before : List Cause
  pub after : List Cause
  pub split : cs ≡ before ++ cause true n ∷ after
  pub none_before : (c : Cause) → Memᴰ c before → c.test ≡ false

-- "Tested in this order. Each is returned in its own case and no other."
pub record CauseFacts : Type 0 where
  -- a number that is not 0 is that of the first cause that applies
  pub own_case : (cs : List Cause) (n : ℕ) → first_cause cs ≡ n → (n ≡ 0 → ⊥) → FirstToApply cs n
  -- in whose case no other is returned
  pub no_other : (cs : List Cause) (n : ℕ) → FirstToApply cs n → first_cause cs ≡ n
  -- and it is 0 exactly if no cause applies, since no cause has the number 0
  pub none_applies : (cs : List Cause) → ((c : Cause) → Memᴰ c cs → c.number ≡ 0 → ⊥) → first_cause cs ≡ 0 → (c : Cause) → Memᴰ c cs → c.test ≡ false
  pub zero : (cs : List Cause) → ((c : Cause) → Memᴰ c cs → c.test ≡ false) → first_cause cs ≡ 0
