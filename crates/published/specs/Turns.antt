-- The machine's steps that make one turn, and when the machine has the state of Fig. 1.
use Rattle.std.specs.Prelude.{◌≡◌, ◌⊎◌, cond, ℕ, zero, suc, ◌+◌, ◌<◌, ◌≤◌, eqb, length}
use mathlib.Core.List.{List, [], ◌∷◌, map, Memᴰ}
use Rattle.grid.specs.Index.{at_ceiling}
use Rattle.grid.specs.Block.{block, block_size}
use Rattle.grid.specs.Terms.{IsReading, NoDup}
use Rattle.area.specs.declared.Settings.{Settings}
use Rattle.area.specs.Entry.{Entry, reserved_by, pending_of, carried_of}
use Rattle.area.specs.Log.{Log, Machine}
use Rattle.encoding.specs.Entries.{entry_at, EnteredOld}
use Rattle.machine.specs.Log.{wanted_index}
use Rattle.machine.specs.Choose.{place, selected, choose}
use Rattle.machine.specs.Promote.{promoted, promote_at}
use Rattle.machine.specs.Counts.{count_of}
use Rattle.machine.specs.Admitted.{total_of}
use Rattle.machine.specs.Steps.{started, deliver, promote_step}
use Rattle.published.specs.Figure.{Problem, Figure, moved, turn_at}

-- The first wanted block is delivered, with the integrand's readings, in the block's order, and the function's indicator.
unfoldable pub supply : Problem → Machine → Machine
supply P m = deliver m (map P.integrand (block (wanted_index m.log.entries))) (P.indicator (wanted_index m.log.entries))

-- n deliveries.
unfoldable pub supplies : Problem → ℕ → Machine → Machine
supplies P zero m = m
supplies P (suc n) m = supplies P n (supply P m)

-- A promotion of the place p, and the deliveries of all that it admitted: nothing is wanted before it, so what is wanted after it is what it
-- admitted. One that is *spent* changes nothing and admits nothing.
unfoldable pub turn_on : Problem → Machine → (p : ℕ) → Machine
turn_on P m p = supplies P (count_of 0 (promote_step m p).log.entries) (promote_step m p)

-- Start and the root's delivery, and then n such turns at the places that the rule selects. The settings are to match the problem
-- (`SettingsMatch`).
unfoldable pub turns_on : Problem → Settings → ℕ → Machine
turns_on P g zero = supply P (started g)
turns_on P g (suc n) = turn_on P (turns_on P g n) (selected (turns_on P g n).log.entries)

-- The next turn by the rule is made: choose answers a place, and its promotion is *promoted*.
abbrev pub TurnMade : Log → Type 0
TurnMade l = (choose l ≡ place (selected l.entries)) × ((promote_at l (selected l.entries)).outcome ≡ promoted)

-- Settings match a problem that has their number of axes, and their threshold as its tolerance.
pub record SettingsMatch (g : Settings) (P : Problem) : Type 0 where
  pub axes : P.axes ≡ g.axes
  pub tolerance : P.tolerance ≡ g.threshold

-- The active indices, in order of place.
unfoldable pub active_of : List Entry → List (List ℕ)
active_of [] = []
active_of (e ∷ es) = cond (eqb e.state 1) (e.levels ∷ active_of es) (active_of es)

-- The wanted ones, and all that are not old, in order of place.
unfoldable pub wanted_of : List Entry → List (List ℕ)
wanted_of [] = []
wanted_of (e ∷ es) = cond (eqb e.state 0) (e.levels ∷ wanted_of es) (wanted_of es)

unfoldable pub not_old_of : List Entry → List (List ℕ)
not_old_of [] = []
not_old_of (e ∷ es) = cond (eqb e.state 2) (not_old_of es) (e.levels ∷ not_old_of es)

-- Every value of the integrand is a reading.
abbrev pub ReadingValued : Problem → Type 0
ReadingValued P = (x : List ℕ) → IsReading (P.integrand x)

-- Every entry is delivered, with the integrand's readings and the function's indicator.
pub record Supplied (P : Problem) (es : List Entry) : Type 0 where
  pub delivered : (p : ℕ) → p < length es → 1 ≤ (entry_at es p).state
  pub readings : (p : ℕ) → p < length es → (entry_at es p).readings ≡ map P.integrand (block (entry_at es p).levels)
  pub indicators : (p : ℕ) → p < length es → (entry_at es p).indicator ≡ P.indicator (entry_at es p).levels

-- Every entry that is delivered so far has the integrand's readings and the function's indicator; the wanted ones are free.
pub record SuppliedSoFar (P : Problem) (es : List Entry) : Type 0 where
  pub readings : (p : ℕ) → p < length es → 1 ≤ (entry_at es p).state → (entry_at es p).readings ≡ map P.integrand (block (entry_at es p).levels)
  pub indicators : (p : ℕ) → p < length es → 1 ≤ (entry_at es p).state → (entry_at es p).indicator ≡ P.indicator (entry_at es p).levels

-- The machine has the state of Fig. 1: the same old set, the same active set (also in the same order), the same result, the same
-- pending and carried error; and as many indices are held as 𝒪 and 𝒜 have, with as many readings reserved as their blocks have points. No index comes
-- into 𝒪 twice.
pub record Simulates (P : Problem) (m : Machine) (s : Figure) : Type 0 where
  pub posed : SettingsMatch m.log.settings P
  pub supplied : Supplied P m.log.entries
  pub old_there : (k : List ℕ) → EnteredOld m.log.entries k → Memᴰ k s.old
  pub old_here : (k : List ℕ) → Memᴰ k s.old → EnteredOld m.log.entries k
  pub active : active_of m.log.entries ≡ s.active
  pub result : m.mean ≡ s.result
  pub pending : pending_of m.log.entries ≡ s.estimate
  pub carried : carried_of m.log.settings.axes m.log.entries ≡ s.carried
  pub held : length m.log.entries ≡ length s.old + length s.active
  pub reserved : reserved_by m.log.entries ≡ total_of block_size s.old + total_of block_size s.active
  pub once : NoDup s.old

-- 𝒪 and 𝒜 together have more than 512 indices, or their blocks more points than the budget.
abbrev pub ExceedsLimits : (budget : ℕ) → Figure → Type 0
ExceedsLimits budget s = (512 < length s.old + length s.active) ⊎ (budget < total_of block_size s.old + total_of block_size s.active)

-- A promotion of the index i, whatever selected it, from entries `before` that have the state s of Fig. 1 to `after`: on 𝒪 and 𝒜 it is
-- the move of i and the scan.
pub record PromotionFollows (P : Problem) (s : Figure) (i : List ℕ) (before after : List Entry) : Type 0 where
  -- the old are 𝒪 after the turn
  pub old_there : (k : List ℕ) → EnteredOld after k → Memᴰ k (turn_at P i s).old
  pub old_here : (k : List ℕ) → Memᴰ k (turn_at P i s).old → EnteredOld after k
  -- the active are, in order, 𝒜 after the move
  pub active : active_of after ≡ (moved P i s).active
  -- and with the wanted, which come after them, 𝒜 after the scan
  pub not_old : not_old_of after ≡ (turn_at P i s).active
  -- the pending error falls by the indicator of i, to η after the move; the indicators of the wanted join it with their deliveries
  pub pending_falls : pending_of before ≡ P.indicator i + pending_of after
  pub pending : pending_of after ≡ (moved P i s).estimate
  -- the carried error rises by it where i has a forward neighbour past a ceiling, to that of the move, which the scan leaves
  pub carried_rises : carried_of P.axes after ≡ carried_of P.axes before + cond (at_ceiling P.axes i) (P.indicator i) 0
  pub carried : carried_of P.axes after ≡ (turn_at P i s).carried
