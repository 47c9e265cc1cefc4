-- Entries, as the log has them and as an area holds them: each held index with its state, indicator and readings.
use Rattle.std.specs.Prelude.{cond, ◌&&◌, List, [], ◌∷◌, map, ℕ, ◌+◌, leb, eqb, ℤ, pos, get_or}
use Rattle.grid.specs.Index.{at_ceiling}
use Rattle.grid.specs.Block.{block_size}
use Rattle.grid.specs.Difference.{Readings}
use Rattle.grid.specs.Coefficient.{same_levels}

-- A held index is *wanted* (0), *active* (1) or *old* (2); *delivered* means active or old. A state above 2 occurs in no sound area.
pub record Entry : Type 0 where
  pub levels : List ℕ
  pub state : ℕ
  pub indicator : ℕ
  pub readings : List ℤ

-- The indices of the entries, in order of place; those of the delivered.
unfoldable pub indices_of : List Entry → List (List ℕ)
indices_of es = map (λ (e : Entry). e.levels) es

unfoldable pub delivered_of : List Entry → List (List ℕ)
delivered_of [] = []
delivered_of (e ∷ es) = cond (leb 1 e.state) (e.levels ∷ delivered_of es) (delivered_of es)

-- The readings of an index: those of the first entry that has it.
unfoldable pub readings_of : List Entry → List ℕ → List ℤ
readings_of [] k = []
readings_of (e ∷ es) k = cond (same_levels e.levels k) e.readings (readings_of es k)

-- The readings as a function of the index and of the point's number in its block.
unfoldable pub reading_in : List Entry → Readings
reading_in es k n = get_or (readings_of es k) n (pos 0)

-- *Reserved* is the sum of the held blocks' sizes, wanted ones included.
unfoldable pub reserved_by : List Entry → ℕ
reserved_by [] = 0
reserved_by (e ∷ es) = block_size e.levels + reserved_by es

-- The *pending error* is the sum of the active indices' indicators.
unfoldable pub pending_of : List Entry → ℕ
pending_of [] = 0
pending_of (e ∷ es) = cond (eqb e.state 1) e.indicator 0 + pending_of es

-- The *carried error* is the sum of the indicators of old indices with at least one forward neighbour, along the job's d axes, past a
-- ceiling. An index counts once, along however many axes; one that is active is pending and not carried.
unfoldable pub carried_of : ℕ → List Entry → ℕ
carried_of d [] = 0
carried_of d (e ∷ es) = cond (eqb e.state 2 && at_ceiling d e.levels) e.indicator 0 + carried_of d es
