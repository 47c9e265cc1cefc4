-- **Choose** ("Old, active and wanted", with requests No. 3 and 4): met, capped, or the place that the rule selects. It answers a place while the
-- pending error is above the threshold, whatever is carried, as Fig. 1's loop then goes on. In Fig. 1 it is the loop's test and the selection.
use Rattle.std.specs.Prelude.{Bool, cond, ◌&&◌, List, [], ◌∷◌, ℕ, suc, ◌+◌, leb, eqb}
use Rattle.area.specs.Entry.{Entry, pending_of, carried_of}
use Rattle.area.specs.Log.{Log}

-- ---- selecting: the active index of largest indicator, the lowest place among equals

-- The largest indicator of an active entry; 0 if none is active.
unfoldable pub largest : List Entry → ℕ
largest [] = 0
largest (e ∷ es) = cond (eqb e.state 1 && leb (largest es) e.indicator) e.indicator (largest es)

-- The place of the first active entry with this indicator; the number of entries if there is none.
unfoldable pub first_active : ℕ → List Entry → ℕ
first_active i [] = 0
first_active i (e ∷ es) = cond (eqb e.state 1 && eqb e.indicator i) 0 (suc (first_active i es))

unfoldable pub selected : List Entry → ℕ
selected es = first_active (largest es) es

-- ---- the choice

pub data Choice : Type 0 where
  met : Choice
  capped : Choice
  place : ℕ → Choice

-- The pending error is at most the threshold: Fig. 1's loop ends here, also with indices still active.
unfoldable pub is_over : Log → Bool
is_over l = leb (pending_of l.entries) l.settings.threshold

-- The pending and the carried error together are at most the threshold.
unfoldable pub is_met : Log → Bool
is_met l = leb (pending_of l.entries + carried_of l.settings.axes l.entries) l.settings.threshold

-- When the pending error is at most the threshold: *met* exactly if pending and carried together are, otherwise *capped*.
unfoldable pub choose : Log → Choice
choose l = cond (is_over l) (cond (is_met l) met capped) (place (selected l.entries))
