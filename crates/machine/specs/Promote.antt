-- **Promote** ("Old, active and wanted", with request No. 4): an active place is refined, whatever selected it and whatever the threshold. In
-- Fig. 1 of the source this is the index's move to the old set, and the loop over its forward neighbours.
use Rattle.std.specs.Prelude.{Bool, true, false, cond, ◌&&◌, List, [], ◌∷◌, ◌++◌, map, ℕ, zero, suc, ◌+◌, leb, eqb, length, set}
use Rattle.grid.specs.Index.{level, within, forward, backward}
use Rattle.grid.specs.Coefficient.{same_levels}
use Rattle.area.specs.Entry.{Entry, reserved_by}
use Rattle.area.specs.Log.{Log, with_entries}
use Rattle.soundness.specs.Test.{all_from}
use Rattle.encoding.specs.Entries.{entry_at}
use Rattle.machine.specs.Log.{wanted}

-- ---- refining: the place's index becomes old; a forward neighbour within the ceilings is admitted if all its own backward
-- neighbours are old, the place's index now included

unfoldable pub made_old : Entry → Entry
made_old e = record { levels = e.levels; state = 2; indicator = e.indicator; readings = e.readings }

unfoldable pub make_old : List Entry → ℕ → List Entry
make_old es p = set es p (made_old (entry_at es p))

-- The index has an old entry.
unfoldable pub is_old : List Entry → List ℕ → Bool
is_old [] k = false
is_old (e ∷ es) k = cond (same_levels e.levels k && eqb e.state 2) true (is_old es k)

-- Along an axis at level 1 there is no backward neighbour, so none is asked for.
unfoldable pub backward_old : List Entry → List ℕ → ℕ → Bool
backward_old es k b = cond (leb (level k b) 1) true (is_old es (backward k b))

unfoldable pub admits : ℕ → List Entry → List ℕ → ℕ → Bool
admits d es k a = within (forward k a) && all_from d 0 (backward_old es (forward k a))

-- Those of n numbers from a on that pass a test, in order.
unfoldable pub passing : ℕ → ℕ → (ℕ → Bool) → List ℕ
passing zero a f = []
passing (suc n) a f = cond (f a) (a ∷ passing n (a + 1) f) (passing n (a + 1) f)

-- The axes, in order, along which k has an admitted forward neighbour.
unfoldable pub admitted_axes : ℕ → List Entry → List ℕ → List ℕ
admitted_axes d es k = passing d 0 (admits d es k)

-- The admitted are appended in axis order, wanted.
unfoldable pub refine : ℕ → List Entry → ℕ → List Entry
refine d es p = make_old es p ++ map (λ a. wanted (forward (entry_at es p).levels a)) (admitted_axes d (make_old es p) (entry_at es p).levels)

-- ---- the answers

-- At most 512 held, and reserved at most the limit, which is the budget. Promote is *spent* exactly if this fails with the admitted appended.
unfoldable pub fits : (limit : ℕ) → List Entry → Bool
fits limit es = leb (length es) 512 && leb (reserved_by es) limit

pub data Outcome : Type 0 where
  spent : Outcome
  promoted : Outcome

pub record Promotion : Type 0 where
  pub outcome : Outcome
  pub log : Log

-- Refining a place, unless it is spent, and then nothing changes; with a limit on the reserved readings.
unfoldable pub promote_within : (limit : ℕ) → Log → ℕ → Promotion
promote_within limit l p =
    cond (fits limit (refine l.settings.axes l.entries p)) (record { outcome = promoted; log = with_entries l (refine l.settings.axes l.entries p) })
    (record { outcome = spent; log = l })

-- The limit is the budget.
abbrev pub promote_at : Log → ℕ → Promotion
promote_at l p = promote_within l.settings.budget l p
