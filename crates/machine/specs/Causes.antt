-- What refuses a call ("Causes and numbers"): for each call its rows of the table, in the table's order. The tests are worked from the
-- arguments, the lengths of the lent storage, a log (the scope document's, or what an area holds), and whether the area is sound.
use Rattle.std.specs.Prelude.{Bool, true, false, not, cond, ◌&&◌, List, [], ◌∷◌, ℕ, leb, eqb, ℤ, nat_abs, length}
use Rattle.grid.specs.Block.{block_size}
use Rattle.area.specs.declared.Settings.{Settings}
use Rattle.area.specs.Settings.{axes_fit, budget_fit, reading_count, least_store}
use Rattle.area.specs.Log.{Log}
use Rattle.machine.specs.Log.{any_wanted, wanted_index, active_at}

-- A cause: a test that refuses, and its number, which is never 0.
pub record Cause : Type 0 where
  pub test : Bool
  pub number : ℕ

abbrev pub cause : Bool → ℕ → Cause
cause t n = record { test = t; number = n }

-- Tested in this order; 0 where none refuses.
unfoldable pub first_cause : List Cause → ℕ
first_cause [] = 0
first_cause (c ∷ cs) = cond c.test c.number (first_cause cs)

-- The lengths of the lent storage: index records and readings.
pub record Lengths : Type 0 where
  pub records : ℕ
  pub readings : ℕ

-- Records under 512, or reading store under the least: by start's own settings in start; in every other call by those of the state that is
-- asked, on an area the recorded ones, whatever they are.
unfoldable pub short : Lengths → Settings → Bool
short z g = not (leb 512 z.records && leb (least_store g) z.readings)

-- All are readings.
unfoldable pub in_range : List ℤ → Bool
in_range [] = true
in_range (x ∷ xs) = leb (nat_abs x) 1048576 && in_range xs

-- d not 1 to 8; budget not 1 to 8,192; storage too short.
unfoldable pub start_causes : Lengths → Settings → List Cause
start_causes z g = cause (not (axes_fit g)) 1 ∷ cause (not (budget_fit g)) 2 ∷ cause (short z g) 3 ∷ []

-- What every call but start and check asks before its own causes: storage that is not too short, nor, where it writes into a lent buffer, a
-- buffer that is (`buffer_short`), 3; a sound area, 4.
abbrev pub job_causes : Lengths → (sound : Bool) → Settings → (buffer_short : Bool) → (own : List Cause) → List Cause
job_causes z sound g buffer_short own = cause (cond buffer_short true (short z g)) 3 ∷ cause (not sound) 4 ∷ own

-- The own causes of point and points: no block wanted; the point's number n not below the block's size.
abbrev pub point_own_causes : Log → ℕ → List Cause
point_own_causes l n = cause (not (any_wanted l.entries)) 5 ∷ cause (leb (block_size (wanted_index l.entries)) n) 9 ∷ []

-- A buffer of w bytes is under d.
abbrev pub point_buffer_short : Settings → ℕ → Bool
point_buffer_short g w = not (leb g.axes w)

unfoldable pub point_causes : Lengths → Bool → Log → (n w : ℕ) → List Cause
point_causes z sound l n w = job_causes z sound l.settings (point_buffer_short l.settings w) (point_own_causes l n)

-- Deliver's: no block wanted; the reading count is not the block's; a reading out of range.
abbrev pub deliver_own_causes : Log → List ℤ → List Cause
deliver_own_causes l readings =
    cause (not (any_wanted l.entries)) 5
    ∷ cause (not (eqb (length readings) (reading_count l.settings (wanted_index l.entries)))) 7
    ∷ cause (not (in_range readings)) 8
    ∷ []

unfoldable pub deliver_causes : Lengths → Bool → Log → List ℤ → List Cause
deliver_causes z sound l readings = job_causes z sound l.settings false (deliver_own_causes l readings)

-- Choose's: a block wanted.
abbrev pub choose_own_causes : Log → List Cause
choose_own_causes l = cause (any_wanted l.entries) 6 ∷ []

unfoldable pub choose_causes : Lengths → Bool → Log → List Cause
choose_causes z sound l = job_causes z sound l.settings false (choose_own_causes l)

-- Promote's, of the place p, which is any number: a block wanted; p is not the place of an active index.
abbrev pub promote_own_causes : Log → (p : ℕ) → List Cause
promote_own_causes l p = cause (any_wanted l.entries) 6 ∷ cause (not (active_at l.entries p)) 11 ∷ []

unfoldable pub promote_causes : Lengths → Bool → Log → (p : ℕ) → List Cause
promote_causes z sound l p = job_causes z sound l.settings false (promote_own_causes l p)

-- Result, doubles and cross total have none of their own.
unfoldable pub result_causes : Lengths → Bool → Log → List Cause
result_causes z sound l = job_causes z sound l.settings false []
