-- The execution of a job file ("Job file and report"): start, and then, while a block is wanted, the next entry is delivered, else it chooses
-- and promotes the place that is chosen, until *met*, *capped*, *spent* or *short* (entries exhausted, block wanted). c are the file's bytes.
use Rattle.std.specs.Prelude.{true, cond, List, [], ◌∷◌, ℕ, zero, suc, ◌+◌, ◌*◌, leb, eqb, ℤ, nat_abs}
use Rattle.area.specs.declared.Settings.{Settings}
use Rattle.area.specs.Settings.{settings_of}
use Rattle.area.specs.Log.{Machine}
use Rattle.machine.specs.Log.{any_wanted}
use Rattle.machine.specs.Choose as choice
use Rattle.machine.specs.Promote as refining
use Rattle.machine.specs.Steps.{started, deliver, promote_step}
use Rattle.machine.specs.Causes.{Lengths, first_cause, start_causes, deliver_causes}
use Rattle.jobfile.specs.Bytes.{four}
use Rattle.jobfile.specs.Form.{Form, formed, broken, form_of, entry_count, entry_byte}
use Rattle.jobfile.specs.File.{entry_of, file_of}
use Rattle.reporting.specs.Text.{Ending, met, capped, spent, short}

-- A run has storage of its own: 512 records and 8,192 readings, long enough for every budget.
abbrev pub own_lengths : Lengths
own_lengths = record { records = 512; readings = 8192 }

pub data Result : Type 0 where
  -- refused by a cause, with the byte that it names
  refused_at : (number byte : ℕ) → Result
  -- ended, with the state, and the number of entries delivered
  ended : Ending → Machine → (used : ℕ) → Result
  -- not at an end after so many steps; that this never comes of a run is a fact
  unfinished : Result

-- The number of readings before the first that is out of range.
unfoldable pub first_out_of_range : List ℤ → ℕ
first_out_of_range [] = 0
first_out_of_range (x ∷ xs) = cond (leb (nat_abs x) 1048576) (suc (first_out_of_range xs)) 0

-- 7 names the entry's count field, 8 the reading.
unfoldable pub delivery_byte : List ℕ → (entry number : ℕ) → ℕ
delivery_byte c i n = cond (eqb n 7) (entry_byte i + 4) (four c (entry_byte i + 8) + 4 * first_out_of_range (entry_of c i).readings)

-- Why the delivery of entry i is refused, 0 if it isn't.
abbrev pub delivery_cause : List ℕ → Machine → ℕ → ℕ
delivery_cause c m i = first_cause (deliver_causes own_lengths true m.log (entry_of c i).readings)

-- Entry i is delivered and the run goes on with `next`, unless the delivery is refused.
abbrev pub unless_refused : List ℕ → Machine → ℕ → Result → Result
unless_refused c m i next = cond (eqb (delivery_cause c m i) 0) next (refused_at (delivery_cause c m i) (delivery_byte c i (delivery_cause c m i)))

-- Promote ends the run where it is spent; promoted, the run goes on with `next`.
unfoldable pub by_outcome : refining.Outcome → Machine → ℕ → Result → Result
by_outcome refining.spent m i next = ended spent m i
by_outcome refining.promoted m i next = next

-- Choose ends the run where it is met or capped; a place that it answers is promoted.
unfoldable pub by_choice : choice.Choice → Machine → ℕ → (next : ℕ → Result) → Result
by_choice choice.met m i next = ended met m i
by_choice choice.capped m i next = ended capped m i
by_choice (choice.place p) m i next = by_outcome (refining.promote_at m.log p).outcome m i (next p)

-- At most n steps, with i entries delivered; a choice and its promotion are one step.
unfoldable pub execution : List ℕ → (n : ℕ) → Machine → (i : ℕ) → Result
execution c zero m i = unfinished
execution c (suc n) m i =
    cond (any_wanted m.log.entries)
    (cond (leb (entry_count c) i) (ended short m i)
    (unless_refused c m i (execution c n (deliver m (entry_of c i).readings (entry_of c i).indicator) (i + 1))))
    (by_choice (choice.choose m.log) m i (λ p. execution c n (promote_step m p) i))

-- Every step but the last delivers one of at most 512 entries or makes one of at most 512 indices old: 512 + 512 + 1.
abbrev pub step_limit : ℕ
step_limit = 1025

-- Numbers 1 and 2 name bytes 0 and 4.
unfoldable pub start_byte : ℕ → ℕ
start_byte n = cond (eqb n 1) 0 4

-- What the file's header starts the job with.
abbrev pub file_settings : List ℕ → Settings
file_settings c = settings_of (file_of c).axes (file_of c).threshold (file_of c).budget

abbrev pub start_cause : List ℕ → ℕ
start_cause c = first_cause (start_causes own_lengths (file_settings c))

-- The whole form is tested before start.
unfoldable pub result_in : Form → List ℕ → Result
result_in (broken f) c = refused_at f.number f.byte
result_in formed c =
    cond (eqb (start_cause c) 0) (execution c step_limit (started (file_settings c)) 0) (refused_at (start_cause c) (start_byte (start_cause c)))

unfoldable pub result_of : List ℕ → Result
result_of c = result_in (form_of c) c
