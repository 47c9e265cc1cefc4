-- The work area as the caller has it, and what a list of calls leaves in it and answers, by the very definitions that the calls' contracts
-- cite (crate `calls`, specs/Calls.antt). Each call finds the area as the one before left it.
use Rattle.std.specs.Prelude.{List, [], ◌∷◌, ◌++◌, ℕ, ◌≤◌, ℤ, length, take, drop}
use Rattle.area.specs.declared.JobRecord.{JobRecord}
use Rattle.area.specs.Records.{cells_of}
use Rattle.area.specs.Encoding.{Area, area_of}
use Rattle.calls.specs.Table.{Answer}
use Rattle.calls.specs.Calls.{CallResult, call_on}
use Rattle.history.specs.LentCalls.{Part, LentCall}

pub record Storage : Type 0 where
  pub job : JobRecord
  pub cells : List ℕ
  pub store : List ℤ

-- What a call is lent of it.
unfoldable pub area_lent : Storage → Part → Area
area_lent w x = area_of w.job (take x.cells w.cells) (take x.readings w.store)

-- It is lent no more than there is.
pub record Lent (w : Storage) (x : Part) : Type 0 where
  pub cells : x.cells ≤ length w.cells
  pub readings : x.readings ≤ length w.store

abbrev pub AllLent : Storage → List LentCall → Type 0
AllLent w [] = Unit {0}
AllLent w (x ∷ xs) = Lent w x.part × AllLent w xs

-- ---- one call

-- The area as the call leaves it, back in its place; what was not lent stays.
unfoldable pub returned : Storage → Part → Area → Storage
returned w x a = record { job = a.job; cells = cells_of a.run ++ drop x.cells w.cells; store = a.store ++ drop x.readings w.store }

unfoldable pub call_in : Storage → LentCall → CallResult
call_in w x = call_on (area_lent w x.part) x.call

unfoldable pub storage_step : Storage → LentCall → Storage
storage_step w x = returned w x.part (call_in w x).area

-- ---- a list of calls

unfoldable pub storage_after : Storage → List LentCall → Storage
storage_after w [] = w
storage_after w (x ∷ xs) = storage_after (storage_step w x) xs

unfoldable pub answers_of : Storage → List LentCall → List Answer
answers_of w [] = []
answers_of w (x ∷ xs) = (call_in w x).answer ∷ answers_of (storage_step w x) xs
