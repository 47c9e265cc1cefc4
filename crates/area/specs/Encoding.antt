-- How an area encodes the machine's state. The *area* is the job record, the index records and the reading store.
use Rattle.std.specs.Prelude.{cond, List, [], ◌∷◌, ◌++◌, map, ℕ, ◌+◌, leb, ℤ, length, take, drop}
use Rattle.sums.specs.Lists.{tabulate}
use Rattle.grid.specs.Index.{forward, backward}
use Rattle.grid.specs.Coefficient.{same_levels}
use Rattle.area.specs.declared.IndexRecord.{IndexRecord}
use Rattle.area.specs.declared.JobRecord.{JobRecord}
use Rattle.area.specs.declared.Settings.{Settings}
use Rattle.area.specs.Settings.{reading_count}
use Rattle.area.specs.Records.{Run, run_of}
use Rattle.area.specs.Entry.{Entry, indices_of, reserved_by, pending_of, carried_of}
use Rattle.area.specs.Log.{Log, Machine}

pub record Area : Type 0 where
  pub job : JobRecord
  pub run : Run
  pub store : List ℤ

abbrev pub area_of : JobRecord → List ℕ → List ℤ → Area
area_of j c s = record { job = j; run = run_of c; store = s }

-- The records of the held places.
abbrev pub held_of : Area → List IndexRecord
held_of a = take a.job.held a.run.records

-- ---- reading an area

-- What a record says, with its readings, which lie in the store from its first reading on once its block is delivered.
unfoldable pub entry_of : Settings → List ℤ → IndexRecord → Entry
entry_of g s r =
    record {
      levels = r.levels;
      state = r.state;
      indicator = r.indicator;
      readings = cond (leb 1 r.state) (take (reading_count g r.levels) (drop r.first s)) [];
    }

unfoldable pub entries_of : Area → List Entry
entries_of a = map (entry_of a.job.settings a.store) (held_of a)

-- What an area says, in the form of the machine's state. The log of a list of calls is worked from the calls' arguments and not from
-- here.
unfoldable pub machine_of : Area → Machine
machine_of a = record { log = record { settings = a.job.settings; entries = entries_of a }; mean = a.job.mean }

-- ---- writing entries into an area

-- The link to a neighbour that is not held.
unfoldable pub none : ℕ
none = 4294967295

-- The place of an index among the held, `none` where it is not held.
unfoldable pub place_from : ℕ → List (List ℕ) → List ℕ → ℕ
place_from p [] k = none
place_from p (l ∷ ls) k = cond (same_levels l k) p (place_from (p + 1) ls k)

unfoldable pub place_of : List (List ℕ) → List ℕ → ℕ
place_of ls k = place_from 0 ls k

-- Sixteen links: the places of the forward neighbours along axes 1 to 8, then of the backward neighbours. Lowered at level 1 the
-- list has a level 0, which no index has, so there the link is none.
unfoldable pub links_of : List (List ℕ) → List ℕ → List ℕ
links_of ls k = tabulate 8 (λ a. place_of ls (forward k a)) ++ tabulate 8 (λ a. place_of ls (backward k a))

-- The record of an entry whose readings lie from f on.
unfoldable pub encoded : List (List ℕ) → ℕ → Entry → IndexRecord
encoded ls f e = record { levels = e.levels; state = e.state; indicator = e.indicator; first = f; links = links_of ls e.levels }

-- First readings are the running sum of the blocks' readings.
unfoldable pub encoded_from : Settings → List (List ℕ) → ℕ → List Entry → List IndexRecord
encoded_from g ls f [] = []
encoded_from g ls f (e ∷ es) = encoded ls f e ∷ encoded_from g ls (f + reading_count g e.levels) es

unfoldable pub records_for : Settings → List Entry → List IndexRecord
records_for g es = encoded_from g (indices_of es) 0 es

-- The readings of all entries, one block after the other.
unfoldable pub store_for : List Entry → List ℤ
store_for [] = []
store_for (e ∷ es) = e.readings ++ store_for es

-- The records and readings of the log from the start on; what lies past them stays as it was.
unfoldable pub run_with : Run → Log → Run
run_with u l = record { records = records_for l.settings l.entries ++ drop (length l.entries) u.records; rest = u.rest }

unfoldable pub store_with : List ℤ → List Entry → List ℤ
store_with s es = store_for es ++ drop (length (store_for es)) s

-- The job record of a state.
unfoldable pub job_with : Machine → JobRecord
job_with m =
    record {
      settings = m.log.settings;
      held = length m.log.entries;
      reserved = reserved_by m.log.entries;
      pending = pending_of m.log.entries;
      carried = carried_of m.log.settings.axes m.log.entries;
      mean = m.mean;
    }

-- The area with a state written into it; what lies past its records and readings stays as it was.
unfoldable pub written : Area → Machine → Area
written a m = record { job = job_with m; run = run_with a.run m.log; store = store_with a.store m.log.entries }
