-- The records that a lent slice of cells holds; a cell is one 32-bit word. A record is 27 cells: levels of axes 1 to 8; state; indicator; first reading;
-- forward links of axes 1 to 8; backward links of axes 1 to 8.
use Rattle.std.specs.Prelude.{List, [], ◌∷◌, ◌++◌, map, ℕ, zero, suc, ◌*◌, ◌/◌, length, get_or, set, take, drop}
use Rattle.area.specs.declared.IndexRecord.{IndexRecord}

-- The record that 27 cells hold.
unfoldable pub record_of : List ℕ → IndexRecord
record_of c = record { levels = take 8 c; state = get_or c 8 0; indicator = get_or c 9 0; first = get_or c 10 0; links = take 16 (drop 11 c) }

-- The first n records.
unfoldable pub records : ℕ → List ℕ → List IndexRecord
records zero c = []
records (suc n) c = record_of c ∷ records n (drop 27 c)

-- As many records as the cells have room for.
unfoldable pub records_of : List ℕ → List IndexRecord
records_of c = records (length c / 27) c

-- What a lent slice of cells is: its records, and the cells past the last whole one. Nothing else is in the cells: that these
-- determine them is a fact (`RunFacts`).
pub record Run : Type 0 where
  pub records : List IndexRecord
  pub rest : List ℕ

abbrev pub run_of : List ℕ → Run
run_of c = record { records = records_of c; rest = drop (length c / 27 * 27) c }

-- The way back: the cells of a record, of a list of records, and of a run.
unfoldable pub record_cells : IndexRecord → List ℕ
record_cells r = r.levels ++ (r.state ∷ r.indicator ∷ r.first ∷ r.links)

unfoldable pub cells_for : List IndexRecord → List ℕ
cells_for [] = []
cells_for (r ∷ rs) = record_cells r ++ cells_for rs

unfoldable pub cells_of : Run → List ℕ
cells_of u = cells_for u.records ++ u.rest

-- One record replaced.
abbrev pub stored : Run → ℕ → IndexRecord → Run
stored u place r = record { records = set u.records place r; rest = u.rest }

-- What a place past the records reads as.
unfoldable pub blank : IndexRecord
blank = record { levels = []; state = 0; indicator = 0; first = 0; links = [] }

-- The records of the held places.
unfoldable pub held_in : List ℕ → ℕ → List IndexRecord
held_in c held = take held (records_of c)

-- Their level lists.
unfoldable pub levels_of : List IndexRecord → List (List ℕ)
levels_of rs = map (λ (r : IndexRecord). r.levels) rs
