-- What is said of storage besides the functions' contracts.
use Rattle.std.specs.Prelude.{◌≡◌, true, false, cond, List, [], ◌∷◌, ◌++◌, ℕ, ◌+◌, ◌/◌, ◌%◌, ◌^◌, ◌<◌, ◌≤◌, leb, length, get_or, set, Some, None}
use Rattle.grid.specs.Index.{level, at_ceiling}
use Rattle.grid.specs.Boundary.{pair}
use Rattle.area.specs.declared.IndexRecord.{IndexRecord}
use Rattle.area.specs.Records.{Run, run_of, cells_of, blank, levels_of}
use Rattle.area.specs.Lookup.{lookup_in}
use Rattle.area.specs.Packed.{packed, FitsByte, AllFitByte, fits_byte, all_fit_byte}
use Rattle.area.specs.Entry.{Entry, pending_of, carried_of}
use Rattle.area.specs.Encoding.{none, place_of}

pub record RunFacts : Type 0 where
  -- the records and the rest determine the cells
  pub determines : (c d : List ℕ) → run_of c ≡ run_of d → c ≡ d
  -- the cells of a run are those it was read from; and every run of records with eight levels and sixteen links, with fewer than 27
  -- cells past them, is read from its cells
  pub back : (c : List ℕ) → cells_of (run_of c) ≡ c
  pub forth : (u : Run) → ((p : ℕ) → p < length u.records → (length (get_or u.records p blank).levels ≡ 8) × (length (get_or u.records p blank).links ≡ 16))
      → length u.rest < 27 → run_of (cells_of u) ≡ u
  -- the lookup as an answer and as a place are one: it finds the place, or nothing where the place is none
  pub found : (rs : List IndexRecord) (k : List ℕ) → length rs ≤ none
      → lookup_in rs k ≡ cond (leb none (place_of (levels_of rs) k)) None (Some (place_of (levels_of rs) k))

-- ---- levels packed into a word

pub record PackFacts : Type 0 where
  -- two lists of one length whose levels all fit a byte have equal words exactly if they are equal
  pub exactly : (k l : List ℕ) → length k ≡ length l → FitsByte k → FitsByte l → (packed k ≡ packed l → k ≡ l) × (k ≡ l → packed k ≡ packed l)
  -- of eight such levels the word has 64 bits
  pub small : (k : List ℕ) → length k ≡ 8 → FitsByte k → packed k < 2 ^ 64
  -- the test says whether they fit, of one level list and of a run of records
  pub tested : (k : List ℕ) → (fits_byte k ≡ true → FitsByte k) × (FitsByte k → fits_byte k ≡ true)
  pub all_tested : (rs : List IndexRecord) → (all_fit_byte rs ≡ true → AllFitByte rs) × (AllFitByte rs → all_fit_byte rs ≡ true)
  -- a byte for each: that of an axis is its level, axis 1 lowest
  pub byte : (k : List ℕ) (a : ℕ) → FitsByte k → a < length k → packed k / 256 ^ a % 256 ≡ level k a

-- ---- the carried error

-- Callers use these, and not the text of `carried_of`, but for cases that are proved by computation. What one entry e has of it is
-- `carried_of d (e ∷ [])`.
pub record CarriedFacts : Type 0 where
  -- its indicator if it is old and at a ceiling, else nothing
  pub own : (d : ℕ) (e : Entry) → e.state ≡ 2 → at_ceiling d e.levels ≡ true → carried_of d (e ∷ []) ≡ e.indicator
  pub not_old : (d : ℕ) (e : Entry) → (e.state ≡ 2 → ⊥) → carried_of d (e ∷ []) ≡ 0
  pub not_at_ceiling : (d : ℕ) (e : Entry) → at_ceiling d e.levels ≡ false → carried_of d (e ∷ []) ≡ 0
  -- two lists have as much together as apart
  pub append : (d : ℕ) (es fs : List Entry) → carried_of d (es ++ fs) ≡ carried_of d es + carried_of d fs
  -- where an entry is replaced, what the one had goes and what the other has comes
  pub replaced : (d : ℕ) (es : List Entry) (p : ℕ) (e f : Entry) → p < length es
      → carried_of d (set es p e) + carried_of d (get_or es p f ∷ []) ≡ carried_of d es + carried_of d (e ∷ [])
  -- readings have no part in it
  pub alike : (d : ℕ) (e f : Entry) → e.levels ≡ f.levels → e.state ≡ f.state → e.indicator ≡ f.indicator → carried_of d (e ∷ []) ≡ carried_of d (f ∷ [])
  -- each entry has part in at most one of the two errors, so of 512 32-bit indicators they come together to less than 2^41
  pub together : (d : ℕ) (es : List Entry) (f : Entry) → length es ≤ 512 → ((p : ℕ) → p < length es → (get_or es p f).indicator < 2 ^ 32)
      → pending_of es + carried_of d es < 2 ^ 41

-- An entry without readings.
abbrev pub bare : (levels : List ℕ) → (state indicator : ℕ) → Entry
bare k s i = record { levels = k; state = s; indicator = i; readings = [] }

pub record CarriedCases : Type 0 where
  -- two axes: (8,6) is at both ceilings and counts once, (8,5) at the ceiling of levels, (7,7) at that of the excess; (7,6) at neither; (8,4) is active
  pub row : carried_of 2 (bare (pair 8 6) 2 5 ∷ bare (pair 8 5) 2 3 ∷ bare (pair 7 7) 2 2 ∷ bare (pair 7 6) 2 9 ∷ bare (pair 8 4) 1 7 ∷ []) ≡ 10
