-- What no call writes: a record past the last then held, the cells past the last record, and a store element outside the block being
-- delivered. Over lent cells and over lent record structs, whatever they hold.
use Rattle.std.specs.Prelude.{◌≡◌, List, [], ◌∷◌, ℕ, ◌^◌, ◌<◌, ℤ, pos, length, get_or}
use mir.Val.{Val}
use denote.Laws.{Is}
use Rattle.area.specs.declared.IndexRecord.{IndexRecord}
use Rattle.area.specs.declared.JobRecord.{JobRecord}
use Rattle.area.specs.Encoding.{area_of}
use Rattle.area.specs.contracts.IndexRecord as typed
use Rattle.quadrature.specs.Readings.{record_at}
use Rattle.encoding.specs.Encodes.{WellFormed}
use Rattle.calls.specs.Table.{Call}
use Rattle.calls.specs.Calls.{call_on}
use Rattle.calls.specs.Facts.{PastUnchanged, InBlock}
use Rattle.records.specs.Lent.{area_on}

-- A value of the struct's type, as the language has it in memory, has eight levels and sixteen links. The type, `the_row`, is generated from the
-- struct's declaration; it stands in the proofs of the crate that declares the struct, and `specs.declared` has the record of its values alone.
abbrev pub RecordTyped : Type 0
RecordTyped = (r : IndexRecord) (v : Val) → Is typed.the_row r (v ∷ []) → (length r.levels ≡ 8) × (length r.links ≡ 16)

-- Numbers of 32 bits.
abbrev pub AllWords : List ℕ → Type 0
AllWords [] = Unit {0}
AllWords (n ∷ ns) = (n < 2 ^ 32) × AllWords ns

-- Every record of a list is a value of the struct's type, as in a run that a caller lends.
abbrev pub TypedRun : List IndexRecord → Type 0
TypedRun rs = (p : ℕ) → p < length rs → (v : Val) × Is typed.the_row (record_at rs p) (v ∷ [])

pub record Unwritten : Type 0 where
  -- over lent cells
  pub cells_past : (j : JobRecord) (cells : List ℕ) (s : List ℤ) (c : Call) → PastUnchanged (area_of j cells s) (call_on (area_of j cells s) c).area
  pub cells_store : (j : JobRecord) (cells : List ℕ) (s : List ℤ) (c : Call) (n : ℕ) → (InBlock (area_of j cells s) c n → ⊥)
      → get_or (call_on (area_of j cells s) c).area.store n (pos 0) ≡ get_or s n (pos 0)
  -- over lent records
  pub records_past : (j : JobRecord) (rs : List IndexRecord) (s : List ℤ) (c : Call) → PastUnchanged (area_on j rs s) (call_on (area_on j rs s) c).area
  pub records_store : (j : JobRecord) (rs : List IndexRecord) (s : List ℤ) (c : Call) (n : ℕ) → WellFormed rs → (InBlock (area_on j rs s) c n → ⊥)
      → get_or (call_on (area_on j rs s) c).area.store n (pos 0) ≡ get_or s n (pos 0)
  -- whose records are well-formed: each value of the struct's type is, and so every run of them, so that `WellFormed` asks nothing of a caller
  pub typed_records : RecordTyped
  pub typed_run : (rs : List IndexRecord) → TypedRun rs → WellFormed rs
  -- each indicator in such a run is a 32-bit number
  pub typed_indicators : (rs : List IndexRecord) → TypedRun rs → (p : ℕ) → p < length rs → (record_at rs p).indicator < 2 ^ 32
  -- and the type asks no more than this: eight levels, sixteen links, all of 32 bits
  pub typed_value : (r : IndexRecord) → length r.levels ≡ 8 → length r.links ≡ 16
      → AllWords r.levels → r.state < 2 ^ 32 → r.indicator < 2 ^ 32 → r.first < 2 ^ 32 → AllWords r.links → (v : Val) × Is typed.the_row r (v ∷ [])
