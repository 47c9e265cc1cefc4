-- The readings that index records and a reading store hold.
use Rattle.std.specs.Prelude.{List, ℕ, ◌+◌, ℤ, pos, get_or}
use Rattle.grid.specs.Difference.{Readings}
use Rattle.area.specs.declared.IndexRecord.{IndexRecord}
use Rattle.area.specs.Records.{blank, levels_of}
use Rattle.area.specs.Encoding.{place_of}

-- The record at a place.
abbrev pub record_at : List IndexRecord → ℕ → IndexRecord
record_at rs p = get_or rs p blank

-- The place of an index.
abbrev pub place_in : List IndexRecord → List ℕ → ℕ
place_in rs k = place_of (levels_of rs) k

-- The n-th reading of an index: the index is looked up, and the point's number is added to its first reading.
unfoldable pub stored_reading : List IndexRecord → List ℤ → Readings
stored_reading rs s k n = get_or s ((record_at rs (place_in rs k)).first + n) (pos 0)
