-- The fields of a job file ("Job file and report"), and the number and the byte that a malformed one is refused by, said without a test: what
-- each field is, where it begins, which rule it has, and which part it is of. `c` is the list of the file's bytes.
use Rattle.std.specs.Prelude.{◌≡◌, ◌⊎◌, List, ℕ, suc, ◌+◌, ◌*◌, ◌<◌, ◌≤◌, length}
use Rattle.jobfile.specs.Bytes.{four}
use Rattle.jobfile.specs.Form.{entry_count, entry_byte, readings_byte}
use Rattle.jobfile.specs.File.{total_before}

pub data Field : Type 0 where
  -- the header's
  axes : Field
  budget : Field
  threshold : Field
  entries : Field
  table_offset : Field
  -- those of entry i
  indicator : (i : ℕ) → Field
  count : (i : ℕ) → Field
  offset : (i : ℕ) → Field
  -- the readings, numbered through all entries
  reading : (n : ℕ) → Field

-- The threshold has 8 bytes, every other field 4.
abbrev pub width : Field → ℕ
width axes = 4
width budget = 4
width threshold = 8
width entries = 4
width table_offset = 4
width (indicator i) = 4
width (count i) = 4
width (offset i) = 4
width (reading n) = 4

-- Header, entries of 12 bytes from 24 on, readings without gaps.
abbrev pub first_byte : List ℕ → Field → ℕ
first_byte c axes = 0
first_byte c budget = 4
first_byte c threshold = 8
first_byte c entries = 16
first_byte c table_offset = 20
first_byte c (indicator i) = entry_byte i
first_byte c (count i) = entry_byte i + 4
first_byte c (offset i) = entry_byte i + 8
first_byte c (reading n) = readings_byte c + 4 * n

-- The readings that all entries count.
abbrev pub total : List ℕ → ℕ
total c = total_before c (entry_count c)

-- A file has the header, as many entries as the header says, and as many readings as these count.
abbrev pub HasField : List ℕ → Field → Type 0
HasField c axes = Unit {0}
HasField c budget = Unit {0}
HasField c threshold = Unit {0}
HasField c entries = Unit {0}
HasField c table_offset = Unit {0}
HasField c (indicator i) = i < entry_count c
HasField c (count i) = i < entry_count c
HasField c (offset i) = i < entry_count c
HasField c (reading n) = n < total c

-- At most 512 entries of 1 to 8,192 readings, 8,192 in all, which the count breaks that passes them; the table starts at 24; an entry's
-- readings follow those of the entries before it. Every other field may be any number.
abbrev pub Rule : List ℕ → Field → Type 0
Rule c axes = Unit {0}
Rule c budget = Unit {0}
Rule c threshold = Unit {0}
Rule c entries = entry_count c ≤ 512
Rule c table_offset = four c 20 ≡ 24
Rule c (indicator i) = Unit {0}
Rule c (count i) = (1 ≤ four c (entry_byte i + 4)) × (four c (entry_byte i + 4) ≤ 8192) × (total_before c (suc i) ≤ 8192)
Rule c (offset i) = four c (entry_byte i + 8) ≡ readings_byte c + 4 * total_before c i
Rule c (reading n) = Unit {0}

-- ---- the byte that is named

-- The field lies within the file and keeps its rule.
pub record Kept (c : List ℕ) (f : Field) : Type 0 where
  pub inside : first_byte c f + width f ≤ length c
  pub rule : Rule c f

-- In byte order: so do all fields that begin before a byte.
abbrev pub KeptBefore : List ℕ → ℕ → Type 0
KeptBefore c b = (f : Field) → HasField c f → first_byte c f < b → Kept c f

-- b is the first byte of the field that breaks a rule, the first that does,
pub record BreaksRule (c : List ℕ) (b : ℕ) : Type 0 where
  pub field : Field
  pub has : HasField c field
  pub before : KeptBefore c (first_byte c field)
  pub inside : first_byte c field + width field ≤ length c
  pub breaks : Rule c field → ⊥
  pub named : b ≡ first_byte c field

-- or the file's length where it ends early, within a field or before it,
pub record EndsEarly (c : List ℕ) (b : ℕ) : Type 0 where
  pub field : Field
  pub has : HasField c field
  pub before : KeptBefore c (first_byte c field)
  pub cut_off : length c < first_byte c field + width field
  pub named : b ≡ length c

-- or the first byte too many, right after the last reading.
pub record TooMany (c : List ℕ) (b : ℕ) : Type 0 where
  pub kept : (f : Field) → HasField c f → Kept c f
  pub more : b < length c
  pub named : b ≡ readings_byte c + 4 * total c

abbrev pub NamedByte : List ℕ → ℕ → Type 0
NamedByte c b = BreaksRule c b ⊎ EndsEarly c b ⊎ TooMany c b

-- ---- the number

-- By the part that a field is of: the 24-byte header 10, the entry table 12, the readings 13.
abbrev pub part_number : Field → ℕ
part_number axes = 10
part_number budget = 10
part_number threshold = 10
part_number entries = 10
part_number table_offset = 10
part_number (indicator i) = 12
part_number (count i) = 12
part_number (offset i) = 12
part_number (reading n) = 13

-- n is the number of the part at fault, b the byte named: the part of the field that breaks a rule, or of the field within or before which the
-- file ends; bytes after the last reading are a fault of the readings.
pub record PartAtFault (c : List ℕ) (n b : ℕ) : Type 0 where
  pub broken_rule : (x : BreaksRule c b) → n ≡ part_number x.field
  pub early_end : (x : EndsEarly c b) → n ≡ part_number x.field
  pub too_many : TooMany c b → n ≡ 13
