-- The form of a job file ("Job file and report"), tested field by field in byte order. A field that is cut off names the file's length; a
-- field that breaks a rule names its first byte; the first byte too many names itself. `c` is the list of the file's bytes.
use Rattle.std.specs.Prelude.{Bool, true, cond, ◌&&◌, List, ℕ, zero, suc, ◌+◌, ◌*◌, leb, ltb, eqb, length, Result, Ok, Err}
use Rattle.jobfile.specs.declared.FormError.{FormError}
use Rattle.jobfile.specs.declared.FormError.TheVariants as errors
use Rattle.jobfile.specs.Bytes.{four}

-- What a malformed file is refused by: the number of the cause, which tells the part of the file at fault, and the byte named.
pub record Fault : Type 0 where
  pub number : ℕ
  pub byte : ℕ

pub data Form : Type 0 where
  formed : Form
  broken : Fault → Form

-- A rule broken at a byte of each part. Number 10 is kept for the 24-byte header, a file that ends within it included.
abbrev pub header : ℕ → Fault
header b = record { number = 10; byte = b }

-- A fault in the entry table, its early end included, gives 12.
abbrev pub entry : ℕ → Fault
entry b = record { number = 12; byte = b }

-- One in the readings gives 13: too few, or bytes after the last.
abbrev pub readings : ℕ → Fault
readings b = record { number = 13; byte = b }

-- A field of n bytes from a byte on, in a file of so many bytes: it must be there and keep its rule, and then the next is tested.
unfoldable pub field : (ℕ → Fault) → (size from n : ℕ) → Bool → Form → Form
field part size from n rule next = cond (ltb size (from + n)) (broken (part size)) (cond rule next (broken (part from)))

-- Header, 24 bytes: axes, budget (4 bytes each), threshold (8), entry count, entry table offset (4 each). At most 512 entries; the table
-- starts at 24.
unfoldable pub header_form : List ℕ → Form → Form
header_form c next =
    field header (length c) 0 4 true
    (field header (length c) 4 4 true
    (field header (length c) 8 8 true
    (field header (length c) 16 4 (leb (four c 16) 512) (field header (length c) 20 4 (eqb (four c 20) 24) next))))

abbrev pub entry_count : List ℕ → ℕ
entry_count c = four c 16

-- Where entry i lies, and where the readings begin: right after the table.
abbrev pub entry_byte : ℕ → ℕ
entry_byte i = 24 + 12 * i

abbrev pub readings_byte : List ℕ → ℕ
readings_byte c = entry_byte (entry_count c)

-- Entries of 12 bytes: indicator, reading count, offset of its first reading in bytes from the file's start. 1 to 8,192 readings, 8,192 in
-- all; readings follow the table without gaps in entry order. n entries from number i on, with `before` readings in those passed.
unfoldable pub table_form : List ℕ → (n i before : ℕ) → (ℕ → Form) → Form
table_form c zero i before next = next before
table_form c (suc n) i before next =
    field entry (length c) (entry_byte i) 4 true
    (field entry (length c) (entry_byte i + 4) 4
    (leb 1 (four c (entry_byte i + 4)) && leb (four c (entry_byte i + 4)) 8192 && leb (before + four c (entry_byte i + 4)) 8192)
    (field entry (length c) (entry_byte i + 8) 4 (eqb (four c (entry_byte i + 8)) (readings_byte c + 4 * before))
    (table_form c n (i + 1) (before + four c (entry_byte i + 4)) next)))

-- Readings of 4 bytes, and the file ends with them. n readings from a byte on. Where none are left, every field before `from` has been
-- found, so `size` is at least `from` by then: a size that differs means bytes too many, and `from` is the first of them.
unfoldable pub readings_form : (size n from : ℕ) → Form
readings_form size zero from = cond (eqb size from) formed (broken (readings from))
readings_form size (suc n) from = field readings size from 4 true (readings_form size n (from + 4))

-- The whole form.
unfoldable pub form_of : List ℕ → Form
form_of c = header_form c (table_form c (entry_count c) 0 0 (λ total. readings_form (length c) total (readings_byte c)))

-- The code's answer, case by case: the number of the part at fault, 10 for the header, 12 for the entry table and 13 for the readings, and
-- the byte that the case holds. A file of the right form has no number.
unfoldable pub form_in : Result (Unit {0}) FormError → Form
form_in (Ok _) = formed
form_in (Err (errors.Header b)) = broken (record { number = 10; byte = b })
form_in (Err (errors.Entry b)) = broken (record { number = 12; byte = b })
form_in (Err (errors.Readings b)) = broken (record { number = 13; byte = b })

-- The code's answer on the table, before what comes next: how many readings its entries count.
unfoldable pub table_in : Result ℕ FormError → (ℕ → Form) → Form
table_in (Ok total) next = next total
table_in (Err e) next = form_in (Err e)
