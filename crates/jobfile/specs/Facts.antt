-- What is said of a file of the right form besides its form: its fields and its readings lie within it, and there are so many at most. Then
-- the number and the byte of every other file, and how much of a file decides its form. `c` is the list of the file's bytes.
use Rattle.std.specs.Prelude.{◌≡◌, List, ℕ, ◌+◌, ◌*◌, ◌<◌, ◌≤◌, length, take}
use Rattle.jobfile.specs.Bytes.{four}
use Rattle.jobfile.specs.Form.{Fault, formed, broken, entry_count, entry_byte, readings_byte, form_of}
use Rattle.jobfile.specs.File.{total_before}
use Rattle.jobfile.specs.Fields.{NamedByte, PartAtFault}

pub record FormedFile (c : List ℕ) : Type 0 where
  pub header_inside : 24 ≤ length c
  pub entries_at_most : entry_count c ≤ 512
  -- the table starts at 24
  pub table_at : four c 20 ≡ 24
  pub entry_inside : (i : ℕ) → i < entry_count c → entry_byte i + 12 ≤ length c
  pub readings_at_least : (i : ℕ) → i < entry_count c → 1 ≤ four c (entry_byte i + 4)
  pub readings_at_most : (i : ℕ) → i < entry_count c → four c (entry_byte i + 4) ≤ 8192
  -- the readings of an entry follow those of the entries before it
  pub readings_from : (i : ℕ) → i < entry_count c → four c (entry_byte i + 8) ≡ readings_byte c + 4 * total_before c i
  pub readings_inside : (i : ℕ) → i < entry_count c → four c (entry_byte i + 8) + 4 * four c (entry_byte i + 4) ≤ length c
  pub total_at_most : total_before c (entry_count c) ≤ 8192
  -- the file ends with the last reading
  pub size : length c ≡ readings_byte c + 4 * total_before c (entry_count c)
  pub size_at_most : length c ≤ 38936

-- The byte named tells the part, and so the number of the cause.
pub record NumberByByte (c : List ℕ) (f : Fault) : Type 0 where
  -- a byte of the 24-byte header
  pub header : f.byte < 24 → f.number ≡ 10
  -- of the entry table, 12 bytes for each entry that the header counts
  pub table : 24 ≤ f.byte → f.byte < 24 + 12 * entry_count c → f.number ≡ 12
  -- and from there on of the readings, or after them
  pub readings : 24 + 12 * entry_count c ≤ f.byte → f.number ≡ 13

pub record FormFacts : Type 0 where
  -- a file that is broken is refused by the number of the part at fault; the byte named tells it
  pub by_part : (c : List ℕ) (f : Fault) → form_of c ≡ broken f → PartAtFault c f.number f.byte
  pub by_byte : (c : List ℕ) (f : Fault) → form_of c ≡ broken f → NumberByByte c f
  -- that byte is the first of the field that breaks a rule, the file's length where it ends early, or the first byte too many; one of these
  -- there is only where the file is broken, and then it is one byte
  pub named_byte : (c : List ℕ) (f : Fault) → form_of c ≡ broken f → NamedByte c f.byte
  pub named_back : (c : List ℕ) (b : ℕ) → NamedByte c b → (f : Fault) × (form_of c ≡ broken f) × (f.byte ≡ b)
  pub one_byte : (c : List ℕ) (a b : ℕ) → NamedByte c a → NamedByte c b → a ≡ b
  pub formed_file : (c : List ℕ) → form_of c ≡ formed → FormedFile c
  -- and only such a file has the right form: so the order of the tests decides nothing but the byte named, and with it the number
  pub formed_back : (c : List ℕ) → FormedFile c → form_of c ≡ formed
  -- the first 38,937 bytes decide the form of every file, a fault's number and byte included, one more than the longest file of the right form
  -- has: no need to read further
  pub decided : (c : List ℕ) → 38937 ≤ length c → form_of (take 38937 c) ≡ form_of c
  -- and a file that has so many is broken, with a fault to name
  pub too_long : (c : List ℕ) → 38937 ≤ length c → (f : Fault) × (form_of c ≡ broken f)
