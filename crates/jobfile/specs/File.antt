-- What a file of the right form says. Entries and readings are read in place. `c` is the list of the file's bytes.
use Rattle.std.specs.Prelude.{List, [], ◌∷◌, ℕ, zero, suc, ◌+◌, ℤ}
use Rattle.jobfile.specs.Bytes.{four, eight, signed_four}
use Rattle.jobfile.specs.Form.{entry_byte}

-- n readings from a byte on.
unfoldable pub readings_at : List ℕ → (n from : ℕ) → List ℤ
readings_at c zero from = []
readings_at c (suc n) from = signed_four c from ∷ readings_at c n (from + 4)

pub record FileEntry : Type 0 where
  pub indicator : ℕ
  pub readings : List ℤ

-- Entry i: its indicator, and as many readings as it counts, from its offset on.
unfoldable pub entry_of : List ℕ → ℕ → FileEntry
entry_of c i = record { indicator = four c (entry_byte i); readings = readings_at c (four c (entry_byte i + 4)) (four c (entry_byte i + 8)) }

-- The header's numbers that a run starts from.
pub record JobFile : Type 0 where
  pub axes : ℕ
  pub budget : ℕ
  pub threshold : ℕ

unfoldable pub file_of : List ℕ → JobFile
file_of c = record { axes = four c 0; budget = four c 4; threshold = eight c 8 }

-- The readings counted by the entries before entry i.
unfoldable pub total_before : List ℕ → ℕ → ℕ
total_before c zero = 0
total_before c (suc i) = total_before c i + four c (entry_byte i + 4)
