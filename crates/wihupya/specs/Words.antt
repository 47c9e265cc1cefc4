-- The job record as twelve 32-bit words: threshold, pending error and scaled mean with their low word first, then axes, budget, held
-- and reserved, then the carried error with its low word first. On a little-endian machine that is a C struct of three 64-bit, four 32-bit
-- and again a 64-bit number. Every twelve words are a job record: nothing is narrowed. The bytes in which the reference writes an area have
-- another order.
use Rattle.std.specs.Prelude.{List, [], ◌∷◌, ℕ, ◌+◌, ◌*◌, ◌/◌, ◌%◌, ◌^◌, get_or}
use Rattle.std.specs.Int.{w64}
use Rattle.std.proofs.Common.{to_z, of_z}
use Rattle.area.specs.declared.JobRecord.{JobRecord}

abbrev pub word : List ℕ → ℕ → ℕ
word w i = get_or w i 0

-- Two words as a 64-bit number.
abbrev pub wide : List ℕ → ℕ → ℕ
wide w i = word w i + word w (i + 1) * 2 ^ 32

-- The scaled mean is signed, in two's complement.
unfoldable pub job_of : List ℕ → JobRecord
job_of w =
    record {
      settings = record { axes = word w 6; threshold = wide w 0; budget = word w 7 };
      held = word w 8;
      reserved = word w 9;
      pending = wide w 2;
      carried = wide w 10;
      mean = to_z w64 (wide w 4);
    }

-- The words of a job record.
unfoldable pub low_word : ℕ → ℕ
low_word x = x % 2 ^ 32

unfoldable pub high_word : ℕ → ℕ
high_word x = x / 2 ^ 32

unfoldable pub words_of : JobRecord → List ℕ
words_of j =
    low_word j.settings.threshold
    ∷ high_word j.settings.threshold
    ∷ low_word j.pending
    ∷ high_word j.pending
    ∷ low_word (of_z w64 j.mean)
    ∷ high_word (of_z w64 j.mean)
    ∷ j.settings.axes
    ∷ j.settings.budget
    ∷ j.held
    ∷ j.reserved
    ∷ low_word j.carried
    ∷ high_word j.carried
    ∷ []
