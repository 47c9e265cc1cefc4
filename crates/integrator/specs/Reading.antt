-- What the program's reading leaves: where the bytes stand that came, and, of an input whose bytes are known (`Some`), which they are. Of
-- standard input they are not known (`None`): the system's `read` promises only how many bytes came.
use Rattle.std.specs.Prelude.{◌≡◌, List, ℕ, ◌+◌, ◌<◌, ◌≤◌, length, take, Option, Result, MatchResult, IfOk}
use Rattle.std.specs.Io.KnownBytes.{Keeps, Consumes, IsAtEnd}
use Rattle.std.proofs.Math.Seq.{paste}

-- One read: it failed and the file is as it was, or the bytes that came stand in it from `at` on, and no other byte has changed.
abbrev pub Read : {E : Type 0} → (at : ℕ) (chunk before after : List ℕ) → Result ℕ E → Type 0
Read at chunk before after r = MatchResult r (λ count. (at + count ≤ length before) × (after ≡ paste before at chunk count)) (λ _. after ≡ before)

-- One read of an input that has the bytes `left`, and then `rest`: it failed and took none, or it took those at the front of the chunk. None
-- come only at the input's end, or where there is no room.
abbrev pub TakesChunk : {E : Type 0} → (room : ℕ) (chunk : List ℕ) (left rest : Option (List ℕ)) → Result ℕ E → Type 0
TakesChunk room chunk left rest r = MatchResult r (λ count. Consumes left rest (take count chunk) × (count ≡ 0 → 0 < room → IsAtEnd rest)) (λ _. Keeps left rest)

-- One read or all: what came has room, in the chunk or in the file.
abbrev pub Fits : {E : Type 0} → (room : ℕ) → Result ℕ E → Type 0
Fits room r = IfOk r (λ count. count ≤ room)

-- All reads of an input that has the bytes `left`, and then `rest`: they took those at the front of the file, and to the input's end where the
-- file has room left.
abbrev pub TakesFile : {E : Type 0} → (file : List ℕ) (left rest : Option (List ℕ)) → Result ℕ E → Type 0
TakesFile file left rest r = IfOk r (λ count. Consumes left rest (take count file) × (count < length file → IsAtEnd rest))
