-- What the program's reading takes of an input whose bytes are known (`Some`); those of standard input are not (`None`).
use Rattle.std.specs.Prelude.{List, ℕ, ◌<◌, length, take, Option, Result, IfOk}
use Rattle.std.specs.Io.KnownBytes.{Consumes, IsAtEnd}

-- The input has the bytes `left`, and then `rest`: those at the front of the buffer were taken, and to the input's end where the buffer has room
-- left.
abbrev pub TakesBuffer : {E : Type 0} → (buffer : List ℕ) (left rest : Option (List ℕ)) → Result ℕ E → Type 0
TakesBuffer buffer left rest r = IfOk r (λ count. Consumes left rest (take count buffer) × (count < length buffer → IsAtEnd rest))
