-- Numbers in a list of bytes, little-endian.
use Rattle.std.specs.Prelude.{List, ℕ, ◌+◌, ◌*◌, ◌^◌, ℤ, get_or}
use Rattle.std.specs.Int.{w32}
use Rattle.std.proofs.Common.{to_z}

abbrev pub byte : List ℕ → ℕ → ℕ
byte c i = get_or c i 0

-- Four bytes, from a byte on.
unfoldable pub four : List ℕ → ℕ → ℕ
four c i = byte c i + byte c (i + 1) * 2 ^ 8 + byte c (i + 2) * 2 ^ 16 + byte c (i + 3) * 2 ^ 24

-- Eight bytes.
unfoldable pub eight : List ℕ → ℕ → ℕ
eight c i = four c i + four c (i + 4) * 2 ^ 32

-- Four bytes in two's complement.
unfoldable pub signed_four : List ℕ → ℕ → ℤ
signed_four c i = to_z w32 (four c i)
