-- Many points of a block in one call: which are written, and how they lie in the buffer.
use Rattle.std.specs.Prelude.{List, [], ◌∷◌, ◌++◌, ℕ, ◌/◌, length, take, drop}
use Rattle.grid.specs.Block.{block}

-- The points of the block of k that are left from its n-th on, in the block's order, as many as have room in so many bytes at d bytes each.
unfoldable pub points_fitting : (d : ℕ) (k : List ℕ) (n room : ℕ) → List (List ℕ)
points_fitting d k n room = take (room / d) (drop n (block k))

-- The positions of points along the axes 1 to d, one point after the other.
unfoldable pub positions_of : ℕ → List (List ℕ) → List ℕ
positions_of d [] = []
positions_of d (p ∷ ps) = take d p ++ positions_of d ps

-- Bytes written from a buffer's start on; every later byte stays.
unfoldable pub written_over : List ℕ → List ℕ → List ℕ
written_over bytes buffer = bytes ++ drop (length bytes) buffer
