-- Terms that the statements of Facts use besides the scope document's.
use Rattle.std.specs.Prelude.{◌≡◌, ◌≢◌, ◌⊎◌, Bool, true, false, ℕ, suc, ◌-◌, ◌<◌, ◌≤◌, ℤ, pos, nat_abs, ◌*ℤ◌, length, get_or, replicate}
use mathlib.Core.List.{List, [], ◌∷◌, ◌++◌, Memᴰ}
use Rattle.sums.specs.Sums.{sum_to}
use Rattle.rule.specs.Points.{new_at, rank_of}
use Rattle.rule.specs.Weights.{whole_weight}
use Rattle.grid.specs.Index.{level, Within, backward, NowhereHigher}
use Rattle.grid.specs.Block.{block_size, point_of}
use Rattle.grid.specs.Difference.{Readings}

-- No element twice.
abbrev pub NoDup : List (List ℕ) → Type 0
NoDup [] = Unit {0}
NoDup (x ∷ xs) = (Memᴰ x xs → ⊥) × NoDup xs

-- Two positions are one step apart among the new points of a level: both are new there, and their numbers are one apart.
pub record NextNew (k x y : ℕ) : Type 0 where
  pub first : new_at k x ≡ true
  pub second : new_at k y ≡ true
  pub apart : (rank_of y ≡ suc (rank_of x)) ⊎ (rank_of x ≡ suc (rank_of y))

-- Two points differ on one axis only, and there by one step among the new points of that axis's level.
pub record OneStep (k p q : List ℕ) : Type 0 where
  pub axis : ℕ
  pub inside : axis < length k
  pub step : NextNew (level k axis) (get_or p axis 0) (get_or q axis 0)
  pub others : (b : ℕ) → b ≢ axis → get_or p b 0 ≡ get_or q b 0

-- A *reading* is a signed whole number from −1,048,576 to 1,048,576.
abbrev pub IsReading : ℤ → Type 0
IsReading x = nat_abs x ≤ 1048576

-- All readings of the blocks nowhere higher are in range.
abbrev pub InRange : List ℕ → Readings → Type 0
InRange k R = (l : List ℕ) (n : ℕ) → NowhereHigher l k → n < block_size l → IsReading (R l n)

-- Two lots of readings agree on the blocks nowhere higher.
abbrev pub Agree : List ℕ → Readings → Readings → Type 0
Agree k R Q = (l : List ℕ) (n : ℕ) → NowhereHigher l k → n < block_size l → R l n ≡ Q l n

-- All readings of a block.
unfoldable pub block_sum : Readings → List ℕ → ℤ
block_sum R l = sum_to (block_size l) (λ n. R l n)

-- The product of the axes' whole weights.
unfoldable pub whole_product : List ℕ → List ℕ → ℤ
whole_product [] [] = pos 1
whole_product [] (l ∷ ls) = pos 0
whole_product (k ∷ ks) [] = pos 0
whole_product (k ∷ ks) (l ∷ ls) = whole_weight k l *ℤ whole_product ks ls

-- The index lowered by one on a subset.
unfoldable pub lowered_on : List ℕ → List Bool → List ℕ
lowered_on [] S = []
lowered_on (k ∷ ks) [] = k ∷ ks
lowered_on (k ∷ ks) (false ∷ S) = k ∷ lowered_on ks S
lowered_on (k ∷ ks) (true ∷ S) = (k - 1) ∷ lowered_on ks S

-- One rule along each axis, the later axes inside, applied to a function on positions.
unfoldable pub tensor_product : (ℕ → (ℕ → ℤ) → ℤ) → List ℕ → (List ℕ → ℤ) → ℤ
tensor_product Q [] f = f []
tensor_product Q (k ∷ ks) f = Q k (λ p. tensor_product Q ks (λ ps. f (p ∷ ps)))

-- Readings that are taken from a function on positions: the n-th is taken at the n-th point of the walk.
unfoldable pub sampled : (List ℕ → ℤ) → Readings
sampled f = λ l n. f (point_of l n)

-- An index, and readings, with m more axes at level 1 behind.
unfoldable pub pad : ℕ → List ℕ → List ℕ
pad m k = k ++ replicate m 1

unfoldable pub padded : ℕ → Readings → Readings
padded m R = λ l n. R (pad m l) n

-- A function on positions, with m more axes behind that stand at the centre.
unfoldable pub centred : ℕ → (List ℕ → ℤ) → List ℕ → ℤ
centred m f = λ ps. f (ps ++ replicate m 64)

-- A finite set of indices within the ceilings, none twice, downward closed.
pub record DownSet (J : List (List ℕ)) : Type 0 where
  pub eight : (k : List ℕ) → Memᴰ k J → length k ≡ 8
  pub ceilings : (k : List ℕ) → Memᴰ k J → Within k
  pub once : NoDup J
  pub closed : (k : List ℕ) (a : ℕ) → Memᴰ k J → a < 8 → 1 < level k a → Memᴰ (backward k a) J
