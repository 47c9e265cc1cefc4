-- The largest difference of a list of indices (report of doubles): largest in size, given with its sign, the earliest of the list among equals.
use Rattle.std.specs.Prelude.{◌≡◌, cond, ℕ, ◌<◌, ◌≤◌, leb, ℤ, pos, nat_abs, length, get_or}
use mathlib.Core.List.{List, [], ◌∷◌, map, Memᴰ}
use Rattle.grid.specs.Difference.{Readings, scaled_difference}
use Rattle.grid.specs.Terms.{Agree, pad, padded}

-- Of two numbers the first if its size is at least the second's, else the second.
unfoldable pub larger : ℤ → ℤ → ℤ
larger x y = cond (leb (nat_abs y) (nat_abs x)) x y

-- The *largest difference*, times 2^20; 0 of no index.
unfoldable pub largest_difference : List (List ℕ) → Readings → ℤ
largest_difference [] R = pos 0
largest_difference (k ∷ ks) R = larger (scaled_difference k R) (largest_difference ks R)

-- It is the difference at this place of the list, and every one before is smaller in size.
pub record FirstLargest (J : List (List ℕ)) (R : Readings) : Type 0 where
  pub place : ℕ
  pub inside : place < length J
  pub has : scaled_difference (get_or J place []) R ≡ largest_difference J R
  pub before : (q : ℕ) → q < place → nat_abs (scaled_difference (get_or J q []) R) < nat_abs (largest_difference J R)

pub record LargestFacts : Type 0 where
  -- no index of the list has a difference larger in size
  pub no_larger : (J : List (List ℕ)) (R : Readings) (k : List ℕ) → Memᴰ k J → nat_abs (scaled_difference k R) ≤ nat_abs (largest_difference J R)
  -- one has it, and none before has one of that size
  pub first : (J : List (List ℕ)) (R : Readings) → 0 < length J → FirstLargest J R
  -- a bound on the size of each bounds it
  pub bounded : (J : List (List ℕ)) (R : Readings) (b : ℕ) → ((k : List ℕ) → Memᴰ k J → nat_abs (scaled_difference k R) ≤ b) → nat_abs (largest_difference J R) ≤ b
  -- only the readings of the blocks nowhere higher than an index of the list count
  pub only : (J : List (List ℕ)) (R Q : Readings) → ((k : List ℕ) → Memᴰ k J → Agree k R Q) → largest_difference J R ≡ largest_difference J Q
  -- axes at level 1 change nothing
  pub same : (J : List (List ℕ)) (m : ℕ) (R : Readings) → largest_difference (map (pad m) J) R ≡ largest_difference J (padded m R)
