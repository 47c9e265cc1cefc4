-- Indices, ceilings and neighbours ("What the integrator covers", "Old, active and wanted").
-- An *index* is a list of levels, one for each axis; in storage it always has eight, and the axes beyond the job's stand at
-- level 1, whose rule is one point of weight 1. Axis 1 is at place 0 of the list.
use Rattle.std.specs.Prelude.{◌≡◌, Bool, true, false, cond, ◌&&◌, List, [], ◌∷◌, ◌++◌, map, ℕ, zero, suc, ◌+◌, ◌-◌, ◌<◌, ◌≤◌, leb, length, get_or, set, replicate}

-- The level along an axis.
abbrev pub level : List ℕ → ℕ → ℕ
level k a = get_or k a 0

-- The *excess* is the sum of (level − 1).
unfoldable pub excess : List ℕ → ℕ
excess [] = 0
excess (l ∷ ls) = (l - 1) + excess ls

-- The *ceilings*: each level is 1 to 8, and the excess at most 12.
pub record Within (k : List ℕ) : Type 0 where
  pub low : (a : ℕ) → a < length k → 1 ≤ level k a
  pub high : (a : ℕ) → a < length k → level k a ≤ 8
  pub small : excess k ≤ 12

-- Each level is 1 to 8, as a test.
unfoldable pub levels_within : List ℕ → Bool
levels_within [] = true
levels_within (l ∷ ls) = leb 1 l && leb l 8 && levels_within ls

-- The ceilings as a test.
unfoldable pub within : List ℕ → Bool
within k = levels_within k && leb (excess k) 12

-- An index of a job with d axes, as eight levels, within the ceilings.
pub record Index (d : ℕ) (k : List ℕ) : Type 0 where
  pub eight : length k ≡ 8
  pub ceilings : Within k
  pub beyond : (a : ℕ) → d ≤ a → a < 8 → level k a ≡ 1

-- The *root* has level 1 throughout.
unfoldable pub root : List ℕ
root = replicate 8 1

-- Raising one level gives a *forward neighbour*: the level list copied with one level changed.
unfoldable pub forward : List ℕ → ℕ → List ℕ
forward k a = set k a (level k a + 1)

-- Lowering one level above 1 by one gives a *backward neighbour*. Along an axis at level 1 there is none: the list then has a level 0,
-- which no index has.
unfoldable pub backward : List ℕ → ℕ → List ℕ
backward k a = set k a (level k a - 1)

-- Along how many axes below d the forward neighbour of k passes a ceiling.
unfoldable pub capped_axes : ℕ → List ℕ → ℕ
capped_axes zero k = 0
capped_axes (suc a) k = capped_axes a k + cond (within (forward k a)) 0 1

-- k is *at a ceiling*: along at least one axis below d its forward neighbour passes a ceiling.
unfoldable pub at_ceiling : ℕ → List ℕ → Bool
at_ceiling zero k = false
at_ceiling (suc a) k = cond (within (forward k a)) (at_ceiling a k) true

-- l is nowhere higher than k: as many levels, each from 1 to k's.
pub record NowhereHigher (l k : List ℕ) : Type 0 where
  pub axes : length l ≡ length k
  pub low : (a : ℕ) → a < length k → 1 ≤ level l a
  pub high : (a : ℕ) → a < length k → level l a ≤ level k a

-- Each of the lists with one of the levels 1 to n put in front.
unfoldable pub in_front : ℕ → List (List ℕ) → List (List ℕ)
in_front zero ls = []
in_front (suc n) ls = in_front n ls ++ map (λ (l : List ℕ). suc n ∷ l) ls

-- Every index that is nowhere higher than k, once.
unfoldable pub lower : List ℕ → List (List ℕ)
lower [] = [] ∷ []
lower (k ∷ ks) = in_front k (lower ks)
