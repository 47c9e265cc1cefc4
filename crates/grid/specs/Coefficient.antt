-- The combination coefficient ("Blocks and differences").
use Rattle.std.specs.Prelude.{Bool, true, false, cond, ◌&&◌, List, [], ◌∷◌, ◌++◌, map, ℕ, zero, suc, ◌/◌, ◌%◌, eqb, ℤ, pos, neg_ℤ, length}
use Rattle.sums.specs.Sums.{sum_of}

-- Whether two level lists are the same, and whether one stands in a list of them.
unfoldable pub same_levels : List ℕ → List ℕ → Bool
same_levels [] [] = true
same_levels [] (y ∷ ys) = false
same_levels (x ∷ xs) [] = false
same_levels (x ∷ xs) (y ∷ ys) = eqb x y && same_levels xs ys

unfoldable pub is_in : List (List ℕ) → List ℕ → Bool
is_in [] k = false
is_in (j ∷ J) k = cond (same_levels j k) true (is_in J k)

-- Every subset of d axes, as a list of d marks.
unfoldable pub subsets : ℕ → List (List Bool)
subsets zero = [] ∷ []
subsets (suc d) = map (λ (S : List Bool). false ∷ S) (subsets d) ++ map (λ (S : List Bool). true ∷ S) (subsets d)

-- +1 for an even and −1 for an odd subset.
unfoldable pub sign : List Bool → ℤ
sign [] = pos 1
sign (false ∷ S) = sign S
sign (true ∷ S) = neg_ℤ (sign S)

-- The index raised by one on a subset.
unfoldable pub raised_on : List ℕ → List Bool → List ℕ
raised_on [] S = []
raised_on (k ∷ ks) [] = k ∷ ks
raised_on (k ∷ ks) (false ∷ S) = k ∷ raised_on ks S
raised_on (k ∷ ks) (true ∷ S) = suc k ∷ raised_on ks S

-- The *combination coefficient* of an index: over every subset of the axes, +1 for an even and −1 for an odd subset when the
-- index raised by one on that subset is delivered. J lists the delivered indices. Here the subsets are of all eight axes: raised beyond
-- the job's axes no index is delivered, so those add nothing (`LevelOneFacts.coefficient-same`).
unfoldable pub coefficient : List (List ℕ) → List ℕ → ℤ
coefficient J k = sum_of (subsets (length k)) (λ S. cond (is_in J (raised_on k S)) (sign S) (pos 0))

-- A subset as a mask: bit a of m marks axis a + 1.
unfoldable pub marks : ℕ → ℕ → List Bool
marks zero m = []
marks (suc d) m = eqb (m % 2) 1 ∷ marks d (m / 2)
