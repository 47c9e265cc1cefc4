-- The points along one axis, in the scope document's words ("The rule along one axis").
-- A *position* is 0 to 128; it stands for position/64 − 1 on the source's interval from −1 to 1.
use Rattle.std.specs.Prelude.{Bool, true, false, cond, List, [], ◌∷◌, ℕ, zero, suc, ◌+◌, ◌*◌, ◌-◌, ◌/◌, ◌%◌, ◌^◌, leb, eqb}
use Rattle.sums.specs.Lists.{tabulate}

-- The points of a level, positions rising. Level 1 has one point, 64. Level k from 2 up has the 2^(k−1) + 1 points that
-- are multiples of 2^(8−k).
unfoldable pub points : ℕ → List ℕ
points zero = []
points (suc zero) = 64 ∷ []
points (suc (suc k)) = tabulate (2 ^ suc k + 1) (λ i. i * 2 ^ (8 - suc (suc k)))

-- The points *new* at a level, positions rising: at level 1, 64; at level 2, 0 and 128; at level k from 3 up, the odd
-- multiples of 2^(8−k), which are 2^(k−2) points.
unfoldable pub new_points : ℕ → List ℕ
new_points zero = []
new_points (suc zero) = 64 ∷ []
new_points (suc (suc zero)) = 0 ∷ 128 ∷ []
new_points (suc (suc (suc k))) = tabulate (2 ^ suc k) (λ n. (2 * n + 1) * 2 ^ (8 - suc (suc (suc k))))

-- How many points are new at a level.
unfoldable pub new_count : ℕ → ℕ
new_count zero = 0
new_count (suc zero) = 1
new_count (suc (suc zero)) = 2
new_count (suc (suc (suc k))) = 2 ^ suc k

-- The n-th new point of a level, from 0.
unfoldable pub new_point : ℕ → ℕ → ℕ
new_point zero n = 0
new_point (suc zero) n = 64
new_point (suc (suc zero)) n = 128 * n
new_point (suc (suc (suc k))) n = (2 * n + 1) * 2 ^ (8 - suc (suc (suc k)))

-- Whether a position is new at a level, in the same words.
unfoldable pub new_at : ℕ → ℕ → Bool
new_at zero p = false
new_at (suc zero) p = eqb p 64
new_at (suc (suc zero)) p = cond (eqb p 0) true (eqb p 128)
new_at (suc (suc (suc k))) p =
    cond (leb p 128)
    (cond (eqb (p % 2 ^ (8 - suc (suc (suc k)))) 0) (eqb (p / 2 ^ (8 - suc (suc (suc k))) % 2) 1) false)
    false

-- The first of n levels from k on at which a position is new, else k + n.
unfoldable pub level_from : ℕ → ℕ → ℕ → ℕ
level_from zero k p = k
level_from (suc n) k p = cond (new_at k p) k (level_from n (suc k) p)

-- The level at which a position is new.
unfoldable pub level_of : ℕ → ℕ
unfolding level_from
level_of p = level_from 8 1 p

-- The number of a position among the new points of its level, from 0. From level 3 up the n-th is (2n + 1) · 2^(8−k), so
-- dividing by 2^(9−k) gives n.
unfoldable pub rank_of : ℕ → ℕ
rank_of p = cond (leb (level_of p) 2) (p / 128) (p / 2 ^ (9 - level_of p))

-- How often a position stands in a list.
unfoldable pub occurrences : ℕ → List ℕ → ℕ
occurrences p [] = 0
occurrences p (q ∷ qs) = cond (eqb p q) (suc (occurrences p qs)) (occurrences p qs)
