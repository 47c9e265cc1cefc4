-- Blocks and their points ("Blocks and differences"), walked in reflected order, which replaces that section's "positions rising": axis 1
-- rises, and each later axis rises or falls as the rank of the earlier axes' point in this walk, from 0, is even or odd. So the walk turns at
-- the end of a row and does not run back.
--
-- Block, point and rank are defined for the axes left, with r, the rank of the earlier axes' point in the walk of those axes alone. An axis
-- with c new points continues that point in c ways, one after the other, so that continued by the new point visited q-th, from 0, it has the
-- rank r · c + q. Axis 1 has no earlier axes: r is 0.
use Rattle.std.specs.Prelude.{Bool, true, false, cond, ◌&&◌, List, [], ◌∷◌, ◌++◌, map, reverse, ℕ, suc, ◌+◌, ◌*◌, ◌-◌, ◌/◌, ◌%◌, eqb}
use Rattle.rule.specs.Points.{new_points, new_count, new_point, new_at, rank_of}

-- The block's size: the product of the counts of new points.
unfoldable pub block_size : List ℕ → ℕ
block_size [] = 1
block_size (k ∷ ks) = new_count k * block_size ks

-- ---- the walk as a list

-- The positions of an axis in the order in which they are visited: rising if r is even, falling if r is odd.
unfoldable pub directed : ℕ → List ℕ → List ℕ
directed r xs = cond (eqb (r % 2) 0) xs (reverse xs)

-- The rows: each of the positions in front of a walk of the later axes. The first position makes a point of rank r, each next one of
-- the next rank.
unfoldable pub rows : (ℕ → List (List ℕ)) → ℕ → List ℕ → List (List ℕ)
rows walk r [] = []
rows walk r (x ∷ xs) = map (λ (p : List ℕ). x ∷ p) (walk r) ++ rows walk (suc r) xs

-- The walk of the axes left.
unfoldable pub block_after : ℕ → List ℕ → List (List ℕ)
block_after r [] = [] ∷ []
block_after r (k ∷ ks) = rows (λ s. block_after s ks) (r * new_count k) (directed r (new_points k))

-- The *block* of an index is the product of its axes' new points, axis 1 slowest and the last axis fastest, in reflected order.
-- A point is the list of its positions.
unfoldable pub block : List ℕ → List (List ℕ)
block k = block_after 0 k

-- ---- a point by its number

-- On an axis with c new points the one visited q-th is number q if r is even, and number c − 1 − q, counted from the other end, if r is
-- odd. It is its own inverse, so it also says as which, from 0, number q is visited.
unfoldable pub turned : ℕ → ℕ → ℕ → ℕ
turned r c q = cond (eqb (r % 2) 0) q (c - 1 - q)

-- The n-th point of the axes left, from 0. Before the point numbered n the later axes have been gone through n / (their size) times.
unfoldable pub point_after : ℕ → List ℕ → ℕ → List ℕ
point_after r [] n = []
point_after r (k ∷ ks) n =
    new_point k (turned r (new_count k) (n / block_size ks)) ∷ point_after (r * new_count k + n / block_size ks) ks (n % block_size ks)

-- The n-th point of the block, from 0.
unfoldable pub point_of : List ℕ → ℕ → List ℕ
point_of k n = point_after 0 k n

-- ---- the number of a point

-- The rank of the point that these positions make behind the earlier axes' point, from their numbers among the new points of their levels.
unfoldable pub rank_after : ℕ → List ℕ → List ℕ → ℕ
rank_after r [] ps = r
rank_after r (k ∷ ks) [] = r
rank_after r (k ∷ ks) (p ∷ ps) = rank_after (r * new_count k + turned r (new_count k) (rank_of p)) ks ps

-- The rank of a point in its block: its number, from 0.
unfoldable pub rank_in : List ℕ → List ℕ → ℕ
rank_in k p = rank_after 0 k p

-- Each position is new at its axis's level.
unfoldable pub new_on_each : List ℕ → List ℕ → Bool
new_on_each [] [] = true
new_on_each [] (p ∷ ps) = false
new_on_each (k ∷ ks) [] = false
new_on_each (k ∷ ks) (p ∷ ps) = new_at k p && new_on_each ks ps
