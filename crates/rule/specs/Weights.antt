-- The weights of the whole rule and of the difference rule, by the level k of the rule and the level l at which the point
-- was new; a weight of level k from 2 up is in units of 2^−k, at level 1 a whole one. A point that is not in the rule weighs 0.
use Rattle.std.specs.Prelude.{cond, ℕ, zero, suc, leb, eqb, ℤ, pos, negsuc}

-- Both ends, which are new at level 2, weigh 1 and every other point 2. No point is new at level 0.
unfoldable pub ends_one : ℕ → ℤ
ends_one zero = pos 0
ends_one (suc zero) = pos 2
ends_one (suc (suc zero)) = pos 1
ends_one (suc (suc (suc l))) = pos 2

-- The whole rule. Level 1: its one point has weight 1. From 2 up: both ends 1, every other point of the level 2.
unfoldable pub whole_weight : ℕ → ℕ → ℤ
whole_weight zero l = pos 0
whole_weight (suc zero) l = cond (eqb l 1) (pos 1) (pos 0)
whole_weight (suc (suc k)) l = cond (leb l (suc (suc k))) (ends_one l) (pos 0)

-- Ends −1, all others −2.
unfoldable pub ends_minus_one : ℕ → ℤ
ends_minus_one zero = pos 0
ends_minus_one (suc zero) = negsuc 1
ends_minus_one (suc (suc zero)) = negsuc 0
ends_minus_one (suc (suc (suc l))) = negsuc 1

-- The difference rule. Level 1 is its own difference. Level 2: ends +1, centre −2. From 3 up: points new at k +2, ends −1,
-- all others −2.
unfoldable pub difference_weight : ℕ → ℕ → ℤ
difference_weight zero l = pos 0
difference_weight (suc zero) l = cond (eqb l 1) (pos 1) (pos 0)
difference_weight (suc (suc zero)) l = cond (eqb l 2) (pos 1) (cond (eqb l 1) (negsuc 1) (pos 0))
difference_weight (suc (suc (suc k))) l =
    cond (eqb l (suc (suc (suc k)))) (pos 2) (cond (leb l (suc (suc (suc k)))) (ends_minus_one l) (pos 0))
