-- The rules of one axis as the scope document first words them, by position and over a function f of positions, and the
-- source's trapezoidal rule. The value of a rule is in the unit of its level, that of `trapezoidal` in units of 1/128.
use Rattle.std.specs.Prelude.{Bool, false, cond, List, [], ◌∷◌, ℕ, zero, suc, ◌-◌, ◌%◌, ◌^◌, leb, eqb, ℤ, pos, ◌+ℤ◌, ◌-ℤ◌, ◌*ℤ◌}
use Rattle.sums.specs.Sums.{sum_of}
use Rattle.rule.specs.Points.{points}

-- The unit of level k is 2^−(unit k): a whole one at level 1, 2^−k from 2 up.
unfoldable pub unit : ℕ → ℕ
unit zero = 0
unit (suc zero) = 0
unit (suc (suc k)) = suc (suc k)

-- Whether a position is a point of a level: 64 at level 1, a multiple of 2^(8−k) up to 128 from 2 up.
unfoldable pub is_point : ℕ → ℕ → Bool
is_point zero p = false
is_point (suc zero) p = eqb p 64
is_point (suc (suc k)) p = cond (leb p 128) (eqb (p % 2 ^ (8 - suc (suc k))) 0) false

-- The weight of a point at position p. Level 1: a whole one. From 2 up, in units of 2^−k: both ends 1, every other point 2.
unfoldable pub point_weight : ℕ → ℕ → ℤ
point_weight zero p = pos 0
point_weight (suc zero) p = pos 1
point_weight (suc (suc k)) p = cond (eqb p 0) (pos 1) (cond (eqb p 128) (pos 1) (pos 2))

-- The weight of a position in the whole rule of level k: 0 where it is no point of the level.
unfoldable pub whole_at : ℕ → ℕ → ℤ
whole_at k p = cond (is_point k p) (point_weight k p) (pos 0)

-- The whole rule of level k.
unfoldable pub whole_rule : ℕ → (ℕ → ℤ) → ℤ
whole_rule k f = sum_of (points k) (λ p. whole_at k p *ℤ f p)

-- One unit of level k − 1 in units of level k.
unfoldable pub unit_step : ℕ → ℤ
unit_step k = pos (2 ^ (unit k - unit (k - 1)))

-- The difference rule of level k is the rule of k minus that of k − 1; level 1 is its own difference, level 0 having no
-- point: at a position, and over a function.
unfoldable pub difference_at : ℕ → ℕ → ℤ
difference_at k p = whole_at k p -ℤ unit_step k *ℤ whole_at (k - 1) p

unfoldable pub difference_rule : ℕ → (ℕ → ℤ) → ℤ
difference_rule k f = whole_rule k f -ℤ unit_step k *ℤ whole_rule (k - 1) f

-- The trapezoidal rule over a rising list of points, times 128: between neighbours p and q the interval is (q − p)/64 long
-- and the mean of the two values is (f p + f q)/2.
unfoldable pub trapezoidal : List ℕ → (ℕ → ℤ) → ℤ
trapezoidal [] f = pos 0
trapezoidal (p ∷ []) f = pos 0
trapezoidal (p ∷ q ∷ ps) f = pos (q - p) *ℤ (f p +ℤ f q) +ℤ trapezoidal (q ∷ ps) f
