-- What is proved of one axis, a field for each fact; proofs/Facts.antt has a value of each record.
use Rattle.std.specs.Prelude.{◌≡◌, cond, ℕ, suc, ◌*◌, ◌-◌, ◌^◌, ◌≤◌, ◌<◌, leb, eqb, ℤ, pos, nat_abs, ◌-ℤ◌, ◌*ℤ◌, length, get_or}
use Rattle.sums.specs.Sums.{sum_to, sum_of, nat_sum_to}
use Rattle.rule.specs.Points.{points, new_points, new_count, new_point, new_at, level_of, rank_of, occurrences}
use Rattle.rule.specs.Rules.{unit, is_point, whole_at, whole_rule, difference_at, difference_rule, trapezoidal}
use Rattle.rule.specs.Weights.{whole_weight, difference_weight}

-- About points, for the levels 1 to 8.
pub record PointFacts : Type 0 where
  -- the points as a list and as a test
  pub is_point_lem : (k p : ℕ) → 1 ≤ k → k ≤ 8 → occurrences p (points k) ≡ cond (is_point k p) 1 0
  -- the new points by number
  pub new_count_lem : (k : ℕ) → length (new_points k) ≡ new_count k
  pub new_point_lem : (k n : ℕ) → n < new_count k → get_or (new_points k) n 0 ≡ new_point k n
  pub in_range_lem : (k n : ℕ) → 1 ≤ k → k ≤ 8 → n < new_count k → new_point k n ≤ 128
  pub rising : (k n m : ℕ) → 1 ≤ k → k ≤ 8 → n < m → m < new_count k → new_point k n < new_point k m
  -- every position is new at one level, at one place, and back
  pub level_is : (k n : ℕ) → 1 ≤ k → k ≤ 8 → n < new_count k → level_of (new_point k n) ≡ k
  pub rank_is : (k n : ℕ) → 1 ≤ k → k ≤ 8 → n < new_count k → rank_of (new_point k n) ≡ n
  pub level_low : (p : ℕ) → p ≤ 128 → 1 ≤ level_of p
  pub level_high : (p : ℕ) → p ≤ 128 → level_of p ≤ 8
  pub rank_below : (p : ℕ) → p ≤ 128 → rank_of p < new_count (level_of p)
  pub point_is : (p : ℕ) → p ≤ 128 → new_point (level_of p) (rank_of p) ≡ p
  pub new_at_lem : (k p : ℕ) → 1 ≤ k → k ≤ 8 → new_at k p ≡ eqb (level_of p) k
  -- the points of a level are exactly the new points of all levels up to it, each once
  pub each_once : (k p : ℕ) → 1 ≤ k → k ≤ 8 → occurrences p (points k) ≡ cond (leb (level_of p) k) 1 0
  -- the same as sums: over a level's points, level by level
  pub by_levels : (k : ℕ) → 1 ≤ k → k ≤ 8 → (f : ℕ → ℤ)
      → sum_of (points k) f ≡ sum_to k (λ i. sum_to (new_count (suc i)) (λ n. f (new_point (suc i) n)))

-- About weights, by the level l at which a point is new, for every level k.
pub record WeightFacts : Type 0 where
  -- the rule of k minus that of k − 1, whose unit is 2^(u(k) − u(k−1)) of k's
  pub difference_is : (k l : ℕ)
      → difference_weight (suc k) l ≡ whole_weight (suc k) l -ℤ pos (2 ^ (unit (suc k) - unit k)) *ℤ whole_weight k l
  -- beyond its level a rule has no weight
  pub whole_beyond : (k l : ℕ) → k < l → whole_weight k l ≡ pos 0
  pub difference_beyond : (k l : ℕ) → k < l → difference_weight k l ≡ pos 0
  -- over all points the weights of the whole rule come to one
  pub whole_sum : (k : ℕ)
      → sum_to (suc k) (λ i. pos (new_count (suc i)) *ℤ whole_weight (suc k) (suc i)) ≡ pos (2 ^ unit (suc k))
  -- those of the difference rule, from level 2 up, come to zero
  pub difference_sum_lem : (k : ℕ)
      → sum_to (suc (suc k)) (λ i. pos (new_count (suc i)) *ℤ difference_weight (suc (suc k)) (suc i)) ≡ pos 0
  -- the sizes of the weights come to one, in either rule
  pub whole_size : (k : ℕ)
      → nat_sum_to (suc k) (λ i. new_count (suc i) * nat_abs (whole_weight (suc k) (suc i))) ≡ 2 ^ unit (suc k)
  pub difference_size : (k : ℕ)
      → nat_sum_to (suc k) (λ i. new_count (suc i) * nat_abs (difference_weight (suc k) (suc i))) ≡ 2 ^ unit (suc k)

-- The weights by position are the weights by level, so they depend only on the level at which the point was new.
pub record RuleFacts : Type 0 where
  pub whole_at_lem : (k p : ℕ) → 1 ≤ k → k ≤ 8 → p ≤ 128 → whole_at k p ≡ whole_weight k (level_of p)
  pub difference_at_lem : (k p : ℕ) → 1 ≤ k → k ≤ 8 → p ≤ 128 → difference_at k p ≡ difference_weight k (level_of p)
  -- the rules over a function, level by level
  pub whole_rule_lem : (k : ℕ) → 1 ≤ k → k ≤ 8 → (f : ℕ → ℤ)
      → whole_rule k f ≡ sum_to k (λ i. whole_weight k (suc i) *ℤ sum_to (new_count (suc i)) (λ n. f (new_point (suc i) n)))
  pub difference_rule_lem : (k : ℕ) → 1 ≤ k → k ≤ 8 → (f : ℕ → ℤ)
      → difference_rule k f
      ≡ sum_to k (λ i. difference_weight k (suc i) *ℤ sum_to (new_count (suc i)) (λ n. f (new_point (suc i) n)))
  -- the tie to the source: level 1 is the value at the centre, and from 2 up the whole rule is the trapezoidal rule over the
  -- level's points divided by the interval's length: whole_rule / 2^k = (trapezoidal / 128) / 2
  pub centre : (f : ℕ → ℤ) → whole_rule 1 f ≡ f 64
  pub source : (k : ℕ) → 2 ≤ k → k ≤ 8 → (f : ℕ → ℤ)
      → pos 256 *ℤ whole_rule k f ≡ pos (2 ^ k) *ℤ trapezoidal (points k) f
