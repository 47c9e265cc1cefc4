-- Facts about the eight levels and the 129 positions, each by one computed test over all of them.
-- Assumes nothing.
use mathlib.Core.Path.{◌≡◌, refl, sym, ap, subst, ◌∙◌}
use mathlib.Core.Logic.{⊎_elim}
use mathlib.Core.Bool.{Bool, true, false, cond}
use mathlib.Core.List.{List, [], ◌∷◌}
use Prim.Native.Nat.{ℕ, zero, suc, ◌+◌, ◌*◌, ◌-◌, ◌^◌, ◌<◌, ◌≤◌}
use native.Mathlib.Decide.{dec_lt}
use native.Mathlib.Nat.{eq-or-lt_of_le, le_of_lt, lt_of_lt_of_le}
use native.Mathlib.Omega.{arith}
use borrow.Author.Tests.{ne_eqb, lt-leb}
use lib.Dec.{T, leb, ltb, eqb, leb→le, ltb→lt, eqb→eq}
use lib.IntN.{ℤ, pos}
use Rattle.sums.specs.Lists.{tabulate}
use Rattle.sums.proofs.Every.{every, every_at, both, both_left, both_right, eqb_ℤ, eqb_ℤ→eq, eqb_b, eqb_b→eq}
use Rattle.rule.specs.Points.{points, new_count, new_point, new_at, level_from, level_of, rank_of, occurrences}
use Rattle.rule.specs.Rules.{unit, is_point, point_weight, whole_at, unit_step, difference_at}
use Rattle.rule.specs.Weights.{ends_one, whole_weight, ends_minus_one, difference_weight}

-- ---- a test of every level k from 1 to 8 and, at each, of every number below a bound

every_level : (ℕ → ℕ) → (ℕ → ℕ → Bool) → Bool
every_level bound f = every 8 (λ j. every (bound (suc j)) (f (suc j)))

at_level : (bound : ℕ → ℕ) (f : ℕ → ℕ → Bool) → T (every_level bound f) → (k n : ℕ) → 1 ≤ k → k ≤ 8 → n < bound k → T (f k n)
unfolding every_level
at_level bound f t zero n a b h = absurd (omega arith)
at_level bound f t (suc j) n a b h =
    every_at (bound (suc j)) (f (suc j)) (every_at 8 (λ j. every (bound (suc j)) (f (suc j))) t j (omega arith)) n h

-- the test of an equation, for natural numbers, for whole numbers and for tests
equal_at : (bound : ℕ → ℕ) (f g : ℕ → ℕ → ℕ) → T (every_level bound (λ k n. eqb (f k n) (g k n)))
    → (k n : ℕ) → 1 ≤ k → k ≤ 8 → n < bound k → f k n ≡ g k n
equal_at bound f g t k n a b h = eqb→eq (f k n) (g k n) (at_level bound (λ k n. eqb (f k n) (g k n)) t k n a b h)

equal_ℤ-at : (bound : ℕ → ℕ) (f g : ℕ → ℕ → ℤ) → T (every_level bound (λ k n. eqb_ℤ (f k n) (g k n)))
    → (k n : ℕ) → 1 ≤ k → k ≤ 8 → n < bound k → f k n ≡ g k n
equal_ℤ-at bound f g t k n a b h = eqb_ℤ→eq (f k n) (g k n) (at_level bound (λ k n. eqb_ℤ (f k n) (g k n)) t k n a b h)

equal_b_at : (bound : ℕ → ℕ) (f g : ℕ → ℕ → Bool) → T (every_level bound (λ k n. eqb_b (f k n) (g k n)))
    → (k n : ℕ) → 1 ≤ k → k ≤ 8 → n < bound k → f k n ≡ g k n
equal_b_at bound f g t k n a b h = eqb_b→eq (f k n) (g k n) (at_level bound (λ k n. eqb_b (f k n) (g k n)) t k n a b h)

positions : ℕ → ℕ
positions k = 129

-- ---- new points by level and number

pub in_range_lem : (k n : ℕ) → 1 ≤ k → k ≤ 8 → n < new_count k → new_point k n ≤ 128
unfolding every_level every new_count new_point
in_range_lem k n a b h = leb→le (new_point k n) 128 (at_level new_count (λ k n. leb (new_point k n) 128) tt k n a b h)

pub level_is : (k n : ℕ) → 1 ≤ k → k ≤ 8 → n < new_count k → level_of (new_point k n) ≡ k
unfolding every_level every new_count new_point level_of level_from new_at
level_is = equal_at new_count (λ k n. level_of (new_point k n)) (λ k n. k) tt

pub rank_is : (k n : ℕ) → 1 ≤ k → k ≤ 8 → n < new_count k → rank_of (new_point k n) ≡ n
unfolding every_level every new_count new_point level_of level_from new_at rank_of
rank_is = equal_at new_count (λ k n. rank_of (new_point k n)) (λ k n. n) tt

next_higher : (k n : ℕ) → 1 ≤ k → k ≤ 8 → suc n < new_count k → new_point k n < new_point k (suc n)
unfolding every_level every new_count new_point
next_higher k n a b h =
    ltb→lt (new_point k n) (new_point k (suc n))
    (at_level (λ k. new_count k - 1) (λ k n. ltb (new_point k n) (new_point k (suc n))) tt k n a b (omega arith))

pub rising : (k n m : ℕ) → 1 ≤ k → k ≤ 8 → n < m → m < new_count k → new_point k n < new_point k m
rising k n zero a b l h = absurd (omega arith)
rising k n (suc m) a b l h =
    ⊎_elim (λ (e : n ≡ m). subst (λ x. new_point k x < new_point k (suc m)) (sym e) (next_higher k m a b h))
    (λ (q : n < m). lt_of_lt_of_le (rising k n m a b q (omega arith)) (le_of_lt (next_higher k m a b h))) (eq-or-lt_of_le (omega arith))

-- ---- positions

module _ (p : ℕ) (h : p ≤ 128) where
  pub level_low : 1 ≤ level_of p
  unfolding every level_of level_from new_at
  level_low = leb→le 1 (level_of p) (every_at 129 (λ p. leb 1 (level_of p)) tt p (omega arith))

  pub level_high : level_of p ≤ 8
  unfolding every level_of level_from new_at
  level_high = leb→le (level_of p) 8 (every_at 129 (λ p. leb (level_of p) 8) tt p (omega arith))

  pub rank_below : rank_of p < new_count (level_of p)
  unfolding every level_of level_from new_at rank_of new_count
  rank_below = ltb→lt (rank_of p) (new_count (level_of p)) (every_at 129 (λ p. ltb (rank_of p) (new_count (level_of p))) tt p (omega arith))

  pub point_is : new_point (level_of p) (rank_of p) ≡ p
  unfolding every level_of level_from new_at rank_of new_point
  point_is = eqb→eq (new_point (level_of p) (rank_of p)) p (every_at 129 (λ p. eqb (new_point (level_of p) (rank_of p)) p) tt p (omega arith))

-- no position lies beyond 128: nothing is new there, and no level has a point there
beyond_new : (k p : ℕ) → 128 < p → new_at k p ≡ false
unfolding new_at
beyond_new zero p h = refl
beyond_new (suc zero) p h = ne_eqb p 64 (omega arith)
beyond_new (suc (suc zero)) p h = rw (ne_eqb p 0 (omega arith)) (ne_eqb p 128 (omega arith))
beyond_new (suc (suc (suc k))) p h = rw (lt-leb p 128 h)

beyond_from : (n k p : ℕ) → 128 < p → level_from n k p ≡ k + n
unfolding level_from
beyond_from zero k p h = omega arith
beyond_from (suc n) k p h = rw (beyond_new k p h) (beyond_from n (suc k) p h ∙ more k n)
  where
    more : (k n : ℕ) → suc k + n ≡ k + suc n
    more k n = omega arith

beyond_level : (p : ℕ) → 128 < p → level_of p ≡ 9
unfolding level_of
beyond_level p h = beyond_from 8 1 p h

in_positions : List ℕ → Bool
in_positions [] = true
in_positions (q ∷ qs) = both (leb q 128) (in_positions qs)

absent : (p : ℕ) (l : List ℕ) → 128 < p → T (in_positions l) → occurrences p l ≡ 0
unfolding occurrences in_positions
absent p [] h t = refl
absent p (q ∷ qs) h t =
    rw (ne_eqb p q (λ e. omega (arith, leb→le q 128 (both_left (leb q 128) (in_positions qs) t))))
    (absent p qs h (both_right (leb q 128) (in_positions qs) t))

beyond_points : (k p : ℕ) → 1 ≤ k → k ≤ 8 → 128 < p → occurrences p (points k) ≡ 0
unfolding every_level every points tabulate in_positions
beyond_points k p a b h = absent p (points k) h (at_level (λ k. 1) (λ k n. in_positions (points k)) tt k 0 a b (omega arith))

beyond_test : (k p : ℕ) → 1 ≤ k → 128 < p → is_point k p ≡ false
unfolding is_point
beyond_test zero p a h = absurd (omega arith)
beyond_test (suc zero) p a h = ne_eqb p 64 (omega arith)
beyond_test (suc (suc k)) p a h = rw (lt-leb p 128 h)

-- a fact about every number, from the positions and from what lies beyond
by_range : (P : ℕ → Type 0) → ((p : ℕ) → p ≤ 128 → P p) → ((p : ℕ) → 128 < p → P p) → (p : ℕ) → P p
by_range P f g p = step (dec_lt 128 p)
  where
    step : Dec (128 < p) → P p
    step (yes h) = g p h
    step (no h) = f p (omega arith)

module _ (k : ℕ) (a : 1 ≤ k) (b : k ≤ 8) where
  new_within : (p : ℕ) → p ≤ 128 → new_at k p ≡ eqb (level_of p) k
  unfolding every_level every positions level_of level_from new_at
  new_within p h = equal_b_at positions new_at (λ k p. eqb (level_of p) k) tt k p a b (omega arith)

  once_within : (p : ℕ) → p ≤ 128 → occurrences p (points k) ≡ cond (leb (level_of p) k) 1 0
  unfolding every_level every positions points tabulate level_of level_from new_at occurrences
  once_within p h =
      equal_at positions (λ k p. occurrences p (points k)) (λ k p. cond (leb (level_of p) k) 1 0) tt k p a b (omega arith)

  test_within : (p : ℕ) → p ≤ 128 → occurrences p (points k) ≡ cond (is_point k p) 1 0
  unfolding every_level every positions points tabulate occurrences is_point
  test_within p h = equal_at positions (λ k p. occurrences p (points k)) (λ k p. cond (is_point k p) 1 0) tt k p a b (omega arith)

pub new_at_lem : (k p : ℕ) → 1 ≤ k → k ≤ 8 → new_at k p ≡ eqb (level_of p) k
new_at_lem k p a b =
    by_range (λ p. new_at k p ≡ eqb (level_of p) k) (new_within k a b)
    (λ p h. beyond_new k p h ∙ sym (ap (λ l. eqb l k) (beyond_level p h) ∙ ne_eqb 9 k (omega arith))) p

pub each_once : (k p : ℕ) → 1 ≤ k → k ≤ 8 → occurrences p (points k) ≡ cond (leb (level_of p) k) 1 0
each_once k p a b =
    by_range (λ p. occurrences p (points k) ≡ cond (leb (level_of p) k) 1 0) (once_within k a b)
    (λ p h. beyond_points k p a b h ∙ sym (ap (λ l. cond (leb l k) 1 0) (beyond_level p h) ∙ ap (λ t. cond t 1 0) (lt-leb 9 k (omega arith)))) p

pub is_point_lem : (k p : ℕ) → 1 ≤ k → k ≤ 8 → occurrences p (points k) ≡ cond (is_point k p) 1 0
is_point_lem k p a b =
    by_range (λ p. occurrences p (points k) ≡ cond (is_point k p) 1 0) (test_within k a b)
    (λ p h. beyond_points k p a b h ∙ sym (ap (λ t. cond t 1 0) (beyond_test k p a h))) p

-- a new point lies within the positions
pub new_range : (k p : ℕ) → 1 ≤ k → k ≤ 8 → new_at k p ≡ true → p ≤ 128
new_range k p a b e = step (dec_lt 128 p)
  where
    step : Dec (128 < p) → p ≤ 128
    step (yes h) = absurd (let q : new_at k p ≡ false = beyond_new k p h in let z : ◌≡◌ {A = ℕ} 0 1 = cc in omega arith)
    step (no h) = omega arith

-- ---- weights by position

pub whole_at_lem : (k p : ℕ) → 1 ≤ k → k ≤ 8 → p ≤ 128 → whole_at k p ≡ whole_weight k (level_of p)
unfolding every_level every positions level_of level_from new_at whole_at is_point point_weight whole_weight ends_one
whole_at_lem k p a b h = equal_ℤ-at positions whole_at (λ k p. whole_weight k (level_of p)) tt k p a b (omega arith)

pub difference_at_lem : (k p : ℕ) → 1 ≤ k → k ≤ 8 → p ≤ 128 → difference_at k p ≡ difference_weight k (level_of p)
unfolding every_level every positions level_of level_from new_at whole_at is_point point_weight difference_at unit_step unit difference_weight ends_minus_one
difference_at_lem k p a b h = equal_ℤ-at positions difference_at (λ k p. difference_weight k (level_of p)) tt k p a b (omega arith)

-- ---- from level 2 up, the i-th of the 2^(k−1) + 1 points: both ends 1, every other 2

unfoldable pub ends_of : ℕ → ℕ → ℤ
ends_of n i = cond (eqb i 0) (pos 1) (cond (eqb i n) (pos 1) (pos 2))

-- how many points a level from 2 up has
several : ℕ → ℕ
several zero = 0
several (suc zero) = 0
several (suc (suc k)) = 2 ^ suc k + 1

ends_at : (k i : ℕ) → 1 ≤ k → k ≤ 8 → i < several k → whole_at k (i * 2 ^ (8 - k)) ≡ ends_of (2 ^ (k - 1)) i
unfolding every_level every several whole_at is_point point_weight ends_of
ends_at = equal_ℤ-at several (λ k i. whole_at k (i * 2 ^ (8 - k))) (λ k i. ends_of (2 ^ (k - 1)) i) tt

one_less : (k : ℕ) → suc (suc k) - 1 ≡ suc k
one_less k = omega arith

pub whole_ends : (k i : ℕ) → suc (suc k) ≤ 8 → i < 2 ^ suc k + 1
    → whole_at (suc (suc k)) (i * 2 ^ (8 - suc (suc k))) ≡ ends_of (2 ^ suc k) i
unfolding several
whole_ends k i b h = ends_at (suc (suc k)) i (omega arith) b h ∙ ap (λ n. ends_of (2 ^ n) i) (one_less k)
