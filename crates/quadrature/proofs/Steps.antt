-- One step of the walk, with the weight that it carries: what the calls below give comes to what the call is to return, and all of
-- it is of size at most 2^40.
-- The idea: the weight times the sizes that are still to come never passes 2^20, and a reading is at most 2^20.
-- Assumes nothing.
use mathlib.Core.Path.{◌≡◌, sym, ap, ap₂, ◌∙◌, subst}
use mathlib.Core.List.{List, ◌∷◌}
use Prim.Native.Nat.{ℕ, zero, suc, ◌+◌, ◌*◌, ◌-◌, ◌^◌, ◌<◌, ◌≤◌}
use native.Mathlib.Nat as NatL
use native.Mathlib.Nat.{le_refl, le_trans, le_of_eq, mul-le-mul}
use native.Mathlib.Omega.{arith}
use lib.IntN.{ℤ, pos, nat_abs, ◌+ℤ◌, ◌*ℤ◌, +ℤ_idr}
use lib.ListN.{length, drop}
use lib.Pow.{pow-add, pow_mono, pow_pos}
use Rattle.sums.specs.Sums.{nat_sum_to}
use Rattle.sums.proofs.Ring.{distl, *ℤ-assoc}
use Rattle.sums.proofs.Sizes.{abs_mul}
use Rattle.rule.specs.Points.{new_count}
use Rattle.rule.specs.Rules.{unit}
use Rattle.rule.specs.Weights.{difference_weight}
use Rattle.grid.specs.Index.{level}
use Rattle.grid.specs.Difference.{Readings, units, behind, difference_walk}
use Rattle.grid.specs.Terms.{InRange}
use Rattle.grid.proofs.Levels.{Levels}
use Rattle.grid.proofs.LoopSteps.{axis_left, count_pos, levels_drop}
use Rattle.quadrature.specs.Parts.{points_left, levels_left, walk_left}
use Rattle.quadrature.proofs.Walks.{points_step, points_none, levels_step, levels_none, walk_here, some_sizes, points-size, levels_size}

-- up to level 8 a level has at most 64 new points
pub count_small : (l : ℕ) → l ≤ 8 → new_count l ≤ 64
unfolding new_count
count_small zero h = omega arith
count_small (suc zero) h = omega arith
count_small (suc (suc zero)) h = omega arith
count_small (suc (suc (suc l))) h = pow_mono {i = suc l} {j = 6} (omega arith)

-- ---- room: a weight times what is still to come

-- a factor of at least one may be left out
pub less_room : (a b n : ℕ) → 1 ≤ b → a * b ≤ n → a ≤ n
less_room a b n h q = le_trans (le_of_eq (sym (NatL.mul-one a))) (le_trans (mul-le-mul (le_refl a) h) q)

units_of : (k : List ℕ) (a : ℕ) → a < length k → units (drop a k) ≡ unit (level k a) + units (drop (a + 1) k)
unfolding units
units_of k a h = rw (axis_left k a h)

-- the weight of one level, times its points, is at most one
only_one : (f : ℕ → ℕ) (l : ℕ) → f l ≡ nat_sum_to 1 (λ i. f (l + i))
unfolding nat_sum_to
only_one f l = ap f (sym (NatL.add-zero l)) ∙ sym (NatL.zero-add (f (l + 0)))

one-level : (top l : ℕ) → 1 ≤ l → l ≤ top → new_count l * nat_abs (difference_weight top l) ≤ 2 ^ unit top
one-level top l a b =
    le_trans (le_of_eq (only_one (λ x. new_count x * nat_abs (difference_weight top x)) l)) (some_sizes top 1 l a (omega arith))

turn : (w d c u : ℕ) → w * d * c * u ≡ w * (c * d * u)
turn w d c u = simp (NatL.mul_assoc, NatL.mul_left_comm)

pub room_points : (k : List ℕ) (a l : ℕ) (w : ℤ) → a < length k → 1 ≤ l → l ≤ level k a → nat_abs w * 2 ^ units (drop a k) ≤ 2 ^ 20
    → nat_abs (w *ℤ difference_weight (level k a) l) * new_count l * 2 ^ units (drop (a + 1) k) ≤ 2 ^ 20
room_points k a l w h p q r =
    le_trans (le_of_eq (ap (λ x. x * new_count l * 2 ^ units (drop (a + 1) k)) (abs_mul w (difference_weight (level k a) l)) ∙ turn (nat_abs w) (nat_abs (difference_weight (level k a) l)) (new_count l) (2 ^ units (drop (a + 1) k))))
    (le_trans (mul-le-mul (le_refl (nat_abs w)) (mul-le-mul (one-level (level k a) l p q) (le_refl (2 ^ units (drop (a + 1) k)))))
    (le_trans (le_of_eq (ap (λ x. nat_abs w * x) (sym (pow-add 2 (unit (level k a)) (units (drop (a + 1) k))) ∙ ap (λ u. 2 ^ u) (sym (units_of k a h))))) r))

pub room_weight : (w : ℤ) (l u : ℕ) → 1 ≤ l → nat_abs w * new_count l * 2 ^ u ≤ 2 ^ 20 → nat_abs w ≤ 2 ^ 20
room_weight w l u a r = less_room (nat_abs w) (new_count l) (2 ^ 20) (count_pos l a) (less_room (nat_abs w * new_count l) (2 ^ u) (2 ^ 20) (pow_pos u) r)

pub room_below : (w : ℤ) (l u : ℕ) → 1 ≤ l → nat_abs w * new_count l * 2 ^ u ≤ 2 ^ 20 → nat_abs w * 2 ^ u ≤ 2 ^ 20
room_below w l u a r =
    less_room (nat_abs w * 2 ^ u) (new_count l) (2 ^ 20) (count_pos l a)
    (le_trans (le_of_eq (NatL.mul_assoc (nat_abs w) (2 ^ u) (new_count l) ∙ ap (λ x. nat_abs w * x) (NatL.mul_comm (2 ^ u) (new_count l)) ∙ sym (NatL.mul_assoc (nat_abs w) (new_count l) (2 ^ u)))) r)

pub room_alone : (w : ℤ) (u : ℕ) → nat_abs w * 2 ^ u ≤ 2 ^ 20 → nat_abs w ≤ 2 ^ 20
room_alone w u r = less_room (nat_abs w) (2 ^ u) (2 ^ 20) (pow_pos u) r

-- a weight times a part
weighed : (w x : ℤ) (u : ℕ) → nat_abs w * u ≤ 2 ^ 20 → nat_abs x ≤ u * 1048576 → nat_abs (w *ℤ x) ≤ 2 ^ 40
weighed w x u r h =
    le_trans (le_of_eq (abs_mul w x))
    (le_trans (mul-le-mul (le_refl (nat_abs w)) h) (le_trans (le_of_eq (sym (NatL.mul_assoc (nat_abs w) u 1048576))) (mul-le-mul r (le_refl 1048576))))

-- ---- the level walk

module _ (axes : ℕ) (k : List ℕ) (axis l : ℕ) (w : ℤ) (Q : Readings) (v : Levels 8 k) (inside : axis < length k) (h : axis < axes) (low : 1 ≤ l) (high : l ≤ level k axis) where
  abbrev top : ℕ
  top = level k axis

  abbrev ks : List ℕ
  ks = drop (axis + 1) k

  left_count : suc top - l ≡ suc (suc top - (l + 1))
  left_count = omega arith

  walk_step : walk_left axes k axis l Q ≡ difference_weight top l *ℤ points_left (new_count l) 0 l ks Q +ℤ levels_left (suc top - (l + 1)) top (l + 1) ks Q
  walk_step =
      walk_here axes k axis l Q h ∙ ap (λ n. levels_left n top l ks Q) left_count ∙ levels_step (suc top - (l + 1)) top l ks Q

  -- a higher level is left
  pub level_adds : (here rest : ℤ) → here ≡ (w *ℤ difference_weight top l) *ℤ points_left (new_count l - 0) 0 l ks Q → rest ≡ w *ℤ walk_left axes k axis (l + 1) Q
      → here +ℤ rest ≡ w *ℤ walk_left axes k axis l Q
  level_adds here rest e f =
      ap₂ ◌+ℤ◌ (e ∙ ap (λ n. (w *ℤ difference_weight top l) *ℤ points_left n 0 l ks Q) (NatL.sub-zero (new_count l)) ∙ *ℤ-assoc w (difference_weight top l) (points_left (new_count l) 0 l ks Q))
      (f ∙ ap (λ x. w *ℤ x) (walk_here axes k axis (l + 1) Q h))
      ∙ sym (distl w (difference_weight top l *ℤ points_left (new_count l) 0 l ks Q) (levels_left (suc top - (l + 1)) top (l + 1) ks Q))
      ∙ ap (λ x. w *ℤ x) (sym walk_step)

  -- it is the highest
  pub level_last : (here : ℤ) → top ≤ l → here ≡ (w *ℤ difference_weight top l) *ℤ points_left (new_count l - 0) 0 l ks Q → here ≡ w *ℤ walk_left axes k axis l Q
  level_last here t e =
      e ∙ ap (λ n. (w *ℤ difference_weight top l) *ℤ points_left n 0 l ks Q) (NatL.sub-zero (new_count l))
      ∙ *ℤ-assoc w (difference_weight top l) (points_left (new_count l) 0 l ks Q)
      ∙ ap (λ x. w *ℤ x) (sym (walk_step ∙ ap (λ x. difference_weight top l *ℤ points_left (new_count l) 0 l ks Q +ℤ x) none ∙ +ℤ_idr (difference_weight top l *ℤ points_left (new_count l) 0 l ks Q)))
    where
      none : levels_left (suc top - (l + 1)) top (l + 1) ks Q ≡ pos 0
      none = ap (λ n. levels_left n top (l + 1) ks Q) (done top l t) ∙ levels_none top (l + 1) ks Q
        where
          done : (top l : ℕ) → top ≤ l → suc top - (l + 1) ≡ 0
          done top l t = omega arith

  pub level-size : InRange (drop axis k) Q → nat_abs w * 2 ^ units (drop axis k) ≤ 2 ^ 20 → nat_abs (w *ℤ walk_left axes k axis l Q) ≤ 2 ^ 40
  level-size r room =
      weighed w (walk_left axes k axis l Q) (2 ^ units (drop axis k)) room
      (subst (λ x. nat_abs x ≤ 2 ^ units (drop axis k) * 1048576) (sym (walk_here axes k axis l Q h))
      (subst (λ m. nat_abs (levels_left (suc top - l) top l ks Q) ≤ 2 ^ units m * 1048576) (sym (axis_left k axis inside))
      (levels_size 8 top ks Q (levels_drop 8 k (axis + 1) v) (subst (λ m. InRange m Q) (axis_left k axis inside) r) (suc top - l) l low (omega arith))))

-- ---- the point walk

module _ (ks : List ℕ) (l p : ℕ) (w : ℤ) (Q : Readings) (h : p < new_count l) where
  points-first : points_left (new_count l - p) p l ks Q ≡ difference_walk ks (behind Q l p) +ℤ points_left (new_count l - (p + 1)) (p + 1) l ks Q
  points-first = ap (λ n. points_left n p l ks Q) (count (new_count l) p h) ∙ points_step (new_count l - (p + 1)) p l ks Q
    where
      count : (n p : ℕ) → p < n → n - p ≡ suc (n - (p + 1))
      count n p h = omega arith

  -- a further point is left
  pub point_adds : (here rest : ℤ) → here ≡ w *ℤ difference_walk ks (behind Q l p) → rest ≡ w *ℤ points_left (new_count l - (p + 1)) (p + 1) l ks Q
      → here +ℤ rest ≡ w *ℤ points_left (new_count l - p) p l ks Q
  point_adds here rest e f =
      ap₂ ◌+ℤ◌ e f ∙ sym (distl w (difference_walk ks (behind Q l p)) (points_left (new_count l - (p + 1)) (p + 1) l ks Q)) ∙ ap (λ x. w *ℤ x) (sym points-first)

  -- it is the last
  pub points_last : (here : ℤ) → new_count l ≤ p + 1 → here ≡ w *ℤ difference_walk ks (behind Q l p) → here ≡ w *ℤ points_left (new_count l - p) p l ks Q
  points_last here q e =
      e ∙ ap (λ x. w *ℤ x) (sym (points-first ∙ ap (λ x. difference_walk ks (behind Q l p) +ℤ x) none ∙ +ℤ_idr (difference_walk ks (behind Q l p))))
    where
      done : (n m : ℕ) → n ≤ m → n - m ≡ 0
      done n m q = omega arith

      none : points_left (new_count l - (p + 1)) (p + 1) l ks Q ≡ pos 0
      none = ap (λ n. points_left n (p + 1) l ks Q) (done (new_count l) (p + 1) q) ∙ points_none (p + 1) l ks Q

  pub points_bound : (top : ℕ) → Levels 8 ks → InRange (top ∷ ks) Q → 1 ≤ l → l ≤ top → nat_abs w * new_count l * 2 ^ units ks ≤ 2 ^ 20
      → nat_abs (w *ℤ points_left (new_count l - p) p l ks Q) ≤ 2 ^ 40
  points_bound top v r a b room =
      weighed w (points_left (new_count l - p) p l ks Q) (new_count l * 2 ^ units ks) (le_trans (le_of_eq (sym (NatL.mul_assoc (nat_abs w) (new_count l) (2 ^ units ks)))) room)
      (le_trans (points-size 8 top ks Q v r (new_count l - p) p l a b (omega arith))
      (le_trans (mul-le-mul (NatL.sub-le (new_count l) p) (le_refl (2 ^ units ks * 1048576))) (le_of_eq (sym (NatL.mul_assoc (new_count l) (2 ^ units ks) 1048576)))))
