-- The part of a full tensor rule that a loop has behind it: one step at a time, and its size.
-- The idea: one point more is one summand more; the sizes of some summands come to no more than those of all.
-- Assumes nothing.
use mathlib.Core.Path.{◌≡◌, refl, sym, ap, ◌∙◌, subst}
use mathlib.Core.List.{List, [], ◌∷◌}
use Prim.Native.Nat.{ℕ, zero, suc, ◌+◌, ◌*◌, ◌-◌, ◌^◌, ◌<◌, ◌≤◌, zero-le}
use native.Mathlib.Nat as NatL
use native.Mathlib.Nat.{le_refl, le_trans, le_of_eq, mul-le-mul, add-le-add}
use native.Mathlib.Numerals.{add-one}
use native.Mathlib.Omega.{arith}
use lib.IntN.{ℤ, pos, nat_abs, ◌+ℤ◌, ◌*ℤ◌, +ℤ_idl, +ℤ_idr, +ℤ_assoc, *ℤ-zero}
use lib.ListN.{length, drop, replicate}
use lib.Pow.{pow-add, pow_mono}
use Rattle.sums.specs.Sums.{sum_to, nat_sum_to}
use Rattle.sums.proofs.Ring.{one-*ℤ, distl}
use Rattle.sums.proofs.Sums.{sum_to-suc}
use Rattle.sums.proofs.Sizes.{abs_add, abs_mul, abs_sum_to, nat_sum_to-suc, nat_sum_to_cong, nat_sum_to_const, nat_sum_to_mul, nat_sum_to-some}
use Rattle.rule.specs.Points.{new_count}
use Rattle.rule.specs.Rules.{unit}
use Rattle.rule.specs.Weights.{whole_weight}
use Rattle.rule.proofs.Weights.{whole_size}
use Rattle.grid.specs.Index.{Within}
use Rattle.grid.specs.Block.{block_size}
use Rattle.grid.specs.Difference.{Readings, units, behind}
use Rattle.grid.specs.Tensor.{tensor_sum}
use Rattle.grid.specs.Terms.{InRange}
use Rattle.grid.proofs.Levels.{Levels, units_small}
use Rattle.grid.proofs.Rules.{tensor_is, whole_bound}
use Rattle.quadrature.specs.Parts.{points_done, tensor_done}
use Rattle.quadrature.proofs.Walks.{range_behind}

-- ---- one step

less_one : (n : ℕ) → n + 1 - 1 ≡ n
less_one n = omega arith

module _ (top : ℕ) (ks : List ℕ) (R : Readings) where
  abbrev term : ℕ → ℤ
  term i = whole_weight top (suc i) *ℤ points_done (new_count (suc i)) (suc i) ks R

  no_points : (l : ℕ) → points_done 0 l ks R ≡ pos 0
  unfolding points_done sum_to
  no_points l = refl

  -- the points of a level with one point more
  point_more : (n l : ℕ) → points_done (n + 1) l ks R ≡ points_done n l ks R +ℤ tensor_sum ks (behind R l n)
  unfolding points_done
  point_more n l = ap (λ m. sum_to m (λ i. tensor_sum ks (behind R l i))) (add-one n) ∙ sum_to-suc n (λ i. tensor_sum ks (behind R l i))

  -- one point more
  pub done_point : (l p : ℕ) → tensor_done top l p ks R +ℤ whole_weight top l *ℤ tensor_sum ks (behind R l p) ≡ tensor_done top l (p + 1) ks R
  unfolding tensor_done
  done_point l p =
      +ℤ_assoc (sum_to (l - 1) term) (whole_weight top l *ℤ points_done p l ks R) (whole_weight top l *ℤ tensor_sum ks (behind R l p))
      ∙ ap (λ x. sum_to (l - 1) term +ℤ x)
      (sym (distl (whole_weight top l) (points_done p l ks R) (tensor_sum ks (behind R l p))) ∙ ap (λ x. whole_weight top l *ℤ x) (sym (point_more p l)))

  -- before the first point of a level
  none_here : (n l : ℕ) → sum_to n term +ℤ whole_weight top l *ℤ points_done 0 l ks R ≡ sum_to n term
  none_here n l = ap (λ x. sum_to n term +ℤ x) (ap (λ x. whole_weight top l *ℤ x) (no_points l) ∙ *ℤ-zero (whole_weight top l)) ∙ +ℤ_idr (sum_to n term)

  done_levels : (l : ℕ) → tensor_done top (l + 1) 0 ks R ≡ sum_to l term
  unfolding tensor_done
  done_levels l = none_here (l + 1 - 1) (l + 1) ∙ ap (λ n. sum_to n term) (less_one l)

  -- nothing yet
  pub done_start : tensor_done top 1 0 ks R ≡ pos 0
  unfolding sum_to
  done_start = done_levels 0

  -- one level more
  pub done-level : (l : ℕ) → 1 ≤ l → tensor_done top l 0 ks R +ℤ whole_weight top l *ℤ points_done (new_count l) l ks R ≡ tensor_done top (l + 1) 0 ks R
  unfolding tensor_done
  done-level zero h = absurd (omega arith)
  done-level (suc l) h = ap (λ x. x +ℤ term l) (none_here (suc l - 1) (suc l) ∙ ap (λ n. sum_to n term) (less l)) ∙ sym (sum_to-suc l term) ∙ sym (done_levels (suc l))
    where
      less : (n : ℕ) → suc n - 1 ≡ n
      less n = omega arith

  -- the points of a level are done
  pub done_points : (l : ℕ) → 1 ≤ l → tensor_done top l (new_count l) ks R ≡ tensor_done top (l + 1) 0 ks R
  unfolding tensor_done
  done_points zero h = absurd (omega arith)
  done_points (suc l) h = ap (λ n. sum_to n term +ℤ term l) (less l) ∙ sym (sum_to-suc l term) ∙ sym (done_levels (suc l))
    where
      less : (n : ℕ) → suc n - 1 ≡ n
      less n = omega arith

  -- all levels are the whole axis
  pub done_all : tensor_done top (top + 1) 0 ks R ≡ tensor_sum (top ∷ ks) R
  unfolding tensor_sum points_done
  done_all = done_levels top

-- at level 1 throughout there is one reading
pub tensor_ones : (m : ℕ) (R : Readings) → tensor_sum (replicate m 1) R ≡ R (replicate m 1) 0
unfolding tensor_sum sum_to new_count whole_weight
tensor_ones zero R = refl
tensor_ones (suc m) R =
    +ℤ_idl (pos 1 *ℤ (pos 0 +ℤ tensor_sum (replicate m 1) (behind R 1 0))) ∙ one-*ℤ (pos 0 +ℤ tensor_sum (replicate m 1) (behind R 1 0))
    ∙ +ℤ_idl (tensor_sum (replicate m 1) (behind R 1 0)) ∙ tensor_ones m (behind R 1 0)
    ∙ unfold behind in ap (λ x. R (1 ∷ replicate m 1) x) (none (block_size (replicate m 1)))
  where
    none : (s : ℕ) → 0 * s + 0 ≡ 0
    none s = omega arith

-- ---- sizes

pub tensor_size : (n : ℕ) (k : List ℕ) (R : Readings) → Levels n k → InRange k R → nat_abs (tensor_sum k R) ≤ 2 ^ units k * 1048576
tensor_size n k R v h = le_trans (le_of_eq (ap nat_abs (tensor_is k R))) (whole_bound n k R 1048576 v h)

units-drop : (k : List ℕ) (a : ℕ) → units (drop a k) ≤ units k
unfolding units
units-drop k zero = le_refl (units k)
units-drop [] (suc a) = le_refl 0
units-drop (x ∷ k) (suc a) = le_trans (units-drop k a) (omega arith)

-- within the ceilings a rule of the axes left is of size at most 2^40
pub units_room : (k : List ℕ) (a : ℕ) → length k ≡ 8 → Within k → 2 ^ units (drop a k) * 1048576 ≤ 2 ^ 40
units_room k a e h =
    le_trans (mul-le-mul (pow_mono {i = units (drop a k)} {j = 20} (le_trans (units-drop k a) (units_small k e h))) (le_refl 1048576)) (omega arith)

-- the sizes of the weights of the first levels come to no more than one
abbrev size : ℕ → ℕ → ℕ
size top i = new_count (suc i) * nat_abs (whole_weight top (suc i))

first_some : (n m : ℕ) (f : ℕ → ℕ) → n ≤ m → nat_sum_to n f ≤ nat_sum_to m f
first_some n m f h = le_trans (le_of_eq (nat_sum_to_cong n (λ i. ap f (sym (NatL.zero-add i))))) (nat_sum_to-some n 0 m f (omega arith))

first_sizes : (top n : ℕ) → n ≤ top → nat_sum_to n (size top) ≤ 2 ^ unit top
first_sizes zero n h = let e : n ≡ 0 = omega arith in le_trans (le_of_eq (ap (λ m. nat_sum_to m (size 0)) e)) (unfold nat_sum_to in zero-le)
first_sizes (suc top) n h = le_trans (first_some n (suc top) (size (suc top)) h) (le_of_eq (whole_size top))

module _ (b top : ℕ) (ks : List ℕ) (R : Readings) (v : Levels b ks) (r : InRange (top ∷ ks) R) where
  abbrev M : ℕ
  M = 2 ^ units ks * 1048576

  turn : (w c x : ℕ) → w * (c * x) ≡ c * w * x
  turn w c x = simp (NatL.mul_assoc, NatL.mul_left_comm)

  -- what a level's loop adds next
  pub point-size : (l p : ℕ) → 1 ≤ l → l ≤ top → p < new_count l → nat_abs (tensor_sum ks (behind R l p)) ≤ M
  point-size l p a c h = tensor_size b ks (behind R l p) v (range_behind top ks R l p r a c h)

  -- up to all new points of a level
  points_part : (n l : ℕ) → 1 ≤ l → l ≤ top → n ≤ new_count l → nat_abs (points_done n l ks R) ≤ new_count l * M
  unfolding points_done
  points_part n l a c h =
      le_trans (abs_sum_to n (λ i. tensor_sum ks (behind R l i)) (λ i. M) (λ i q. point-size l i a c (omega arith)))
      (le_trans (le_of_eq (nat_sum_to_const n M)) (mul-le-mul h (le_refl M)))

  -- times the weight of the level
  weighed : (i : ℕ) (x : ℤ) → nat_abs x ≤ new_count (suc i) * M → nat_abs (whole_weight top (suc i) *ℤ x) ≤ size top i * M
  weighed i x h =
      le_trans (le_of_eq (abs_mul (whole_weight top (suc i)) x))
      (le_trans (mul-le-mul (le_refl (nat_abs (whole_weight top (suc i)))) h) (le_of_eq (turn (nat_abs (whole_weight top (suc i))) (new_count (suc i)) M)))

  levels_part : (n : ℕ) → n ≤ top → nat_abs (sum_to n (term top ks R)) ≤ nat_sum_to n (size top) * M
  levels_part n h =
      le_trans (abs_sum_to n (term top ks R) (λ i. size top i * M) (λ i q. weighed i (points_done (new_count (suc i)) (suc i) ks R) (points_part (new_count (suc i)) (suc i) (omega arith) (omega arith) (le_refl (new_count (suc i))))))
      (le_of_eq (nat_sum_to_mul n (size top) M))

  whole : 2 ^ unit top * M ≡ 2 ^ units (top ∷ ks) * 1048576
  unfolding units
  whole = sym (NatL.mul_assoc (2 ^ unit top) (2 ^ units ks) 1048576) ∙ ap (λ x. x * 1048576) (sym (pow-add 2 (unit top) (units ks)))

  -- a size and that of the next level are among all sizes
  both : (i : ℕ) → suc i ≤ top → nat_sum_to i (size top) * M + size top i * M ≤ 2 ^ units (top ∷ ks) * 1048576
  both i h =
      le_trans (le_of_eq (sym (NatL.add-mul (nat_sum_to i (size top)) (size top i) M) ∙ ap (λ x. x * M) (sym (nat_sum_to-suc i (size top)))))
      (le_trans (mul-le-mul (first_sizes top (suc i) h) (le_refl M)) (le_of_eq whole))

  -- what the loop over the levels adds next
  pub level-size : (l : ℕ) → 1 ≤ l → l ≤ top → nat_abs (whole_weight top l *ℤ points_done (new_count l) l ks R) ≤ 2 ^ units (top ∷ ks) * 1048576
  level-size zero a c = absurd (omega arith)
  level-size (suc i) a c =
      let part : nat_abs (term top ks R i) ≤ size top i * M = weighed i (points_done (new_count (suc i)) (suc i) ks R) (points_part (new_count (suc i)) (suc i) a c (le_refl (new_count (suc i)))) in
      omega (arith, both i c)

  -- what it has added up once the levels up to l are done
  pub levels-size : (l : ℕ) → l ≤ top → nat_abs (tensor_done top (l + 1) 0 ks R) ≤ 2 ^ units (top ∷ ks) * 1048576
  levels-size l c =
      le_trans (le_of_eq (ap nat_abs (done_levels top ks R l)))
      (le_trans (levels_part l c) (le_trans (mul-le-mul (first_sizes top l c) (le_refl M)) (le_of_eq whole)))

  -- what it has added up before a point of a level
  pub done-size : (l p : ℕ) → 1 ≤ l → l ≤ top → p ≤ new_count l → nat_abs (tensor_done top l p ks R) ≤ 2 ^ units (top ∷ ks) * 1048576
  unfolding tensor_done
  done-size zero p a c h = absurd (omega arith)
  done-size (suc i) p a c h =
      let e : suc i - 1 ≡ i = omega arith in
      le_trans (abs_add (sum_to (suc i - 1) (term top ks R)) (whole_weight top (suc i) *ℤ points_done p (suc i) ks R))
      (le_trans (add-le-add (subst (λ n. nat_abs (sum_to n (term top ks R)) ≤ nat_sum_to i (size top) * M) (sym e) (levels_part i (omega arith)))
      (weighed i (points_done p (suc i) ks R) (points_part p (suc i) a c h))) (both i c))

  -- what a point of a level adds to it
  pub next_size : (l p : ℕ) → 1 ≤ l → l ≤ top → p < new_count l → nat_abs (whole_weight top l *ℤ tensor_sum ks (behind R l p)) ≤ 2 ^ units (top ∷ ks) * 1048576
  next_size zero p a c h = absurd (omega arith)
  next_size (suc i) p a c h =
      let part : nat_abs (whole_weight top (suc i) *ℤ tensor_sum ks (behind R (suc i) p)) ≤ size top i * M =
      weighed i (tensor_sum ks (behind R (suc i) p)) (le_trans (point-size (suc i) p a c h) (times (new_count (suc i)) M (omega arith))) in
      omega (arith, both i c)
    where
      times : (n m : ℕ) → 1 ≤ n → m ≤ n * m
      times n m q = le_trans (le_of_eq (sym (NatL.one-mul m))) (mul-le-mul q (le_refl m))
