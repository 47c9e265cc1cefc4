-- The parts of a difference that a walk still has before it: one step at a time, and their sizes.
-- The idea: what is left of a sum is its first summand and what is left after it; a part of a sum of sizes is no more than the whole.
-- Assumes nothing.
use mathlib.Core.Path.{◌≡◌, refl, sym, ap, ap₂, ◌∙◌, fun_ext}
use mathlib.Core.List.{List, [], ◌∷◌, ◌++◌, append_assoc}
use Prim.Native.Nat.{ℕ, zero, suc, ◌+◌, ◌*◌, ◌-◌, ◌^◌, ◌<◌, ◌≤◌, zero-le}
use native.Mathlib.Decide.{dec_lt}
use native.Mathlib.Nat as NatL
use native.Mathlib.Nat.{le_refl, le_trans, le_of_eq, mul-le-mul}
use native.Mathlib.Numerals.{add-one}
use native.Mathlib.Omega.{arith}
use borrow.Author.Tests.{lt-ltb, le-ltb}
use lib.Arith.{digits_lt}
use lib.IntN.{pos, nat_abs, ◌+ℤ◌, ◌*ℤ◌, +ℤ_idl}
use lib.ListN.{length, drop, replicate}
use lib.Pow.{pow-add}
use Rattle.sums.specs.Sums.{sum_to, nat_sum_to}
use Rattle.sums.proofs.Ring.{one-*ℤ}
use Rattle.sums.proofs.Sums.{sum_to-front, sum_to_cong}
use Rattle.sums.proofs.Sizes.{abs_mul, abs_sum_to, nat_sum_to-cong<, nat_sum_to_const, nat_sum_to_mul, nat_sum_to-some}
use Rattle.rule.specs.Points.{new_count}
use Rattle.rule.specs.Rules.{unit}
use Rattle.rule.specs.Weights.{difference_weight}
use Rattle.rule.proofs.Weights.{difference_size}
use Rattle.grid.specs.Index.{level}
use Rattle.grid.specs.Block.{block_size}
use Rattle.grid.specs.Difference.{Readings, units, behind, difference_walk}
use Rattle.grid.specs.Terms.{InRange}
use Rattle.grid.proofs.Levels.{Levels, higher_cons}
use Rattle.grid.proofs.LoopSteps.{axis_left}
use Rattle.grid.proofs.Rules.{walk_is, difference_walk_is, difference_bound}
use Rattle.quadrature.specs.Parts.{left, points_left, levels_left, walk_left}

-- ---- the readings left

-- before the first axis all are left
pub left_all : (R : Readings) → left R [] 0 ≡ R
unfolding left
left_all R = fun_ext (λ ls. fun_ext (λ n. ap (R ls) (only (block_size ls) n)))
  where
    only : (s n : ℕ) → 0 * s + n ≡ n
    only s n = omega arith

regroup : (r c p s m : ℕ) → (r * c + p) * s + m ≡ r * (c * s) + (p * s + m)
regroup r c p s m = rw (NatL.add-mul (r * c) p s, NatL.mul_assoc r c s) (NatL.add_assoc (r * (c * s)) (p * s) m)

-- one axis more is passed
pub behind-left : (R : Readings) (passed : List ℕ) (rank l n : ℕ) → behind (left R passed rank) l n ≡ left R (passed ++ (l ∷ [])) (rank * new_count l + n)
unfolding behind left block_size
behind-left R passed rank l n =
    fun_ext (λ ls. fun_ext (λ m. ap₂ R (sym (append_assoc passed (l ∷ []) ls)) (sym (regroup rank (new_count l) n (block_size ls) m))))

-- ---- one step

shift : (a i : ℕ) → a + suc i ≡ a + 1 + i
shift a i = omega arith

pub points_step : (n p l : ℕ) (ks : List ℕ) (R : Readings) → points_left (suc n) p l ks R ≡ difference_walk ks (behind R l p) +ℤ points_left n (p + 1) l ks R
unfolding points_left
points_step n p l ks R =
    sum_to-front n (λ i. difference_walk ks (behind R l (p + i)))
    ∙ ap₂ ◌+ℤ◌ (ap (λ x. difference_walk ks (behind R l x)) (NatL.add-zero p))
    (sum_to_cong n (λ i. ap (λ x. difference_walk ks (behind R l x)) (shift p i)))

pub points_none : (p l : ℕ) (ks : List ℕ) (R : Readings) → points_left 0 p l ks R ≡ pos 0
unfolding points_left sum_to
points_none p l ks R = refl

pub levels_step : (n top l : ℕ) (ks : List ℕ) (R : Readings)
    → levels_left (suc n) top l ks R ≡ difference_weight top l *ℤ points_left (new_count l) 0 l ks R +ℤ levels_left n top (l + 1) ks R
unfolding levels_left
levels_step n top l ks R =
    sum_to-front n (λ i. difference_weight top (l + i) *ℤ points_left (new_count (l + i)) 0 (l + i) ks R)
    ∙ ap₂ ◌+ℤ◌ (ap (λ x. difference_weight top x *ℤ points_left (new_count x) 0 x ks R) (NatL.add-zero l))
    (sum_to_cong n (λ i. ap (λ x. difference_weight top x *ℤ points_left (new_count x) 0 x ks R) (shift l i)))

pub levels_none : (top l : ℕ) (ks : List ℕ) (R : Readings) → levels_left 0 top l ks R ≡ pos 0
unfolding levels_left sum_to
levels_none top l ks R = refl

-- all levels, from level 1 on, are the whole axis
pub levels_all : (top : ℕ) (ks : List ℕ) (R : Readings) → levels_left top top 1 ks R ≡ difference_walk (top ∷ ks) R
unfolding levels_left points_left difference_walk
levels_all top ks R = sum_to_cong top (λ i. term i)
  where
    term : (i : ℕ) → difference_weight top (1 + i) *ℤ sum_to (new_count (1 + i)) (λ n. difference_walk ks (behind R (1 + i) (0 + n))) ≡ difference_weight top (suc i) *ℤ sum_to (new_count (suc i)) (λ n. difference_walk ks (behind R (suc i) n))
    term i =
        ap (λ x. difference_weight top x *ℤ sum_to (new_count x) (λ n. difference_walk ks (behind R x (0 + n)))) (NatL.add_comm 1 i ∙ add-one i)
        ∙ ap (λ x. difference_weight top (suc i) *ℤ x) (sum_to_cong (new_count (suc i)) (λ n. ap (λ y. difference_walk ks (behind R (suc i) y)) (NatL.zero-add n)))

pub walk_here : (axes : ℕ) (k : List ℕ) (axis l : ℕ) (R : Readings) → axis < axes → walk_left axes k axis l R ≡ levels_left (suc (level k axis) - l) (level k axis) l (drop (axis + 1) k) R
unfolding walk_left
walk_here axes k axis l R h = rw (lt-ltb axis axes h)

pub walk_behind : (axes : ℕ) (k : List ℕ) (axis l : ℕ) (R : Readings) → axes ≤ axis → walk_left axes k axis l R ≡ difference_walk (drop axis k) R
unfolding walk_left
walk_behind axes k axis l R h = rw (le-ltb axis axes h)

pub walk_all : (axes : ℕ) (k : List ℕ) (axis : ℕ) (R : Readings) → axes ≤ length k → walk_left axes k axis 1 R ≡ difference_walk (drop axis k) R
walk_all axes k axis R b = step (dec_lt axis axes)
  where
    less : (n : ℕ) → suc n - 1 ≡ n
    less n = omega arith

    step : Dec (axis < axes) → walk_left axes k axis 1 R ≡ difference_walk (drop axis k) R
    step (yes h) =
        walk_here axes k axis 1 R h
        ∙ ap (λ n. levels_left n (level k axis) 1 (drop (axis + 1) k) R) (less (level k axis))
        ∙ levels_all (level k axis) (drop (axis + 1) k) R
        ∙ ap (λ m. difference_walk m R) (sym (axis_left k axis (omega arith)))
    step (no h) = walk_behind axes k axis 1 R (omega arith)

-- an axis at level 1 has one point, of weight 1
walk_one : (ks : List ℕ) (R : Readings) → difference_walk (1 ∷ ks) R ≡ difference_walk ks (behind R 1 0)
unfolding difference_walk sum_to new_count difference_weight
walk_one ks R =
    +ℤ_idl (pos 1 *ℤ (pos 0 +ℤ difference_walk ks (behind R 1 0))) ∙ one-*ℤ (pos 0 +ℤ difference_walk ks (behind R 1 0))
    ∙ +ℤ_idl (difference_walk ks (behind R 1 0))

-- at level 1 throughout there is one reading
pub walk_ones : (m : ℕ) (R : Readings) → difference_walk (replicate m 1) R ≡ R (replicate m 1) 0
unfolding difference_walk
walk_ones zero R = refl
walk_ones (suc m) R =
    walk_one (replicate m 1) R ∙ walk_ones m (behind R 1 0)
    ∙ unfold behind in ap (λ x. R (1 ∷ replicate m 1) x) (none (block_size (replicate m 1)))
  where
    none : (s : ℕ) → 0 * s + 0 ≡ 0
    none s = omega arith

-- ---- sizes

pub walk_size : (n : ℕ) (k : List ℕ) (R : Readings) → Levels n k → InRange k R → nat_abs (difference_walk k R) ≤ 2 ^ units k * 1048576
walk_size n k R v h =
    le_trans (le_of_eq (ap nat_abs (difference_walk_is k R ∙ walk_is difference_weight k R))) (difference_bound n k R 1048576 v h)

pub range_behind : (top : ℕ) (ks : List ℕ) (R : Readings) (l n : ℕ) → InRange (top ∷ ks) R → 1 ≤ l → l ≤ top → n < new_count l → InRange ks (behind R l n)
unfolding behind
range_behind top ks R l n h a b q = λ ls m c d. h (l ∷ ls) (n * block_size ls + m) (higher_cons l top ls ks a b c) (below ls m d)
  where
    below : (ls : List ℕ) (m : ℕ) → m < block_size ls → n * block_size ls + m < block_size (l ∷ ls)
    below ls m d = unfold block_size in digits_lt q d

-- the sizes of the weights of some levels come to no more than one
pub some_sizes : (top n l : ℕ) → 1 ≤ l → l + n ≤ suc top → nat_sum_to n (λ i. new_count (l + i) * nat_abs (difference_weight top (l + i))) ≤ 2 ^ unit top
some_sizes top n zero a h = absurd (omega arith)
some_sizes zero n (suc l) a h =
    let e : n ≡ 0 = omega arith in
    le_trans (le_of_eq (ap (λ m. nat_sum_to m (λ i. new_count (suc l + i) * nat_abs (difference_weight 0 (suc l + i)))) e)) (unfold nat_sum_to in zero-le)
some_sizes (suc top) n (suc l) a h =
    le_trans (le_of_eq (nat_sum_to-cong< n (λ i. new_count (suc l + i) * nat_abs (difference_weight (suc top) (suc l + i))) (λ i. term (l + i)) (λ i q. ap (λ x. new_count x * nat_abs (difference_weight (suc top) x)) (NatL.suc-add l i))))
    (le_trans (nat_sum_to-some n l (suc top) term (omega arith)) (le_of_eq (difference_size top)))
  where
    term : ℕ → ℕ
    term i = new_count (suc i) * nat_abs (difference_weight (suc top) (suc i))

module _ (b top : ℕ) (ks : List ℕ) (R : Readings) (v : Levels b ks) (r : InRange (top ∷ ks) R) where
  pub points-size : (n p l : ℕ) → 1 ≤ l → l ≤ top → p + n ≤ new_count l → nat_abs (points_left n p l ks R) ≤ n * (2 ^ units ks * 1048576)
  unfolding points_left
  points-size n p l a c h =
      le_trans
      (abs_sum_to n (λ i. difference_walk ks (behind R l (p + i))) (λ i. 2 ^ units ks * 1048576)
      (λ i q. walk_size b ks (behind R l (p + i)) v (range_behind top ks R l (p + i) r a c (omega arith))))
      (le_of_eq (nat_sum_to_const n (2 ^ units ks * 1048576)))

  pub levels_size : (n l : ℕ) → 1 ≤ l → l + n ≤ suc top → nat_abs (levels_left n top l ks R) ≤ 2 ^ units (top ∷ ks) * 1048576
  unfolding levels_left units
  levels_size n l a h =
      le_trans
      (abs_sum_to n (λ i. difference_weight top (l + i) *ℤ points_left (new_count (l + i)) 0 (l + i) ks R)
      (λ i. new_count (l + i) * nat_abs (difference_weight top (l + i)) * (2 ^ units ks * 1048576)) (λ i q. one (l + i) (omega arith) (omega arith)))
      (le_trans (le_of_eq (nat_sum_to_mul n (λ i. new_count (l + i) * nat_abs (difference_weight top (l + i))) (2 ^ units ks * 1048576)))
      (le_trans (mul-le-mul (some_sizes top n l a h) (le_refl (2 ^ units ks * 1048576)))
      (le_of_eq (sym (NatL.mul_assoc (2 ^ unit top) (2 ^ units ks) 1048576) ∙ ap (λ x. x * 1048576) (sym (pow-add 2 (unit top) (units ks)))))))
    where
      turn : (w c x : ℕ) → w * (c * x) ≡ c * w * x
      turn w c x = simp (NatL.mul_assoc, NatL.mul_left_comm)

      one : (m : ℕ) → 1 ≤ m → m ≤ top → nat_abs (difference_weight top m *ℤ points_left (new_count m) 0 m ks R) ≤ new_count m * nat_abs (difference_weight top m) * (2 ^ units ks * 1048576)
      one m c d =
          le_trans (le_of_eq (abs_mul (difference_weight top m) (points_left (new_count m) 0 m ks R)))
          (le_trans (mul-le-mul (le_refl (nat_abs (difference_weight top m))) (points-size (new_count m) 0 m c d (omega arith)))
          (le_of_eq (turn (nat_abs (difference_weight top m)) (new_count m) (2 ^ units ks * 1048576))))
