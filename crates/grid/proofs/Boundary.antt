-- The boundary cases P1 to P10: the figures by computation, P10 from the weights of a difference rule, which come to zero.
-- Assumes nothing.
use mathlib.Core.Path.{◌≡◌, refl, sym, ap, ◌∙◌}
use mathlib.Core.Logic.{◌≢◌, ◌⊎◌, inl, inr, ⊎_elim}
use mathlib.Core.Bool.{Bool, true, false, not, cond, ◌&&◌}
use mathlib.Core.List.Memᴰ
use mathlib.Core.List.{List, [], ◌∷◌, map, Memᴰ}
use Prim.Native.Nat.{ℕ, zero, suc, ◌*◌, ◌-◌, ◌^◌, ◌<◌}
use native.Mathlib.Numerals.{add-one}
use native.Mathlib.Omega.{arith}
use borrow.Author.Tests.{eqb-true, lt-leb, not-true}
use lib.Dec.{T, leb, eqb}
use lib.ListN.{length, replicate}
use lib.IntN.{ℤ, pos, negsuc, neg_ℤ, ◌+ℤ◌, ◌*ℤ◌, *ℤ-zero, zero-*ℤ, *ℤ_comm}
use Rattle.sums.specs.Sums.{sum_to, sum_of}
use Rattle.sums.specs.Lists.{tabulate}
use Rattle.sums.proofs.Every.{every, every_at}
use Rattle.sums.proofs.Ring.{products, mul_one}
use Rattle.sums.proofs.Sums.{sum_to_cong, sum_to_mul}
use Rattle.rule.specs.Points.{points, new_points, new_count}
use Rattle.rule.specs.Rules.{unit, is_point, point_weight, whole_at, unit_step, difference_at}
use Rattle.rule.specs.Weights.{whole_weight, ends_one, difference_weight, ends_minus_one}
use Rattle.rule.proofs.Weights.{difference_sum_lem}
use Rattle.grid.specs.Index.{level, excess, Within, levels_within, within, root, in_front, lower, backward}
use Rattle.grid.specs.Block.{directed, rows, block_after, block, block_size}
use Rattle.grid.specs.Difference.{units, difference_product, difference_sum, scaled_difference, scaled_mean, behind}
use Rattle.grid.specs.Tensor.{tensor_sum, tensor_rule}
use Rattle.grid.specs.Coefficient.{same_levels, is_in, subsets, sign, raised_on, coefficient}
use Rattle.grid.specs.Cross.{cross_total}
use Rattle.grid.specs.Terms.{block_sum, NoDup, DownSet}
use Rattle.grid.specs.Boundary.{Delivery, pair, file, reading_of, file_readings, file_indices, BoundaryCases}
use Rattle.grid.proofs.Levels.{Levels, within_levels, within_sure, within_back, and_left, and_right}
use Rattle.grid.proofs.Members.{in_sure, in_back}
use Rattle.grid.proofs.Rules.{rule, rule_cong, rule_mul, difference_is}

-- ---- constant readings

sizes : List ℕ → ℤ
sizes l = pos (block_size l)

ones : (n : ℕ) → sum_to n (λ i. pos 1) ≡ pos n
unfolding sum_to
ones zero = refl
ones (suc n) = ap (λ x. x +ℤ pos 1) (ones n) ∙ ap pos (add-one n)

constant_block : (c : ℤ) (l : List ℕ) → block_sum (λ l n. c) l ≡ c *ℤ sizes l
unfolding block_sum sizes
constant_block c l =
    sum_to_cong (block_size l) (λ i. sym (mul_one c)) ∙ sum_to_mul (block_size l) c (λ i. pos 1) ∙ ap (λ x. c *ℤ x) (ones (block_size l))

-- the weights of each axis, together
axes : List ℕ → ℤ
axes [] = pos 1
axes (k ∷ ks) = sum_to k (λ i. pos (new_count (suc i)) *ℤ difference_weight k (suc i)) *ℤ axes ks

turn : (a b c : ℤ) → a *ℤ (b *ℤ c) ≡ c *ℤ (b *ℤ a)
turn a b c = simp products

rule_sizes : (k : List ℕ) → rule difference_weight k sizes ≡ axes k
unfolding rule sizes axes block_size
rule_sizes [] = refl
rule_sizes (k ∷ ks) =
    sum_to_cong k (λ i.
    ap (λ x. difference_weight k (suc i) *ℤ x) (rule_mul difference_weight ks (pos (new_count (suc i))) sizes ∙ ap (λ x. pos (new_count (suc i)) *ℤ x) (rule_sizes ks))
    ∙ turn (difference_weight k (suc i)) (pos (new_count (suc i))) (axes ks))
    ∙ sum_to_mul k (axes ks) (λ i. pos (new_count (suc i)) *ℤ difference_weight k (suc i))
    ∙ *ℤ_comm (axes ks) (sum_to k (λ i. pos (new_count (suc i)) *ℤ difference_weight k (suc i)))

-- an index is at level 1 throughout, or the weights along some axis come to zero
axes_zero : (n : ℕ) (k : List ℕ) → Levels n k → (k ≡ replicate (length k) 1) ⊎ (axes k ≡ pos 0)
unfolding axes
axes_zero n [] w = inl refl
axes_zero n (zero ∷ ks) w = absurd (omega arith)
axes_zero n (suc zero ∷ ks) w = step (axes_zero n ks w.2)
  where
    step : (ks ≡ replicate (length ks) 1) ⊎ (axes ks ≡ pos 0) → (1 ∷ ks ≡ replicate (suc (length ks)) 1) ⊎ (sum_to 1 (λ i. pos (new_count (suc i)) *ℤ difference_weight 1 (suc i)) *ℤ axes ks ≡ pos 0)
    step (inl e) = inl (ap (λ (l : List ℕ). 1 ∷ l) e)
    step (inr e) = inr (ap (λ x. sum_to 1 (λ i. pos (new_count (suc i)) *ℤ difference_weight 1 (suc i)) *ℤ x) e ∙ *ℤ-zero (sum_to 1 (λ i. pos (new_count (suc i)) *ℤ difference_weight 1 (suc i))))
axes_zero n (suc (suc k) ∷ ks) w = inr (ap (λ x. x *ℤ axes ks) (difference_sum_lem k) ∙ zero-*ℤ (axes ks))

pub constant : (c : ℤ) (k : List ℕ) → length k ≡ 8 → Within k → k ≢ root → scaled_difference k (λ l n. c) ≡ pos 0
unfolding scaled_difference root
constant c k e w f =
    ap (λ x. pos (2 ^ (20 - units k)) *ℤ x)
    (difference_is k (λ l n. c) ∙ rule_cong difference_weight k (constant_block c) ∙ rule_mul difference_weight k c sizes
    ∙ ap (λ x. c *ℤ x) (rule_sizes k ∙ none (axes_zero 8 k (within_levels k w))) ∙ *ℤ-zero c)
    ∙ *ℤ-zero (pos (2 ^ (20 - units k)))
  where
    none : (k ≡ replicate (length k) 1) ⊎ (axes k ≡ pos 0) → axes k ≡ pos 0
    none (inl q) = absurd (f (q ∙ ap (λ n. replicate n 1) e))
    none (inr q) = q

-- ---- the set of the file's indices, by tests

-- every element passes a test
all : List (List ℕ) → (List ℕ → Bool) → Bool
all [] f = true
all (x ∷ xs) f = f x && all xs f

all_at : (l : List (List ℕ)) (f : List ℕ → Bool) → all l f ≡ true → (k : List ℕ) → Memᴰ k l → f k ≡ true
unfolding all
all_at [] f e k m = absurd (Memᴰ.not-nil m)
all_at (x ∷ xs) f e k m =
    ⊎_elim (λ q. ap f q ∙ and_left (f x) (all xs f) e) (λ q. all_at xs f (and_right (f x) (all xs f) e) k q) (Memᴰ.cases_cons m)

-- no element stands again behind itself
alone : List (List ℕ) → Bool
alone [] = true
alone (x ∷ xs) = not (is_in xs x) && alone xs

alone_once : (l : List (List ℕ)) → alone l ≡ true → NoDup l
unfolding alone
alone_once [] e = tt
alone_once (x ∷ xs) e = (
  λ m. let p : is_in xs x ≡ true = in_back xs x m in let q : not (is_in xs x) ≡ true = and_left (not (is_in xs x)) (alone xs) e in let r : is_in xs x ≡ false = not-true (is_in xs x) q in let z : ◌≡◌ {A = ℕ} 0 1 = cc in omega arith,
  alone_once xs (and_right (not (is_in xs x)) (alone xs) e),
)

-- along each of the eight axes the level is 1 or the backward neighbour stands in the list
below_in : List (List ℕ) → List ℕ → ℕ → Bool
below_in l k a = cond (leb (level k a) 1) true (is_in l (backward k a))

below_at : (l : List (List ℕ)) (k : List ℕ) (a : ℕ) → below_in l k a ≡ true → 1 < level k a → Memᴰ (backward k a) l
unfolding below_in
below_at l k a e h = in_sure l (backward k a) (rw (lt-leb (level k a) 1 h) at e)

closed_at : List (List ℕ) → List ℕ → Bool
closed_at l k = every 8 (below_in l k)

T_of : (b : Bool) → b ≡ true → T b
T_of true e = tt
T_of false e = absurd (let z : ◌≡◌ {A = ℕ} 0 1 = cc in omega arith)

true_of : (b : Bool) → T b → b ≡ true
true_of true t = refl
true_of false t = absurd t

file_set : DownSet file_indices
unfolding file_indices file pair all alone closed_at below_in every within levels_within excess is_in same_levels backward
file_set =
    record {
      eight = λ k m. eqb-true (length k) 8 (all_at file_indices (λ j. eqb (length j) 8) refl k m);
      ceilings = λ k m. within_sure k (all_at file_indices within refl k m);
      once = alone_once file_indices refl;
      closed = λ k a m h l. below_at file_indices k a (true_of (below_in file_indices k a) (every_at 8 (below_in file_indices k) (T_of (closed_at file_indices k) (all_at file_indices (closed_at file_indices) refl k m)) a h)) l;
    }

-- ---- the rows

p1 : map (difference_at 2) (points 2) ≡ pos 1 ∷ negsuc 1 ∷ pos 1 ∷ []
unfolding points tabulate difference_at whole_at is_point point_weight unit_step unit
p1 = refl

p2 : map (difference_at 3) (points 3) ≡ negsuc 0 ∷ pos 2 ∷ negsuc 1 ∷ pos 2 ∷ negsuc 0 ∷ []
unfolding points tabulate difference_at whole_at is_point point_weight unit_step unit
p2 = refl

p3 : new_points 4 ≡ 16 ∷ 48 ∷ 80 ∷ 112 ∷ []
unfolding new_points tabulate
p3 = refl

p1_points : points 2 ≡ 0 ∷ 64 ∷ 128 ∷ []
unfolding points tabulate
p1_points = refl

p2_points : points 3 ≡ 0 ∷ 32 ∷ 64 ∷ 96 ∷ 128 ∷ []
unfolding points tabulate
p2_points = refl

p4 : length (block (3 ∷ 4 ∷ 1 ∷ [])) ≡ 8
unfolding block block_after rows directed new_points new_count tabulate
p4 = refl

p4_order : block (3 ∷ 4 ∷ 1 ∷ [])
    ≡ (32 ∷ 16 ∷ 64 ∷ []) ∷ (32 ∷ 48 ∷ 64 ∷ []) ∷ (32 ∷ 80 ∷ 64 ∷ []) ∷ (32 ∷ 112 ∷ 64 ∷ [])
    ∷ (96 ∷ 112 ∷ 64 ∷ []) ∷ (96 ∷ 80 ∷ 64 ∷ []) ∷ (96 ∷ 48 ∷ 64 ∷ []) ∷ (96 ∷ 16 ∷ 64 ∷ []) ∷ []
unfolding block block_after rows directed new_points new_count tabulate
p4_order = refl

three_axes : block (2 ∷ 2 ∷ 2 ∷ [])
    ≡ (0 ∷ 0 ∷ 0 ∷ []) ∷ (0 ∷ 0 ∷ 128 ∷ []) ∷ (0 ∷ 128 ∷ 128 ∷ []) ∷ (0 ∷ 128 ∷ 0 ∷ [])
    ∷ (128 ∷ 128 ∷ 0 ∷ []) ∷ (128 ∷ 128 ∷ 128 ∷ []) ∷ (128 ∷ 0 ∷ 128 ∷ []) ∷ (128 ∷ 0 ∷ 0 ∷ []) ∷ []
unfolding block block_after rows directed new_points new_count
three_axes = refl

file_counts : map (λ (e : Delivery). length e.readings) file ≡ map (λ (e : Delivery). block_size e.levels) file
unfolding file pair block_size new_count
file_counts = refl

p10_root : scaled_difference root (λ l n. pos 5) ≡ pos (5 * 2 ^ 20)
unfolding scaled_difference difference_sum difference_product units unit lower in_front block_size new_count difference_weight sum_to sum_of root
p10_root = refl

two_neighbours : (backward (pair 2 2) 0 ≡ pair 1 2) × (backward (pair 2 2) 1 ≡ pair 2 1)
unfolding backward pair
two_neighbours = (refl, refl)

p5_passes : Within (pair 8 6)
unfolding within levels_within excess pair
p5_passes = within_sure (pair 8 6) refl

p5_breaks : Within (pair 8 7) → ⊥
unfolding within levels_within excess pair
p5_breaks w = let e : ◌≡◌ {A = Bool} false true = within_back (pair 8 7) w in let z : ◌≡◌ {A = ℕ} 0 1 = cc in omega arith

p6 : scaled_difference (pair 2 1) file_readings ≡ pos (2048 * 2 ^ 20)
unfolding scaled_difference difference_sum difference_product units unit lower in_front block_size new_count difference_weight ends_minus_one sum_to sum_of pair file reading_of file_readings same_levels
p6 = refl

p7 : scaled_difference (pair 3 1) file_readings ≡ neg_ℤ (pos (512 * 2 ^ 20))
unfolding scaled_difference difference_sum difference_product units unit lower in_front block_size new_count difference_weight ends_minus_one sum_to sum_of pair file reading_of file_readings same_levels
p7 = refl

p8 : map (coefficient file_indices) file_indices ≡ negsuc 0 ∷ pos 0 ∷ pos 1 ∷ pos 1 ∷ []
unfolding coefficient subsets sign raised_on is_in same_levels sum_of pair file file_indices
p8 = refl

p9 : scaled_mean file_indices file_readings ≡ pos 5972688896
unfolding scaled_mean scaled_difference difference_sum difference_product units unit lower in_front block_size new_count difference_weight ends_minus_one sum_to sum_of pair file reading_of file_readings file_indices same_levels
p9 = refl

p9_cross : cross_total file_indices file_readings ≡ pos 5972688896
unfolding cross_total coefficient subsets sign raised_on is_in tensor_rule tensor_sum behind units unit block_size new_count whole_weight ends_one sum_to sum_of pair file reading_of file_readings file_indices same_levels
p9_cross = refl

pub boundary_cases : BoundaryCases
boundary_cases =
    record {
      p1_points = p1_points;
      p1 = p1;
      p2_points = p2_points;
      p2 = p2;
      p3 = p3;
      p4 = p4;
      p4_order = p4_order;
      three_axes = three_axes;
      p5_passes = p5_passes;
      p5_breaks = p5_breaks;
      file_counts = file_counts;
      file_set = file_set;
      p6 = p6;
      p7 = p7;
      p8 = p8;
      p9 = p9;
      p9_cross = p9_cross;
      p10 = constant (pos 5);
      p10_root = p10_root;
      two_neighbours = two_neighbours;
    }
