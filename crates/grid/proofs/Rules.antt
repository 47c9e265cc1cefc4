-- One rule for both weights: a sum over the levels of the first axis, each times its weight, of the rule of the later axes.
-- Differences and full tensor rules are this rule over the sums of blocks; it is linear, and bounded by the sizes of weights.
-- The idea: induction over the axes; the readings of a block are cut into the runs that each point of the first axis leaves.
-- Assumes nothing.
use mathlib.Core.Path.{◌≡◌, refl, sym, ap, ap₂, ◌∙◌, fun_ext}
use mathlib.Core.List.{List, [], ◌∷◌}
use Prim.Native.Nat.{ℕ, zero, suc, ◌*◌, ◌^◌, ◌<◌, ◌≤◌}
use native.Mathlib.Nat as NatL
use native.Mathlib.Nat.{le_refl, le_trans, le_of_eq, mul-le-mul}
use native.Mathlib.Omega.{arith}
use lib.IntN.{ℤ, pos, nat_abs, ◌+ℤ◌, ◌*ℤ◌, +ℤ_idl, *ℤ-zero}
use lib.Pow.{pow-add}
use Rattle.sums.specs.Sums.{sum_to, sum_of, nat_sum_to}
use Rattle.sums.proofs.Ring.{ring, distl, *ℤ-assoc, *ℤ-left}
use Rattle.sums.proofs.Sums.{sum_to_cong, sum_to-zero, sum_to_add, sum_to_mul, sum_to-runs, sum_of_cong, sum_of_cong_in, sum_of_mul}
use Rattle.sums.proofs.Sizes.{abs_mul, abs_sum_to, nat_sum_to_mul, nat_sum_to_const}
use Rattle.rule.specs.Points.{new_count}
use Rattle.rule.specs.Rules.{unit}
use Rattle.rule.specs.Weights.{whole_weight, difference_weight}
use Rattle.rule.proofs.Weights.{whole_size, difference_size}
use Rattle.grid.specs.Index.{NowhereHigher, lower}
use Rattle.grid.specs.Block.{block_size}
use Rattle.grid.specs.Difference.{Readings, units, difference_product, difference_sum, behind, difference_walk}
use Rattle.grid.specs.Tensor.{tensor_sum}
use Rattle.grid.specs.Terms.{whole_product, block_sum}
use Rattle.grid.proofs.Levels.{Levels, higher_cons, higher_empty}
use Rattle.grid.proofs.Lower.{lower_sum, lower_sure}

-- the rule of an index with the weights w, over a function of the index
unfoldable pub rule : (ℕ → ℕ → ℤ) → List ℕ → (List ℕ → ℤ) → ℤ
rule w [] F = F []
rule w (k ∷ ks) F = sum_to k (λ i. w k (suc i) *ℤ rule w ks (λ l. F (suc i ∷ l)))

-- ---- linear in the function

pub rule_cong : (w : ℕ → ℕ → ℤ) (k : List ℕ) {F G : List ℕ → ℤ} → ((l : List ℕ) → F l ≡ G l) → rule w k F ≡ rule w k G
rule_cong w k h = ap (rule w k) (fun_ext h)

pub rule_zero : (w : ℕ → ℕ → ℤ) (k : List ℕ) → rule w k (λ l. pos 0) ≡ pos 0
unfolding rule
rule_zero w [] = refl
rule_zero w (k ∷ ks) = sum_to_cong k (λ i. ap (λ x. w k (suc i) *ℤ x) (rule_zero w ks) ∙ *ℤ-zero (w k (suc i))) ∙ sum_to-zero k

pub rule_add : (w : ℕ → ℕ → ℤ) (k : List ℕ) (F G : List ℕ → ℤ) → rule w k (λ l. F l +ℤ G l) ≡ rule w k F +ℤ rule w k G
unfolding rule
rule_add w [] F G = refl
rule_add w (k ∷ ks) F G =
    sum_to_cong k (λ i.
    ap (λ x. w k (suc i) *ℤ x) (rule_add w ks (λ l. F (suc i ∷ l)) (λ l. G (suc i ∷ l)))
    ∙ distl (w k (suc i)) (rule w ks (λ l. F (suc i ∷ l))) (rule w ks (λ l. G (suc i ∷ l))))
    ∙ sum_to_add k (λ i. w k (suc i) *ℤ rule w ks (λ l. F (suc i ∷ l))) (λ i. w k (suc i) *ℤ rule w ks (λ l. G (suc i ∷ l)))

pub rule_mul : (w : ℕ → ℕ → ℤ) (k : List ℕ) (a : ℤ) (F : List ℕ → ℤ) → rule w k (λ l. a *ℤ F l) ≡ a *ℤ rule w k F
unfolding rule
rule_mul w [] a F = refl
rule_mul w (k ∷ ks) a F =
    sum_to_cong k (λ i.
    ap (λ x. w k (suc i) *ℤ x) (rule_mul w ks a (λ l. F (suc i ∷ l)))
    ∙ *ℤ-left (w k (suc i)) a (rule w ks (λ l. F (suc i ∷ l))))
    ∙ sum_to_mul k a (λ i. w k (suc i) *ℤ rule w ks (λ l. F (suc i ∷ l)))

pub rule_sum : (w : ℕ → ℕ → ℤ) (k : List ℕ) (n : ℕ) (F : ℕ → List ℕ → ℤ) → rule w k (λ l. sum_to n (λ p. F p l)) ≡ sum_to n (λ p. rule w k (F p))
unfolding sum_to
rule_sum w k zero F = rule_zero w k
rule_sum w k (suc n) F = rule_add w k (λ l. sum_to n (λ p. F p l)) (F n) ∙ ap (λ x. x +ℤ rule w k (F n)) (rule_sum w k n F)

-- ---- as one sum over the indices nowhere higher

unfoldable pub product : (ℕ → ℕ → ℤ) → List ℕ → List ℕ → ℤ
product w [] [] = pos 1
product w [] (l ∷ ls) = pos 0
product w (k ∷ ks) [] = pos 0
product w (k ∷ ks) (l ∷ ls) = w k l *ℤ product w ks ls

pub difference_product_lem : (k l : List ℕ) → difference_product k l ≡ product difference_weight k l
unfolding product difference_product
difference_product_lem [] [] = refl
difference_product_lem [] (l ∷ ls) = refl
difference_product_lem (k ∷ ks) [] = refl
difference_product_lem (k ∷ ks) (l ∷ ls) = ap (λ x. difference_weight k l *ℤ x) (difference_product_lem ks ls)

pub whole_product_lem : (k l : List ℕ) → whole_product k l ≡ product whole_weight k l
unfolding product whole_product
whole_product_lem [] [] = refl
whole_product_lem [] (l ∷ ls) = refl
whole_product_lem (k ∷ ks) [] = refl
whole_product_lem (k ∷ ks) (l ∷ ls) = ap (λ x. whole_weight k l *ℤ x) (whole_product_lem ks ls)

pub rule_lower : (w : ℕ → ℕ → ℤ) (k : List ℕ) (F : List ℕ → ℤ) → rule w k F ≡ sum_of (lower k) (λ l. product w k l *ℤ F l)
unfolding rule product
rule_lower w [] F = unfold lower sum_of in one (F [])
  where
    one : (x : ℤ) → x ≡ pos 1 *ℤ x +ℤ pos 0
    one x = simp ring
rule_lower w (k ∷ ks) F =
    sum_to_cong k (λ i.
    ap (λ x. w k (suc i) *ℤ x) (rule_lower w ks (λ l. F (suc i ∷ l)))
    ∙ sym (sum_of_mul (lower ks) (w k (suc i)) (λ l. product w ks l *ℤ F (suc i ∷ l)))
    ∙ sum_of_cong (lower ks) (λ l. sym (*ℤ-assoc (w k (suc i)) (product w ks l) (F (suc i ∷ l)))))
    ∙ sym (lower_sum k ks (λ l. product w (k ∷ ks) l *ℤ F l))

-- only the indices nowhere higher count
pub rule_only : (w : ℕ → ℕ → ℤ) (k : List ℕ) (F G : List ℕ → ℤ) → ((l : List ℕ) → NowhereHigher l k → F l ≡ G l) → rule w k F ≡ rule w k G
rule_only w k F G h =
    rule_lower w k F
    ∙ sum_of_cong_in (lower k) (λ l. product w k l *ℤ F l) (λ l. product w k l *ℤ G l) (λ l m. ap (λ x. product w k l *ℤ x) (h l (lower_sure k l m)))
    ∙ sym (rule_lower w k G)

-- ---- over readings: along an axis the levels, in each level its points, below each point the next axis

unfoldable pub walk : (ℕ → ℕ → ℤ) → List ℕ → Readings → ℤ
walk w [] R = R [] 0
walk w (k ∷ ks) R = sum_to k (λ i. w k (suc i) *ℤ sum_to (new_count (suc i)) (λ p. walk w ks (behind R (suc i) p)))

-- what the points of the first axis leave, together, is the block
block_runs : (R : Readings) (l : ℕ) (ls : List ℕ) → sum_to (new_count l) (λ p. block_sum (behind R l p) ls) ≡ block_sum R (l ∷ ls)
unfolding block_sum behind block_size
block_runs R l ls = sym (sum_to-runs (new_count l) (block_size ls) (R (l ∷ ls)))

pub walk_is : (w : ℕ → ℕ → ℤ) (k : List ℕ) (R : Readings) → walk w k R ≡ rule w k (block_sum R)
unfolding walk rule
walk_is w [] R = unfold block_sum block_size sum_to in sym (+ℤ_idl (R [] 0))
walk_is w (k ∷ ks) R =
    sum_to_cong k (λ i. ap (λ x. w k (suc i) *ℤ x)
    (sum_to_cong (new_count (suc i)) (λ p. walk_is w ks (behind R (suc i) p))
    ∙ sym (rule_sum w ks (new_count (suc i)) (λ p. block_sum (behind R (suc i) p)))
    ∙ rule_cong w ks (λ l. block_runs R (suc i) l)))

pub difference_walk_is : (k : List ℕ) (R : Readings) → difference_walk k R ≡ walk difference_weight k R
unfolding difference_walk walk
difference_walk_is [] R = refl
difference_walk_is (k ∷ ks) R =
    sum_to_cong k (λ i. ap (λ x. difference_weight k (suc i) *ℤ x) (sum_to_cong (new_count (suc i)) (λ p. difference_walk_is ks (behind R (suc i) p))))

pub tensor_walk : (k : List ℕ) (R : Readings) → tensor_sum k R ≡ walk whole_weight k R
unfolding tensor_sum walk
tensor_walk [] R = refl
tensor_walk (k ∷ ks) R =
    sum_to_cong k (λ i. ap (λ x. whole_weight k (suc i) *ℤ x) (sum_to_cong (new_count (suc i)) (λ p. tensor_walk ks (behind R (suc i) p))))

pub tensor_is : (k : List ℕ) (R : Readings) → tensor_sum k R ≡ rule whole_weight k (block_sum R)
tensor_is k R = tensor_walk k R ∙ walk_is whole_weight k R

pub tensor_blocks : (k : List ℕ) (R : Readings) → tensor_sum k R ≡ sum_of (lower k) (λ l. whole_product k l *ℤ block_sum R l)
tensor_blocks k R =
    tensor_is k R ∙ rule_lower whole_weight k (block_sum R)
    ∙ sum_of_cong (lower k) (λ l. ap (λ x. x *ℤ block_sum R l) (sym (whole_product_lem k l)))

pub difference_blocks : (k : List ℕ) (R : Readings) → difference_sum k R ≡ sum_of (lower k) (λ l. difference_product k l *ℤ block_sum R l)
unfolding difference_sum block_sum
difference_blocks k R = sum_of_cong (lower k) (λ l. sum_to_mul (block_size l) (difference_product k l) (R l))

pub difference_is : (k : List ℕ) (R : Readings) → difference_sum k R ≡ rule difference_weight k (block_sum R)
difference_is k R =
    difference_blocks k R
    ∙ sum_of_cong (lower k) (λ l. ap (λ x. x *ℤ block_sum R l) (difference_product_lem k l))
    ∙ sym (rule_lower difference_weight k (block_sum R))

pub difference_walk_lem : (k : List ℕ) (R : Readings) → difference_sum k R ≡ difference_walk k R
difference_walk_lem k R = difference_is k R ∙ sym (walk_is difference_weight k R) ∙ sym (difference_walk_is k R)

-- ---- sizes

-- the sizes of the weights, axis by axis
sizes : (ℕ → ℕ → ℤ) → List ℕ → ℕ
sizes w [] = 1
sizes w (k ∷ ks) = nat_sum_to k (λ i. new_count (suc i) * nat_abs (w k (suc i))) * sizes w ks

turn : (a b c : ℕ) → a * b * c ≡ b * (a * c)
turn a b c = simp (NatL.mul_assoc, NatL.mul_left_comm)

turn-four : (a b c d : ℕ) → a * (b * (c * d)) ≡ c * a * (b * d)
turn-four a b c d = simp (NatL.mul_assoc, NatL.mul_left_comm, NatL.mul_comm)

rule_size : (w : ℕ → ℕ → ℤ) (k : List ℕ) (F : List ℕ → ℤ) (M : ℕ) → ((l : List ℕ) → NowhereHigher l k → nat_abs (F l) ≤ block_size l * M)
    → nat_abs (rule w k F) ≤ sizes w k * M
unfolding rule sizes block_size
rule_size w [] F M h = h [] higher_empty
rule_size w (k ∷ ks) F M h =
    le_trans
    (abs_sum_to k (λ i. w k (suc i) *ℤ rule w ks (λ l. F (suc i ∷ l))) (λ i. new_count (suc i) * nat_abs (w k (suc i)) * (sizes w ks * M)) (λ i b.
    one i (rule_size w ks (λ l. F (suc i ∷ l)) (new_count (suc i) * M) (λ l q.
    le_trans (h (suc i ∷ l) (higher_cons (suc i) k l ks (omega arith) b q)) (le_of_eq (turn (new_count (suc i)) (block_size l) M))))))
    (le_of_eq (nat_sum_to_mul k (λ i. new_count (suc i) * nat_abs (w k (suc i))) (sizes w ks * M) ∙ sym (NatL.mul_assoc (nat_sum_to k (λ i. new_count (suc i) * nat_abs (w k (suc i)))) (sizes w ks) M)))
  where
    one : (i : ℕ) → nat_abs (rule w ks (λ l. F (suc i ∷ l))) ≤ sizes w ks * (new_count (suc i) * M)
        → nat_abs (w k (suc i) *ℤ rule w ks (λ l. F (suc i ∷ l))) ≤ new_count (suc i) * nat_abs (w k (suc i)) * (sizes w ks * M)
    one i b =
        le_trans (le_of_eq (abs_mul (w k (suc i)) (rule w ks (λ l. F (suc i ∷ l)))))
        (le_trans (mul-le-mul (le_refl (nat_abs (w k (suc i)))) b) (le_of_eq (turn-four (nat_abs (w k (suc i))) (sizes w ks) (new_count (suc i)) M)))

-- weights whose sizes come to one, along every axis
module _ (w : ℕ → ℕ → ℤ) (one : (k : ℕ) → nat_sum_to (suc k) (λ i. new_count (suc i) * nat_abs (w (suc k) (suc i))) ≡ 2 ^ unit (suc k)) where
  sizes_units : (n : ℕ) (k : List ℕ) → Levels n k → sizes w k ≡ 2 ^ units k
  unfolding sizes units
  sizes_units n [] l = refl
  sizes_units n (zero ∷ ks) l = absurd (omega arith)
  sizes_units n (suc k ∷ ks) l = ap₂ ◌*◌ (one k) (sizes_units n ks l.2) ∙ sym (pow-add 2 (unit (suc k)) (units ks))

  block_size_lem : (R : Readings) (l : List ℕ) (M : ℕ) → ((n : ℕ) → n < block_size l → nat_abs (R l n) ≤ M) → nat_abs (block_sum R l) ≤ block_size l * M
  unfolding block_sum
  block_size_lem R l M h = le_trans (abs_sum_to (block_size l) (R l) (λ n. M) h) (le_of_eq (nat_sum_to_const (block_size l) M))

  pub walk_size : (n : ℕ) (k : List ℕ) (R : Readings) (M : ℕ) → Levels n k
      → ((l : List ℕ) (i : ℕ) → NowhereHigher l k → i < block_size l → nat_abs (R l i) ≤ M)
      → nat_abs (rule w k (block_sum R)) ≤ 2 ^ units k * M
  walk_size n k R M v h =
      le_trans (rule_size w k (block_sum R) M (λ l q. block_size_lem R l M (λ i b. h l i q b)))
      (le_of_eq (ap (λ x. x * M) (sizes_units n k v)))

pub whole_bound : (n : ℕ) (k : List ℕ) (R : Readings) (M : ℕ) → Levels n k
    → ((l : List ℕ) (i : ℕ) → NowhereHigher l k → i < block_size l → nat_abs (R l i) ≤ M)
    → nat_abs (rule whole_weight k (block_sum R)) ≤ 2 ^ units k * M
whole_bound = walk_size whole_weight whole_size

pub difference_bound : (n : ℕ) (k : List ℕ) (R : Readings) (M : ℕ) → Levels n k
    → ((l : List ℕ) (i : ℕ) → NowhereHigher l k → i < block_size l → nat_abs (R l i) ≤ M)
    → nat_abs (rule difference_weight k (block_sum R)) ≤ 2 ^ units k * M
difference_bound = walk_size difference_weight difference_size
