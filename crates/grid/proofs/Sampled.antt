-- Readings taken from a function on positions: the rules of an index are the rules of its axes, one inside the other.
-- The idea: at the point of the first axis that is visited p-th the readings that are left are those of the function with that position
-- fixed, walked under the next rank; and a sum over an axis is the same whichever way the axis goes.
-- Assumes nothing.
use mathlib.Core.Path.{◌≡◌, refl, sym, ap, ap₂, ◌∙◌}
use mathlib.Core.Logic.{◌⊎◌, inl, inr}
use mathlib.Core.Bool.{true}
use mathlib.Core.List.{List, [], ◌∷◌}
use Prim.Native.Nat.{ℕ, zero, suc, ◌+◌, ◌*◌, ◌-◌, ◌%◌, ◌<◌, ◌≤◌}
use native.Mathlib.Omega.{arith}
use lib.IntN.{ℤ, ◌+ℤ◌, ◌*ℤ◌, +ℤ_comm}
use Rattle.sums.specs.Sums.{sum_to}
use Rattle.sums.proofs.Sums.{sum_to-suc, sum_to-front, sum_to_cong, sum_to-cong<}
use Rattle.rule.specs.Points.{new_count, new_point}
use Rattle.rule.specs.Weights.{whole_weight, difference_weight}
use Rattle.rule.specs.Rules.{whole_rule, difference_rule}
use Rattle.rule.proofs.Rules as Axis
use Rattle.grid.specs.Index.{levels_within}
use Rattle.grid.specs.Block.{turned, block_size, point_after, point_of}
use Rattle.grid.specs.Difference.{Readings, difference_sum, behind}
use Rattle.grid.specs.Tensor.{tensor_sum}
use Rattle.grid.specs.Terms.{block_sum, tensor_product, sampled}
use Rattle.grid.proofs.Levels.{Levels, levels_sure}
use Rattle.grid.proofs.Turns.{even_or_odd, turned_even, turned-odd}
use Rattle.grid.proofs.Blocks.{at_digits}
use Rattle.grid.proofs.Rules.{rule_only, walk, walk_is, tensor_walk, difference_is}

-- the readings of the axes left, where the earlier axes' point has rank r
sampled_after : ℕ → (List ℕ → ℤ) → Readings
sampled_after r f = λ l n. f (point_after r l n)

-- with the first position fixed, the one visited p-th
behind-sampled : (r : ℕ) (f : List ℕ → ℤ) (l p : ℕ) (ls : List ℕ) (n : ℕ) → n < block_size ls
    → behind (sampled_after r f) l p ls n ≡ sampled_after (r * new_count l + p) (λ ps. f (new_point l (turned r (new_count l) p) ∷ ps)) ls n
unfolding behind sampled_after
behind-sampled r f l p ls n h = ap f (at_digits r l ls p n h)

-- a sum from the last to the first, and in whichever order an axis is visited
sum_back : (n : ℕ) (f : ℕ → ℤ) → sum_to n (λ i. f (n - 1 - i)) ≡ sum_to n f
unfolding sum_to
sum_back zero f = refl
sum_back (suc n) f =
    sum_to-front n (λ i. f (suc n - 1 - i))
    ∙ ap₂ ◌+ℤ◌ (ap f {x = suc n - 1 - 0} {y = n} (omega arith))
    (sum_to_cong n (λ i. ap f {x = suc n - 1 - suc i} {y = n - 1 - i} (omega arith)) ∙ sum_back n f)
    ∙ +ℤ_comm (f n) (sum_to n f)
    ∙ sym (sum_to-suc n f)

sum_turned : (r n : ℕ) (f : ℕ → ℤ) → sum_to n (λ i. f (turned r n i)) ≡ sum_to n f
sum_turned r n f = step (even_or_odd r)
  where
    step : (r % 2 ≡ 0) ⊎ (r % 2 ≡ 1) → sum_to n (λ i. f (turned r n i)) ≡ sum_to n f
    step (inl e) = sum_to_cong n (λ i. ap f (turned_even r n i e))
    step (inr e) = sum_to_cong n (λ i. ap f (turned-odd r n i e)) ∙ sum_back n f

walk_only : (w : ℕ → ℕ → ℤ) (k : List ℕ) (R S : Readings) → ((l : List ℕ) (n : ℕ) → n < block_size l → R l n ≡ S l n) → walk w k R ≡ walk w k S
unfolding block_sum
walk_only w k R S h =
    walk_is w k R
    ∙ rule_only w k (block_sum R) (block_sum S) (λ l q. sum_to-cong< (block_size l) (R l) (S l) (λ n b. h l n b))
    ∙ sym (walk_is w k S)

-- for any weights that are the weights of a rule along one axis
module _ (w : ℕ → ℕ → ℤ) (Q : ℕ → (ℕ → ℤ) → ℤ)
    (axis : (k : ℕ) → 1 ≤ k → k ≤ 8 → (g : ℕ → ℤ) → Q k g ≡ sum_to k (λ i. w k (suc i) *ℤ sum_to (new_count (suc i)) (λ n. g (new_point (suc i) n)))) where
  walk_after : (r : ℕ) (k : List ℕ) (f : List ℕ → ℤ) → Levels 8 k → walk w k (sampled_after r f) ≡ tensor_product Q k f
  unfolding walk tensor_product
  walk_after r [] f v = unfold sampled_after point_after in refl
  walk_after r (k ∷ ks) f v =
      sum_to_cong k (λ i. ap (λ x. w k (suc i) *ℤ x) (sum_to_cong (new_count (suc i)) (λ p.
      walk_only w ks (behind (sampled_after r f) (suc i) p) (sampled_after (r * new_count (suc i) + p) (λ ps. f (new_point (suc i) (turned r (new_count (suc i)) p) ∷ ps)))
      (λ l n b. behind-sampled r f (suc i) p l n b)
      ∙ walk_after (r * new_count (suc i) + p) ks (λ ps. f (new_point (suc i) (turned r (new_count (suc i)) p) ∷ ps)) v.2)
      ∙ sum_turned r (new_count (suc i)) (λ p. tensor_product Q ks (λ ps. f (new_point (suc i) p ∷ ps)))))
      ∙ sym (axis k v.0 v.1 (λ p. tensor_product Q ks (λ ps. f (p ∷ ps))))

  walk_sampled : (k : List ℕ) (f : List ℕ → ℤ) → Levels 8 k → walk w k (sampled f) ≡ tensor_product Q k f
  unfolding sampled sampled_after point_of
  walk_sampled k f v = walk_after 0 k f v

pub tensor_sampled : (k : List ℕ) (f : List ℕ → ℤ) → levels_within k ≡ true → tensor_sum k (sampled f) ≡ tensor_product whole_rule k f
tensor_sampled k f v = tensor_walk k (sampled f) ∙ walk_sampled whole_weight whole_rule Axis.whole_rule_lem k f (levels_sure k v)

pub difference_sampled : (k : List ℕ) (f : List ℕ → ℤ) → levels_within k ≡ true → difference_sum k (sampled f) ≡ tensor_product difference_rule k f
difference_sampled k f v =
    difference_is k (sampled f) ∙ sym (walk_is difference_weight k (sampled f))
    ∙ walk_sampled difference_weight difference_rule Axis.difference_rule_lem k f (levels_sure k v)
