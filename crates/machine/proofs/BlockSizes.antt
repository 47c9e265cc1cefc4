-- A block of eight axes within the ceilings has at most 2,048 points.
-- The idea: a level of 3 or more halves the bound by the excess, and without one there are at most two points to an axis.
-- Assumes nothing.
use mathlib.Core.Path.{◌≡◌, sym, ap, ◌∙◌}
use mathlib.Core.Logic.{◌⊎◌, inl, inr}
use mathlib.Core.List.{List, [], ◌∷◌}
use Prim.Native.Nat.{ℕ, zero, suc, ◌+◌, ◌*◌, ◌-◌, ◌^◌, ◌≤◌}
use native.Mathlib.Omega.{arith}
use native.Mathlib.Nat.{add-zero, mul-one, mul_assoc, mul_left_comm, le_trans, le_of_eq, mul-le-mul}
use lib.ListN.{length}
use lib.Pow.{pow-add, pow_mono}
use Rattle.rule.specs.Points.{new_count}
use Rattle.grid.specs.Index.{Within, excess}
use Rattle.grid.specs.Block.{block_size}
use Rattle.grid.proofs.LoopSteps.{size-excess}

-- an axis has at most two points, or half of what its level allows
axis_halved : (x : ℕ) → (new_count x ≤ 2) ⊎ (2 * new_count x ≤ 2 ^ (x - 1))
unfolding new_count
axis_halved zero = inl (omega arith)
axis_halved (suc zero) = inl (omega arith)
axis_halved (suc (suc zero)) = inl (omega arith)
axis_halved (suc (suc (suc l))) = inr (le_of_eq (sym (pow-add 2 1 (suc l)) ∙ ap (λ n. 2 ^ n) (omega arith)))

axis_excess : (x : ℕ) → new_count x ≤ 2 ^ (x - 1)
unfolding block_size excess
axis_excess x = le_trans (le_of_eq (sym (mul-one (new_count x)))) (le_trans (size-excess (x ∷ [])) (le_of_eq (rw (add-zero (x - 1)))))

-- so has a block
halved : (k : List ℕ) → (block_size k ≤ 2 ^ length k) ⊎ (2 * block_size k ≤ 2 ^ excess k)
unfolding block_size excess
halved [] = inl (omega arith)
halved (x ∷ xs) = go (axis_halved x) (halved xs)
  where
    by_excess : (c s : ℕ) → c * s ≤ 2 ^ (x - 1) * 2 ^ excess xs → c * s ≤ 2 ^ (x - 1 + excess xs)
    by_excess c s h = le_trans h (le_of_eq (sym (pow-add 2 (x - 1) (excess xs))))

    go : (new_count x ≤ 2) ⊎ (2 * new_count x ≤ 2 ^ (x - 1)) → (block_size xs ≤ 2 ^ length xs) ⊎ (2 * block_size xs ≤ 2 ^ excess xs)
        → (new_count x * block_size xs ≤ 2 ^ suc (length xs)) ⊎ (2 * (new_count x * block_size xs) ≤ 2 ^ (x - 1 + excess xs))
    go (inl h) (inl t) = inl (le_trans (mul-le-mul h t) (le_of_eq (sym (pow-add 2 1 (length xs)) ∙ ap (λ n. 2 ^ n) (omega arith))))
    go (inl h) (inr t) = inr (le_trans (le_of_eq (mul_left_comm 2 (new_count x) (block_size xs))) (by_excess (new_count x) (2 * block_size xs) (mul-le-mul (axis_excess x) t)))
    go (inr h) t = inr (le_trans (le_of_eq (sym (mul_assoc 2 (new_count x) (block_size xs)))) (by_excess (2 * new_count x) (block_size xs) (mul-le-mul h (size-excess xs))))

pub size_most : (k : List ℕ) → length k ≡ 8 → Within k → block_size k ≤ 2048
size_most k eight w = go (halved k)
  where
    go : (block_size k ≤ 2 ^ length k) ⊎ (2 * block_size k ≤ 2 ^ excess k) → block_size k ≤ 2048
    go (inl h) = le_trans h (pow_mono {i = length k} {j = 11} (omega (arith, eight)))
    go (inr h) = omega (arith, le_trans h (pow_mono {i = excess k} {j = 12} w.small))
