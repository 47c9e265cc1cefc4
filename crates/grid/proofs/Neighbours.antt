-- Neighbours: one level changed and the others kept; the way back; the root has none below it.
-- Assumes nothing.
use mathlib.Core.Path.{◌≡◌, refl, ap, ◌∙◌}
use mathlib.Core.Logic.{◌≢◌}
use mathlib.Core.List.{List, [], ◌∷◌}
use Prim.Native.Nat.{ℕ, zero, suc, ◌+◌, ◌-◌, ◌<◌, ◌≤◌}
use native.Mathlib.Decide.{dec_lt}
use native.Mathlib.Numerals.{add-one}
use native.Mathlib.Omega.{arith}
use lib.ListN.{length, set, replicate, length-set, get_or-replicate, get_or-eq_default}
use lib.Seq.{get_or-set_same, get_or-set_other, set-set, set-get_or}
use Rattle.grid.specs.Index.{level, excess, Within, levels_within, within, Index, root, forward, backward}
use Rattle.grid.proofs.Levels.{within_sure}

pub root_excess : excess root ≡ 0
unfolding excess root
root_excess = refl

pub root-level : (a : ℕ) → a < 8 → level root a ≡ 1
unfolding root
root-level a h = get_or-replicate 8 a 1 0 h

pub root_first : (a : ℕ) → 1 < level root a → ⊥
unfolding root
root_first a h = step (dec_lt a 8)
  where
    step : Dec (a < 8) → ⊥
    step (yes b) = omega (arith, root-level a b)
    step (no b) = let e : level (replicate 8 1) a ≡ 0 = get_or-eq_default (replicate 8 1) 0 {n = a} (omega arith) in omega arith

pub root-within : Within root
unfolding root within levels_within excess
root-within = within_sure root refl

pub root_index : (d : ℕ) → Index d root
unfolding root
root_index d = record { eight = refl; ceilings = root-within; beyond = λ a p h. root-level a h }

pub forward_length : (k : List ℕ) (a : ℕ) → length (forward k a) ≡ length k
unfolding forward
forward_length k a = length-set k a (level k a + 1)

pub backward-length : (k : List ℕ) (a : ℕ) → length (backward k a) ≡ length k
unfolding backward
backward-length k a = length-set k a (level k a - 1)

pub forward_level : (k : List ℕ) (a : ℕ) → a < length k → level (forward k a) a ≡ suc (level k a)
unfolding forward
forward_level k a h = get_or-set_same k a (level k a + 1) 0 h ∙ add-one (level k a)

pub forward_other : (k : List ℕ) (a b : ℕ) → b ≢ a → level (forward k a) b ≡ level k b
unfolding forward
forward_other k a b f = get_or-set_other k a b (level k a + 1) 0 f

pub backward-level : (k : List ℕ) (a : ℕ) → a < length k → level (backward k a) a ≡ level k a - 1
unfolding backward
backward-level k a h = get_or-set_same k a (level k a - 1) 0 h

pub backward_other : (k : List ℕ) (a b : ℕ) → b ≢ a → level (backward k a) b ≡ level k b
unfolding backward
backward_other k a b f = get_or-set_other k a b (level k a - 1) 0 f

-- one level set: the excess without it, and with the new one
set-excess : (k : List ℕ) (a x : ℕ) → a < length k → excess (set k a x) + (level k a - 1) ≡ excess k + (x - 1)
unfolding excess
set-excess [] a x h = absurd (omega arith)
set-excess (l ∷ ls) zero x h = omega arith
set-excess (l ∷ ls) (suc a) x h = omega (arith, set-excess ls a x (omega arith))

pub forward_excess : (k : List ℕ) (a : ℕ) → a < length k → 1 ≤ level k a → excess (forward k a) ≡ suc (excess k)
unfolding forward
forward_excess k a h l = omega (arith, set-excess k a (level k a + 1) h)

pub backward-excess : (k : List ℕ) (a : ℕ) → a < length k → 1 < level k a → suc (excess (backward k a)) ≡ excess k
unfolding backward
backward-excess k a h l = omega (arith, set-excess k a (level k a - 1) h)

up_down : (x : ℕ) → suc x - 1 ≡ x
up_down x = omega arith

down_up : (x : ℕ) → 1 < x → x - 1 + 1 ≡ x
down_up x h = omega arith

pub backward_forward : (k : List ℕ) (a : ℕ) → a < length k → backward (forward k a) a ≡ k
unfolding backward
backward_forward k a h =
    ap (λ x. set (forward k a) a (x - 1)) (forward_level k a h) ∙ ap (λ x. set (forward k a) a x) (up_down (level k a)) ∙ unfold forward in (set-set k a (level k a + 1) (level k a) ∙ set-get_or k a 0)

pub forward_backward : (k : List ℕ) (a : ℕ) → a < length k → 1 < level k a → forward (backward k a) a ≡ k
unfolding forward
forward_backward k a h l =
    ap (λ x. set (backward k a) a (x + 1)) (backward-level k a h) ∙ ap (λ x. set (backward k a) a x) (down_up (level k a) l) ∙ unfold backward in (set-set k a (level k a - 1) (level k a) ∙ set-get_or k a 0)
