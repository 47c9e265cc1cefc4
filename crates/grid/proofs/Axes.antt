-- Indices of d levels and of eight: neighbours, what is nowhere higher and tensor products are the same with level 1 appended.
-- The idea: what is appended stands behind the axes that change, and at level 1 there is one level and one point, the centre.
-- Assumes nothing.
use mathlib.Core.Path.{◌≡◌, refl, sym, ap, ap₂, ◌∙◌, fun_ext}
use mathlib.Core.Bool.{true, cond}
use mathlib.Core.List.{List, [], ◌∷◌, ◌++◌, map, map-append, head-eq_of_cons-eq, tail-eq_of_cons-eq}
use Prim.Native.Nat.{ℕ, zero, suc, ◌+◌, ◌-◌, ◌<◌, ◌≤◌}
use native.Mathlib.Omega.{arith}
use lib.ListN.{length, set, take, drop, replicate, length-append, length-replicate, length-drop, take-append-drop, get_or-replicate, replicate-append-replicate, get_or-append}
use lib.Seq.{length-take-le, set-append_left, get_or-drop, get_or-append-add}
use lib.IntN.{ℤ, pos, ◌-ℤ◌, ◌*ℤ◌, +ℤ_idr, *ℤ-zero}
use Rattle.sums.specs.Sums.{sum_of}
use Rattle.rule.specs.Points.{points}
use Rattle.rule.specs.Rules.{whole_rule, unit_step, difference_rule}
use Rattle.rule.proofs.Rules.{centre}
use Rattle.grid.specs.Index.{level, Within, within, Index, root, forward, backward, capped_axes, at_ceiling, NowhereHigher, in_front, lower}
use Rattle.grid.specs.Terms.{tensor_product, pad, centred}
use Rattle.grid.proofs.Levels.{within_sure, within_back, higher_cons, higher_empty, higher_not_empty, higher_head_low, higher_head_high, higher_tail}
use Rattle.grid.proofs.LevelOne.{within_same}

-- ---- the levels of a job's index

ones_list : (xs : List ℕ) (n : ℕ) → length xs ≡ n → ((a : ℕ) → a < n → level xs a ≡ 1) → xs ≡ replicate n 1
ones_list [] zero e h = refl
ones_list [] (suc n) e h = absurd (omega arith)
ones_list (x ∷ xs) zero e h = absurd (omega arith)
ones_list (x ∷ xs) (suc n) e h =
    ap₂ (λ (y : ℕ) (ys : List ℕ). y ∷ ys) (h 0 (omega arith)) (ones_list xs n (omega arith) (λ a q. h (suc a) (omega arith)))

module _ (d : ℕ) (k : List ℕ) (b : d ≤ 8) (v : Index d k) where
  behind_ones : drop d k ≡ replicate (8 - d) 1
  behind_ones =
      ones_list (drop d k) (8 - d) (length-drop d k ∙ ap (λ n. n - d) v.eight)
      (λ a h. get_or-drop d k a 0 ∙ v.beyond (d + a) (omega arith) (omega arith))

  levels_padded : k ≡ pad (8 - d) (take d k)
  unfolding pad
  levels_padded = sym (take-append-drop d k) ∙ ap (λ (r : List ℕ). take d k ++ r) behind_ones

  levels_length : length (take d k) ≡ d
  levels_length = length-take-le d k (omega (arith, v.eight))

  levels_within_lem : Within (take d k)
  levels_within_lem =
      within_sure (take d k)
      (sym (within_same (take d k) (8 - d)) ∙ ap within (sym levels_padded) ∙ within_back k v.ceilings)

  pub job_levels : (k ≡ pad (8 - d) (take d k)) × (length (take d k) ≡ d) × Within (take d k)
  job_levels = (levels_padded, levels_length, levels_within_lem)

pub pad-length : (k : List ℕ) (m : ℕ) → length (pad m k) ≡ length k + m
unfolding pad
pad-length k m = length-append k (replicate m 1) ∙ ap (λ n. length k + n) (length-replicate m 1)

level-behind : (k : List ℕ) (m a : ℕ) → length k ≤ a → a < length k + m → level (pad m k) a ≡ 1
unfolding pad
level-behind k m a h l =
    ap (level (k ++ replicate m 1)) (split (length k) a h) ∙ get_or-append-add k (replicate m 1) (a - length k) 0
    ∙ get_or-replicate m (a - length k) 1 0 (omega arith)
  where
    split : (n a : ℕ) → n ≤ a → a ≡ n + (a - n)
    split n a h = omega arith

pub job_index : (k : List ℕ) (m : ℕ) → length k + m ≡ 8 → Within k → Index (length k) (pad m k)
job_index k m e w =
    record {
      eight = pad-length k m ∙ e;
      ceilings = within_sure (pad m k) (within_same k m ∙ within_back k w);
      beyond = λ a h l. level-behind k m a h (omega arith);
    }

pub pad_once : (k l : List ℕ) (m : ℕ) → pad m k ≡ pad m l → k ≡ l
unfolding pad
pad_once [] [] m e = refl
pad_once [] (y ∷ l) m e = absurd (omega (arith, ap length e, length-append l (replicate m 1), length-replicate {A = ℕ} m 1))
pad_once (x ∷ k) [] m e = absurd (omega (arith, ap length e, length-append k (replicate m 1), length-replicate {A = ℕ} m 1))
pad_once (x ∷ k) (y ∷ l) m e =
    ap₂ (λ (z : ℕ) (zs : List ℕ). z ∷ zs) (head-eq_of_cons-eq e) (pad_once k l m (tail-eq_of_cons-eq e))

pub root_same : (d : ℕ) → d ≤ 8 → root ≡ pad (8 - d) (replicate d 1)
unfolding root pad
root_same d h = ap (λ n. replicate n 1) {x = 8} (whole d h) ∙ sym (replicate-append-replicate d (8 - d) 1)
  where
    whole : (d : ℕ) → d ≤ 8 → 8 ≡ d + (8 - d)
    whole d h = omega arith

-- ---- neighbours

pub level_same : (k : List ℕ) (m a : ℕ) → a < length k → level (pad m k) a ≡ level k a
unfolding pad
level_same k m a h = get_or-append k (replicate m 1) 0 a h

pub forward_same : (k : List ℕ) (m a : ℕ) → a < length k → forward (pad m k) a ≡ pad m (forward k a)
unfolding forward pad
forward_same k m a h =
    ap (λ x. set (k ++ replicate m 1) a (x + 1)) (level_same k m a h) ∙ set-append_left k (replicate m 1) a (level k a + 1) h

pub backward_same : (k : List ℕ) (m a : ℕ) → a < length k → backward (pad m k) a ≡ pad m (backward k a)
unfolding backward pad
backward_same k m a h =
    ap (λ x. set (k ++ replicate m 1) a (x - 1)) (level_same k m a h) ∙ set-append_left k (replicate m 1) a (level k a - 1) h

pub capped_same : (d : ℕ) (k : List ℕ) (m : ℕ) → d ≤ length k → capped_axes d (pad m k) ≡ capped_axes d k
unfolding capped_axes
capped_same zero k m h = refl
capped_same (suc a) k m h =
    ap₂ (λ n t. n + cond t 0 1) (capped_same a k m (omega arith)) (ap within (forward_same k m a (omega arith)) ∙ within_same (forward k a) m)

pub ceiling_same : (d : ℕ) (k : List ℕ) (m : ℕ) → d ≤ length k → at_ceiling d (pad m k) ≡ at_ceiling d k
unfolding at_ceiling
ceiling_same zero k m h = refl
ceiling_same (suc a) k m h =
    ap₂ (λ c t. cond t c true) (ceiling_same a k m (omega arith)) (ap within (forward_same k m a (omega arith)) ∙ within_same (forward k a) m)

-- ---- nowhere higher

ones_higher : (m : ℕ) → NowhereHigher (replicate m 1) (replicate m 1)
ones_higher zero = higher_empty
ones_higher (suc m) = higher_cons 1 1 (replicate m 1) (replicate m 1) (omega arith) (omega arith) (ones_higher m)

no_shorter : (x : ℕ) (l : List ℕ) → NowhereHigher (x ∷ l) [] → ⊥
no_shorter x l h = let e : suc (length l) ≡ 0 = h.axes in omega arith

pub higher_same : (l k : List ℕ) (m : ℕ) → NowhereHigher l k → NowhereHigher (pad m l) (pad m k)
unfolding pad
higher_same [] [] m h = ones_higher m
higher_same [] (k ∷ ks) m h = absurd (higher_not_empty k ks h)
higher_same (x ∷ l) [] m h = absurd (no_shorter x l h)
higher_same (x ∷ l) (k ∷ ks) m h =
    higher_cons x k (l ++ replicate m 1) (ks ++ replicate m 1) (higher_head_low x k l ks h) (higher_head_high x k l ks h)
    (higher_same l ks m (higher_tail x k l ks h))

pub higher_back : (l k : List ℕ) (m : ℕ) → NowhereHigher (pad m l) (pad m k) → NowhereHigher l k
unfolding pad
higher_back [] [] m h = higher_empty
higher_back [] (k ∷ ks) m h = absurd (omega (arith, h.axes, length-append ks (replicate m 1), length-replicate {A = ℕ} m 1))
higher_back (x ∷ l) [] m h = absurd (omega (arith, h.axes, length-append l (replicate m 1), length-replicate {A = ℕ} m 1))
higher_back (x ∷ l) (k ∷ ks) m h =
    higher_cons x k l ks (higher_head_low x k (l ++ replicate m 1) (ks ++ replicate m 1) h)
    (higher_head_high x k (l ++ replicate m 1) (ks ++ replicate m 1) h)
    (higher_back l ks m (higher_tail x k (l ++ replicate m 1) (ks ++ replicate m 1) h))

-- ---- the list of the indices nowhere higher

ones_lower : (m : ℕ) → lower (replicate m 1) ≡ replicate m 1 ∷ []
unfolding lower in_front
ones_lower zero = refl
ones_lower (suc m) = ap (map (λ (l : List ℕ). 1 ∷ l)) (ones_lower m)

front-padded : (i m : ℕ) (ls : List (List ℕ)) → map (λ (l : List ℕ). i ∷ l) (map (pad m) ls) ≡ map (pad m) (map (λ (l : List ℕ). i ∷ l) ls)
unfolding pad
front-padded i m [] = refl
front-padded i m (l ∷ ls) = ap (λ (r : List (List ℕ)). (i ∷ (l ++ replicate m 1)) ∷ r) (front-padded i m ls)

in_front-padded : (n m : ℕ) (ls : List (List ℕ)) → in_front n (map (pad m) ls) ≡ map (pad m) (in_front n ls)
unfolding in_front
in_front-padded zero m ls = refl
in_front-padded (suc n) m ls =
    ap₂ (λ (x y : List (List ℕ)). x ++ y) (in_front-padded n m ls) (front-padded (suc n) m ls)
    ∙ sym (map-append (pad m) (in_front n ls) (map (λ (l : List ℕ). suc n ∷ l) ls))

pub lower_same : (k : List ℕ) (m : ℕ) → lower (pad m k) ≡ map (pad m) (lower k)
unfolding lower pad
lower_same [] m = ones_lower m
lower_same (k ∷ ks) m = ap (in_front k) (lower_same ks m) ∙ in_front-padded k m (lower ks)

-- ---- tensor products of rules whose level 1 is the value at the centre

pub whole-none : (f : ℕ → ℤ) → whole_rule 0 f ≡ pos 0
unfolding whole_rule points sum_of
whole-none f = refl

difference_centre : (f : ℕ → ℤ) → difference_rule 1 f ≡ f 64
unfolding difference_rule
difference_centre f =
    ap₂ (λ x y. x -ℤ unit_step 1 *ℤ y) (centre f) (whole-none f) ∙ ap (λ x. f 64 -ℤ x) (*ℤ-zero (unit_step 1)) ∙ +ℤ_idr (f 64)

ones_product : (m : ℕ) (f : List ℕ → ℤ) → tensor_product difference_rule (replicate m 1) f ≡ f (replicate m 64)
unfolding tensor_product
ones_product zero f = refl
ones_product (suc m) f =
    difference_centre (λ p. tensor_product difference_rule (replicate m 1) (λ ps. f (p ∷ ps))) ∙ ones_product m (λ ps. f (64 ∷ ps))

pub product_same : (k : List ℕ) (m : ℕ) (f : List ℕ → ℤ) → tensor_product difference_rule (pad m k) f ≡ tensor_product difference_rule k (centred m f)
unfolding tensor_product pad centred
product_same [] m f = ones_product m f
product_same (k ∷ ks) m f = ap (difference_rule k) (fun_ext (λ p. product_same ks m (λ ps. f (p ∷ ps))))
