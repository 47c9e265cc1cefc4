-- What one turn of each loop of the code does to the definition that its contract cites.
-- The idea: a definition over all axes equals what the axes passed have come to, joined with the definition over the axes left.
-- Assumes nothing.
use mathlib.Core.Path.{◌≡◌, refl, sym, ap, ◌∙◌}
use mathlib.Core.Bool.{Bool, true, false, not, ◌&&◌}
use mathlib.Core.List.{List, [], ◌∷◌, ◌++◌}
use Prim.Native.Nat.{ℕ, zero, suc, ◌+◌, ◌*◌, ◌-◌, ◌/◌, ◌%◌, ◌^◌, ◌<◌, ◌≤◌}
use native.Mathlib.Nat as NatL
use native.Mathlib.Nat.{le_trans, le_of_eq, mul-le-mul, mul-div_cancel_left}
use native.Mathlib.Numerals.{add-one}
use native.Mathlib.Omega.{arith}
use borrow.Author.Tests.{eq-eqb, ne_eqb, le-leb, leb-true}
use lib.Bits.{bit_and, and_mask}
use lib.Dec.{leb, eqb}
use lib.IntN.{ℤ, pos, neg_ℤ, neg_ℤ-neg_ℤ}
use lib.ListN.{length, take, drop, set, drop_of_length-le}
use lib.Pow.{pow-add, pow_mono, pow_pos, shr-shr}
use lib.Seq.{drop-cons, take-suc-set, drop-set-lt, take-suc, append_snoc}
use Rattle.rule.specs.Points.{new_count, new_point}
use Rattle.grid.specs.Index.{level, excess, Within, levels_within, within}
use Rattle.grid.specs.Block.{turned as turned_at, block_size, point_after}
use Rattle.grid.specs.Coefficient.{sign, raised_on, marks}
use Rattle.grid.proofs.Levels.{Levels, within_levels}

-- the axes from the a-th on: the first of them and the rest
pub axis_left : (k : List ℕ) (a : ℕ) → a < length k → drop a k ≡ level k a ∷ drop (a + 1) k
axis_left k a h = rw (add-one a) (drop-cons k a 0 h)

pub none_left : (k : List ℕ) (a : ℕ) → length k ≤ a → drop a k ≡ []
none_left k a h = drop_of_length-le k h

-- ---- the ceilings

pub levels_step : (k : List ℕ) (a : ℕ) → a < length k → 1 ≤ level k a → level k a ≤ 8 → levels_within (drop a k) ≡ levels_within (drop (a + 1) k)
unfolding levels_within
levels_step k a h p q = rw (axis_left k a h, le-leb 1 (level k a) p, le-leb (level k a) 8 q)

pub levels_outside : (k : List ℕ) (a : ℕ) → a < length k → ((1 ≤ level k a) × (level k a ≤ 8) → ⊥) → levels_within (drop a k) ≡ false
unfolding levels_within
levels_outside k a h f = rw (axis_left k a h) (by (leb 1 (level k a)) (leb (level k a) 8) refl refl)
  where
    by : (p q : Bool) → leb 1 (level k a) ≡ p → leb (level k a) 8 ≡ q → (p && q && levels_within (drop (a + 1) k)) ≡ false
    by false q d e = refl
    by true false d e = refl
    by true true d e = absurd (f (leb-true 1 (level k a) d, leb-true (level k a) 8 e))

pub excess_step : (k : List ℕ) (a : ℕ) → a < length k → excess (drop a k) ≡ (level k a - 1) + excess (drop (a + 1) k)
unfolding excess
excess_step k a h = rw (axis_left k a h)

pub within_no : (k : List ℕ) → levels_within k ≡ false → within k ≡ false
unfolding within
within_no k e = rw e

pub within-yes : (k : List ℕ) → levels_within k ≡ true → within k ≡ leb (excess k) 12
unfolding within
within-yes k e = rw e

pub levels_done : (k : List ℕ) (a : ℕ) → length k ≤ a → levels_within (drop a k) ≡ true
unfolding levels_within
levels_done k a h = rw (none_left k a h)

pub excess-done : (k : List ℕ) (a : ℕ) → length k ≤ a → excess (drop a k) ≡ 0
unfolding excess
excess-done k a h = rw (none_left k a h)

-- ---- block sizes

pub size_step : (k : List ℕ) (a : ℕ) → a < length k → block_size (drop a k) ≡ new_count (level k a) * block_size (drop (a + 1) k)
unfolding block_size
size_step k a h = rw (axis_left k a h)

pub size-done : (k : List ℕ) (a : ℕ) → length k ≤ a → block_size (drop a k) ≡ 1
unfolding block_size
size-done k a h = rw (none_left k a h)

pub count_pos : (l : ℕ) → 1 ≤ l → 1 ≤ new_count l
unfolding new_count
count_pos zero h = absurd (omega arith)
count_pos (suc zero) h = omega arith
count_pos (suc (suc zero)) h = omega arith
count_pos (suc (suc (suc l))) h = pow_pos (suc l)

count_le : (l : ℕ) → new_count l ≤ 2 ^ (l - 1)
unfolding new_count
count_le zero = omega arith
count_le (suc zero) = omega arith
count_le (suc (suc zero)) = omega arith
count_le (suc (suc (suc l))) = pow_mono {i = suc l} {j = suc (suc (suc l)) - 1} (omega arith)

pub size-pos : (n : ℕ) (k : List ℕ) → Levels n k → 1 ≤ block_size k
unfolding block_size
size-pos n [] w = omega arith
size-pos n (x ∷ xs) w = product (new_count x) (block_size xs) (count_pos x w.0) (size-pos n xs w.2)
  where
    product : (a b : ℕ) → 1 ≤ a → 1 ≤ b → 1 ≤ a * b
    product a b p q = le_trans (omega arith) (mul-le-mul p q)

pub size-excess : (k : List ℕ) → block_size k ≤ 2 ^ excess k
unfolding block_size excess
size-excess [] = omega arith
size-excess (x ∷ xs) = le_trans (mul-le-mul (count_le x) (size-excess xs)) (le_of_eq (sym (pow-add 2 (x - 1) (excess xs))))

-- within the ceilings a block has at most 4,096 points
pub size_small : (k : List ℕ) → Within k → block_size k ≤ 4096
size_small k w = le_trans (size-excess k) (pow_mono {i = excess k} {j = 12} w.small)

pub levels_drop : (n : ℕ) (k : List ℕ) (a : ℕ) → Levels n k → Levels n (drop a k)
levels_drop n [] zero w = tt
levels_drop n [] (suc a) w = tt
levels_drop n (x ∷ xs) zero w = w
levels_drop n (x ∷ xs) (suc a) w = levels_drop n xs a w.2

pub size-left-pos : (k : List ℕ) (a : ℕ) → Within k → 1 ≤ block_size (drop a k)
size-left-pos k a w = size-pos 8 (drop a k) (levels_drop 8 k a (within_levels k w))

-- a factor of a number is no more than the number
pub factor_le : (a b n : ℕ) → 1 ≤ b → n ≡ a * b → a ≤ n
factor_le a b n h e = le_trans (le_of_eq (sym (NatL.mul-one a))) (le_trans (mul-le-mul (NatL.le_refl a) h) (le_of_eq (sym e)))

-- the size so far times that of the axes left is the whole: one axis more
pub size_next : (k : List ℕ) (a s n : ℕ) → a < length k → n ≡ new_count (level k a) → block_size k ≡ s * block_size (drop a k)
    → block_size k ≡ s * n * block_size (drop (a + 1) k)
size_next k a s n h p e =
    e ∙ ap (λ x. s * x) (size_step k a h ∙ ap (λ c. c * block_size (drop (a + 1) k)) (sym p)) ∙ sym (NatL.mul_assoc s n (block_size (drop (a + 1) k)))

pub size_part : (k : List ℕ) (a s : ℕ) → Within k → block_size k ≡ s * block_size (drop a k) → s ≤ 4096
size_part k a s w e = le_trans (factor_le s (block_size (drop a k)) (block_size k) (size-left-pos k a w) e) (size_small k w)

-- ---- points

pub point_step : (r : ℕ) (k : List ℕ) (a n : ℕ) → a < length k
    → point_after r (drop a k) n
    ≡ new_point (level k a) (turned_at r (new_count (level k a)) (n / block_size (drop (a + 1) k)))
    ∷ point_after (r * new_count (level k a) + n / block_size (drop (a + 1) k)) (drop (a + 1) k) (n % block_size (drop (a + 1) k))
unfolding point_after
point_step r k a n h = rw (axis_left k a h)

pub point_done : (r : ℕ) (k : List ℕ) (a n : ℕ) → length k ≤ a → point_after r (drop a k) n ≡ []
unfolding point_after
point_done r k a n h = rw (none_left k a h)

-- an element is stored at the end of what is done
pub store_next : (p rest : List ℕ) (a x : ℕ) → a < length p → take (a + 1) (set p a x) ++ rest ≡ take a p ++ (x ∷ rest)
store_next p rest a x h = rw (add-one a, take-suc-set p a x h) (append_snoc (take a p) x rest)

pub count_out : (c s : ℕ) → 1 ≤ c → c * s / c ≡ s
count_out c s h = mul-div_cancel_left s h

-- ---- subsets

-- the bit that the code tests
pub bit_is : (m a : ℕ) → bit_and (m / 2 ^ a) 1 ≡ m / 2 ^ a % 2
bit_is m a = and_mask (m / 2 ^ a) 1

next_bit : (m a : ℕ) → m / 2 ^ a / 2 ≡ m / 2 ^ (a + 1)
next_bit m a = shr-shr m a 1

marks-left : (m a : ℕ) → a < 8 → marks (8 - a) (m / 2 ^ a) ≡ eqb (m / 2 ^ a % 2) 1 ∷ marks (8 - (a + 1)) (m / 2 ^ (a + 1))
unfolding marks
marks-left m a h = rw (one_more a h, ← (next_bit m a))
  where
    one_more : (a : ℕ) → a < 8 → 8 - a ≡ suc (8 - (a + 1))
    one_more a h = omega arith

pub marks_in : (m a : ℕ) → a < 8 → bit_and (m / 2 ^ a) 1 ≡ 1 → marks (8 - a) (m / 2 ^ a) ≡ true ∷ marks (8 - (a + 1)) (m / 2 ^ (a + 1))
marks_in m a h e = marks-left m a h ∙ ap (λ t. t ∷ marks (8 - (a + 1)) (m / 2 ^ (a + 1))) (eq-eqb (m / 2 ^ a % 2) 1 (sym (bit_is m a) ∙ e))

pub marks_out : (m a : ℕ) → a < 8 → (bit_and (m / 2 ^ a) 1 ≡ 1 → ⊥) → marks (8 - a) (m / 2 ^ a) ≡ false ∷ marks (8 - (a + 1)) (m / 2 ^ (a + 1))
marks_out m a h f = marks-left m a h ∙ ap (λ t. t ∷ marks (8 - (a + 1)) (m / 2 ^ (a + 1))) (ne_eqb (m / 2 ^ a % 2) 1 (λ e. f (bit_is m a ∙ e)))

-- a sign turned where the number of marks so far is odd
unfoldable pub turned : Bool → ℤ → ℤ
turned true z = neg_ℤ z
turned false z = z

turned-not : (t : Bool) (z : ℤ) → turned (not t) z ≡ turned t (neg_ℤ z)
unfolding turned
turned-not true z = sym (neg_ℤ-neg_ℤ z)
turned-not false z = refl

pub sign_start : (m : ℕ) → sign (marks 8 m) ≡ turned false (sign (marks (8 - 0) (m / 2 ^ 0)))
unfolding turned
sign_start m = ap (λ x. sign (marks 8 x)) (sym (NatL.div-one m))

pub sign_in : (m a : ℕ) (t : Bool) → a < 8 → bit_and (m / 2 ^ a) 1 ≡ 1 → turned t (sign (marks (8 - a) (m / 2 ^ a))) ≡ turned (not t) (sign (marks (8 - (a + 1)) (m / 2 ^ (a + 1))))
unfolding sign
sign_in m a t h e = rw (marks_in m a h e) (sym (turned-not t (sign (marks (8 - (a + 1)) (m / 2 ^ (a + 1))))))

pub sign_out : (m a : ℕ) (t : Bool) → a < 8 → (bit_and (m / 2 ^ a) 1 ≡ 1 → ⊥) → turned t (sign (marks (8 - a) (m / 2 ^ a))) ≡ turned t (sign (marks (8 - (a + 1)) (m / 2 ^ (a + 1))))
unfolding sign
sign_out m a t h f = rw (marks_out m a h f)

pub sign-done : (m a : ℕ) (t : Bool) → 8 ≤ a → turned t (sign (marks (8 - a) (m / 2 ^ a))) ≡ turned t (pos 1)
unfolding sign marks
sign-done m a t h = rw (zero_left a h)
  where
    zero_left : (a : ℕ) → 8 ≤ a → 8 - a ≡ 0
    zero_left a h = omega arith

-- what is raised so far, and the rest still to be raised
unfoldable pub raising : List ℕ → ℕ → ℕ → List ℕ
raising r m a = take a r ++ raised_on (drop a r) (marks (8 - a) (m / 2 ^ a))

pub raising_start : (r : List ℕ) (m : ℕ) → raised_on r (marks 8 m) ≡ raising r m 0
unfolding raising
raising_start r m = ap (λ x. raised_on r (marks 8 x)) (sym (NatL.div-one m))

pub raising_in : (r : List ℕ) (m a : ℕ) → a < 8 → length r ≡ 8 → bit_and (m / 2 ^ a) 1 ≡ 1 → raising r m a ≡ raising (set r a (level r a + 1)) m (a + 1)
unfolding raising
raising_in r m a h e b =
    rw (axis_left r a (omega arith), marks_in m a h b) (unfold raised_on in
    sym (rw (beyond r a (level r a + 1)) (store_next r (raised_on (drop (a + 1) r) (marks (8 - (a + 1)) (m / 2 ^ (a + 1)))) a (level r a + 1) (omega arith)) ∙ ap (λ x. take a r ++ (x ∷ raised_on (drop (a + 1) r) (marks (8 - (a + 1)) (m / 2 ^ (a + 1))))) (add-one (level r a))))
  where
    beyond : (r : List ℕ) (a x : ℕ) → drop (a + 1) (set r a x) ≡ drop (a + 1) r
    beyond r a x = drop-set-lt (a + 1) r a x (omega arith)

pub raising_out : (r : List ℕ) (m a : ℕ) → a < 8 → length r ≡ 8 → (bit_and (m / 2 ^ a) 1 ≡ 1 → ⊥) → raising r m a ≡ raising r m (a + 1)
unfolding raising
raising_out r m a h e f =
    rw (axis_left r a (omega arith), marks_out m a h f) (unfold raised_on in
    sym (rw (add-one a, take-suc r a 0 (omega arith)) (append_snoc (take a r) (level r a) (raised_on (drop (suc a) r) (marks (8 - (suc a)) (m / 2 ^ (suc a)))))))
