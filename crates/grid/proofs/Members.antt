-- Indices in a list: the test, membership, and how often; subsets as a mixed adjoint difference.
-- The idea: the multiplicity of an index in a list turns a sum over the list into a sum over the box.
-- Assumes nothing.
use mathlib.Core.Path.{◌≡◌, refl, sym, ap, ap₂, ◌∙◌, subst}
use mathlib.Core.Logic.{◌≢◌, ◌⊎◌, inl, inr}
use mathlib.Core.Bool.{Bool, true, false, cond, ◌&&◌}
use mathlib.Core.List.Memᴰ
use mathlib.Core.List.{List, [], ◌∷◌, map, Memᴰ}
use Prim.Native.Nat.{ℕ, zero, suc, ◌<◌, ◌≤◌}
use native.Mathlib.Nat.{eq-or-lt_of_le}
use native.Mathlib.Omega.{arith}
use borrow.Author.Tests.{eq-eqb, ne_eqb, eqb-true}
use lib.Dec.{eqb}
use lib.ListN.{length}
use lib.IntN.{ℤ, pos, neg_ℤ, ◌+ℤ◌, ◌*ℤ◌, +ℤ_idl, +ℤ_idr, *ℤ-zero, zero-*ℤ}
use Rattle.sums.specs.Sums.{sum_to, sum_of}
use Rattle.sums.proofs.Ring.{distr, one-*ℤ, mul_one, *ℤ-assoc, neg_ℤ-*ℤ}
use Rattle.sums.proofs.Sums.{sum_to_cong, sum_to-cong<, sum_to-zero, sum_of_cong, sum_of-append, sum_of_neg, sum_of-map}
use Rattle.grid.specs.Coefficient.{same_levels, is_in, subsets, sign, raised_on, coefficient}
use Rattle.grid.specs.Terms.{NoDup}
use Rattle.grid.proofs.Levels.{Levels, and_left, and_right, and_both}
use Rattle.grid.proofs.Parts.{box_sum, box_sum_cong, box_sum_zero, box_sum_add, box_sum_mul, delta}

-- ---- the test

pub same_sure : (j k : List ℕ) → same_levels j k ≡ true → j ≡ k
unfolding same_levels
same_sure [] [] e = refl
same_sure [] (y ∷ ys) e = absurd (let z : ◌≡◌ {A = ℕ} 0 1 = cc in omega arith)
same_sure (x ∷ xs) [] e = absurd (let z : ◌≡◌ {A = ℕ} 0 1 = cc in omega arith)
same_sure (x ∷ xs) (y ∷ ys) e =
    ap₂ (λ (z : ℕ) (zs : List ℕ). z ∷ zs) (eqb-true x y (and_left (eqb x y) (same_levels xs ys) e)) (same_sure xs ys (and_right (eqb x y) (same_levels xs ys) e))

pub same_refl : (k : List ℕ) → same_levels k k ≡ true
unfolding same_levels
same_refl [] = refl
same_refl (x ∷ xs) = and_both (eqb x x) (same_levels xs xs) (eq-eqb x x refl) (same_refl xs)

-- two lists are the same, or the test says no
pub same_or : (j k : List ℕ) → (j ≡ k) ⊎ ((j ≢ k) × (same_levels j k ≡ false))
same_or j k = step (same_levels j k) refl
  where
    step : (t : Bool) → same_levels j k ≡ t → (j ≡ k) ⊎ ((j ≢ k) × (same_levels j k ≡ false))
    step true e = inl (same_sure j k e)
    step false e = inr ((λ p. let q : same_levels j k ≡ true = subst (λ x. same_levels j x ≡ true) p (same_refl j) in let z : ◌≡◌ {A = ℕ} 0 1 = cc in omega arith), e)

pub in_sure : (J : List (List ℕ)) (k : List ℕ) → is_in J k ≡ true → Memᴰ k J
unfolding is_in
in_sure [] k e = absurd (let z : ◌≡◌ {A = ℕ} 0 1 = cc in omega arith)
in_sure (j ∷ J) k e = step (same_levels j k) refl e (in_sure J k)
  where
    step : (t : Bool) → same_levels j k ≡ t → cond t true (is_in J k) ≡ true → (is_in J k ≡ true → Memᴰ k J) → Memᴰ k (j ∷ J)
    step true q e ih = Memᴰ.head (sym (same_sure j k q))
    step false q e ih = Memᴰ.tail (ih e)

pub in_back : (J : List (List ℕ)) (k : List ℕ) → Memᴰ k J → is_in J k ≡ true
unfolding is_in
in_back [] k m = absurd (Memᴰ.not-nil m)
in_back (j ∷ J) k m = step (same_levels j k) refl (in_back J k) (Memᴰ.cases_cons m)
  where
    step : (t : Bool) → same_levels j k ≡ t → (Memᴰ k J → is_in J k ≡ true) → (k ≡ j) ⊎ Memᴰ k J → cond t true (is_in J k) ≡ true
    step true q ih c = refl
    step false q ih (inl e) = absurd (let p : same_levels j k ≡ true = subst (λ x. same_levels j x ≡ true) (sym e) (same_refl j) in let z : ◌≡◌ {A = ℕ} 0 1 = cc in omega arith)
    step false q ih (inr m) = ih m

pub in_no : (J : List (List ℕ)) (k : List ℕ) → (Memᴰ k J → ⊥) → is_in J k ≡ false
in_no J k f = step (is_in J k) refl
  where
    step : (t : Bool) → is_in J k ≡ t → is_in J k ≡ false
    step true e = absurd (f (in_sure J k e))
    step false e = e

pub member : (J : List (List ℕ)) (k : List ℕ) → Memᴰ k J ⊎ (Memᴰ k J → ⊥)
member J k = step (is_in J k) refl
  where
    step : (t : Bool) → is_in J k ≡ t → Memᴰ k J ⊎ (Memᴰ k J → ⊥)
    step true e = inl (in_sure J k e)
    step false e = inr (λ m. let q : is_in J k ≡ true = in_back J k m in let z : ◌≡◌ {A = ℕ} 0 1 = cc in omega arith)

-- ---- one where an index stands in a list, and zero elsewhere

unfoldable pub characteristic : List (List ℕ) → List ℕ → ℤ
characteristic J k = cond (is_in J k) (pos 1) (pos 0)

pub characteristic_in : (J : List (List ℕ)) (k : List ℕ) → Memᴰ k J → characteristic J k ≡ pos 1
unfolding characteristic
characteristic_in J k m = rw (in_back J k m)

pub characteristic_out : (J : List (List ℕ)) (k : List ℕ) → (Memᴰ k J → ⊥) → characteristic J k ≡ pos 0
unfolding characteristic
characteristic_out J k f = rw (in_no J k f)

-- of a list with no element twice, one element at a time
same_one : List ℕ → List ℕ → ℤ
same_one j k = cond (same_levels j k) (pos 1) (pos 0)

characteristic_cons : (j : List ℕ) (J : List (List ℕ)) (k : List ℕ) → (Memᴰ j J → ⊥) → characteristic (j ∷ J) k ≡ same_one j k +ℤ characteristic J k
unfolding characteristic is_in same_one
characteristic_cons j J k f = step (same_or j k)
  where
    step : (j ≡ k) ⊎ ((j ≢ k) × (same_levels j k ≡ false))
        → cond (cond (same_levels j k) true (is_in J k)) (pos 1) (pos 0) ≡ cond (same_levels j k) (pos 1) (pos 0) +ℤ cond (is_in J k) (pos 1) (pos 0)
    step (inl e) = rw (← e, same_refl j, in_no J j f)
    step (inr q) = rw q.1 (sym (+ℤ_idl (cond (is_in J k) (pos 1) (pos 0))))

-- ---- a sum over the box that an index picks one summand of

equal_one : ℕ → ℕ → ℤ
equal_one m n = cond (eqb m n) (pos 1) (pos 0)

equal_yes : (m n : ℕ) (x : ℤ) → m ≡ n → equal_one m n *ℤ x ≡ x
unfolding equal_one
equal_yes m n x e = rw (eq-eqb m n e) (one-*ℤ x)

equal_no : (m n : ℕ) (x : ℤ) → m ≢ n → equal_one m n *ℤ x ≡ pos 0
unfolding equal_one
equal_no m n x f = rw (ne_eqb m n f) (zero-*ℤ x)

miss : (n j : ℕ) (f : ℕ → ℤ) → n < j → sum_to n (λ i. equal_one j (suc i) *ℤ f (suc i)) ≡ pos 0
miss n j f q =
    sum_to-cong< n (λ i. equal_one j (suc i) *ℤ f (suc i)) (λ i. pos 0) (λ i b. equal_no j (suc i) (f (suc i)) (omega arith))
    ∙ sum_to-zero n

pick : (n j : ℕ) (f : ℕ → ℤ) → 1 ≤ j → j ≤ n → sum_to n (λ i. equal_one j (suc i) *ℤ f (suc i)) ≡ f j
unfolding sum_to
pick zero j f h l = absurd (omega arith)
pick (suc n) j f h l = step (λ (m : j ≤ n). pick n j f h m) (eq-or-lt_of_le l)
  where
    step : (j ≤ n → sum_to n (λ i. equal_one j (suc i) *ℤ f (suc i)) ≡ f j) → (j ≡ suc n) ⊎ (j < suc n)
        → sum_to n (λ i. equal_one j (suc i) *ℤ f (suc i)) +ℤ equal_one j (suc n) *ℤ f (suc n) ≡ f j
    step ih (inl e) = ap₂ ◌+ℤ◌ (miss n j f (omega arith)) (equal_yes j (suc n) (f (suc n)) e ∙ ap f (sym e)) ∙ +ℤ_idl (f j)
    step ih (inr b) = ap₂ ◌+ℤ◌ (ih (omega arith)) (equal_no j (suc n) (f (suc n)) (omega arith)) ∙ +ℤ_idr (f j)

same_cons : (x y : ℕ) (xs ys : List ℕ) → same_one (x ∷ xs) (y ∷ ys) ≡ equal_one x y *ℤ same_one xs ys
unfolding same_one equal_one same_levels
same_cons x y xs ys = step (eqb x y)
  where
    step : (t : Bool) → cond (t && same_levels xs ys) (pos 1) (pos 0) ≡ cond t (pos 1) (pos 0) *ℤ cond (same_levels xs ys) (pos 1) (pos 0)
    step true = sym (one-*ℤ (cond (same_levels xs ys) (pos 1) (pos 0)))
    step false = sym (zero-*ℤ (cond (same_levels xs ys) (pos 1) (pos 0)))

box_pick : (n : ℕ) (j : List ℕ) (f : List ℕ → ℤ) → Levels n j → box_sum n (length j) (λ k. same_one j k *ℤ f k) ≡ f j
unfolding box_sum
box_pick n [] f w = unfold same_one same_levels in one-*ℤ (f [])
box_pick n (x ∷ xs) f w =
    sum_to_cong n (λ i.
    box_sum_cong n (length xs) (λ l. ap (λ y. y *ℤ f (suc i ∷ l)) (same_cons x (suc i) xs l) ∙ *ℤ-assoc (equal_one x (suc i)) (same_one xs l) (f (suc i ∷ l)))
    ∙ box_sum_mul n (length xs) (equal_one x (suc i)) (λ l. same_one xs l *ℤ f (suc i ∷ l))
    ∙ ap (λ y. equal_one x (suc i) *ℤ y) (box_pick n xs (λ l. f (suc i ∷ l)) w.2))
    ∙ pick n x (λ i. f (i ∷ xs)) w.0 w.1

-- a sum over a list with no element twice is a sum over the box
pub sum_of_box : (n d : ℕ) (J : List (List ℕ)) (f : List ℕ → ℤ) → ((j : List ℕ) → Memᴰ j J → (length j ≡ d) × Levels n j) → NoDup J
    → sum_of J f ≡ box_sum n d (λ k. characteristic J k *ℤ f k)
unfolding sum_of
sum_of_box n d [] f h u = sym (box_sum_cong n d (λ k. ap (λ x. x *ℤ f k) (characteristic_out [] k Memᴰ.not-nil) ∙ zero-*ℤ (f k)) ∙ box_sum_zero n d)
sum_of_box n d (j ∷ J) f h u =
    ap₂ ◌+ℤ◌ (sym (rw (h j (Memᴰ.head refl)).0 at (box_pick n j f (h j (Memᴰ.head refl)).1)))
    (sum_of_box n d J f (λ k m. h k (Memᴰ.tail m)) u.1)
    ∙ sym (box_sum_add n d (λ k. same_one j k *ℤ f k) (λ k. characteristic J k *ℤ f k))
    ∙ box_sum_cong n d (λ k. sym (ap (λ x. x *ℤ f k) (characteristic_cons j J k u.0) ∙ distr (same_one j k) (characteristic J k) (f k)))

-- ---- subsets

pub subset_delta : (k : List ℕ) (χ : List ℕ → ℤ) → sum_of (subsets (length k)) (λ S. sign S *ℤ χ (raised_on k S)) ≡ delta k χ
unfolding subsets sign raised_on delta sum_of
subset_delta [] χ = +ℤ_idr (pos 1 *ℤ χ []) ∙ one-*ℤ (χ [])
subset_delta (k ∷ ks) χ =
    sum_of-append (map (λ (S : List Bool). false ∷ S) (subsets (length ks))) (map (λ (S : List Bool). true ∷ S) (subsets (length ks)))
    (λ S. sign S *ℤ χ (raised_on (k ∷ ks) S))
    ∙ ap₂ ◌+ℤ◌
    (sum_of-map (λ (S : List Bool). false ∷ S) (subsets (length ks)) (λ S. sign S *ℤ χ (raised_on (k ∷ ks) S)) ∙ subset_delta ks (λ l. χ (k ∷ l)))
    (sum_of-map (λ (S : List Bool). true ∷ S) (subsets (length ks)) (λ S. sign S *ℤ χ (raised_on (k ∷ ks) S))
    ∙ sum_of_cong (subsets (length ks)) (λ S. neg_ℤ-*ℤ (sign S) (χ (suc k ∷ raised_on ks S)))
    ∙ sum_of_neg (subsets (length ks)) (λ S. sign S *ℤ χ (suc k ∷ raised_on ks S))
    ∙ ap neg_ℤ (subset_delta ks (λ l. χ (suc k ∷ l))))

-- a term of the coefficient: the sign where the raised index stands in the list
pub signed : (t : Bool) (s : ℤ) → cond t s (pos 0) ≡ s *ℤ cond t (pos 1) (pos 0)
signed true s = sym (mul_one s)
signed false s = sym (*ℤ-zero s)

pub coefficient_delta : (J : List (List ℕ)) (k : List ℕ) → coefficient J k ≡ delta k (characteristic J)
unfolding coefficient characteristic
coefficient_delta J k =
    sum_of_cong (subsets (length k)) (λ S. signed (is_in J (raised_on k S)) (sign S)) ∙ subset_delta k (characteristic J)
