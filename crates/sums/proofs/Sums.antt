-- The laws of finite sums: only the summands count, sums are linear, two sums may be swapped, a sum may be cut and regrouped.
-- The idea: induction on the number of summands.
-- Assumes nothing.
use mathlib.Core.Path.{◌≡◌, refl, sym, ap, ap₂, ◌∙◌, fun_ext}
use mathlib.Core.List.{List, [], ◌∷◌, ◌++◌, map, Memᴰ}
use Prim.Native.Nat.{ℕ, zero, suc, ◌+◌, ◌*◌, ◌<◌}
use native.Mathlib.Nat as NatL
use native.Mathlib.Omega.{arith}
use lib.IntN.{ℤ, pos, neg_ℤ, ◌+ℤ◌, ◌*ℤ◌, +ℤ_idl, +ℤ_idr, +ℤ_assoc, *ℤ-zero, neg_ℤ-+ℤ}
use Rattle.sums.specs.Sums.{sum_to, sum_of}
use Rattle.sums.specs.Lists.{tabulate}
use Rattle.sums.proofs.Ring.{sums, distl}

-- ---- over the numbers below n

pub sum_to-suc : (n : ℕ) (f : ℕ → ℤ) → sum_to (suc n) f ≡ sum_to n f +ℤ f n
unfolding sum_to
sum_to-suc n f = refl

-- the first summand taken off instead of the last
pub sum_to-front : (n : ℕ) (f : ℕ → ℤ) → sum_to (suc n) f ≡ f 0 +ℤ sum_to n (λ i. f (suc i))
unfolding sum_to
sum_to-front zero f = +ℤ_idl (f 0) ∙ sym (+ℤ_idr (f 0))
sum_to-front (suc n) f =
    ap (λ x. x +ℤ f (suc n)) (sum_to-front n f) ∙ +ℤ_assoc (f 0) (sum_to n (λ i. f (suc i))) (f (suc n))

pub sum_to_cong : (n : ℕ) {f g : ℕ → ℤ} → ((i : ℕ) → f i ≡ g i) → sum_to n f ≡ sum_to n g
sum_to_cong n h = ap (sum_to n) (fun_ext h)

-- only the summands below n count
pub sum_to-cong< : (n : ℕ) (f g : ℕ → ℤ) → ((i : ℕ) → i < n → f i ≡ g i) → sum_to n f ≡ sum_to n g
unfolding sum_to
sum_to-cong< zero f g h = refl
sum_to-cong< (suc n) f g h = ap₂ ◌+ℤ◌ (sum_to-cong< n f g (λ i l. h i (omega arith))) (h n (omega arith))

pub sum_to-zero : (n : ℕ) → sum_to n (λ i. pos 0) ≡ pos 0
unfolding sum_to
sum_to-zero zero = refl
sum_to-zero (suc n) = rw (sum_to-zero n)

pub sum_to_add : (n : ℕ) (f g : ℕ → ℤ) → sum_to n (λ i. f i +ℤ g i) ≡ sum_to n f +ℤ sum_to n g
unfolding sum_to
sum_to_add zero f g = refl
sum_to_add (suc n) f g = rw (sum_to_add n f g) (simp sums)

pub sum_to_neg : (n : ℕ) (f : ℕ → ℤ) → sum_to n (λ i. neg_ℤ (f i)) ≡ neg_ℤ (sum_to n f)
unfolding sum_to
sum_to_neg zero f = refl
sum_to_neg (suc n) f = rw (sum_to_neg n f, neg_ℤ-+ℤ)

pub sum_to_mul : (n : ℕ) (a : ℤ) (f : ℕ → ℤ) → sum_to n (λ i. a *ℤ f i) ≡ a *ℤ sum_to n f
unfolding sum_to
sum_to_mul zero a f = rw *ℤ-zero
sum_to_mul (suc n) a f = rw (sum_to_mul n a f, distl)

pub sum_to_swap : (n m : ℕ) (f : ℕ → ℕ → ℤ)
    → sum_to n (λ i. sum_to m (λ j. f i j)) ≡ sum_to m (λ j. sum_to n (λ i. f i j))
unfolding sum_to
sum_to_swap zero m f = sym (sum_to-zero m)
sum_to_swap (suc n) m f = rw (sum_to_swap n m f, sum_to_add m (λ j. sum_to n (λ i. f i j)) (f n))

-- cut in two
pub sum_to-append : (n m : ℕ) (f : ℕ → ℤ) → sum_to (n + m) f ≡ sum_to n f +ℤ sum_to m (λ i. f (n + i))
unfolding sum_to
sum_to-append n zero f = rw NatL.add-zero (sym (+ℤ_idr (sum_to n f)))
sum_to-append n (suc m) f =
    rw NatL.add-suc
    (ap (λ x. x +ℤ f (n + m)) (sum_to-append n m f) ∙ +ℤ_assoc (sum_to n f) (sum_to m (λ i. f (n + i))) (f (n + m)))

-- cut into n runs of m
pub sum_to-runs : (n m : ℕ) (f : ℕ → ℤ) → sum_to (n * m) f ≡ sum_to n (λ p. sum_to m (λ q. f (p * m + q)))
unfolding sum_to
sum_to-runs zero m f = rw NatL.zero-mul
sum_to-runs (suc n) m f =
    rw NatL.suc-mul
    (sum_to-append (n * m) m f ∙ ap (λ x. x +ℤ sum_to m (λ q. f (n * m + q))) (sum_to-runs n m f))

-- ---- over a list

module _ {A : Type 0} where
  pub sum_of_cong : (l : List A) {f g : A → ℤ} → ((x : A) → f x ≡ g x) → sum_of l f ≡ sum_of l g
  sum_of_cong l h = ap (sum_of l) (fun_ext h)

  -- only the members count
  pub sum_of_cong_in : (l : List A) (f g : A → ℤ) → ((x : A) → Memᴰ x l → f x ≡ g x) → sum_of l f ≡ sum_of l g
  unfolding sum_of
  sum_of_cong_in [] f g h = refl
  sum_of_cong_in (x ∷ l) f g h =
      ap₂ ◌+ℤ◌ (h x (Memᴰ.head refl)) (sum_of_cong_in l f g (λ y m. h y (Memᴰ.tail m)))

  pub sum_of-zero : (l : List A) → sum_of l (λ i. pos 0) ≡ pos 0
  unfolding sum_of
  sum_of-zero [] = refl
  sum_of-zero (x ∷ l) = rw (sum_of-zero l)

  pub sum_of_add : (l : List A) (f g : A → ℤ) → sum_of l (λ i. f i +ℤ g i) ≡ sum_of l f +ℤ sum_of l g
  unfolding sum_of
  sum_of_add [] f g = refl
  sum_of_add (x ∷ l) f g = rw (sum_of_add l f g) (simp sums)

  pub sum_of_neg : (l : List A) (f : A → ℤ) → sum_of l (λ i. neg_ℤ (f i)) ≡ neg_ℤ (sum_of l f)
  unfolding sum_of
  sum_of_neg [] f = refl
  sum_of_neg (x ∷ l) f = rw (sum_of_neg l f, neg_ℤ-+ℤ)

  pub sum_of_mul : (l : List A) (a : ℤ) (f : A → ℤ) → sum_of l (λ i. a *ℤ f i) ≡ a *ℤ sum_of l f
  unfolding sum_of
  sum_of_mul [] a f = rw *ℤ-zero
  sum_of_mul (x ∷ l) a f = rw (sum_of_mul l a f, distl)

  pub sum_of-append : (l m : List A) (f : A → ℤ) → sum_of (l ++ m) f ≡ sum_of l f +ℤ sum_of m f
  unfolding sum_of
  sum_of-append [] m f = rw +ℤ_idl
  sum_of-append (x ∷ l) m f = rw (sum_of-append l m f, +ℤ_assoc)

  -- a sum over a list of sums over a range
  pub sum_of-sum_to : (l : List A) (m : ℕ) (f : A → ℕ → ℤ)
      → sum_of l (λ x. sum_to m (λ j. f x j)) ≡ sum_to m (λ j. sum_of l (λ x. f x j))
  unfolding sum_of
  sum_of-sum_to [] m f = rw sum_to-zero
  sum_of-sum_to (x ∷ l) m f = rw (sum_of-sum_to l m f, sum_to_add m (f x) (λ j. sum_of l (λ y. f y j)))

  -- over a list that is given by place
  pub sum_of-tabulate : (n : ℕ) (g : ℕ → A) (f : A → ℤ) → sum_of (tabulate n g) f ≡ sum_to n (λ i. f (g i))
  unfolding sum_of tabulate
  sum_of-tabulate zero g f = unfold sum_to in refl
  sum_of-tabulate (suc n) g f =
      ap (λ x. f (g 0) +ℤ x) (sum_of-tabulate n (λ i. g (suc i)) f) ∙ sym (sum_to-front n (λ i. f (g i)))

pub sum_of-map : {A B : Type 0} (g : B → A) (l : List B) (f : A → ℤ) → sum_of (map g l) f ≡ sum_of l (λ x. f (g x))
unfolding sum_of
sum_of-map g [] f = refl
sum_of-map g (x ∷ l) f = ap (λ y. f (g x) +ℤ y) (sum_of-map g l f)
