-- The size of a sum is at most the sum of the sizes, the size of a product the product of the sizes; sums of natural numbers.
-- The idea: by the signs, then induction on the number of summands.
-- Assumes nothing.
use mathlib.Core.Path.{◌≡◌, refl, sym, ap, ap₂, fun_ext}
use mathlib.Core.Bool.{Bool, true, false, cond}
use mathlib.Core.List.{List, [], ◌∷◌, Memᴰ}
use Prim.Native.Nat.{ℕ, zero, suc, ◌+◌, ◌*◌, ◌-◌, ◌<◌, ◌≤◌}
use native.Mathlib.Nat as NatL
use native.Mathlib.Nat.{le_refl}
use native.Mathlib.Omega.{arith}
use lib.Dec.{T, ltb, ltb→lt}
use lib.IntN.{ℤ, pos, negsuc, neg_ℤ, nat_abs, sub_ℕ, ◌+ℤ◌, ◌*ℤ◌}
use lib.ListN.{length}
use Rattle.sums.specs.Sums.{sum_to, sum_of, nat_sum_to}

abs_sub : (a b : ℕ) → nat_abs (sub_ℕ a b) ≤ a + b
abs_sub a b = step (ltb a b) (ltb→lt a b)
  where
    step : (t : Bool) → (T t → a < b) → nat_abs (cond t (negsuc (b - suc a)) (pos (a - b))) ≤ a + b
    step true h = omega (arith, h tt)
    step false h = omega arith

pub abs_neg : (a : ℤ) → nat_abs (neg_ℤ a) ≡ nat_abs a
abs_neg (pos zero) = refl
abs_neg (pos (suc n)) = refl
abs_neg (negsuc n) = refl

pub abs_add : (a b : ℤ) → nat_abs (a +ℤ b) ≤ nat_abs a + nat_abs b
abs_add (pos a) (pos b) = le_refl (a + b)
abs_add (pos a) (negsuc b) = abs_sub a (suc b)
abs_add (negsuc a) (pos b) = omega (arith, abs_sub b (suc a))
abs_add (negsuc a) (negsuc b) = omega arith

pub abs_mul : (a b : ℤ) → nat_abs (a *ℤ b) ≡ nat_abs a * nat_abs b
abs_mul (pos a) (pos b) = refl
abs_mul (pos a) (negsuc b) = abs_neg (pos (a * suc b))
abs_mul (negsuc a) (pos b) = abs_neg (pos (suc a * b))
abs_mul (negsuc a) (negsuc b) = refl

-- ---- sums of natural numbers

pub nat_sum_to-suc : (n : ℕ) (f : ℕ → ℕ) → nat_sum_to (suc n) f ≡ nat_sum_to n f + f n
unfolding nat_sum_to
nat_sum_to-suc n f = refl

pub nat_sum_to_cong : (n : ℕ) {f g : ℕ → ℕ} → ((i : ℕ) → f i ≡ g i) → nat_sum_to n f ≡ nat_sum_to n g
nat_sum_to_cong n h = ap (nat_sum_to n) (fun_ext h)

pub nat_sum_to-cong< : (n : ℕ) (f g : ℕ → ℕ) → ((i : ℕ) → i < n → f i ≡ g i) → nat_sum_to n f ≡ nat_sum_to n g
unfolding nat_sum_to
nat_sum_to-cong< zero f g h = refl
nat_sum_to-cong< (suc n) f g h = ap₂ ◌+◌ (nat_sum_to-cong< n f g (λ i l. h i (omega arith))) (h n (omega arith))

pub nat_sum_to_mul : (n : ℕ) (f : ℕ → ℕ) (m : ℕ) → nat_sum_to n (λ i. f i * m) ≡ nat_sum_to n f * m
unfolding nat_sum_to
nat_sum_to_mul zero f m = sym (NatL.zero-mul m)
nat_sum_to_mul (suc n) f m = rw (nat_sum_to_mul n f m) (omega arith)

pub nat_sum_to_const : (n m : ℕ) → nat_sum_to n (λ i. m) ≡ n * m
unfolding nat_sum_to
nat_sum_to_const zero m = omega arith
nat_sum_to_const (suc n) m = omega (arith, nat_sum_to_const n m)

pub nat_sum_to-append : (n m : ℕ) (f : ℕ → ℕ) → nat_sum_to (n + m) f ≡ nat_sum_to n f + nat_sum_to m (λ i. f (n + i))
unfolding nat_sum_to
nat_sum_to-append n zero f = rw NatL.add-zero (omega arith)
nat_sum_to-append n (suc m) f = rw NatL.add-suc (omega (arith, nat_sum_to-append n m f))

-- some of the summands come to no more than all
pub nat_sum_to-some : (n a m : ℕ) (f : ℕ → ℕ) → a + n ≤ m → nat_sum_to n (λ i. f (a + i)) ≤ nat_sum_to m f
nat_sum_to-some n a m f h =
    let e : a + n + (m - (a + n)) ≡ m = omega arith in
    omega (arith, nat_sum_to-append a n f, nat_sum_to-append (a + n) (m - (a + n)) f, ap (λ x. nat_sum_to x f) e)

-- a sum of natural numbers is the sum of the same whole numbers
pub sum_to-pos : (n : ℕ) (f : ℕ → ℕ) → sum_to n (λ i. pos (f i)) ≡ pos (nat_sum_to n f)
unfolding sum_to nat_sum_to
sum_to-pos zero f = refl
sum_to-pos (suc n) f = ap (λ x. x +ℤ pos (f n)) (sum_to-pos n f)

-- ---- the size of a sum

pub abs_sum_to : (n : ℕ) (f : ℕ → ℤ) (g : ℕ → ℕ) → ((i : ℕ) → i < n → nat_abs (f i) ≤ g i)
    → nat_abs (sum_to n f) ≤ nat_sum_to n g
unfolding sum_to nat_sum_to
abs_sum_to zero f g h = omega arith
abs_sum_to (suc n) f g h =
    omega (arith, abs_add (sum_to n f) (f n), abs_sum_to n f g (λ i l. h i (omega arith)), h n (omega arith))

-- summands of size at most m over a list
pub abs_sum_of : {A : Type 0} (l : List A) (f : A → ℤ) (m : ℕ) → ((x : A) → Memᴰ x l → nat_abs (f x) ≤ m)
    → nat_abs (sum_of l f) ≤ length l * m
unfolding sum_of
abs_sum_of [] f m h = omega arith
abs_sum_of (x ∷ l) f m h =
    omega (arith, abs_add (f x) (sum_of l f), h x (Memᴰ.head refl), abs_sum_of l f m (λ y q. h y (Memᴰ.tail q)))
