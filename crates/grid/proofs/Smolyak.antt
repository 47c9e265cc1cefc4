-- Over the simplex of document 004 the combination coefficient is (−1)^(q−|k|) · C(d−1, q−|k|), and the cross total is its formula of A(q, d).
-- The idea: whether a raised index is in the simplex depends on the sum of its levels alone, so the coefficient is the d-th difference of the
-- step at q, one difference for each axis: the first is 1 at q alone, and each further one is a row of Pascal's triangle with signs.
-- Assumes nothing.
use mathlib.Core.Path.{◌≡◌, refl, sym, ap, ap₂, ◌∙◌}
use mathlib.Core.Logic.{◌⊎◌, inl, inr, ⊎_elim}
use mathlib.Core.Bool.{Bool, true, false, cond}
use mathlib.Core.List.Memᴰ
use mathlib.Core.List.{List, [], ◌∷◌, ◌++◌, Memᴰ}
use Prim.Native.Nat.{ℕ, zero, suc, ◌+◌, ◌-◌, ◌<◌, ◌≤◌}
use native.Mathlib.Nat.{add-suc, suc-add, le_trans}
use native.Mathlib.Decide.{dec_le}
use native.Mathlib.Omega.{arith}
use borrow.Author.Tests.{leb-true, leb-false, le-leb, lt-leb}
use lib.Dec.{leb}
use lib.ListN.{length, replicate, length-append, length-replicate, get_or-replicate}
use lib.IntN.{ℤ, pos, neg_ℤ, ◌+ℤ◌, ◌-ℤ◌, ◌*ℤ◌, +ℤ_idl, *ℤ-zero, zero-*ℤ}
use Rattle.sums.specs.Sums.{sum_of}
use Rattle.sums.proofs.Ring.{ring}
use Rattle.sums.proofs.Sums.{sum_of_cong_in}
use Rattle.rule.specs.Rules.{unit}
use Rattle.grid.specs.Index.{level, excess, Within, NowhereHigher, lower}
use Rattle.grid.specs.Difference.{Readings, units, scaled_mean}
use Rattle.grid.specs.Coefficient.{coefficient}
use Rattle.grid.specs.Tensor.{tensor_rule}
use Rattle.grid.specs.Cross.{cross_total}
use Rattle.grid.specs.Terms.{NoDup}
use Rattle.grid.specs.Smolyak.{level_sum, binomial, minus_one_to, Simplex, up_to_sum, simplex_of, from_sum}
use Rattle.grid.proofs.Levels.{within_levels}
use Rattle.grid.proofs.Lower.{lower_sure, lower_back, lower_once}
use Rattle.grid.proofs.Parts.{delta}
use Rattle.grid.proofs.Members.{characteristic, characteristic_in, characteristic_out, coefficient_delta}
use Rattle.grid.proofs.Combine.{Closed, identity_on}

-- ---- levels from 1 up

abbrev Low : List ℕ → Type 0
Low [] = Unit {0}
Low (x ∷ xs) = (1 ≤ x) × Low xs

low-from : (k : List ℕ) → ((a : ℕ) → a < length k → 1 ≤ level k a) → Low k
low-from [] h = tt
low-from (x ∷ xs) h = (h 0 (omega arith), low-from xs (λ a q. h (suc a) (omega arith)))

low_at : (k : List ℕ) → Low k → (a : ℕ) → a < length k → 1 ≤ level k a
low_at [] w a h = absurd (omega arith)
low_at (x ∷ xs) w zero h = w.0
low_at (x ∷ xs) w (suc a) h = low_at xs w.1 a (omega arith)

sum_excess : (k : List ℕ) → Low k → level_sum k ≡ excess k + length k
unfolding level_sum excess
sum_excess [] w = refl
sum_excess (x ∷ xs) w = omega (arith, sum_excess xs w.1, w.0)

level-excess : (k : List ℕ) (a : ℕ) → a < length k → level k a ≤ excess k + 1
unfolding excess
level-excess [] a h = absurd (omega arith)
level-excess (x ∷ xs) zero h = omega arith
level-excess (x ∷ xs) (suc a) h = omega (arith, level-excess xs a (omega arith))

-- the adjoint difference asks at lists of as many levels, each from 1 up
delta_low : (k : List ℕ) (χ ψ : List ℕ → ℤ) → Low k → ((l : List ℕ) → length l ≡ length k → Low l → χ l ≡ ψ l) → delta k χ ≡ delta k ψ
unfolding delta
delta_low [] χ ψ w h = h [] refl tt
delta_low (k ∷ ks) χ ψ w h =
    ap₂ ◌-ℤ◌ (delta_low ks (λ l. χ (k ∷ l)) (λ l. ψ (k ∷ l)) w.1 (λ l e v. h (k ∷ l) (ap suc e) (w.0, v)))
    (delta_low ks (λ l. χ (suc k ∷ l)) (λ l. ψ (suc k ∷ l)) w.1 (λ l e v. h (suc k ∷ l) (ap suc e) (omega arith, v)))

-- ---- differences of a function of the sum

-- n times: the value less the value one higher
steps : ℕ → (ℕ → ℤ) → ℕ → ℤ
steps zero g s = g s
steps (suc n) g s = steps n g s -ℤ steps n g (suc s)

steps_shift : (n : ℕ) (g : ℕ → ℤ) (k s : ℕ) → steps n (λ t. g (k + t)) s ≡ steps n g (k + s)
unfolding steps
steps_shift zero g k s = refl
steps_shift (suc n) g k s = ap₂ ◌-ℤ◌ (steps_shift n g k s) (steps_shift n g k (suc s) ∙ ap (steps n g) (add-suc k s))

delta_steps : (k : List ℕ) (g : ℕ → ℤ) → delta k (λ l. g (level_sum l)) ≡ steps (length k) g (level_sum k)
unfolding delta level_sum steps
delta_steps [] g = refl
delta_steps (k ∷ ks) g =
    ap₂ ◌-ℤ◌ (delta_steps ks (λ s. g (k + s)) ∙ steps_shift (length ks) g k (level_sum ks))
    (delta_steps ks (λ s. g (suc k + s)) ∙ steps_shift (length ks) g (suc k) (level_sum ks) ∙ ap (steps (length ks) g) (suc-add k (level_sum ks)))

-- ---- differences of the step at q

up_to : ℕ → ℕ → ℤ
up_to q s = cond (leb s q) (pos 1) (pos 0)

up_below : (q s : ℕ) → s ≤ q → up_to q s ≡ pos 1
unfolding up_to
up_below q s h = rw (le-leb s q h)

up_above : (q s : ℕ) → q < s → up_to q s ≡ pos 0
unfolding up_to
up_above q s h = rw (lt-leb s q h)

steps_above : (n q s : ℕ) → q < s → steps n (up_to q) s ≡ pos 0
unfolding steps
steps_above zero q s h = up_above q s h
steps_above (suc n) q s h = ap₂ ◌-ℤ◌ (steps_above n q s h) (steps_above n q (suc s) (omega arith))

binomial-none : (n : ℕ) → binomial n 0 ≡ 1
unfolding binomial
binomial-none zero = refl
binomial-none (suc n) = refl

binomial_beyond : (n j : ℕ) → n < j → binomial n j ≡ 0
unfolding binomial
binomial_beyond zero zero h = absurd (omega arith)
binomial_beyond zero (suc j) h = refl
binomial_beyond (suc n) zero h = absurd (omega arith)
binomial_beyond (suc n) (suc j) h = ap₂ ◌+◌ (binomial_beyond n j (omega arith)) (binomial_beyond n (suc j) (omega arith))

pascal : (m a b : ℤ) → neg_ℤ m *ℤ b -ℤ m *ℤ a ≡ neg_ℤ m *ℤ (a +ℤ b)
pascal m a b = simp ring

one_on : (s j : ℕ) → s + suc j ≡ suc s + j
one_on s j = omega arith

steps_in : (n j s : ℕ) → steps (suc n) (up_to (s + j)) s ≡ minus_one_to j *ℤ pos (binomial n j)
unfolding steps minus_one_to binomial
steps_in zero zero s = ap₂ ◌-ℤ◌ (up_below (s + 0) s (omega arith)) (up_above (s + 0) (suc s) (omega arith))
steps_in zero (suc j) s =
    ap₂ ◌-ℤ◌ (up_below (s + suc j) s (omega arith)) (up_below (s + suc j) (suc s) (omega arith)) ∙ sym (*ℤ-zero (neg_ℤ (minus_one_to j)))
steps_in (suc n) zero s =
    ap₂ ◌-ℤ◌ (steps_in n zero s ∙ ap (λ x. pos 1 *ℤ pos x) (binomial-none n)) (steps_above (suc n) (s + 0) (suc s) (omega arith))
steps_in (suc n) (suc j) s =
    ap₂ ◌-ℤ◌ (steps_in n (suc j) s) (ap (λ q. steps (suc n) (up_to q) (suc s)) (one_on s j) ∙ steps_in n j (suc s))
    ∙ pascal (minus_one_to j) (pos (binomial n j)) (pos (binomial n (suc j)))

-- ---- the simplex

one_less : (d : ℕ) → 1 ≤ d → d ≡ suc (d - 1)
one_less d h = omega arith

module _ (d q : ℕ) (J : List (List ℕ)) (some : 1 ≤ d) (whole : Simplex d q J) where
  characteristic_is : (l : List ℕ) → length l ≡ d → Low l → characteristic J l ≡ up_to q (level_sum l)
  characteristic_is l e w = step (dec_le (level_sum l) q)
    where
      step : Dec (level_sum l ≤ q) → characteristic J l ≡ up_to q (level_sum l)
      step (yes h) =
          characteristic_in J l (whole.all l e (λ a b. low_at l w a (omega arith)) h) ∙ sym (up_below q (level_sum l) h)
      step (no h) = characteristic_out J l (λ m. h (whole.small l m)) ∙ sym (up_above q (level_sum l) (omega arith))

  levels_low : (k : List ℕ) → Memᴰ k J → Low k
  levels_low k m = low-from k (λ a h. whole.low k a m (omega (arith, whole.axes k m)))

  pub coefficient_is : (k : List ℕ) → Memᴰ k J → coefficient J k ≡ minus_one_to (q - level_sum k) *ℤ pos (binomial (d - 1) (q - level_sum k))
  coefficient_is k m =
      coefficient_delta J k
      ∙ delta_low k (characteristic J) (λ l. up_to q (level_sum l)) (levels_low k m) (λ l e w. characteristic_is l (e ∙ whole.axes k m) w)
      ∙ delta_steps k (up_to q)
      ∙ ap₂ (λ n s. steps n (up_to s) (level_sum k)) (whole.axes k m ∙ one_less d some) (rest (level_sum k) q (whole.small k m))
      ∙ steps_in (d - 1) (q - level_sum k) (level_sum k)
    where
      rest : (s q : ℕ) → s ≤ q → q ≡ s + (q - s)
      rest s q h = omega arith

  pub coefficient_zero : (k : List ℕ) → Memᴰ k J → d ≤ q → level_sum k < q - d + 1 → coefficient J k ≡ pos 0
  coefficient_zero k m b h =
      coefficient_is k m
      ∙ ap (λ x. minus_one_to (q - level_sum k) *ℤ pos x) (binomial_beyond (d - 1) (q - level_sum k) (omega arith))
      ∙ *ℤ-zero (minus_one_to (q - level_sum k))

module _ (d q : ℕ) (J : List (List ℕ)) (whole : Simplex d q J) where
  small_excess : (k : List ℕ) → Memᴰ k J → q ≤ d + 7 → excess k ≤ 7
  small_excess k m h =
      omega (arith, sum_excess k (low-from k (λ a b. whole.low k a m (omega (arith, whole.axes k m)))), whole.axes k m, whole.small k m)

  pub within_ceilings : (k : List ℕ) → Memᴰ k J → q ≤ d + 7 → Within k
  within_ceilings k m h =
      record {
        low = λ a b. whole.low k a m (omega (arith, whole.axes k m));
        high = λ a b. omega (arith, level-excess k a b, small_excess k m h);
        small = omega (arith, small_excess k m h);
      }

-- ---- the formula of A(q, d)

-- terms that are 0 may be left out
sum_left_out : (s : ℕ) (J : List (List ℕ)) (f : List ℕ → ℤ) → ((k : List ℕ) → Memᴰ k J → level_sum k < s → f k ≡ pos 0) → sum_of J f ≡ sum_of (from_sum s J) f
unfolding sum_of from_sum
sum_left_out s [] f h = refl
sum_left_out s (x ∷ J) f h = step (leb s (level_sum x)) refl (sum_left_out s J f (λ k m. h k (Memᴰ.tail m)))
  where
    step : (t : Bool) → leb s (level_sum x) ≡ t → sum_of J f ≡ sum_of (from_sum s J) f
        → f x +ℤ sum_of J f ≡ sum_of (cond t (x ∷ from_sum s J) (from_sum s J)) f
    step true e ih = ap (λ y. f x +ℤ y) ih
    step false e ih =
        ap₂ ◌+ℤ◌ (h x (Memᴰ.head refl) (omega (arith, leb-false s (level_sum x) e))) ih ∙ +ℤ_idl (sum_of (from_sum s J) f)

module _ (d q : ℕ) (J : List (List ℕ)) (R : Readings) (some : 1 ≤ d) (whole : Simplex d q J) where
  -- a term of the source's formula
  term : List ℕ → ℤ
  term k = minus_one_to (q - level_sum k) *ℤ pos (binomial (d - 1) (q - level_sum k)) *ℤ tensor_rule k R

  term_is : (k : List ℕ) → Memᴰ k J → coefficient J k *ℤ tensor_rule k R ≡ term k
  unfolding term
  term_is k m = ap (λ x. x *ℤ tensor_rule k R) (coefficient_is d q J some whole k m)

  pub sum : cross_total J R ≡ sum_of J (λ k. minus_one_to (q - level_sum k) *ℤ pos (binomial (d - 1) (q - level_sum k)) *ℤ tensor_rule k R)
  unfolding cross_total term
  sum = sum_of_cong_in J (λ k. coefficient J k *ℤ tensor_rule k R) term term_is

  pub sum_from : d ≤ q
      → cross_total J R ≡ sum_of (from_sum (q - d + 1) J) (λ k. minus_one_to (q - level_sum k) *ℤ pos (binomial (d - 1) (q - level_sum k)) *ℤ tensor_rule k R)
  unfolding term
  sum_from more = sum ∙ sum_left_out (q - d + 1) J term none
    where
      none : (k : List ℕ) → Memᴰ k J → level_sum k < q - d + 1 → term k ≡ pos 0
      none k m h =
          sym (term_is k m) ∙ ap (λ x. x *ℤ tensor_rule k R) (coefficient_zero d q J some whole k m more h) ∙ zero-*ℤ (tensor_rule k R)

-- ---- and its definition, the sum of the differences

-- each axis above level 1 has a part in the excess, so the units are at most twice that
unit_twice : (x : ℕ) → unit x ≤ (x - 1) + (x - 1)
unfolding unit
unit_twice zero = omega arith
unit_twice (suc zero) = omega arith
unit_twice (suc (suc x)) = omega arith

units_twice : (k : List ℕ) → units k ≤ excess k + excess k
unfolding units excess
units_twice [] = omega arith
units_twice (x ∷ xs) = omega (arith, units_twice xs, unit_twice x)

low_in : (p : List ℕ) (m : ℕ) (l : List ℕ) → Low (p ++ (suc (suc m) ∷ l)) → Low (p ++ (suc m ∷ l))
low_in [] m l w = (omega arith, w.1)
low_in (x ∷ p) m l w = (w.0, low_in p m l w.1)

sum_in : (p : List ℕ) (m : ℕ) (l : List ℕ) → level_sum (p ++ (suc m ∷ l)) ≤ level_sum (p ++ (suc (suc m) ∷ l))
unfolding level_sum
sum_in [] m l = omega arith
sum_in (x ∷ p) m l = omega (arith, sum_in p m l)

length_in : (p : List ℕ) (x y : ℕ) (l : List ℕ) → length (p ++ (x ∷ l)) ≡ length (p ++ (y ∷ l))
length_in p x y l = length-append p (x ∷ l) ∙ sym (length-append p (y ∷ l))

module _ (d q : ℕ) (J : List (List ℕ)) (R : Readings) (some : 1 ≤ d) (few : q ≤ d + 7) (whole : Simplex d q J) where
  closed : Closed J
  closed p m l n =
      whole.all (p ++ (suc m ∷ l)) e
      (λ a h. low_at (p ++ (suc m ∷ l)) (low_in p m l (levels_low d q J some whole (p ++ (suc (suc m) ∷ l)) n)) a (omega (arith, e)))
      (le_trans (sum_in p m l) (whole.small (p ++ (suc (suc m) ∷ l)) n))
    where
      e : length (p ++ (suc m ∷ l)) ≡ d
      e = length_in p (suc m) (suc (suc m)) l ∙ whole.axes (p ++ (suc (suc m) ∷ l)) n

  within : (k : List ℕ) → Memᴰ k J → Within k
  within k m = within_ceilings d q J whole k m few

  pub sum_of_differences : scaled_mean J R ≡ cross_total J R
  sum_of_differences =
      identity_on 8 (d - 1) (omega arith) J (λ k m. (whole.axes k m ∙ one_less d some, within_levels k (within k m))) whole.once closed
      (λ k m. omega (arith, units_twice k, small_excess d q J whole k m few)) R

-- ---- there is a simplex for every d and q

kept_in : (q : ℕ) (ks : List (List ℕ)) (k : List ℕ) → Memᴰ k (up_to_sum q ks) → Memᴰ k ks × (level_sum k ≤ q)
unfolding up_to_sum
kept_in q [] k m = absurd (Memᴰ.not-nil m)
kept_in q (x ∷ ks) k m = step (leb (level_sum x) q) refl m (kept_in q ks k)
  where
    later : Memᴰ k ks × (level_sum k ≤ q) → Memᴰ k (x ∷ ks) × (level_sum k ≤ q)
    later (r, h) = (Memᴰ.tail r, h)

    step : (t : Bool) → leb (level_sum x) q ≡ t → Memᴰ k (cond t (x ∷ up_to_sum q ks) (up_to_sum q ks))
        → (Memᴰ k (up_to_sum q ks) → Memᴰ k ks × (level_sum k ≤ q)) → Memᴰ k (x ∷ ks) × (level_sum k ≤ q)
    step true e m ih =
        ⊎_elim (λ p. (Memᴰ.head p, omega (arith, leb-true (level_sum x) q e, ap level_sum p))) (λ r. later (ih r)) (Memᴰ.cases_cons m)
    step false e m ih = later (ih m)

in_kept : (q : ℕ) (ks : List (List ℕ)) (k : List ℕ) → level_sum k ≤ q → Memᴰ k ks → Memᴰ k (up_to_sum q ks)
unfolding up_to_sum
in_kept q [] k h m = absurd (Memᴰ.not-nil m)
in_kept q (x ∷ ks) k h m = step (leb (level_sum x) q) refl (in_kept q ks k h) (Memᴰ.cases_cons m)
  where
    step : (t : Bool) → leb (level_sum x) q ≡ t → (Memᴰ k ks → Memᴰ k (up_to_sum q ks)) → (k ≡ x) ⊎ Memᴰ k ks
        → Memᴰ k (cond t (x ∷ up_to_sum q ks) (up_to_sum q ks))
    step true e ih (inl p) = Memᴰ.head p
    step true e ih (inr r) = Memᴰ.tail (ih r)
    step false e ih (inl p) = absurd (omega (arith, leb-false (level_sum x) q e, ap level_sum p))
    step false e ih (inr r) = ih r

kept_once : (q : ℕ) (ks : List (List ℕ)) → NoDup ks → NoDup (up_to_sum q ks)
unfolding up_to_sum
kept_once q [] u = tt
kept_once q (x ∷ ks) u = step (leb (level_sum x) q) (kept_once q ks u.1)
  where
    step : (t : Bool) → NoDup (up_to_sum q ks) → NoDup (cond t (x ∷ up_to_sum q ks) (up_to_sum q ks))
    step true w = (λ m. u.0 (kept_in q ks x m).0, w)
    step false w = w

level_sum_lem : (k : List ℕ) (a : ℕ) → a < length k → level k a ≤ level_sum k
unfolding level_sum
level_sum_lem [] a h = absurd (omega arith)
level_sum_lem (x ∷ xs) zero h = omega arith
level_sum_lem (x ∷ xs) (suc a) h = omega (arith, level_sum_lem xs a (omega arith))

module _ (d q : ℕ) where
  below : (k : List ℕ) → Memᴰ k (simplex_of d q) → NowhereHigher k (replicate d q)
  unfolding simplex_of
  below k m = lower_sure (replicate d q) k (kept_in q (lower (replicate d q)) k m).0

  highest : (k : List ℕ) → length k ≡ d → ((a : ℕ) → a < d → 1 ≤ level k a) → level_sum k ≤ q → NowhereHigher k (replicate d q)
  highest k e w h =
      record {
        axes = e ∙ sym (length-replicate d q);
        low = λ a b. w a (omega (arith, length-replicate d q));
        high = λ a b. at a (omega (arith, length-replicate d q));
      }
    where
      at : (a : ℕ) → a < d → level k a ≤ level (replicate d q) a
      at a b = omega (arith, level_sum_lem k a (omega arith), get_or-replicate d a q 0 b)

  pub simplex : Simplex d q (simplex_of d q)
  unfolding simplex_of
  simplex =
      record {
        once = kept_once q (lower (replicate d q)) (lower_once (replicate d q));
        axes = λ k m. (below k m).axes ∙ length-replicate d q;
        low = λ k a m h. (below k m).low a (omega (arith, length-replicate d q));
        small = λ k m. (kept_in q (lower (replicate d q)) k m).1;
        all = λ k e w h. in_kept q (lower (replicate d q)) k h (lower_back (replicate d q) k (highest k e w h));
      }
