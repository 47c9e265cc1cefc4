-- Lists that are given by place: their length and their elements. Lists that are laid over another from a place on.
-- Assumes nothing.
use mathlib.Core.Path.{◌≡◌, refl, ap, ◌∙◌}
use mathlib.Core.List.Memᴰ
use mathlib.Core.List.{List, [], ◌∷◌, ◌++◌, Memᴰ}
use mathlib.Core.Logic.{⊎_elim}
use Prim.Native.Nat.{ℕ, zero, suc, ◌+◌, ◌<◌}
use native.Mathlib.Nat.{le_of_lt, add-zero, add-suc, suc-add}
use native.Mathlib.Numerals.{add-one}
use native.Mathlib.Omega.{arith}
use lib.ListN.{length, get_or, take, set}
use lib.Seq.{take-suc, length-take-le, sets}
use Rattle.sums.specs.Lists.{tabulate}

module _ {A : Type 0} where
  pub length-tabulate : (n : ℕ) (f : ℕ → A) → length (tabulate n f) ≡ n
  unfolding tabulate
  length-tabulate zero f = refl
  length-tabulate (suc n) f = ap suc (length-tabulate n (λ i. f (suc i)))

  pub get_d_tabulate : (n : ℕ) (f : ℕ → A) (i : ℕ) (d : A) → i < n → get_or (tabulate n f) i d ≡ f i
  unfolding tabulate
  get_d_tabulate zero f i d h = absurd (omega arith)
  get_d_tabulate (suc n) f zero d h = refl
  get_d_tabulate (suc n) f (suc i) d h = get_d_tabulate n (λ j. f (suc j)) i d (omega arith)

  pub in_tabulate : (n : ℕ) (f : ℕ → A) (i : ℕ) → i < n → Memᴰ (f i) (tabulate n f)
  unfolding tabulate
  in_tabulate zero f i h = absurd (omega arith)
  in_tabulate (suc n) f zero h = Memᴰ.head refl
  in_tabulate (suc n) f (suc i) h = Memᴰ.tail (in_tabulate n (λ j. f (suc j)) i (omega arith))

  -- every member stands at a place
  pub tabulate_in : (n : ℕ) (f : ℕ → A) (x : A) → Memᴰ x (tabulate n f) → (i : ℕ) × (i < n) × (x ≡ f i)
  unfolding tabulate
  tabulate_in zero f x m = absurd (Memᴰ.not-nil m)
  tabulate_in (suc n) f x m = ⊎_elim (λ e. (0, omega arith, e)) (λ q. later (tabulate_in n (λ i. f (suc i)) x q)) (Memᴰ.cases_cons m)
    where
      later : (i : ℕ) × (i < n) × (x ≡ f (suc i)) → (i : ℕ) × (i < suc n) × (x ≡ f i)
      later (i, h, e) = (suc i, omega arith, e)

  -- ---- laid over another list

  pub sets-append : (l : List A) (i : ℕ) (xs ys : List A) → sets l i (xs ++ ys) ≡ sets (sets l i xs) (i + length xs) ys
  sets-append l i [] ys = rw (add-zero i)
  sets-append l i (a ∷ xs) ys = sets-append (set l i a) (suc i) xs ys ∙ rw (suc-add i (length xs), ← add-suc i (length xs))

  -- one more element is written
  pub sets_step : (l : List A) (at : ℕ) (xs : List A) (j : ℕ) (z : A) → j < length xs
      → set (sets l at (take j xs)) (at + j) (get_or xs j z) ≡ sets l at (take (j + 1) xs)
  sets_step l at xs j z h =
      let hl : length (take j xs) ≡ j = length-take-le j xs (le_of_lt h) in
      rw (add-one j, take-suc xs j z h, sets-append l at (take j xs) (get_or xs j z ∷ []), hl)
