-- The largest difference of a list: an induction over the list, the first one against the largest of the rest. Assumes nothing.
use mathlib.Core.Path.{◌≡◌, refl, sym, ap, ap₂, ◌∙◌, subst}
use mathlib.Core.Logic.{◌⊎◌, inl, inr, ⊎_elim}
use mathlib.Core.List.Memᴰ
use mathlib.Core.List.{List, [], ◌∷◌, map, Memᴰ}
use Prim.Native.Nat.{ℕ, zero, suc, ◌<◌, ◌≤◌}
use native.Mathlib.Nat.{le_trans, le_of_eq}
use native.Mathlib.Decide.{dec_lt}
use native.Mathlib.Omega.{arith}
use borrow.Author.Tests.{le-leb, lt-leb}
use lib.IntN.{ℤ, nat_abs}
use lib.ListN.{length, get_or}
use Rattle.grid.specs.Difference.{Readings, scaled_difference}
use Rattle.grid.specs.Terms.{Agree, pad, padded}
use Rattle.grid.specs.Largest.{larger, largest_difference, FirstLargest, LargestFacts}
use Rattle.grid.proofs.Differences.{difference_only}
use Rattle.grid.proofs.LevelOne.{difference_same}

-- ---- the larger of two

pub larger-first : (x y : ℤ) → nat_abs y ≤ nat_abs x → larger x y ≡ x
unfolding larger
larger-first x y h = rw (le-leb (nat_abs y) (nat_abs x) h)

pub larger_second : (x y : ℤ) → nat_abs x < nat_abs y → larger x y ≡ y
unfolding larger
larger_second x y h = rw (lt-leb (nat_abs y) (nat_abs x) h)

-- which of the two it is
kept : (x y : ℤ) → ((larger x y ≡ x) × (nat_abs y ≤ nat_abs x)) ⊎ ((larger x y ≡ y) × (nat_abs x < nat_abs y))
kept x y = by (dec_lt (nat_abs x) (nat_abs y))
  where
    by : Dec (nat_abs x < nat_abs y) → ((larger x y ≡ x) × (nat_abs y ≤ nat_abs x)) ⊎ ((larger x y ≡ y) × (nat_abs x < nat_abs y))
    by (yes h) = inr (larger_second x y h, h)
    by (no f) = let h : nat_abs y ≤ nat_abs x = omega (arith, f) in inl (larger-first x y h, h)

-- neither is larger
first_least : (x y : ℤ) → nat_abs x ≤ nat_abs (larger x y)
first_least x y = ⊎_elim (λ h. le_of_eq (sym (ap nat_abs h.0))) (λ h. omega (arith, ap nat_abs h.0, h.1)) (kept x y)

second_least : (x y : ℤ) → nat_abs y ≤ nat_abs (larger x y)
second_least x y = ⊎_elim (λ h. omega (arith, ap nat_abs h.0, h.1)) (λ h. le_of_eq (sym (ap nat_abs h.0))) (kept x y)

-- both are at most b
pub larger_bounded : (x y : ℤ) (b : ℕ) → nat_abs x ≤ b → nat_abs y ≤ b → nat_abs (larger x y) ≤ b
larger_bounded x y b p q = ⊎_elim (λ h. omega (arith, ap nat_abs h.0, p)) (λ h. omega (arith, ap nat_abs h.0, q)) (kept x y)

-- ---- the largest of a list

no_larger : (J : List (List ℕ)) (R : Readings) (k : List ℕ) → Memᴰ k J → nat_abs (scaled_difference k R) ≤ nat_abs (largest_difference J R)
unfolding largest_difference
no_larger [] R k m = absurd (Memᴰ.not-nil m)
no_larger (j ∷ js) R k m =
    ⊎_elim (λ e. subst (λ (l : List ℕ). nat_abs (scaled_difference l R) ≤ nat_abs (larger (scaled_difference j R) (largest_difference js R))) (sym e) (first_least (scaled_difference j R) (largest_difference js R)))
    (λ later. le_trans (no_larger js R k later) (second_least (scaled_difference j R) (largest_difference js R)))
    (Memᴰ.cases_cons m)

pub bounded : (J : List (List ℕ)) (R : Readings) (b : ℕ) → ((k : List ℕ) → Memᴰ k J → nat_abs (scaled_difference k R) ≤ b) → nat_abs (largest_difference J R) ≤ b
unfolding largest_difference
bounded [] R b h = omega arith
bounded (j ∷ js) R b h = larger_bounded (scaled_difference j R) (largest_difference js R) b (h j (Memᴰ.head refl)) (bounded js R b (λ k m. h k (Memᴰ.tail m)))

pub only : (J : List (List ℕ)) (R Q : Readings) → ((k : List ℕ) → Memᴰ k J → Agree k R Q) → largest_difference J R ≡ largest_difference J Q
unfolding largest_difference
only [] R Q h = refl
only (j ∷ js) R Q h = ap₂ larger (difference_only j R Q (h j (Memᴰ.head refl))) (only js R Q (λ k m. h k (Memᴰ.tail m)))

same : (J : List (List ℕ)) (m : ℕ) (R : Readings) → largest_difference (map (pad m) J) R ≡ largest_difference J (padded m R)
unfolding largest_difference
same [] m R = refl
same (j ∷ js) m R = ap₂ larger (difference_same j m R) (same js m R)

-- ---- the first that has it

module _ (j : List ℕ) (js : List (List ℕ)) (R : Readings) where
  abbrev here : ℤ
  here = scaled_difference j R

  abbrev rest : ℤ
  rest = largest_difference js R

  at_front : larger here rest ≡ here → FirstLargest (j ∷ js) R
  unfolding largest_difference
  at_front e = record { place = 0; inside = omega arith; has = sym e; before = λ q h. absurd (omega arith) }

  -- where the rest's is larger, its place is one further on
  further : larger here rest ≡ rest → nat_abs here < nat_abs rest → FirstLargest js R → FirstLargest (j ∷ js) R
  unfolding largest_difference
  further e h x = record { place = suc x.place; inside = omega (arith, x.inside); has = x.has ∙ sym e; before = earlier }
    where
      earlier : (q : ℕ) → q < suc x.place → nat_abs (scaled_difference (get_or (j ∷ js) q []) R) < nat_abs (larger here rest)
      earlier zero p = omega (arith, ap nat_abs e, h)
      earlier (suc q) p = omega (arith, ap nat_abs e, x.before q (omega arith))

  -- a size below that of the rest's largest is of some index
  some : nat_abs here < nat_abs rest → 0 < length js
  some h = nonempty js h
    where
      nonempty : (ks : List (List ℕ)) → nat_abs here < nat_abs (largest_difference ks R) → 0 < length ks
      nonempty [] h = absurd (none (unfold largest_difference in h))
        where
          none : nat_abs here < 0 → ⊥
          none p = omega arith
      nonempty (k ∷ ks) h = omega arith

first : (J : List (List ℕ)) (R : Readings) → 0 < length J → FirstLargest J R
first [] R h = absurd (omega arith)
first (j ∷ js) R h =
    ⊎_elim (λ p. at_front j js R p.0) (λ p. further j js R p.0 p.1 (first js R (some j js R p.1))) (kept (scaled_difference j R) (largest_difference js R))

pub largest-facts : LargestFacts
largest-facts = record { no_larger = no_larger; first = first; bounded = bounded; only = only; same = same }
