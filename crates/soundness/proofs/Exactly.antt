-- How tests that are true exactly if a statement holds are joined, as statements are.
-- Assumes nothing.
use mathlib.Core.Path.{◌≡◌, refl, sym}
use mathlib.Core.Logic.{◌⊎◌, inl, inr}
use mathlib.Core.Bool.{Bool, true, false, not, cond, ◌&&◌}
use mathlib.Core.List.{List, [], ◌∷◌}
use Prim.Native.Nat.{ℕ, zero, suc, ◌+◌, ◌-◌, ◌<◌, ◌≤◌}
use native.Mathlib.Decide.{ℕ_discrete}
use native.Mathlib.Omega.{arith}
use lib.Dec.{ltb, leb, eqb}
use borrow.Author.Tests.{eqb-true, eq-eqb, ltb-true, lt-ltb, leb-true, le-leb}
use Rattle.grid.specs.Coefficient.{same_levels}
use Rattle.soundness.specs.Sound.{Exactly}
use Rattle.soundness.specs.Test.{all_from, any_from}

clash : false ≡ true → ⊥
clash e = let z : ◌≡◌ {A = ℕ} 0 1 = cc in omega arith

pub reads_as : {b : Bool} {P Q : Type 0} → (P → Q) → (Q → P) → Exactly b P → Exactly b Q
reads_as f g r = record { sure = λ e. f (r.sure e); back = λ q. r.back (g q) }

-- two answers to one question are the same
pub same_answer : (b c : Bool) {P : Type 0} → Exactly b P → Exactly c P → b ≡ c
same_answer true c r s = sym (s.back (r.sure refl))
same_answer false true r s = r.back (s.sure refl)
same_answer false false r s = refl

-- a refuted statement makes the answer no, and tests of statements that follow from each other answer alike
pub refuted : (b : Bool) {P : Type 0} → Exactly b P → (P → ⊥) → b ≡ false
refuted true r n = absurd (n (r.sure refl))
refuted false r n = refl

pub same : (a b : Bool) {P Q : Type 0} → Exactly a P → Exactly b Q → (P → Q) → (Q → P) → a ≡ b
same true b r s f g = sym (s.back (f (r.sure refl)))
same false b r s f g = sym (refuted b s (λ q. let e = r.back (g q) in let z : ◌≡◌ {A = ℕ} 0 1 = cc in omega arith))

pub reads_eq : (m n : ℕ) → Exactly (eqb m n) (m ≡ n)
reads_eq m n = record { sure = eqb-true m n; back = eq-eqb m n }

pub reads_lt : (m n : ℕ) → Exactly (ltb m n) (m < n)
reads_lt m n = record { sure = ltb-true m n; back = lt-ltb m n }

pub reads_le : (m n : ℕ) → Exactly (leb m n) (m ≤ n)
reads_le m n = record { sure = leb-true m n; back = le-leb m n }

pub reads_true : Exactly true (Unit {0})
reads_true = record { sure = λ e. tt; back = λ u. refl }

-- a test that reads as its own answer
pub reads_eq_true : (b : Bool) → Exactly b (b ≡ true)
reads_eq_true b = record { sure = λ e. e; back = λ e. e }

pub reads_not : (b : Bool) {P : Type 0} → Exactly b P → Exactly (not b) (P → ⊥)
reads_not true r = record { sure = λ e. absurd (clash e); back = λ f. absurd (f (r.sure refl)) }
reads_not false r = record { sure = λ e p. clash (r.back p); back = λ f. refl }

pub reads_and : (b c : Bool) {P Q : Type 0} → Exactly b P → Exactly c Q → Exactly (b && c) (P × Q)
reads_and true c r s = record { sure = λ e. (r.sure refl, s.sure e); back = λ x. s.back x.1 }
reads_and false c r s = record { sure = λ e. absurd (clash e); back = λ x. r.back x.0 }

-- where the first is known to hold when the second is read
pub reads_then : (b c : Bool) {P Q : Type 0} → Exactly b P → (P → Exactly c Q) → Exactly (b && c) (P × Q)
reads_then true c r s = record { sure = λ e. (r.sure refl, (s (r.sure refl)).sure e); back = λ x. (s x.0).back x.1 }
reads_then false c r s = record { sure = λ e. absurd (clash e); back = λ x. r.back x.0 }

-- by cases of the first
pub reads_cond : (b c d : Bool) {P Q R : Type 0} → Exactly b P → Exactly c Q → Exactly d R → Exactly (cond b c d) ((P → Q) × ((P → ⊥) → R))
reads_cond true c d r s t = record { sure = λ e. (λ p. s.sure e, λ n. absurd (n (r.sure refl))); back = λ x. s.back (x.0 (r.sure refl)) }
reads_cond false c d r s t =
    record { sure = λ e. (λ p. absurd (clash (r.back p)), λ n. t.sure e); back = λ x. t.back (x.1 (λ p. clash (r.back p))) }

-- an early yes
pub reads_or : (b c : Bool) {P Q : Type 0} → Exactly b P → Exactly c Q → Exactly (cond b true c) (P ⊎ Q)
reads_or true c r s = record { sure = λ e. inl (r.sure refl); back = λ x. refl }
reads_or false c {P} {Q} r s = record { sure = λ e. inr (s.sure e); back = step }
  where
    step : P ⊎ Q → c ≡ true
    step (inl p) = absurd (clash (r.back p))
    step (inr q) = s.back q

-- a test that is asked only if another says yes
pub reads_if : (b c : Bool) {P Q : Type 0} → Exactly b P → Exactly c Q → Exactly (cond b c true) (P → Q)
reads_if true c r s = record { sure = λ e p. s.sure e; back = λ f. s.back (f (r.sure refl)) }
reads_if false c r s = record { sure = λ e p. absurd (clash (r.back p)); back = λ f. refl }

module _ (f : ℕ → Bool) (P : ℕ → Type 0) where
  pub reads_all_from : (n i : ℕ) → ((j : ℕ) → j < i + n → Exactly (f j) (P j)) → Exactly (all_from n i f) ((j : ℕ) → i ≤ j → j < i + n → P j)
  unfolding all_from
  reads_all_from zero i r = record { sure = λ e j l h. absurd (omega arith); back = λ g. refl }
  reads_all_from (suc n) i r =
      reads_as there here (reads_and (f i) (all_from n (i + 1) f) (r i (omega arith)) (reads_all_from n (i + 1) (λ j h. r j (omega arith))))
    where
      there : P i × ((j : ℕ) → i + 1 ≤ j → j < i + 1 + n → P j) → (j : ℕ) → i ≤ j → j < i + suc n → P j
      there x j l h = step (ℕ_discrete j i)
        where
          step : Dec (j ≡ i) → P j
          step (yes e) = rw e x.0
          step (no e) = x.1 j (omega arith) (omega arith)

      here : ((j : ℕ) → i ≤ j → j < i + suc n → P j) → P i × ((j : ℕ) → i + 1 ≤ j → j < i + 1 + n → P j)
      here g = (g i (omega arith) (omega arith), λ j l h. g j (omega arith) (omega arith))

  pub reads_all : (n : ℕ) → ((j : ℕ) → j < n → Exactly (f j) (P j)) → Exactly (all_from n 0 f) ((j : ℕ) → j < n → P j)
  reads_all n r = reads_as (λ g j h. g j (omega arith) (omega arith)) (λ g j l h. g j (omega arith)) (reads_all_from n 0 (λ j h. r j (omega arith)))

  reads_any_from : (n i : ℕ) → ((j : ℕ) → j < i + n → Exactly (f j) (P j)) → Exactly (any_from n i f) ((j : ℕ) × (i ≤ j) × (j < i + n) × P j)
  unfolding any_from
  reads_any_from zero i r = record { sure = λ e. absurd (clash e); back = λ s. absurd (omega arith) }
  reads_any_from (suc n) i r =
      reads_as there here (reads_or (f i) (any_from n (i + 1) f) (r i (omega arith)) (reads_any_from n (i + 1) (λ j h. r j (omega arith))))
    where
      there : P i ⊎ ((j : ℕ) × (i + 1 ≤ j) × (j < i + 1 + n) × P j) → (j : ℕ) × (i ≤ j) × (j < i + suc n) × P j
      there (inl x) = (i, omega arith, omega arith, x)
      there (inr s) = (s.0, omega arith, omega arith, s.3)

      here : ((j : ℕ) × (i ≤ j) × (j < i + suc n) × P j) → P i ⊎ ((j : ℕ) × (i + 1 ≤ j) × (j < i + 1 + n) × P j)
      here s = step (ℕ_discrete s.0 i)
        where
          step : Dec (s.0 ≡ i) → P i ⊎ ((j : ℕ) × (i + 1 ≤ j) × (j < i + 1 + n) × P j)
          step (yes e) = inl (rw e at s.3)
          step (no e) = inr (s.0, omega arith, omega arith, s.3)

  pub reads_any : (n : ℕ) → ((j : ℕ) → j < n → Exactly (f j) (P j)) → Exactly (any_from n 0 f) ((j : ℕ) × (j < n) × P j)
  reads_any n r = reads_as (λ s. (s.0, omega arith, s.3)) (λ s. (s.0, omega arith, omega arith, s.2)) (reads_any_from n 0 (λ j h. r j (omega arith)))

pub reads_same : (k l : List ℕ) → Exactly (same_levels k l) (k ≡ l)
unfolding same_levels
reads_same [] [] = record { sure = λ e. refl; back = λ e. refl }
reads_same [] (y ∷ l) = record { sure = λ e. absurd (clash e); back = λ e. absurd (let z : ◌≡◌ {A = ℕ} 0 1 = cc in omega arith) }
reads_same (x ∷ k) [] = record { sure = λ e. absurd (clash e); back = λ e. absurd (let z : ◌≡◌ {A = ℕ} 0 1 = cc in omega arith) }
reads_same (x ∷ k) (y ∷ l) = reads_as (λ s. cc) (λ e. (cc, cc)) (reads_and (eqb x y) (same_levels k l) (reads_eq x y) (reads_same k l))

-- ---- one turn of a loop that stops at the first no, or at the first yes; the invariant is that the whole equals what is left
left_one : (n i : ℕ) → i < n → n - i ≡ suc (n - (i + 1))
left_one n i h = omega arith

left-none : (n i : ℕ) → n ≤ i → n - i ≡ 0
left-none n i h = omega arith

module _ (f : ℕ → Bool) (n i : ℕ) where
  pub all_go : i < n → f i ≡ true → all_from (n - i) i f ≡ all_from (n - (i + 1)) (i + 1) f
  unfolding all_from
  all_go h e = rw (left_one n i h, e)

  pub all_stop : i < n → f i ≡ false → all_from (n - i) i f ≡ false
  unfolding all_from
  all_stop h e = rw (left_one n i h, e)

  pub all_end : n ≤ i → all_from (n - i) i f ≡ true
  unfolding all_from
  all_end h = rw (left-none n i h)

  pub any_go : i < n → f i ≡ false → any_from (n - i) i f ≡ any_from (n - (i + 1)) (i + 1) f
  unfolding any_from
  any_go h e = rw (left_one n i h, e)

  pub any_stop : i < n → f i ≡ true → any_from (n - i) i f ≡ true
  unfolding any_from
  any_stop h e = rw (left_one n i h, e)

  pub any_end : n ≤ i → any_from (n - i) i f ≡ false
  unfolding any_from
  any_end h = rw (left-none n i h)
