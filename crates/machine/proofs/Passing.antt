-- The numbers that pass a test, as a list: each is in range and passes, each that passes is there, and they rise.
-- Assumes nothing.
use mathlib.Core.Path.{◌≡◌, refl, sym}
use mathlib.Core.Logic.{◌⊎◌, inl, inr}
use mathlib.Core.Bool.{Bool, true, false, cond}
use mathlib.Core.List.{List, ◌∷◌}
use Prim.Native.Nat.{ℕ, zero, suc, ◌+◌, ◌<◌, ◌≤◌}
use native.Mathlib.Decide.{ℕ_discrete, dec_lt}
use native.Mathlib.Omega.{arith}
use lib.ListN.{length, get_or}
use Rattle.machine.specs.Promote.{passing}

-- a number stands at a place of a list
abbrev pub Occurs : List ℕ → ℕ → Type 0
Occurs l x = (i : ℕ) × (i < length l) × (get_or l i 0 ≡ x)

abbrev pub Rising : List ℕ → Type 0
Rising l = (i j : ℕ) → i < j → j < length l → get_or l i 0 < get_or l j 0

module _ (f : ℕ → Bool) where
  -- one of n numbers from a on, that passes
  abbrev pub Passes : ℕ → ℕ → ℕ → Type 0
  Passes n a x = (a ≤ x) × (x < a + n) × (f x ≡ true)

  pub passing_is : (n a i : ℕ) → i < length (passing n a f) → Passes n a (get_or (passing n a f) i 0)
  unfolding passing
  passing_is zero a i h = absurd (omega arith)
  passing_is (suc n) a i h = step (f a) refl i h (passing_is n (a + 1))
    where
      rest : List ℕ
      rest = passing n (a + 1) f

      step : (t : Bool) → f a ≡ t → (i : ℕ) → i < length (cond t (a ∷ rest) rest) → ((j : ℕ) → j < length rest → Passes n (a + 1) (get_or rest j 0))
          → Passes (suc n) a (get_or (cond t (a ∷ rest) rest) i 0)
      step true e zero h ih = (omega arith, omega arith, e)
      step true e (suc i) h ih = let x = ih i (omega arith) in (omega (arith, x.0), omega (arith, x.1), x.2)
      step false e i h ih = let x = ih i h in (omega (arith, x.0), omega (arith, x.1), x.2)

  pub passing_has : (n a x : ℕ) → Passes n a x → Occurs (passing n a f) x
  unfolding passing
  passing_has zero a x w = absurd (omega arith)
  passing_has (suc n) a x w = step (f a) refl (next (ℕ_discrete x a) (passing_has n (a + 1) x))
    where
      rest : List ℕ
      rest = passing n (a + 1) f

      next : Dec (x ≡ a) → (Passes n (a + 1) x → Occurs rest x) → (x ≡ a) ⊎ Occurs rest x
      next (yes e) ih = inl e
      next (no e) ih = inr (ih (omega arith, omega arith, w.2))

      step : (t : Bool) → f a ≡ t → (x ≡ a) ⊎ Occurs rest x → Occurs (cond t (a ∷ rest) rest) x
      step true e (inl q) = (0, omega arith, sym q)
      step true e (inr s) = (suc s.0, omega (arith, s.1), s.2)
      step false e (inl q) = absurd (let z : ◌≡◌ {A = ℕ} 0 1 = cc in omega arith)
      step false e (inr s) = s

  pub passing_rises : (n a : ℕ) → Rising (passing n a f)
  unfolding passing
  passing_rises zero a i j h m = absurd (omega arith)
  passing_rises (suc n) a i j h m = step (f a) i j h m (passing_is n (a + 1)) (passing_rises n (a + 1))
    where
      rest : List ℕ
      rest = passing n (a + 1) f

      step : (t : Bool) (i j : ℕ) → i < j → j < length (cond t (a ∷ rest) rest) → ((j : ℕ) → j < length rest → Passes n (a + 1) (get_or rest j 0)) → Rising rest
          → get_or (cond t (a ∷ rest) rest) i 0 < get_or (cond t (a ∷ rest) rest) j 0
      step true zero zero h m each ih = absurd (omega arith)
      step true zero (suc j) h m each ih = omega (arith, (each j (omega arith)).0)
      step true (suc i) zero h m each ih = absurd (omega arith)
      step true (suc i) (suc j) h m each ih = ih i j (omega arith) (omega arith)
      step false i j h m each ih = ih i j h m

-- so none is there twice
pub rising_once : (l : List ℕ) → Rising l → (i j : ℕ) → i < length l → j < length l → get_or l i 0 ≡ get_or l j 0 → i ≡ j
rising_once l r i j hi hj e = step (dec_lt i j) (dec_lt j i)
  where
    step : Dec (i < j) → Dec (j < i) → i ≡ j
    step (yes h) m = absurd (omega (arith, r i j h hj))
    step (no h) (yes m) = absurd (omega (arith, r j i m hi))
    step (no h) (no m) = omega arith
