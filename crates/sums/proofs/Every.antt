-- A fact about each number below a bound, proved by one test that the checker computes.
-- The idea: the test runs through the numbers once; a law turns its answer into the fact at each of them.
-- Assumes nothing.
use mathlib.Core.Path.{◌≡◌, refl, ap, subst, sym}
use mathlib.Core.Logic.{⊎_elim}
use mathlib.Core.Bool.{Bool, true, false}
use Prim.Native.Nat.{ℕ, zero, suc, ◌<◌}
use native.Mathlib.Nat.{eq-or-lt_of_le}
use native.Mathlib.Omega.{arith}
use lib.Dec.{T, eqb, eqb→eq}
use lib.IntN.{ℤ, pos, negsuc}

abbrev pub both : Bool → Bool → Bool
both true b = b
both false b = false

pub both_left : (a b : Bool) → T (both a b) → T a
both_left true b t = tt
both_left false b t = t

pub both_right : (a b : Bool) → T (both a b) → T b
both_right true b t = t
both_right false b t = absurd t

-- the test passes at each number below n
unfoldable pub every : ℕ → (ℕ → Bool) → Bool
every zero f = true
every (suc n) f = both (f n) (every n f)

pub every_at : (n : ℕ) (f : ℕ → Bool) → T (every n f) → (i : ℕ) → i < n → T (f i)
unfolding every
every_at zero f t i h = absurd (omega arith)
every_at (suc n) f t i h =
    ⊎_elim (λ (e : i ≡ n). subst (λ k. T (f k)) (sym e) (both_left (f n) (every n f) t))
    (λ (l : i < n). every_at n f (both_right (f n) (every n f) t) i l) (eq-or-lt_of_le (omega arith))

-- equality of whole numbers as a test
abbrev pub eqb_ℤ : ℤ → ℤ → Bool
eqb_ℤ (pos m) (pos n) = eqb m n
eqb_ℤ (pos m) (negsuc n) = false
eqb_ℤ (negsuc m) (pos n) = false
eqb_ℤ (negsuc m) (negsuc n) = eqb m n

pub eqb_ℤ→eq : (a b : ℤ) → T (eqb_ℤ a b) → a ≡ b
eqb_ℤ→eq (pos m) (pos n) t = ap pos (eqb→eq m n t)
eqb_ℤ→eq (pos m) (negsuc n) t = absurd t
eqb_ℤ→eq (negsuc m) (pos n) t = absurd t
eqb_ℤ→eq (negsuc m) (negsuc n) t = ap negsuc (eqb→eq m n t)

-- equality of tests as a test
abbrev pub eqb_b : Bool → Bool → Bool
eqb_b true b = b
eqb_b false true = false
eqb_b false false = true

pub eqb_b→eq : (a b : Bool) → T (eqb_b a b) → a ≡ b
eqb_b→eq true true t = refl
eqb_b→eq true false t = absurd t
eqb_b→eq false true t = absurd t
eqb_b→eq false false t = refl
