-- Being exactly z / c, and the library's `HasValue`, which has the sign apart: with z's sign it is the same, but at 0, which has two.
-- Assumes nothing.
use mathlib.Core.Path.{◌≡◌, refl, sym, ap, ◌∙◌, subst}
use mathlib.Core.Bool.{Bool, true, false}
use Prim.Native.Nat.{ℕ, zero, suc, ◌*◌, ◌<◌}
use native.Mathlib.Nat.{mul-pos}
use native.Mathlib.Omega.{arith}
use lib.IntN.{ℤ, pos, negsuc, nat_abs, neg_ℤ}
use lib.Ieee.{Float, nan, inf, fin, up, down}
use lib.Ieee.Fits.{down_pos}
use lib.Ieee.Exact.{HasValue}
use Rattle.doubles.specs.Exact.{signed, LosesNothing}

-- the same with z's sign, + for 0
abbrev pub Signed : Float → ℤ → ℕ → Type 0
Signed x (pos n) c = HasValue x false n c
Signed x (negsuc n) c = HasValue x true (suc n) c

pub nothing_lost_of : (x : Float) (z : ℤ) (c : ℕ) → Signed x z c → LosesNothing x z c
nothing_lost_of nan (pos n) c v = v
nothing_lost_of nan (negsuc n) c v = v
nothing_lost_of (inf s) (pos n) c v = v
nothing_lost_of (inf s) (negsuc n) c v = v
nothing_lost_of (fin s m e) (pos n) c v = ap (λ (b : Bool). signed b (m * up e * c)) v.0 ∙ ap pos v.1
nothing_lost_of (fin s m e) (negsuc n) c v = ap (λ (b : Bool). signed b (m * up e * c)) v.0 ∙ ap (λ (k : ℕ). neg_ℤ (pos k)) v.1

abbrev IsPos : ℤ → Type 0
IsPos (pos n) = Unit {0}
IsPos (negsuc n) = ⊥

-- minus a number is no number above 0
minus_apart : (a b : ℕ) → 0 < b → neg_ℤ (pos a) ≡ pos b → ⊥
minus_apart zero b h e = let none : 0 ≡ b = ap nat_abs e in absurd (omega (arith, none))
minus_apart (suc a) b h e = subst IsPos (sym e) tt

abs_minus : (a : ℕ) → nat_abs (neg_ℤ (pos a)) ≡ a
abs_minus zero = refl
abs_minus (suc a) = refl

pub signed_of : (x : Float) (z : ℤ) (c : ℕ) → (z ≡ pos 0 → ⊥) → LosesNothing x z c → Signed x z c
signed_of nan z c nonzero v = absurd v
signed_of (inf s) z c nonzero v = absurd v
signed_of (fin s m e) (pos zero) c nonzero v = absurd (nonzero refl)
signed_of (fin false m e) (pos (suc n)) c nonzero v = (refl, ap nat_abs v)
signed_of (fin true m e) (pos (suc n)) c nonzero v = absurd (minus_apart (m * up e * c) (suc n * down e) (mul-pos (above n) (down_pos e)) v)
  where
    above : (k : ℕ) → 0 < suc k
    above k = omega arith
signed_of (fin false m e) (negsuc n) c nonzero v = absurd (apart (m * up e * c) (suc n * down e) (mul-pos (above n) (down_pos e)) (sym v))
  where
    above : (k : ℕ) → 0 < suc k
    above k = omega arith

    apart : (a b : ℕ) → 0 < b → neg_ℤ (pos b) ≡ pos a → ⊥
    apart a zero h e = omega (arith, h)
    apart a (suc b) h e = subst IsPos (sym e) tt
signed_of (fin true m e) (negsuc n) c nonzero v = (refl, sym (abs_minus (m * up e * c)) ∙ ap nat_abs v ∙ abs_minus (suc n * down e))
