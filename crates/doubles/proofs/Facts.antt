-- The double nearest to z / 2^k: it is z / 2^k, alone; and it is what a cast and a division by 2^k give. Assumes nothing.
use mathlib.Core.Path.{◌≡◌, refl, sym, ap, ◌∙◌, subst}
use mathlib.Core.Bool.{Bool, true, false, cond}
use Prim.Native.Nat.{ℕ, zero, suc, ◌+◌, ◌-◌, ◌*◌, ◌^◌, ◌≤◌, ◌<◌}
use native.Mathlib.Nat.{lt_of_lt_of_le, one-mul, zero-mul, mul_assoc, mul-pos, mul_right_comm}
use native.Mathlib.Omega.{arith}
use lib.Dec.{T, ltb, lit≤, le→leb, lt→ltb}
use lib.IntN.{ℤ, pos, negsuc, nat_abs}
use lib.Pow.{pow-add, pow_pos, pow_mono, shl_lt}
use lib.Ieee.{Float, nan, inf, fin, Format, binary64, prec, emax, low, up, down, odd, units, round, div, of_int, in_float, fits, is_nan, to_bits}
use lib.Ieee.Fits.{down_pos, reach, round-fits}
use lib.Ieee.Bits.{of_bits-to_bits}
use lib.Ieee.Exact.{HasValue, round_exact}
use lib.Ieee.Scale.{round_same}
use lib.Ieee.Back.{round_whole}
use Rattle.doubles.specs.Exact.{LosesNothing, NotNan, NoneNan}
use Rattle.doubles.specs.Double.{double, report_of}
use Rattle.doubles.specs.Facts.{DoubleFacts}
use Rattle.doubles.proofs.Unique.{one_value}
use Rattle.doubles.proofs.Exactly.{Signed, nothing_lost_of, signed_of}

-- ---- a number

odd-not-nan : (d : ℕ) (s : Bool) (q k l : ℕ) → NotNan (odd d s q k l)
unfolding odd is_nan
odd-not-nan d s zero k l = tt
odd-not-nan d s (suc q) k l = tt

units-not-nan : (f : Format) (s : Bool) (q k : ℕ) → NotNan (units f s q k)
unfolding units
units-not-nan f s q k = by (ltb (q * 2 ^ k) (2 ^ (low f + suc (emax f))))
  where
    by : (t : Bool) → NotNan (cond t (odd (suc (prec f)) s q k (low f)) (inf s))
    by true = odd-not-nan (suc (prec f)) s q k (low f)
    by false = unfold is_nan in tt

rounded_not-nan : (f : Format) (s : Bool) (num den : ℕ) → NotNan (round f s num den)
unfolding round
rounded_not-nan f s num den = units-not-nan f s _ _

double-not-nan : (z : ℤ) (c : ℕ) → NotNan (double z c)
unfolding double
double-not-nan (pos n) c = rounded_not-nan binary64 false n c
double-not-nan (negsuc n) c = rounded_not-nan binary64 true (suc n) c

none_nan : (mean : ℤ) (pending : ℕ) (largest : ℤ) → NoneNan (report_of mean pending largest)
unfolding report_of
none_nan m p l = (double-not-nan m (2 ^ 20), double-not-nan (pos p) 1, double-not-nan l (2 ^ 20))

-- ---- nothing is lost

room : (p e l j : ℕ) → p ≤ suc e → j ≤ l → p + j ≤ l + suc e
room p e l j h k = omega arith

less : (l k : ℕ) → l - k ≤ l
less l k = omega arith

back : (l k : ℕ) → k ≤ l → l - k + k ≡ l
back l k h = omega arith

-- n / 2^k, rounded, is itself
fraction : (f : Format) (s : Bool) (n k : ℕ) → n < 2 ^ prec f → k ≤ low f → HasValue (round f s n (2 ^ k)) s n (2 ^ k)
fraction f s n k small h =
    round_exact f s n (2 ^ k) n (low f - k) (pow_pos k) small
    (lt_of_lt_of_le (shl_lt (prec f) (low f - k) small) (pow_mono (room (prec f) (emax f) (low f) (low f - k) (reach f) (less (low f) k))))
    (ap (λ (x : ℕ). n * 2 ^ x) (sym (back (low f) k h)) ∙ ap (λ (x : ℕ). n * x) (pow-add 2 (low f - k) k) ∙ sym (mul_assoc n (2 ^ (low f - k)) (2 ^ k)))

double-signed : (z : ℤ) (k : ℕ) → nat_abs z < 2 ^ 53 → k ≤ 1074 → Signed (double z (2 ^ k)) z (2 ^ k)
unfolding double
double-signed (pos n) k h l = fraction binary64 false n k h l
double-signed (negsuc n) k h l = fraction binary64 true (suc n) k h l

pub double-fits : (z : ℤ) (c : ℕ) → T (fits binary64 (double z c))
unfolding double
double-fits (pos n) c = round-fits binary64 false n c
double-fits (negsuc n) c = round-fits binary64 true (suc n) c

pub double_exact : (z : ℤ) (k : ℕ) → nat_abs z < 2 ^ 53 → k ≤ 1074 → LosesNothing (double z (2 ^ k)) z (2 ^ k)
double_exact z k h l = nothing_lost_of (double z (2 ^ k)) z (2 ^ k) (double-signed z k h l)

-- ---- no other is

same_signed : (x y : Float) (z : ℤ) (c : ℕ) → 0 < c → T (fits binary64 x) → T (fits binary64 y) → Signed x z c → Signed y z c → x ≡ y
same_signed x y (pos n) c above f g v w = one_value binary64 x y false n c above f g v w
same_signed x y (negsuc n) c above f g v w = one_value binary64 x y true (suc n) c above f g v w

double-only : (z : ℤ) (k : ℕ) (x : Float) → nat_abs z < 2 ^ 53 → k ≤ 1074 → (z ≡ pos 0 → ⊥) → T (fits binary64 x) → LosesNothing x z (2 ^ k) → x ≡ double z (2 ^ k)
double-only z k x h l nonzero f v =
    same_signed x (double z (2 ^ k)) z (2 ^ k) (pow_pos k) f (double-fits z (2 ^ k)) (signed_of x z (2 ^ k) nonzero v) (double-signed z k h l)

-- ---- zero

zero_computed : double (pos 0) 1 ≡ fin false 0 (pos 0)
unfolding double round
zero_computed = refl

zero-fits : T (fits binary64 (fin false 0 (pos 0)))
zero-fits = subst (λ (x : Float). T (fits binary64 x)) zero_computed (double-fits (pos 0) 1)

pub double-zero : (k : ℕ) → k ≤ 1074 → double (pos 0) (2 ^ k) ≡ fin false 0 (pos 0)
double-zero k l =
    same_signed (double (pos 0) (2 ^ k)) (fin false 0 (pos 0)) (pos 0) (2 ^ k) (pow_pos k) (double-fits (pos 0) (2 ^ k)) zero-fits (double-signed (pos 0) k (lit≤ tt) l) (nothing (2 ^ k))
  where
    nothing : (c : ℕ) → Signed (fin false 0 (pos 0)) (pos 0) c
    nothing c = (refl, zero-mul c)

zero_bits : (k : ℕ) → k ≤ 1074 → to_bits binary64 (double (pos 0) (2 ^ k)) ≡ 0
zero_bits k l = ap (to_bits binary64) (double-zero k l) ∙ plain
  where
    plain : to_bits binary64 (fin false 0 (pos 0)) ≡ 0
    plain = unfold to_bits in refl

pub double-facts : DoubleFacts
double-facts = record { fits_format = double-fits; read_back = λ z c. of_bits-to_bits binary64 (double z c) (double-fits z c); not_nan = double-not-nan; none_nan = none_nan; exact = double_exact; only = double-only; zero = double-zero; zero_bits = zero_bits }

-- ---- the cast, and the division by 2^k

-- the cast is defined
pub cast_fine : (f : Format) (z : ℤ) → nat_abs z ≤ 2 ^ prec f → T (in_float f z)
unfolding in_float
cast_fine f (pos n) h = le→leb n (2 ^ prec f) h
cast_fine f (negsuc n) h = lt→ltb n (2 ^ prec f) h

-- and loses nothing
cast_exact : (f : Format) (z : ℤ) → nat_abs z ≤ 2 ^ prec f → Signed (of_int f z) z 1
unfolding of_int
cast_exact f (pos n) h = round_whole f false n h
cast_exact f (negsuc n) h = round_whole f true (suc n) h

-- m · 2^e divided by 2^k is the fraction n / 2^k, where m · 2^e is n
cross : (m n u d c : ℕ) → m * u * 1 ≡ n * d → m * u * 1 * c ≡ n * (1 * c * d)
cross m n u d c h = ap (λ (x : ℕ). x * c) h ∙ mul_right_comm n d c ∙ mul_assoc n c d ∙ ap (λ (x : ℕ). n * (x * d)) (sym (one-mul c))

divided : (f : Format) (s : Bool) (m : ℕ) (e : ℤ) (n k : ℕ) → m * up e * 1 ≡ n * down e → round f s (m * up e * 1) (1 * 2 ^ k * down e) ≡ round f s n (2 ^ k)
divided f s m e n k v =
    round_same f s (m * up e * 1) (1 * 2 ^ k * down e) n (2 ^ k) (mul-pos (mul-pos (above 0) (pow_pos k)) (down_pos e)) (pow_pos k) (cross m n (up e) (down e) (2 ^ k) v)
  where
    above : (a : ℕ) → a < suc a
    above a = omega arith

quotient : (f : Format) (x : Float) (s : Bool) (n k : ℕ) → HasValue x s n 1 → div f x (fin false 1 (pos k)) ≡ round f s n (2 ^ k)
unfolding div
quotient f nan s n k v = absurd v
quotient f (inf t) s n k v = absurd v
quotient f (fin true m e) s n k v = divided f true m e n k v.1 ∙ ap (λ (b : Bool). round f b n (2 ^ k)) v.0
quotient f (fin false m e) s n k v = divided f false m e n k v.1 ∙ ap (λ (b : Bool). round f b n (2 ^ k)) v.0

pub over_is : (z : ℤ) (k : ℕ) → nat_abs z ≤ 2 ^ 53 → div binary64 (of_int binary64 z) (fin false 1 (pos k)) ≡ double z (2 ^ k)
unfolding double
over_is (pos n) k h = quotient binary64 (of_int binary64 (pos n)) false n k (cast_exact binary64 (pos n) h)
over_is (negsuc n) k h = quotient binary64 (of_int binary64 (negsuc n)) true (suc n) k (cast_exact binary64 (negsuc n) h)

pub whole_is : (n : ℕ) → of_int binary64 (pos n) ≡ double (pos n) 1
unfolding of_int double
whole_is n = refl
