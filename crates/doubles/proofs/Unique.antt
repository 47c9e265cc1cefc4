-- Two values of a format that have the same sign and are the same fraction are one, since their bits go by sign and value alone.
-- Assumes nothing.
use mathlib.Core.Path.{◌≡◌, sym, ap, ◌∙◌}
use mathlib.Core.Bool.{Bool, cond}
use Prim.Native.Nat.{ℕ, ◌+◌, ◌-◌, ◌*◌, ◌/◌, ◌^◌, ◌<◌}
use native.Mathlib.Nat.{mul_right_comm, eq_of_mul-eq-mul_right}
use lib.Dec.{T}
use lib.Ieee.{Float, nan, inf, fin, Format, prec, low, up, down, size, top, hid, fits, to_bits, of_bits}
use lib.Ieee.Fits.{down_pos}
use lib.Ieee.Exact.{HasValue}
use lib.Ieee.Nearest.{div_same}
use lib.Ieee.Bits.{of_bits-to_bits}

-- x / d and y / e, each a / c, are one fraction
across : (x y d e a c : ℕ) → 0 < c → x * c ≡ a * d → y * c ≡ a * e → x * e ≡ y * d
across x y d e a c C p q =
    eq_of_mul-eq-mul_right c C (x * e) (y * d)
    (mul_right_comm x e c ∙ ap (λ (k : ℕ). k * e) p ∙ mul_right_comm a d e ∙ ap (λ (k : ℕ). k * d) (sym q) ∙ mul_right_comm y c d)

same_bits : (f : Format) (x y : Float) (s : Bool) (a c : ℕ) → 0 < c → HasValue x s a c → HasValue y s a c → to_bits f x ≡ to_bits f y
unfolding to_bits
same_bits f nan y s a c C v w = absurd v
same_bits f (inf t) y s a c C v w = absurd v
same_bits f (fin t m e) nan s a c C v w = absurd w
same_bits f (fin t m e) (inf u) s a c C v w = absurd w
same_bits f (fin t m e) (fin u n g) s a c C v w =
    let l = 2 ^ low f in
    let p : m * up e * l / down e ≡ n * up g * l / down g =
    div_same (m * up e * l) (down e) (n * up g * l) (down g) (down_pos e) (down_pos g)
    (mul_right_comm (m * up e) l (down g) ∙ ap (λ (k : ℕ). k * l) (across (m * up e) (n * up g) (down e) (down g) a c C v.1 w.1) ∙ mul_right_comm (n * up g) (down e) l) in
    ap (λ (b : Bool). pattern b (m * up e * l / down e)) (v.0 ∙ sym w.0) ∙ ap (pattern u) p
  where
    pattern : Bool → ℕ → ℕ
    pattern b n = cond b (top f) 0 + (size n - prec f) * hid f + n / 2 ^ (size n - prec f)

pub one_value : (f : Format) (x y : Float) (s : Bool) (a c : ℕ) → 0 < c → T (fits f x) → T (fits f y) → HasValue x s a c → HasValue y s a c → x ≡ y
one_value f x y s a c C p q v w = sym (of_bits-to_bits f x p) ∙ ap (of_bits f) (same_bits f x y s a c C v w) ∙ of_bits-to_bits f y q
