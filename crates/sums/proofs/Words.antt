-- Signed 64-bit words: a number of size at most 2^62 fits, and what is written is read back; sums and products of such.
-- Assumes nothing.
use mathlib.Core.Path.{◌≡◌}
use Prim.Native.Nat.{◌^◌, ◌≤◌}
use native.Mathlib.Omega.{arith}
use lib.Signed.{mag}
use lib.IntN.{ℤ, pos, negsuc, nat_abs, ◌+ℤ◌, ◌*ℤ◌}
use mir.Syntax.{w32, w64}
use mir.Val.{SFits, to_z, of_z}
use mir.Facts.{to_z-of_z}

pub mag_le : (z : ℤ) → mag z ≤ nat_abs z
mag_le (pos n) = omega arith
mag_le (negsuc n) = omega arith

pub small_fits : (z : ℤ) → nat_abs z ≤ 2 ^ 62 → SFits w64 z
small_fits z h = record { sfits = omega (arith, mag_le z) }

-- a reading fits 32 bits
pub reading_fits : (z : ℤ) → nat_abs z ≤ 2 ^ 20 → SFits w32 z
reading_fits z h = record { sfits = omega (arith, mag_le z) }

-- reading back what was written
pub back : (z : ℤ) → SFits w64 z → to_z w64 (of_z w64 z) ≡ z
back z f = to_z-of_z f

pub back_small : (z : ℤ) → nat_abs z ≤ 2 ^ 62 → to_z w64 (of_z w64 z) ≡ z
back_small z h = to_z-of_z (small_fits z h)

back_sum : (a b : ℤ) → SFits w64 a → SFits w64 b → to_z w64 (of_z w64 a) +ℤ to_z w64 (of_z w64 b) ≡ a +ℤ b
back_sum a b f g = rw (back a f, back b g)

back_product : (a b : ℤ) → SFits w64 a → SFits w64 b → to_z w64 (of_z w64 a) *ℤ to_z w64 (of_z w64 b) ≡ a *ℤ b
back_product a b f g = rw (back a f, back b g)

-- a sum that is z: it fits, and it is read back as z
pub sum_fits : (a b z : ℤ) → SFits w64 a → SFits w64 b → a +ℤ b ≡ z → nat_abs z ≤ 2 ^ 62 → SFits w64 (to_z w64 (of_z w64 a) +ℤ to_z w64 (of_z w64 b))
sum_fits a b z f g e h = rw (back_sum a b f g, e) (small_fits z h)

pub sum_is : (a b z : ℤ) → SFits w64 a → SFits w64 b → a +ℤ b ≡ z → nat_abs z ≤ 2 ^ 62
    → to_z w64 (of_z w64 (to_z w64 (of_z w64 a) +ℤ to_z w64 (of_z w64 b))) ≡ z
sum_is a b z f g e h = rw (back_sum a b f g, e) (back_small z h)

-- a product of w and r, where r is v
pub product_fits : (w r v : ℤ) → SFits w64 w → SFits w64 r → r ≡ v → nat_abs (w *ℤ v) ≤ 2 ^ 62
    → SFits w64 (to_z w64 (of_z w64 w) *ℤ to_z w64 (of_z w64 r))
product_fits w r v f g e h = rw (back_product w r f g, e) (small_fits (w *ℤ v) h)

pub product_is : (w r v : ℤ) → SFits w64 w → SFits w64 r → r ≡ v → nat_abs (w *ℤ v) ≤ 2 ^ 62
    → to_z w64 (of_z w64 (to_z w64 (of_z w64 w) *ℤ to_z w64 (of_z w64 r))) ≡ w *ℤ v
product_is w r v f g e h = rw (back_product w r f g, e) (back_small (w *ℤ v) h)
