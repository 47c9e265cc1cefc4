-- Signed numbers against a bound b and −b: together the two tests are a test of the size.
-- Assumes nothing.
use mathlib.Core.Path.{◌≡◌, sym}
use mathlib.Core.Bool.{true, false}
use Prim.Native.Nat.{ℕ, zero, suc}
use native.Mathlib.Omega.{arith}
use borrow.Author.Tests.{ltb-true, ltb-false, le-leb, lt-leb}
use lib.Dec.{leb}
use lib.IntN.{ℤ, pos, negsuc, neg_ℤ, nat_abs}
use lib.Signed.{lt_z}

-- false is not true
clash : {A : Type 0} → false ≡ true → A
clash e = absurd (let z : ◌≡◌ {A = ℕ} 0 1 = cc in omega arith)

-- a number below −b has a size above b
pub too_low : (z : ℤ) (b : ℕ) → lt_z z (neg_ℤ (pos b)) ≡ true → leb (nat_abs z) b ≡ false
too_low (pos n) zero e = absurd (omega (arith, ltb-true n 0 e))
too_low (pos n) (suc b) e = clash e
too_low (negsuc n) zero e = lt-leb (suc n) 0 (omega arith)
too_low (negsuc n) (suc b) e = lt-leb (suc n) (suc b) (omega (arith, ltb-true b n e))

-- a number above b has a size above b
pub too_high : (z : ℤ) (b : ℕ) → lt_z (pos b) z ≡ true → leb (nat_abs z) b ≡ false
too_high (pos n) b e = lt-leb n b (ltb-true b n e)
too_high (negsuc n) b e = clash e

-- a number neither below −b nor above b has a size of at most b
pub in_range_lem : (z : ℤ) (b : ℕ) → lt_z z (neg_ℤ (pos b)) ≡ false → lt_z (pos b) z ≡ false → leb (nat_abs z) b ≡ true
in_range_lem (pos n) b d e = le-leb n b (ltb-false b n e)
in_range_lem (negsuc n) zero d e = clash (sym d)
in_range_lem (negsuc n) (suc b) d e = le-leb (suc n) (suc b) (omega (arith, ltb-false b n d))
