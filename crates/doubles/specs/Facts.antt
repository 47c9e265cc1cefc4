-- Below 2^53 in size and down to the smallest double's exponent nothing is lost.
use Rattle.std.specs.Prelude.{◌≡◌, false, ℕ, ◌^◌, ◌<◌, ◌≤◌, T, ℤ, pos, nat_abs, Float}
use Rattle.std.specs.Float.{fin, binary64}
use Rattle.std.specs.Float.Ieee.{fits, to_bits, of_bits}
use Rattle.doubles.specs.Exact.{LosesNothing, NotNan, NoneNan}
use Rattle.doubles.specs.Double.{double, report_of}

pub record DoubleFacts : Type 0 where
  -- it is a double, since the format holds it, so that reading its bits gives it back; and it is never a NaN
  pub fits_format : (z : ℤ) (c : ℕ) → T (fits binary64 (double z c))
  pub read_back : (z : ℤ) (c : ℕ) → of_bits binary64 (to_bits binary64 (double z c)) ≡ double z c
  pub not_nan : (z : ℤ) (c : ℕ) → NotNan (double z c)
  pub none_nan : (mean : ℤ) (pending : ℕ) (largest : ℤ) → NoneNan (report_of mean pending largest)
  -- the double nearest to z / 2^k is finite and is z / 2^k itself
  pub exact : (z : ℤ) (k : ℕ) → nat_abs z < 2 ^ 53 → k ≤ 1074 → LosesNothing (double z (2 ^ k)) z (2 ^ k)
  -- and no other double is, but for the two zeros, which are one number
  pub only : (z : ℤ) (k : ℕ) (x : Float) → nat_abs z < 2 ^ 53 → k ≤ 1074 → (z ≡ pos 0 → ⊥) → T (fits binary64 x) → LosesNothing x z (2 ^ k) → x ≡ double z (2 ^ k)
  -- of which 0 is +0, all bits zero
  pub zero : (k : ℕ) → k ≤ 1074 → double (pos 0) (2 ^ k) ≡ fin false 0 (pos 0)
  pub zero_bits : (k : ℕ) → k ≤ 1074 → to_bits binary64 (double (pos 0) (2 ^ k)) ≡ 0
