-- Fractions as IEEE doubles, and the report that is made of them.
use Rattle.std.specs.Prelude.{ℕ, suc, ◌^◌, true, false, ℤ, pos, negsuc, Float}
use Rattle.std.specs.Float.{binary64}
use Rattle.std.specs.Float.Ieee.{round}
use Rattle.doubles.specs.declared.Report.{Report}

-- The double nearest to z / c, for a c above 0.
unfoldable pub double : ℤ → ℕ → Float
double (pos n) c = round binary64 false n c
double (negsuc n) c = round binary64 true (suc n) c

-- The *report of doubles*: mean and difference are the scaled numbers divided by 2^20; the pending error is a whole number.
unfoldable pub report_of : (mean : ℤ) (pending : ℕ) (largest : ℤ) → Report
report_of mean pending largest =
    record { mean = double mean (2 ^ 20); pending = double (pos pending) 1; largest = double largest (2 ^ 20) }
