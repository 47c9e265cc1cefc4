-- What holds of decimal numbers and of the texts.
use Rattle.std.specs.Prelude.{◌≡◌, ℕ, ◌^◌, ◌<◌, ◌≤◌, ℤ, pos, nat_abs, length, get_or}
use Rattle.reporting.specs.Decimal.{decimal, signed_decimal, value_from, signed_value}
use Rattle.reporting.specs.Text.{ReportValues, report_text, refusal_text}

pub record TextFacts : Type 0 where
  -- a number below 10^20 is what its digits say
  pub value : (n : ℕ) → n < 10 ^ 20 → value_from 0 (decimal n) ≡ n
  -- and with its sign too
  pub signed_value_lem : (z : ℤ) → nat_abs z < 10 ^ 20 → signed_value (signed_decimal z) ≡ z
  -- a minus sign stands in front of a number below 0 only
  pub unsigned : (n : ℕ) → signed_decimal (pos n) ≡ decimal n
  -- every byte is a digit's
  pub digits : (n i : ℕ) → i < length (decimal n) → (48 ≤ get_or (decimal n) i 0) × (get_or (decimal n) i 0 ≤ 57)
  -- there is one at least, and the first is no 0 unless the number is
  pub some : (n : ℕ) → 1 ≤ length (decimal n)
  pub no_leading_zero : (n : ℕ) → 1 ≤ n → n < 10 ^ 20 → 49 ≤ get_or (decimal n) 0 0
  -- at most 20 digits, 21 bytes with a sign
  pub most : (n : ℕ) → length (decimal n) ≤ 20
  pub most_signed : (z : ℤ) → length (signed_decimal z) ≤ 21
  -- 512 bytes suffice for every report, and for every refusal
  pub report_room : (f : ReportValues) → length (report_text f) ≤ 512
  pub refusal_room : (n b : ℕ) → length (refusal_text n b) ≤ 512
