-- The laws of decimal numbers and of the texts, in one record.
-- Assumes nothing.
use mathlib.Core.Path.{◌≡◌, refl, ap, ◌∙◌}
use mathlib.Core.Bool.{cond}
use mathlib.Core.List.{List, [], ◌∷◌}
use Prim.Native.Nat.{ℕ, suc, ◌^◌, ◌<◌, ◌≤◌}
use native.Mathlib.Omega.{arith}
use borrow.Author.Tests.{ne_eqb}
use lib.IntN.{ℤ, pos, negsuc, nat_abs, neg_ℤ}
use lib.ListN.{length, get_or}
use Rattle.reporting.specs.Decimal.{decimal, signed_decimal, value_from, signed_value}
use Rattle.reporting.specs.Facts.{TextFacts}
use Rattle.reporting.proofs.Digits.{digits_value, digits_bytes, digits-some, digits_lead}
use Rattle.reporting.proofs.Texts.{most, most_signed, report_room, refusal_room}

value : (n : ℕ) → n < 10 ^ 20 → value_from 0 (decimal n) ≡ n
unfolding decimal
value n h = digits_value 19 n h

bytes : (n i : ℕ) → i < length (decimal n) → (48 ≤ get_or (decimal n) i 0) × (get_or (decimal n) i 0 ≤ 57)
unfolding decimal
bytes n = digits_bytes 20 n

some : (n : ℕ) → 1 ≤ length (decimal n)
unfolding decimal
some n = digits-some 19 n

lead : (n : ℕ) → 1 ≤ n → n < 10 ^ 20 → 49 ≤ get_or (decimal n) 0 0
unfolding decimal
lead n = digits_lead 19 n

-- no digit is a minus sign
unsigned : (bs : List ℕ) → 1 ≤ length bs → ((i : ℕ) → i < length bs → (48 ≤ get_or bs i 0) × (get_or bs i 0 ≤ 57)) → signed_value bs ≡ pos (value_from 0 bs)
unfolding signed_value
unsigned [] h d = absurd (omega (arith, h))
unsigned (b ∷ bs) h d = ap (λ t. cond t (neg_ℤ (pos (value_from 0 bs))) (pos (value_from 0 (b ∷ bs)))) (ne_eqb b 45 (λ e. omega (arith, e, (d 0 (omega arith)).0)))

signed_value_lem : (z : ℤ) → nat_abs z < 10 ^ 20 → signed_value (signed_decimal z) ≡ z
unfolding signed_decimal
signed_value_lem (pos n) h = unsigned (decimal n) (some n) (bytes n) ∙ ap pos (value n h)
signed_value_lem (negsuc n) h = unfold signed_value in ap (λ k. neg_ℤ (pos k)) (value (suc n) h)

no_sign : (n : ℕ) → signed_decimal (pos n) ≡ decimal n
unfolding signed_decimal
no_sign n = refl

pub text_facts : TextFacts
text_facts =
    record {
      value = value;
      signed_value_lem = signed_value_lem;
      unsigned = no_sign;
      digits = bytes;
      some = some;
      no_leading_zero = lead;
      most = most;
      most_signed = most_signed;
      report_room = report_room;
      refusal_room = refusal_room;
    }
