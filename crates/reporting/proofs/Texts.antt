-- How long the texts are: the words are, and a number has at most 20 digits.
-- Assumes nothing.
use mathlib.Core.Path.{◌≡◌, ap}
use mathlib.Core.List.{List, [], ◌∷◌, ◌++◌, append_assoc}
use Prim.Native.Nat.{ℕ, suc, ◌+◌, ◌/◌, ◌%◌, ◌^◌, ◌<◌, ◌≤◌}
use native.Mathlib.Omega.{arith}
use lib.IntN.{ℤ, pos, negsuc}
use lib.ListN.{length, length-append}
use Rattle.reporting.specs.Decimal.{digit, decimal, signed_decimal}
use Rattle.reporting.specs.Text.{feed, space, line, refused_word, at_word, Ending, met, capped, spent, short, ending_word, ReportValues, report_text, refusal_text}
use Rattle.reporting.proofs.Digits.{digits_most, decimal_more}

pub most : (n : ℕ) → length (decimal n) ≤ 20
unfolding decimal
most n = digits_most 20 n

-- those of a tenth leave room for one more
pub most_tenth : (n : ℕ) → 10 ≤ n → n < 2 ^ 64 → length (decimal (n / 10)) + 1 ≤ 20
most_tenth n g h = omega (arith, most n, ap length (decimal_more n g (omega arith)), length-append (decimal (n / 10)) (digit (n % 10) ∷ []))

pub most_signed : (z : ℤ) → length (signed_decimal z) ≤ 21
unfolding signed_decimal
most_signed (pos n) = omega (arith, most n)
most_signed (negsuc n) = omega (arith, most (suc n))

pub most_ending : (e : Ending) → length (ending_word e) ≤ 6
unfolding ending_word
most_ending met = omega arith
most_ending capped = omega arith
most_ending spent = omega arith
most_ending short = omega arith

pub length-line : (word said : List ℕ) → length (line word said) ≡ length word + length said + 2
unfolding line
length-line word said = simp length-append (omega arith)

-- a refusal from its parts
pub refusal_parts : (n b : ℕ) → ((((refused_word ++ space ∷ []) ++ decimal n) ++ (space ∷ at_word ++ space ∷ [])) ++ decimal b) ++ feed ∷ [] ≡ refusal_text n b
unfolding refusal_text
refusal_parts n b = simp append_assoc

pub report_room : (f : ReportValues) → length (report_text f) ≤ 512
unfolding report_text
report_room f =
    simp (length-append, length-line)
    (omega (arith, most f.axes, most f.old, most f.active, most f.wanted, most f.reserved, most f.pending, most f.carried, most f.ceiling, most_signed f.scaled, most f.unused, most_ending f.ending))

-- a refusal's text has at most 61 bytes
pub refusal_short : (n b : ℕ) → length (refusal_text n b) ≤ 61
unfolding refusal_text
refusal_short n b = simp length-append (omega (arith, most n, most b))

pub refusal_room : (n b : ℕ) → length (refusal_text n b) ≤ 512
refusal_room n b = omega (arith, refusal_short n b)
