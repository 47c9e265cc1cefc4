-- Numbers in decimal, as bytes: a minus sign where the number is below 0, no leading zeros.
use Rattle.std.specs.Prelude.{cond, List, [], ◌∷◌, ◌++◌, ℕ, zero, suc, ◌+◌, ◌*◌, ◌/◌, ◌%◌, ◌-◌, ltb, eqb, ℤ, pos, negsuc, neg_ℤ}

-- The byte of a digit: 48 is the byte of 0.
abbrev pub digit : ℕ → ℕ
digit d = 48 + d

-- At most so many digits, the last ones of n.
unfoldable pub digits : (most n : ℕ) → List ℕ
digits zero n = []
digits (suc m) n = cond (ltb n 10) (digit n ∷ []) (digits m (n / 10) ++ digit (n % 10) ∷ [])

-- A number below 10^20, which every 64-bit number is.
unfoldable pub decimal : ℕ → List ℕ
decimal n = digits 20 n

-- With a sign: 45 is the byte of the minus sign.
unfoldable pub signed_decimal : ℤ → List ℕ
signed_decimal (pos n) = decimal n
signed_decimal (negsuc n) = 45 ∷ decimal (suc n)

-- ---- what it says

-- The number that digits say, most significant first.
unfoldable pub value_from : ℕ → List ℕ → ℕ
value_from v [] = v
value_from v (b ∷ bs) = value_from (v * 10 + (b - 48)) bs

-- The same with a sign.
unfoldable pub signed_value : List ℕ → ℤ
signed_value [] = pos 0
signed_value (b ∷ bs) = cond (eqb b 45) (neg_ℤ (pos (value_from 0 bs))) (pos (value_from 0 (b ∷ bs)))
