-- The digits of a number: one below 10, else those of a tenth and then the last.
-- The idea: a number below 10^m has at most m digits, so to allow for more changes nothing; the rest is induction on how many are allowed.
-- Assumes nothing.
use borrow.Author.Tests.{lt-ltb, le-ltb}
use mathlib.Core.Path.{◌≡◌, refl, sym, ap, ◌∙◌}
use mathlib.Core.List.{List, [], ◌∷◌, ◌++◌}
use Prim.Native.Nat.{ℕ, zero, suc, ◌+◌, ◌*◌, ◌-◌, ◌/◌, ◌%◌, ◌^◌, ◌<◌, ◌≤◌}
use native.Mathlib.Nat.{pow-suc}
use native.Mathlib.Decide.{dec_lt}
use native.Mathlib.Omega.{arith}
use lib.ListN.{length, get_or, length-append, get_or-append}
use lib.Seq.{get_or_at}
use Rattle.reporting.specs.Decimal.{digit, digits, decimal, value_from}

digits-one : (m n : ℕ) → n < 10 → digits (suc m) n ≡ digit n ∷ []
unfolding digits
digits-one m n h = rw (lt-ltb n 10 h)

digits_more : (m n : ℕ) → 10 ≤ n → digits (suc m) n ≡ digits m (n / 10) ++ digit (n % 10) ∷ []
unfolding digits
digits_more m n h = rw (le-ltb n 10 h)

-- by cases
split : (P : List ℕ → Type 0) (m n : ℕ) → (n < 10 → P (digit n ∷ [])) → (10 ≤ n → P (digits m (n / 10) ++ digit (n % 10) ∷ [])) → P (digits (suc m) n)
split P m n one more = at (dec_lt n 10)
  where
    at : Dec (n < 10) → P (digits (suc m) n)
    at (yes l) = rw (digits-one m n l) (one l)
    at (no l) = rw (digits_more m n (omega arith)) (more (omega arith))

tenth : (m n : ℕ) → n < 10 ^ suc m → n / 10 < 10 ^ m
tenth m n h = omega (arith, pow-suc 10 m)

enough : (m n : ℕ) → n < 10 ^ suc m → digits (suc m) n ≡ digits (suc (suc m)) n
enough zero n h = split (λ l. l ≡ digits 2 n) 0 n (λ l. sym (digits-one 1 n l)) (λ g. absurd (omega arith))
enough (suc m) n h =
    split (λ l. l ≡ digits (suc (suc (suc m))) n) (suc m) n (λ l. sym (digits-one (suc (suc m)) n l))
    (λ g. ap (λ x. x ++ digit (n % 10) ∷ []) (enough m (n / 10) (tenth (suc m) n h)) ∙ sym (digits_more (suc (suc m)) n g))

-- ---- what they say

value_append : (v : ℕ) (xs ys : List ℕ) → value_from v (xs ++ ys) ≡ value_from (value_from v xs) ys
unfolding value_from
value_append v [] ys = refl
value_append v (x ∷ xs) ys = value_append (v * 10 + (x - 48)) xs ys

value_last : (v d : ℕ) → value_from v (digit d ∷ []) ≡ v * 10 + d
unfolding value_from
value_last v d = omega arith

pub digits_value : (m n : ℕ) → n < 10 ^ suc m → value_from 0 (digits (suc m) n) ≡ n
digits_value zero n h = split (λ l. value_from 0 l ≡ n) 0 n (λ l. value_last 0 n ∙ omega arith) (λ g. absurd (omega arith))
digits_value (suc m) n h =
    split (λ l. value_from 0 l ≡ n) (suc m) n (λ l. omega (arith, value_last 0 n))
    (λ g. rw (value_append 0 (digits (suc m) (n / 10)) (digit (n % 10) ∷ []), digits_value m (n / 10) (tenth (suc m) n h)) (omega (arith, value_last (n / 10) (n % 10))))

-- ---- how many there are, and which bytes they are

digits-none : (n : ℕ) → length (digits 0 n) ≤ 0
unfolding digits
digits-none n = omega arith

pub digits_most : (m n : ℕ) → length (digits m n) ≤ m
digits_most zero n = digits-none n
digits_most (suc m) n =
    split (λ l. length l ≤ suc m) m n (λ l. omega arith) (λ g. simp length-append (omega (arith, digits_most m (n / 10))))

pub digits-some : (m n : ℕ) → 1 ≤ length (digits (suc m) n)
digits-some m n = split (λ l. 1 ≤ length l) m n (λ l. omega arith) (λ g. simp length-append (omega arith))

pub digits_lead : (m n : ℕ) → 1 ≤ n → n < 10 ^ suc m → 49 ≤ get_or (digits (suc m) n) 0 0
digits_lead zero n p h = split (λ l. 49 ≤ get_or l 0 0) 0 n (λ l. omega arith) (λ g. absurd (omega arith))
digits_lead (suc m) n p h =
    split (λ l. 49 ≤ get_or l 0 0) (suc m) n (λ l. omega arith)
    (λ g. rw (get_or-append (digits (suc m) (n / 10)) (digit (n % 10) ∷ []) 0 0 (digits-some m (n / 10))) (digits_lead m (n / 10) (omega arith) (tenth (suc m) n h)))

abbrev Bytes : List ℕ → Type 0
Bytes l = (i : ℕ) → i < length l → (48 ≤ get_or l i 0) × (get_or l i 0 ≤ 57)

bytes_last : (xs : List ℕ) (d : ℕ) → d < 10 → Bytes xs → Bytes (xs ++ digit d ∷ [])
bytes_last xs d h b i l = at (dec_lt i (length xs))
  where
    at : Dec (i < length xs) → (48 ≤ get_or (xs ++ digit d ∷ []) i 0) × (get_or (xs ++ digit d ∷ []) i 0 ≤ 57)
    at (yes k) = rw (get_or-append xs (digit d ∷ []) 0 i k) (b i k)
    at (no k) =
        let e : length xs ≡ i = omega (arith, simp length-append at l) in
        rw (get_or_at xs (digit d) [] 0 i e) (omega arith, omega arith)

pub digits_bytes : (m n : ℕ) → Bytes (digits m n)
digits_bytes zero n = λ i l. absurd (omega (arith, digits-none n))
digits_bytes (suc m) n =
    split Bytes m n (λ l. bytes_last [] n l (λ i k. absurd (omega arith)))
    (λ g. bytes_last (digits m (n / 10)) (n % 10) (omega arith) (digits_bytes m (n / 10)))

-- ---- all the digits of a 64-bit number

pub decimal-one : (n : ℕ) → n < 10 → decimal n ≡ digit n ∷ []
unfolding decimal
decimal-one n h = digits-one 19 n h

pub decimal_more : (n : ℕ) → 10 ≤ n → n < 10 ^ 20 → decimal n ≡ decimal (n / 10) ++ digit (n % 10) ∷ []
unfolding decimal
decimal_more n g h = digits_more 19 n g ∙ ap (λ l. l ++ digit (n % 10) ∷ []) (enough 18 (n / 10) (omega arith))
