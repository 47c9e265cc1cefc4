-- Readings read one by one, and what a search for the first that is out of range finds.
-- Assumes nothing.
use Rattle.std.proofs.Common.{◌≡◌, refl, ap, sym, subst, ◌∙◌, Bool, true, false, not, cond, ◌&&◌, List, [], ◌∷◌, ◌++◌, ℕ, zero, suc, ◌+◌, ◌*◌, ◌<◌, ◌≤◌, ltb, leb, ℤ, pos, nat_abs, length, get_or, drop, arith, Option, Some, None, MatchOption, position, add-zero, drop-cons}
use Rattle.std.specs.List.{prefix_len}
use Rattle.std.proofs.Math.ListN.{set}
use Rattle.std.proofs.Math.Seq.{append_snoc, set_at, drop-length}
use Rattle.std.proofs.Math.Decide.{dec_lt}
use Rattle.std.proofs.lemmas.List.{append-nil}
use borrow.Author.Tests.{lt-ltb, le-ltb}
use Rattle.machine.specs.Causes.{in_range}
use Rattle.jobfile.specs.Bytes.{signed_four}
use Rattle.jobfile.specs.File.{readings_at}
use Rattle.running.specs.Execution.{first_out_of_range}

-- ---- a block from bytes

pub readings-length : (c : List ℕ) (n from : ℕ) → length (readings_at c n from) ≡ n
unfolding readings_at
readings-length c zero from = refl
readings-length c (suc n) from = ap suc (readings-length c n (from + 4))

readings_last : (c : List ℕ) (n from : ℕ) → readings_at c (n + 1) from ≡ readings_at c n from ++ signed_four c (from + 4 * n) ∷ []
unfolding readings_at
readings_last c zero from = ap (λ b. signed_four c b ∷ []) (sym (add-zero from))
readings_last c (suc n) from =
    ap (λ m. readings_at c m from) one
    ∙ ap (λ l. signed_four c from ∷ l) (readings_last c n (from + 4) ∙ ap (λ b. readings_at c n (from + 4) ++ signed_four c b ∷ []) place)
  where
    one : suc n + 1 ≡ suc (n + 1)
    one = omega arith

    place : from + 4 + 4 * n ≡ from + 4 * suc n
    place = omega arith

pub block_next : (c : List ℕ) (from n : ℕ) (b : List ℤ) → n < length b
    → set (readings_at c n from ++ drop n b) n (signed_four c (from + 4 * n)) ≡ readings_at c (n + 1) from ++ drop (n + 1) b
block_next c from n b h =
    ap (λ l. set (readings_at c n from ++ l) n (signed_four c (from + 4 * n))) (drop-cons b n (pos 0) h)
    ∙ set_at (readings_at c n from) (get_or b n (pos 0)) (drop (suc n) b) (signed_four c (from + 4 * n)) n (readings-length c n from)
    ∙ sym (append_snoc (readings_at c n from) (signed_four c (from + 4 * n)) (drop (suc n) b))
    ∙ ap (λ m. (readings_at c n from ++ signed_four c (from + 4 * n) ∷ []) ++ drop m b) next
    ∙ ap (λ l. l ++ drop (n + 1) b) (sym (readings_last c n from))
  where
    next : suc n ≡ n + 1
    next = omega arith

pub whole_block : (c : List ℕ) (from : ℕ) (b : List ℤ) → readings_at c (length b) from ++ drop (length b) b ≡ readings_at c (length b) from
whole_block c from b = ap (λ l. readings_at c (length b) from ++ l) (drop-length b) ∙ append-nil (readings_at c (length b) from)

-- ---- the first that is out of range

bad_range : (rs : List ℤ) → first_out_of_range rs < length rs → in_range rs ≡ false
unfolding first_out_of_range in_range
bad_range [] h = absurd (omega (arith, h))
bad_range (x ∷ rs) h = step (leb (nat_abs x) 1048576) h (bad_range rs)
  where
    step : (t : Bool) → cond t (suc (first_out_of_range rs)) 0 < suc (length rs) → (first_out_of_range rs < length rs → in_range rs ≡ false) → (t && in_range rs) ≡ false
    step true g f = f (omega (arith, g))
    step false g f = refl

all_range : (rs : List ℤ) → length rs ≤ first_out_of_range rs → in_range rs ≡ true
unfolding first_out_of_range in_range
all_range [] h = refl
all_range (x ∷ rs) h = step (leb (nat_abs x) 1048576) h (all_range rs)
  where
    step : (t : Bool) → suc (length rs) ≤ cond t (suc (first_out_of_range rs)) 0 → (length rs ≤ first_out_of_range rs → in_range rs ≡ true) → (t && in_range rs) ≡ true
    step true g f = f (omega (arith, g))
    step false g f = absurd (omega (arith, g))

first_is : (rs : List ℤ) → prefix_len (λ x. not (not (leb (nat_abs x) 1048576))) rs ≡ first_out_of_range rs
unfolding first_out_of_range
first_is [] = refl
first_is (x ∷ rs) = step (leb (nat_abs x) 1048576) (first_is rs)
  where
    step : (t : Bool) → prefix_len (λ y. not (not (leb (nat_abs y) 1048576))) rs ≡ first_out_of_range rs
        → cond (not (not t)) (1 + prefix_len (λ y. not (not (leb (nat_abs y) 1048576))) rs) 0 ≡ cond t (suc (first_out_of_range rs)) 0
    step true e = omega (arith, e)
    step false e = refl

abbrev Found : List ℤ → Option ℕ → Type 0
Found rs o = MatchOption o (in_range rs ≡ true) (λ n. (in_range rs ≡ false) × (n ≡ first_out_of_range rs))

position_range : (rs : List ℤ) → Found rs (position (λ x. not (leb (nat_abs x) 1048576)) rs)
position_range rs = subst (λ k. Found rs (cond (ltb k (length rs)) (Some k) None)) (sym (first_is rs)) (by (dec_lt (first_out_of_range rs) (length rs)))
  where
    by : Dec (first_out_of_range rs < length rs) → Found rs (cond (ltb (first_out_of_range rs) (length rs)) (Some (first_out_of_range rs)) None)
    by (yes h) = rw (lt-ltb (first_out_of_range rs) (length rs) h) (bad_range rs h, refl)
    by (no h) = rw (le-ltb (first_out_of_range rs) (length rs) (omega (arith, h))) (all_range rs (omega (arith, h)))

-- a search for one comes to the first, or finds all in range
pub bad_found : (rs : List ℤ) (n : ℕ) → Some n ≡ position (λ x. not (leb (nat_abs x) 1048576)) rs → (in_range rs ≡ false) × (n ≡ first_out_of_range rs)
bad_found rs n e = subst (Found rs) (sym e) (position_range rs)

pub none_found : (rs : List ℤ) → None ≡ position (λ x. not (leb (nat_abs x) 1048576)) rs → in_range rs ≡ true
none_found rs e = subst (Found rs) (sym e) (position_range rs)
