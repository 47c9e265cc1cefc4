-- Levels packed into a word: equal words have equal levels, and the word of eight has 64 bits.
-- The idea: the word of a list is its first level and 256 times the word of the others, and 256 times a number leaves no room for a level below it.
-- Assumes nothing.
use mathlib.Core.Path.{◌≡◌, refl, sym, ap, ap₂, ◌∙◌, subst}
use mathlib.Core.Bool.{Bool, true, false, cond}
use mathlib.Core.List.{List, [], ◌∷◌}
use Prim.Native.Nat.{ℕ, zero, suc, ◌+◌, ◌*◌, ◌/◌, ◌%◌, ◌^◌, ◌<◌, ◌≤◌}
use native.Mathlib.Nat.{pow-suc, pow-succ', mul_assoc, div-div-eq-div-mul, pow-le-pow_right, lt_of_lt_of_le}
use native.Mathlib.Numerals.{add-one, one-add}
use native.Mathlib.Omega.{arith}
use borrow.Author.Tests.{ltb-true, lt-ltb}
use lib.Dec.{ltb}
use lib.ListN.{length, set, drop, length-drop, drop_of_length-le}
use lib.Seq.{drop-cons}
use Rattle.sums.specs.Sums.{nat_sum_to}
use Rattle.sums.proofs.Sizes.{nat_sum_to-append, nat_sum_to_cong, nat_sum_to_mul}
use Rattle.grid.specs.Index.{level}
use Rattle.grid.proofs.Levels.{and_left, and_right, and_both}
use Rattle.area.specs.declared.IndexRecord.{IndexRecord}
use Rattle.std.specs.Prelude.{Some, None}
use Rattle.std.proofs.lemmas.Option.{cond_some}
use Rattle.area.specs.Packed.{packed, FitsByte, AllFitByte, fits_byte, all_fit_byte, packing_of, words_with}
use Rattle.area.specs.Facts.{PackFacts}

-- ---- one level more

module _ (x : ℕ) (k : List ℕ) where
  abbrev term : ℕ → ℕ
  term a = level (x ∷ k) a * 256 ^ a

  first : nat_sum_to 1 term ≡ x
  unfolding nat_sum_to
  first = omega arith

  others : nat_sum_to (length k) (λ a. term (1 + a)) ≡ packed k * 256
  unfolding packed
  others = nat_sum_to_cong (length k) one ∙ nat_sum_to_mul (length k) (λ a. level k a * 256 ^ a) 256
    where
      one : (a : ℕ) → term (1 + a) ≡ level k a * 256 ^ a * 256
      one a = ap term (one-add a) ∙ ap (λ n. level k a * n) (pow-suc 256 a) ∙ sym (mul_assoc (level k a) (256 ^ a) 256)

  pub packed-cons : packed (x ∷ k) ≡ x + packed k * 256
  unfolding packed
  packed-cons = ap (λ n. nat_sum_to n term) (sym (one-add (length k))) ∙ nat_sum_to-append 1 (length k) term ∙ ap₂ ◌+◌ first others

  pub fits_others : FitsByte (x ∷ k) → FitsByte k
  fits_others f a h = f (suc a) (omega (arith, h))

  pub fits_more : x < 256 → FitsByte k → FitsByte (x ∷ k)
  fits_more h f zero l = h
  fits_more h f (suc a) l = f a (omega (arith, l))

packed_none : packed [] ≡ 0
unfolding packed nat_sum_to
packed_none = refl

fits-none : FitsByte []
fits-none a h = absurd (omega (arith, h))

-- ---- the theorem

pub word_exactly : (k l : List ℕ) → length k ≡ length l → FitsByte k → FitsByte l → packed k ≡ packed l → k ≡ l
word_exactly [] [] h f g e = refl
word_exactly [] (y ∷ l) h f g e = absurd (omega (arith, h))
word_exactly (x ∷ k) [] h f g e = absurd (omega (arith, h))
word_exactly (x ∷ k) (y ∷ l) h f g e =
    let s : x + packed k * 256 ≡ y + packed l * 256 = sym (packed-cons x k) ∙ e ∙ packed-cons y l in
    let a : x < 256 = f 0 (omega arith) in
    let b : y < 256 = g 0 (omega arith) in
    ap₂ (λ (z : ℕ) (zs : List ℕ). z ∷ zs) (omega (arith, s, a, b))
    (word_exactly k l (omega (arith, h)) (fits_others x k f) (fits_others y l g) (omega (arith, s, a, b)))

pub word_small : (k : List ℕ) → FitsByte k → packed k < 256 ^ length k
word_small [] f = omega (arith, packed_none)
word_small (x ∷ k) f = omega (arith, packed-cons x k, pow-suc 256 (length k), word_small k (fits_others x k f), f 0 (omega arith))

small_word : (k : List ℕ) → length k ≡ 8 → FitsByte k → packed k < 2 ^ 64
small_word k h f = subst (λ n. packed k < 256 ^ n) h (word_small k f)

-- ---- the test

fits_sure : (k : List ℕ) → fits_byte k ≡ true → FitsByte k
unfolding fits_byte
fits_sure [] e = fits-none
fits_sure (x ∷ k) e = fits_more x k (ltb-true x 256 (and_left (ltb x 256) (fits_byte k) e)) (fits_sure k (and_right (ltb x 256) (fits_byte k) e))

fits_back : (k : List ℕ) → FitsByte k → fits_byte k ≡ true
unfolding fits_byte
fits_back [] f = refl
fits_back (x ∷ k) f = and_both (ltb x 256) (fits_byte k) (lt-ltb x 256 (f 0 (omega arith))) (fits_back k (fits_others x k f))

all_sure : (rs : List IndexRecord) → all_fit_byte rs ≡ true → AllFitByte rs
unfolding all_fit_byte
all_sure [] e p h = absurd (omega (arith, h))
all_sure (r ∷ rs) e zero h = fits_sure r.levels (and_left (fits_byte r.levels) (all_fit_byte rs) e)
all_sure (r ∷ rs) e (suc p) h = all_sure rs (and_right (fits_byte r.levels) (all_fit_byte rs) e) p (omega (arith, h))

all_back : (rs : List IndexRecord) → AllFitByte rs → all_fit_byte rs ≡ true
unfolding all_fit_byte
all_back [] f = refl
all_back (r ∷ rs) f = and_both (fits_byte r.levels) (all_fit_byte rs) (fits_back r.levels (f 0 (omega arith))) (all_back rs (λ p h. f (suc p) (omega (arith, h))))

-- ---- byte by byte

byte_is : (k : List ℕ) (a : ℕ) → FitsByte k → a < length k → packed k / 256 ^ a % 256 ≡ level k a
byte_is [] a f h = absurd (omega (arith, h))
byte_is (x ∷ k) zero f h = omega (arith, packed-cons x k, f 0 (omega arith))
byte_is (x ∷ k) (suc a) f h =
    let others : packed (x ∷ k) / 256 ≡ packed k = omega (arith, packed-cons x k, f 0 (omega arith)) in
    ap (λ n. packed (x ∷ k) / n % 256) (pow-succ' 256 a) ∙ ap (λ n. n % 256) (sym (div-div-eq-div-mul (packed (x ∷ k)) 256 (256 ^ a))) ∙ ap (λ n. n / 256 ^ a % 256) others
    ∙ byte_is k a (fits_others x k f) (omega (arith, h))

pub pack_facts : PackFacts
pack_facts =
    record {
      exactly = λ k l h f g. (word_exactly k l h f g, ap packed);
      small = small_word;
      tested = λ k. (fits_sure k, fits_back k);
      all_tested = λ rs. (all_sure rs, all_back rs);
      byte = byte_is;
    }

pub larger-not : (k : List ℕ) (a : ℕ) → a < length k → 255 < level k a → fits_byte k ≡ false
larger-not k a h l = step (fits_byte k) refl
  where
    step : (t : Bool) → fits_byte k ≡ t → t ≡ false
    step true e = absurd (omega (arith, fits_sure k e a h, l))
    step false e = refl

-- ---- what packing answers

module _ (k : List ℕ) where
  pub told_word : (w : ℕ) → packing_of k ≡ Some w → (fits_byte k ≡ true) × (packed k ≡ w)
  unfolding packing_of
  told_word w e = cond_some (fits_byte k) (packed k) w e

  pub told_larger : packing_of k ≡ None → fits_byte k ≡ false
  unfolding packing_of
  told_larger e = step (fits_byte k) e
    where
      step : (t : Bool) → cond t (Some (packed k)) None ≡ None → t ≡ false
      step true e = absurd (let z : ◌≡◌ {A = ℕ} 0 1 = cc in omega arith)
      step false e = refl

  -- the word that it answers is the one written, and where it answers none, none is written
  pub put_is : (ws : List ℕ) (p w : ℕ) → packing_of k ≡ Some w → words_with ws p k ≡ set ws p w
  unfolding words_with
  put_is ws p w e = let t = told_word w e in rw (t.0, t.1) refl

  pub put_none : (ws : List ℕ) (p : ℕ) → packing_of k ≡ None → words_with ws p k ≡ ws
  unfolding words_with
  put_none ws p e = rw (told_larger e) refl

-- ---- from the last axis down

pub none_passed : (k : List ℕ) → length k ≡ 8 → (0 ≡ packed (drop 8 k)) × FitsByte (drop 8 k)
none_passed k h = let n : length k ≤ 8 = omega (arith, h) in rw (drop_of_length-le k n) (sym packed_none, fits-none)

pub all_passed : (k : List ℕ) → drop 0 k ≡ k
all_passed [] = refl
all_passed (x ∷ k) = refl

module _ (k : List ℕ) (a : ℕ) (h : a < length k) where
  front : drop a k ≡ level k a ∷ drop (a + 1) k
  front = drop-cons k a 0 h ∙ ap (λ n. level k a ∷ drop n k) (sym (add-one a))

  pub packed_step : packed (drop a k) ≡ packed (drop (a + 1) k) * 256 + level k a
  packed_step = ap packed front ∙ packed-cons (level k a) (drop (a + 1) k) ∙ omega arith

  pub fits_step : level k a < 256 → FitsByte (drop (a + 1) k) → FitsByte (drop a k)
  fits_step l f = subst FitsByte (sym front) (fits_more (level k a) (drop (a + 1) k) l f)

  -- a byte more has room in 64 bits
  pub step_room : length k ≡ 8 → FitsByte (drop (a + 1) k) → packed (drop (a + 1) k) * 256 + 255 < 2 ^ 64
  step_room e f =
      let n : length (drop (a + 1) k) ≤ 7 = omega (arith, length-drop (a + 1) k, e, h) in
      let s : packed (drop (a + 1) k) < 256 ^ 7 = lt_of_lt_of_le (word_small (drop (a + 1) k) f) (pow-le-pow_right (omega arith) n) in
      omega (arith, s)
