-- A field is cut off, breaks its rule, or is kept and leaves the answer to what comes next; and how a formed file has each of its fields.
-- Assumes nothing.
use mathlib.Core.Path.{◌≡◌, refl, sym}
use mathlib.Core.Bool.{Bool, true, false, cond, ◌&&◌}
use Prim.Native.Nat.{ℕ, ◌+◌, ◌<◌, ◌≤◌}
use native.Mathlib.Omega.{arith}
use lib.Dec.{ltb, leb}
use borrow.Author.Tests.{ltb-true, ltb-false, lt-ltb, le-ltb, leb-true, le-leb, lt-leb}
use Rattle.jobfile.specs.Form.{Fault, Form, formed, broken, field}

pub never_both : {f : Fault} → formed ≡ broken f → ⊥
never_both e = let z : ◌≡◌ {A = ℕ} 0 1 = cc in omega arith

module _ (part : ℕ → Fault) (size from n : ℕ) (rule : Bool) (next : Form) where
  pub cut_off : size < from + n → field part size from n rule next ≡ broken (part size)
  unfolding field
  cut_off h = rw (lt-ltb size (from + n) h)

  pub refused : from + n ≤ size → rule ≡ false → field part size from n rule next ≡ broken (part from)
  unfolding field
  refused h e = rw (le-ltb size (from + n) h, e)

  pub kept : from + n ≤ size → rule ≡ true → field part size from n rule next ≡ next
  unfolding field
  kept h e = rw (le-ltb size (from + n) h, e)

  -- so what holds in each of the three cases holds of the test
  pub by_field : (P : Form → Type 0) → (size < from + n → P (broken (part size))) → (from + n ≤ size → rule ≡ true → P next)
      → (from + n ≤ size → rule ≡ false → P (broken (part from))) → P (field part size from n rule next)
  unfolding field
  by_field P early later wrong = by (ltb size (from + n)) rule refl refl
    where
      by : (t r : Bool) → ltb size (from + n) ≡ t → rule ≡ r → P (cond t (broken (part size)) (cond r next (broken (part from))))
      by true r t u = early (ltb-true size (from + n) t)
      by false true t u = later (ltb-false size (from + n) t) u
      by false false t u = wrong (ltb-false size (from + n) t) u

-- a field without a rule, where the file ends before what comes next: it ends early all the same
pub cut_later : (part : ℕ → Fault) (size from n : ℕ) (next : Form) → next ≡ broken (part size) → field part size from n true next ≡ broken (part size)
unfolding field
cut_later part size from n next e = early (ltb size (from + n))
  where
    early : (b : Bool) → cond b (broken (part size)) (cond true next (broken (part from))) ≡ broken (part size)
    early true = refl
    early false = e

-- what a formed file says of a field
pub record Kept (size from n : ℕ) (rule : Bool) (next : Form) : Type 0 where
  pub inside : from + n ≤ size
  pub keeps : rule ≡ true
  pub rest : next ≡ formed

pub has_field : (part : ℕ → Fault) (size from n : ℕ) (rule : Bool) (next : Form) → field part size from n rule next ≡ formed → Kept size from n rule next
has_field part size from n rule next =
    by_field part size from n rule next (λ t. t ≡ formed → Kept size from n rule next) (λ h e. absurd (never_both (sym e)))
    (λ h u e. record { inside = h; keeps = u; rest = e }) (λ h u e. absurd (never_both (sym e)))

-- a field that stops the test does so whatever comes next
pub stops : (part : ℕ → Fault) (size from n : ℕ) (rule : Bool) (a b : Form) {f : Fault} → (a ≡ broken f → b ≡ broken f)
    → field part size from n rule a ≡ broken f → field part size from n rule b ≡ broken f
unfolding field
stops part size from n rule a b {f} g e = by (ltb size (from + n)) rule e
  where
    by : (t r : Bool) → cond t (broken (part size)) (cond r a (broken (part from))) ≡ broken f
        → cond t (broken (part size)) (cond r b (broken (part from))) ≡ broken f
    by true r e = e
    by false true e = g e
    by false false e = e

-- a field that two files have, with the same rule: they are answered alike if, where the rule is kept, what comes next is
pub alike : (part : ℕ → Fault) (size other from n : ℕ) (rule again : Bool) (a b : Form) → from + n ≤ size → from + n ≤ other → rule ≡ again → (rule ≡ true → a ≡ b)
    → field part size from n rule a ≡ field part other from n again b
unfolding field
alike part size other from n rule again a b h g e f = rw (le-ltb size (from + n) h, le-ltb other (from + n) g, sym e) (by rule f)
  where
    by : (r : Bool) → (r ≡ true → a ≡ b) → cond r a (broken (part from)) ≡ cond r b (broken (part from))
    by true f = f refl
    by false f = refl

-- ---- the rule of a count: 1 to 8,192, and 8,192 with those before it
abbrev pub count_rule : ℕ → ℕ → Bool
count_rule before k = leb 1 k && leb k 8192 && leb (before + k) 8192

pub rule_none : (before k : ℕ) → k < 1 → count_rule before k ≡ false
rule_none before k h = rw (lt-leb 1 k h)

pub rule_many : (before k : ℕ) → 8192 < before + k → count_rule before k ≡ false
rule_many before k h = by (leb 1 k) (leb k 8192) (lt-leb (before + k) 8192 h)
  where
    by : (a b : Bool) {t : Bool} → t ≡ false → (a && b && t) ≡ false
    by true true e = e
    by true false e = refl
    by false b e = refl

pub rule_kept : (before k : ℕ) → 1 ≤ k → before + k ≤ 8192 → count_rule before k ≡ true
rule_kept before k l h = rw (le-leb 1 k l, le-leb k 8192 (omega arith), le-leb (before + k) 8192 h)

pub record InRange (before k : ℕ) : Type 0 where
  pub some : 1 ≤ k
  pub few : k ≤ 8192
  pub all : before + k ≤ 8192

pub in_range_lem : (before k : ℕ) → count_rule before k ≡ true → InRange before k
in_range_lem before k e = by (leb 1 k) (leb k 8192) (leb (before + k) 8192) refl refl refl e
  where
    clash : false ≡ true → InRange before k
    clash q = let z : ◌≡◌ {A = ℕ} 0 1 = cc in absurd (omega arith)

    by : (a b t : Bool) → leb 1 k ≡ a → leb k 8192 ≡ b → leb (before + k) 8192 ≡ t → (a && b && t) ≡ true → InRange before k
    by true true true p q r e = record { some = leb-true 1 k p; few = leb-true k 8192 q; all = leb-true (before + k) 8192 r }
    by true true false p q r e = clash e
    by true false t p q r e = clash e
    by false b t p q r e = clash e
