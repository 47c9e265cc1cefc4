-- The table's form, entry by entry: an entry test by test as the code asks them, and what a formed file says of its entries.
-- Assumes nothing.
use mathlib.Core.Path.{◌≡◌, refl, sym, ap, ◌∙◌, subst}
use mathlib.Core.Logic.{⊎_elim}
use mathlib.Core.Bool.{Bool, true, false, cond}
use mathlib.Core.List.{List}
use Prim.Native.Nat.{ℕ, zero, suc, ◌+◌, ◌*◌, ◌-◌, ◌<◌, ◌≤◌}
use native.Mathlib.Omega.{arith}
use native.Mathlib.Nat.{eq-or-lt_of_le}
use native.Mathlib.Numerals.{add-one}
use lib.Dec.{eqb}
use lib.ListN.{length}
use borrow.Author.Tests.{eqb-true, eq-eqb, ne_eqb}
use Rattle.jobfile.specs.Bytes.{four}
use Rattle.jobfile.specs.Form.{Form, entry, formed, broken, field, entry_byte, readings_byte, table_form}
use Rattle.jobfile.specs.File.{total_before}
use Rattle.jobfile.proofs.Fields.{never_both, cut_off, refused, kept, cut_later, has_field, count_rule, rule_none, rule_many, rule_kept, in_range_lem}

-- the test of n entries is that of the first, and then that of the others
pub one_more : (c : List ℕ) (n i before : ℕ) (next : ℕ → Form) → i < n
    → table_form c (n - i) i before next ≡ table_form c 1 i before (λ total. table_form c (n - (i + 1)) (i + 1) total next)
unfolding table_form
one_more c n i before next h = let e : n - i ≡ suc (n - (i + 1)) = omega arith in ap (λ m. table_form c m i before next) e

pub none_left : (c : List ℕ) (n i before : ℕ) (next : ℕ → Form) → n ≤ i → table_form c (n - i) i before next ≡ next before
unfolding table_form
none_left c n i before next h = let e : n - i ≡ 0 = omega arith in ap (λ m. table_form c m i before next) e

-- the readings that entry i counts
abbrev counts : List ℕ → ℕ → ℕ
counts c i = four c (entry_byte i + 4)

-- ---- one entry
module _ (c : List ℕ) (i before : ℕ) (next : ℕ → Form) where
  abbrev from_offset : Form
  from_offset = field entry (length c) (entry_byte i + 8) 4 (eqb (four c (entry_byte i + 8)) (readings_byte c + 4 * before)) (next (before + counts c i))

  abbrev from_count : Form
  from_count = field entry (length c) (entry_byte i + 4) 4 (count_rule before (counts c i)) from_offset

  pub entry_cut : length c < entry_byte i + 8 → table_form c 1 i before next ≡ broken (entry (length c))
  unfolding table_form
  entry_cut h = cut_later entry (length c) (entry_byte i) 4 from_count (cut_off entry (length c) (entry_byte i + 4) 4 (count_rule before (counts c i)) from_offset (omega arith))

  module _ (there : entry_byte i + 8 ≤ length c) where
    passed : table_form c 1 i before next ≡ from_count
    unfolding table_form
    passed = kept entry (length c) (entry_byte i) 4 true from_count (omega arith) refl

    against : count_rule before (counts c i) ≡ false → table_form c 1 i before next ≡ broken (entry (entry_byte i + 4))
    against e = passed ∙ refused entry (length c) (entry_byte i + 4) 4 (count_rule before (counts c i)) from_offset (omega arith) e

    pub entry-none : counts c i < 1 → table_form c 1 i before next ≡ broken (entry (entry_byte i + 4))
    entry-none h = against (rule_none before (counts c i) h)

    pub entry_many : 8192 < before + counts c i → table_form c 1 i before next ≡ broken (entry (entry_byte i + 4))
    entry_many h = against (rule_many before (counts c i) h)

    module _ (some : 1 ≤ counts c i) (few : before + counts c i ≤ 8192) where
      counted : table_form c 1 i before next ≡ from_offset
      counted = passed ∙ kept entry (length c) (entry_byte i + 4) 4 (count_rule before (counts c i)) from_offset (omega arith) (rule_kept before (counts c i) some few)

      abbrev rule : Bool
      rule = eqb (four c (entry_byte i + 8)) (readings_byte c + 4 * before)

      pub entry-short : length c < entry_byte i + 12 → table_form c 1 i before next ≡ broken (entry (length c))
      entry-short h = counted ∙ cut_off entry (length c) (entry_byte i + 8) 4 rule (next (before + counts c i)) (omega arith)

      pub entry_offset : entry_byte i + 12 ≤ length c → (four c (entry_byte i + 8) ≡ readings_byte c + 4 * before → ⊥)
          → table_form c 1 i before next ≡ broken (entry (entry_byte i + 8))
      entry_offset h n =
          counted ∙ refused entry (length c) (entry_byte i + 8) 4 rule (next (before + counts c i)) (omega arith) (ne_eqb (four c (entry_byte i + 8)) (readings_byte c + 4 * before) n)

      pub entry_kept : entry_byte i + 12 ≤ length c → four c (entry_byte i + 8) ≡ readings_byte c + 4 * before → table_form c 1 i before next ≡ next (before + counts c i)
      entry_kept h e =
          counted ∙ kept entry (length c) (entry_byte i + 8) 4 rule (next (before + counts c i)) (omega arith) (eq-eqb (four c (entry_byte i + 8)) (readings_byte c + 4 * before) e)

-- ---- what a formed file says of its entries
pub record EntryKept (c : List ℕ) (k : ℕ) : Type 0 where
  pub inside : entry_byte k + 12 ≤ length c
  pub some : 1 ≤ four c (entry_byte k + 4)
  pub few : four c (entry_byte k + 4) ≤ 8192
  pub offset : four c (entry_byte k + 8) ≡ readings_byte c + 4 * total_before c k

pub record TableKept (c : List ℕ) (end i : ℕ) (next : ℕ → Form) : Type 0 where
  pub each : (k : ℕ) → i ≤ k → k < end → EntryKept c k
  pub total : total_before c end ≤ 8192
  pub rest : next (total_before c end) ≡ formed

first_or : (c : List ℕ) (i end : ℕ) → EntryKept c i → ((k : ℕ) → i + 1 ≤ k → k < end → EntryKept c k) → (k : ℕ) → i ≤ k → k < end → EntryKept c k
first_or c i end e f k l h = ⊎_elim (λ q. subst (EntryKept c) q e) (λ q. f k (omega arith) h) (eq-or-lt_of_le l)

pub nothing_before : (c : List ℕ) → 0 ≡ total_before c 0
unfolding total_before
nothing_before c = refl

pub before_next : (c : List ℕ) (i before : ℕ) → before ≡ total_before c i → before + four c (entry_byte i + 4) ≡ total_before c (i + 1)
unfolding total_before
before_next c i before e = rw (add-one i) (ap (λ b. b + four c (entry_byte i + 4)) e)

pub has_table : (c : List ℕ) (n i end before : ℕ) (next : ℕ → Form) → i + n ≡ end → before ≡ total_before c i → before ≤ 8192
    → table_form c n i before next ≡ formed → TableKept c end i next
unfolding table_form
has_table c zero i end before next m b h e =
    let q : before ≡ total_before c end = b ∙ ap (total_before c) (omega arith) in
    record { each = λ k l g. absurd (omega arith); total = omega arith; rest = ap next (sym q) ∙ e }
has_table c (suc n) i end before next m b h e =
    let rest : Form = table_form c n (i + 1) (before + counts c i) next in
    let offset = eqb (four c (entry_byte i + 8)) (readings_byte c + 4 * before) in
    let a = has_field entry (length c) (entry_byte i) 4 true _ e in
    let d = has_field entry (length c) (entry_byte i + 4) 4 (count_rule before (counts c i)) _ a.rest in
    let o = has_field entry (length c) (entry_byte i + 8) 4 offset rest d.rest in
    let r = in_range_lem before (counts c i) d.keeps in
    let later = has_table c n (i + 1) end (before + counts c i) next (omega arith) (before_next c i before b) r.all o.rest in
    let this : EntryKept c i = record {
      inside = omega (arith, o.inside);
      some = r.some;
      few = r.few;
      offset = eqb-true (four c (entry_byte i + 8)) (readings_byte c + 4 * before) o.keeps ∙ ap (λ x. readings_byte c + 4 * x) b;
    } in
    record { each = first_or c i end this later.each; total = later.total; rest = later.rest }

-- an answer for whatever comes next is the total
pub record Answered (c : List ℕ) (end i t : ℕ) : Type 0 where
  pub each : (k : ℕ) → i ≤ k → k < end → EntryKept c k
  pub small : t ≤ 8192
  pub is : t ≡ total_before c end

pub answered : (c : List ℕ) (n i end before t : ℕ) → i + n ≡ end → before ≡ total_before c i → before ≤ 8192
    → ((next : ℕ → Form) → next t ≡ table_form c n i before next) → Answered c end i t
answered c n i end before t m b h f =
    let k = has_table c n i end before asks m b h (sym (f asks) ∙ rw (eq-eqb t t refl)) in
    let e = same (total_before c end) k.rest in
    record { each = k.each; small = omega (arith, k.total); is = e }
  where
    asks : ℕ → Form
    asks k = cond (eqb k t) formed (broken (entry 0))

    same : (k : ℕ) → asks k ≡ formed → t ≡ k
    same k = by (eqb k t) refl
      where
        by : (b : Bool) → eqb k t ≡ b → cond b formed (broken (entry 0)) ≡ formed → t ≡ k
        by true u e = sym (eqb-true k t u)
        by false u e = absurd (never_both (sym e))

-- the readings begin within a formed file
pub table_inside : (c : List ℕ) (end : ℕ) → 24 ≤ length c → ((k : ℕ) → 0 ≤ k → k < end → EntryKept c k) → entry_byte end ≤ length c
table_inside c zero h f = omega arith
table_inside c (suc k) h f = omega (arith, (f k (omega arith) (omega arith)).inside)
