-- The byte of a fault is the one that the fields say: the tests pass the fields in byte order, and the first that is not kept stops them.
-- Assumes nothing.
use mathlib.Core.Path.{◌≡◌, refl, sym, ap, ◌∙◌, subst}
use mathlib.Core.Logic.{inl, inr}
use mathlib.Core.Bool.{Bool, true, false, cond}
use mathlib.Core.List.{List}
use Prim.Native.Nat.{ℕ, zero, suc, ◌+◌, ◌*◌, ◌<◌, ◌≤◌}
use native.Mathlib.Omega.{arith}
use lib.Dec.{leb, eqb}
use lib.ListN.{length}
use borrow.Author.Tests.{leb-true, le-leb, eqb-true, eqb-false, eq-eqb}
use Rattle.jobfile.specs.Bytes.{four}
use Rattle.jobfile.specs.Form.{Fault, Form, header, entry, readings, formed, broken, field, header_form, entry_count, entry_byte, readings_byte, table_form, readings_form, form_of}
use Rattle.jobfile.specs.File.{total_before}
use Rattle.jobfile.specs.Fields.{Field, axes, budget, threshold, entries, table_offset, indicator, count, offset, reading, width, first_byte, total, HasField, Rule, KeptBefore, NamedByte}
use Rattle.jobfile.proofs.Fields.{never_both, by_field, count_rule, rule_kept, in_range_lem}
use Rattle.jobfile.proofs.TableForm.{nothing_before, before_next}
use Rattle.jobfile.proofs.Places.{one_more, none_before, before_end}

-- a fault is told by its byte
same_byte : {f g : Fault} → broken f ≡ broken g → g.byte ≡ f.byte
same_byte {f} e = sym (ap byte_in e)
  where
    byte_in : Form → ℕ
    byte_in formed = 0
    byte_in (broken x) = x.byte

module _ (c : List ℕ) where
  -- the tests t, from a byte on, name what the fields say
  abbrev From : ℕ → Form → Type 0
  From b t = b ≤ length c → KeptBefore c b → (x : Fault) → t ≡ broken x → NamedByte c x.byte

  -- ---- one field, whose rule the Boolean r tests
  module _ (part : ℕ → Fault) (names : (b : ℕ) → (part b).byte ≡ b) (f : Field) (has : HasField c f) (r : Bool) (sure : r ≡ true → Rule c f) (back : Rule c f → r ≡ true)
      (next : Form) (later : From (first_byte c f + width f) next) where
    tested : From (first_byte c f) (field part (length c) (first_byte c f) (width f) r next)
    tested l before x =
        by_field part (length c) (first_byte c f) (width f) r next (λ t. t ≡ broken x → NamedByte c x.byte)
        (λ cut e. inr (inl (record { field = f; has = has; before = before; cut_off = cut; named = same_byte e ∙ names (length c) })))
        (λ inside u e. later inside (one_more c f has before (record { inside = inside; rule = sure u })) x e)
        (λ inside u e.
        inl (record {
          field = f;
          has = has;
          before = before;
          inside = inside;
          breaks = λ k. let clash : true ≡ false = sym (back k) ∙ u in let z : ◌≡◌ {A = ℕ} 0 1 = cc in omega arith;
          named = same_byte e ∙ names (first_byte c f);
        }))

  from_byte : (a b : ℕ) (t : Form) → a ≡ b → From b t → From a t
  from_byte a b t e w = subst (λ n. From n t) (sym e) w

  -- ---- the end of the file, after k readings
  end_tested : (k : ℕ) → k ≡ total c → From (readings_byte c + 4 * k) (readings_form (length c) 0 (readings_byte c + 4 * k))
  unfolding readings_form
  end_tested k all l before x = by (eqb (length c) (readings_byte c + 4 * k)) refl
    where
      by : (t : Bool) → eqb (length c) (readings_byte c + 4 * k) ≡ t → cond t formed (broken (readings (readings_byte c + 4 * k))) ≡ broken x → NamedByte c x.byte
      by true t e = absurd (never_both e)
      by false t e =
          let byte : x.byte ≡ readings_byte c + 4 * k = same_byte e in
          inr (inr (record {
            kept = λ f h. before f h (omega (arith, before_end c f h, all));
            more = omega (arith, byte, l, eqb-false (length c) (readings_byte c + 4 * k) t);
            named = omega (arith, byte, all);
          }))

  -- ---- the readings: n of them from number k on
  readings_tested : (n k : ℕ) → k + n ≡ total c → From (readings_byte c + 4 * k) (readings_form (length c) n (readings_byte c + 4 * k))
  unfolding readings_form
  readings_tested zero k m = end_tested k (omega arith)
  readings_tested (suc n) k m =
      tested readings (λ b. refl) (reading k) (omega arith) true (λ _. tt) (λ _. refl) (readings_form (length c) n (readings_byte c + 4 * k + 4))
      (subst (λ b. From b (readings_form (length c) n b)) place (readings_tested n (k + 1) (omega arith)))
    where
      place : readings_byte c + 4 * (k + 1) ≡ readings_byte c + 4 * k + 4
      place = omega arith

  -- ---- the table: n entries from number i on
  count_sure : (i before : ℕ) → before ≡ total_before c i → count_rule before (four c (entry_byte i + 4)) ≡ true → Rule c (count i)
  unfolding total_before
  count_sure i before b e =
      let r = in_range_lem before (four c (entry_byte i + 4)) e in
      (r.some, r.few, omega (arith, r.all, b))

  count_back : (i before : ℕ) → before ≡ total_before c i → Rule c (count i) → count_rule before (four c (entry_byte i + 4)) ≡ true
  unfolding total_before
  count_back i before b r = rule_kept before (four c (entry_byte i + 4)) r.0 (omega (arith, r.2, b))

  table_tested : (n i before : ℕ) (next : ℕ → Form) → i + n ≡ entry_count c → before ≡ total_before c i → From (readings_byte c) (next (total c)) → From (entry_byte i) (table_form c n i before next)
  unfolding table_form
  table_tested zero i before next m b later = subst (λ k. From (entry_byte i) (next k)) (sym q) (from_byte (entry_byte i) (readings_byte c) (next (total c)) (omega arith) later)
    where
      q : before ≡ total c
      q = b ∙ ap (total_before c) (omega arith)
  table_tested (suc n) i before next m b later =
      let has : i < entry_count c = omega arith in
      let begin = readings_byte c + 4 * before in
      let same : begin ≡ readings_byte c + 4 * total_before c i = ap (λ x. readings_byte c + 4 * x) b in
      let rest : Form = table_form c n (i + 1) (before + four c (entry_byte i + 4)) next in
      let others : From (entry_byte (i + 1)) rest = table_tested n (i + 1) (before + four c (entry_byte i + 4)) next (omega arith) (before_next c i before b) later in
      tested entry (λ b. refl) (indicator i) has true (λ _. tt) (λ _. refl) _
      (tested entry (λ b. refl) (count i) has (count_rule before (four c (entry_byte i + 4))) (count_sure i before b) (count_back i before b) _
      (from_byte (entry_byte i + 4 + 4) (entry_byte i + 8) _ (omega arith)
      (tested entry (λ b. refl) (offset i) has (eqb (four c (entry_byte i + 8)) begin) (λ e. eqb-true (four c (entry_byte i + 8)) begin e ∙ same)
      (λ e. eq-eqb (four c (entry_byte i + 8)) begin (e ∙ sym same)) rest (from_byte (entry_byte i + 8 + 4) (entry_byte (i + 1)) rest (omega arith) others))))

  -- ---- the header, and all
  header_tested : (next : Form) → From 24 next → From 0 (header_form c next)
  unfolding header_form
  header_tested next later =
      tested header (λ b. refl) axes tt true (λ _. tt) (λ _. refl) _
      (tested header (λ b. refl) budget tt true (λ _. tt) (λ _. refl) _
      (tested header (λ b. refl) threshold tt true (λ _. tt) (λ _. refl) _
      (tested header (λ b. refl) entries tt (leb (four c 16) 512) (leb-true (four c 16) 512) (le-leb (four c 16) 512) _
      (tested header (λ b. refl) table_offset tt (eqb (four c 20) 24) (eqb-true (four c 20) 24) (eq-eqb (four c 20) 24) next later))))

  all_tested : From 0 (form_of c)
  unfolding form_of
  all_tested =
      header_tested _
      (table_tested (entry_count c) 0 0 (λ k. readings_form (length c) k (readings_byte c)) (omega arith) (nothing_before c)
      (subst (λ b. From b (readings_form (length c) (total c) b)) first (readings_tested (total c) 0 (omega arith))))
    where
      first : readings_byte c + 4 * 0 ≡ readings_byte c
      first = omega arith

  pub named_byte : (x : Fault) → form_of c ≡ broken x → NamedByte c x.byte
  named_byte = all_tested (omega arith) (none_before c)
