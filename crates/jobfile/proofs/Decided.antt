-- Two files of 38,937 bytes or more that agree in the first 38,937 have the same form: every field that is tested lies among these bytes,
-- and the readings counted end before the last of them, so that the first byte too many is the same.
-- Assumes nothing.
use mathlib.Core.Path.{◌≡◌, refl, sym, ap, ap₂, ◌∙◌}
use mathlib.Core.Bool.{true}
use mathlib.Core.List.{List}
use Prim.Native.Nat.{ℕ, zero, suc, ◌+◌, ◌*◌, ◌≤◌}
use native.Mathlib.Omega.{arith}
use lib.Dec.{leb, eqb}
use lib.ListN.{length, take}
use lib.Seq.{get_or-take, length-take-le}
use borrow.Author.Tests.{leb-true}
use Rattle.jobfile.specs.Bytes.{four}
use Rattle.jobfile.specs.Form.{Fault, Form, header, entry, readings, formed, broken, entry_count, entry_byte, readings_byte, header_form, table_form, readings_form, form_of}
use Rattle.jobfile.proofs.Fields.{alike, count_rule, in_range_lem}
use Rattle.jobfile.proofs.ReadingsForm.{readings_more}
use Rattle.jobfile.proofs.Formed.{formed_file}

module _ (c d : List ℕ) (long-c : 38937 ≤ length c) (long-d : 38937 ≤ length d) (same : (at : ℕ) → at + 4 ≤ 38937 → four c at ≡ four d at) where
  -- what comes after the header is asked only where there are 512 entries at most
  header_same : (a b : Form) → (entry_count c ≤ 512 → a ≡ b) → header_form c a ≡ header_form d b
  unfolding header_form
  header_same a b f =
      alike header (length c) (length d) 0 4 true true _ _ (omega arith) (omega arith) refl
      (λ _. alike header (length c) (length d) 4 4 true true _ _ (omega arith) (omega arith) refl
      (λ _. alike header (length c) (length d) 8 8 true true _ _ (omega arith) (omega arith) refl
      (λ _. alike header (length c) (length d) 16 4 (leb (four c 16) 512) (leb (four d 16) 512) _ _ (omega arith) (omega arith) (ap (λ k. leb k 512) (same 16 (omega arith)))
      (λ few. alike header (length c) (length d) 20 4 (eqb (four c 20) 24) (eqb (four d 20) 24) a b (omega arith) (omega arith) (ap (λ k. eqb k 24) (same 20 (omega arith)))
      (λ _. f (leb-true (four c 16) 512 few))))))

  -- n entries from number i on, of 512 at most: what comes after them is asked only with 8,192 readings at most
  table_same : (n i before : ℕ) (a b : ℕ → Form) → i + n ≤ 512 → before ≤ 8192 → ((total : ℕ) → total ≤ 8192 → a total ≡ b total)
      → table_form c n i before a ≡ table_form d n i before b
  unfolding table_form
  table_same zero i before a b m h f = f before h
  table_same (suc n) i before a b m h f =
      let count : four c (entry_byte i + 4) ≡ four d (entry_byte i + 4) = same (entry_byte i + 4) (omega arith) in
      let offset : four c (entry_byte i + 8) ≡ four d (entry_byte i + 8) = same (entry_byte i + 8) (omega arith) in
      let begin : readings_byte c + 4 * before ≡ readings_byte d + 4 * before = ap (λ k. entry_byte k + 4 * before) (same 16 (omega arith)) in
      alike entry (length c) (length d) (entry_byte i) 4 true true _ _ (omega arith) (omega arith) refl
      (λ _. alike entry (length c) (length d) (entry_byte i + 4) 4 (count_rule before (four c (entry_byte i + 4))) (count_rule before (four d (entry_byte i + 4))) _ _ (omega arith) (omega arith) (ap (count_rule before) count)
      (λ kept. alike entry (length c) (length d) (entry_byte i + 8) 4 _ _ _ _ (omega arith) (omega arith) (ap₂ eqb offset begin)
      (λ _.
      table_same n (i + 1) (before + four c (entry_byte i + 4)) a b (omega arith) (in_range_lem before (four c (entry_byte i + 4)) kept).all f
      ∙ ap (λ k. table_form d n (i + 1) (before + k) b) count)))

  -- both files have bytes too many, from the same byte on
  readings_same : (total : ℕ) → entry_count c ≤ 512 → total ≤ 8192 → readings_form (length c) total (readings_byte c) ≡ readings_form (length d) total (readings_byte d)
  readings_same total few h =
      let count : entry_count c ≡ entry_count d = same 16 (omega arith) in
      readings_more (length c) total (readings_byte c) (omega arith)
      ∙ ap (λ k. broken (readings (entry_byte k + 4 * total))) count
      ∙ sym (readings_more (length d) total (readings_byte d) (omega arith))

  form_same : form_of c ≡ form_of d
  unfolding form_of
  form_same =
      header_same _ _
      (λ few.
      table_same (entry_count c) 0 0 _ _ (omega arith) (omega arith) (λ total h. readings_same total few h)
      ∙ ap (λ k. table_form d k 0 0 (λ total. readings_form (length d) total (readings_byte d))) (same 16 (omega arith)))

-- a number among the first n bytes is that of the file
four-take : (n : ℕ) (c : List ℕ) (at : ℕ) → at + 4 ≤ n → four (take n c) at ≡ four c at
unfolding four
four-take n c at h = rw (get_or-take n c at 0 (omega arith), get_or-take n c (at + 1) 0 (omega arith), get_or-take n c (at + 2) 0 (omega arith), get_or-take n c (at + 3) 0 (omega arith))

pub decided : (c : List ℕ) → 38937 ≤ length c → form_of (take 38937 c) ≡ form_of c
decided c h = form_same (take 38937 c) c (omega (arith, length-take-le 38937 c h)) h (four-take 38937 c)

-- a file of the right form is shorter
pub too_long : (c : List ℕ) → 38937 ≤ length c → (f : Fault) × (form_of c ≡ broken f)
too_long c h = by (form_of c) refl
  where
    by : (t : Form) → form_of c ≡ t → (f : Fault) × (form_of c ≡ broken f)
    by formed e = absurd (omega (arith, (formed_file c e).size_at_most))
    by (broken f) e = (f, e)
