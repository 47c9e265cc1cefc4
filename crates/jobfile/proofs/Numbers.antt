-- The byte of a fault tells its number: a test names a byte of its own field, or, where the file ends within that field, the file's end, and
-- the fields of a part lie within it.
-- Assumes nothing.
use mathlib.Core.Path.{◌≡◌, refl, subst}
use mathlib.Core.Bool.{Bool, true, false, cond}
use mathlib.Core.List.{List}
use Prim.Native.Nat.{ℕ, zero, suc, ◌+◌, ◌*◌, ◌<◌, ◌≤◌}
use native.Mathlib.Omega.{arith}
use lib.Dec.{leb, eqb}
use lib.ListN.{length}
use Rattle.jobfile.specs.Bytes.{four}
use Rattle.jobfile.specs.Form.{Fault, Form, header, entry, readings, formed, broken, field, header_form, entry_count, entry_byte, readings_byte, table_form, readings_form, form_of}
use Rattle.jobfile.specs.Facts.{NumberByByte}
use Rattle.jobfile.proofs.Fields.{by_field, count_rule}

module _ (c : List ℕ) where
  abbrev Told : Form → Type 0
  Told formed = Unit {0}
  Told (broken f) = NumberByByte c f

  -- the tests t, from a byte on that the file reaches, name a fault that its byte tells
  abbrev From : ℕ → Form → Type 0
  From b t = b ≤ length c → Told t

  -- ---- one field, of a part that has its bytes
  told_field : (part : ℕ → Fault) (from n : ℕ) → 0 < n → ((b : ℕ) → from ≤ b → b < from + n → NumberByByte c (part b))
      → (rule : Bool) (next : Form) → From (from + n) next → From from (field part (length c) from n rule next)
  told_field part from n some own rule next later h =
      by_field part (length c) from n rule next Told (own (length c) h) (λ inside _. later inside) (λ _ _. own from (omega arith) (omega arith))

  -- ---- the bytes of each part
  in_header : (b : ℕ) → b < 24 → NumberByByte c (header b)
  in_header b h = record { header = λ _. refl; table = λ l _. absurd (omega arith); readings = λ l. absurd (omega arith) }

  in_table : (b : ℕ) → 24 ≤ b → b < readings_byte c → NumberByByte c (entry b)
  in_table b l h = record { header = λ k. absurd (omega arith); table = λ _ _. refl; readings = λ k. absurd (omega arith) }

  in_readings : (b : ℕ) → readings_byte c ≤ b → NumberByByte c (readings b)
  in_readings b l = record { header = λ k. absurd (omega arith); table = λ _ k. absurd (omega arith); readings = λ _. refl }

  -- ---- part by part
  told_readings : (n from : ℕ) → readings_byte c ≤ from → From from (readings_form (length c) n from)
  unfolding readings_form
  told_readings zero from l h = by (eqb (length c) from)
    where
      by : (b : Bool) → Told (cond b formed (broken (readings from)))
      by true = tt
      by false = in_readings from l
  told_readings (suc n) from l h =
      told_field readings from 4 (omega arith) (λ b k _. in_readings b (omega arith)) true _ (told_readings n (from + 4) (omega arith)) h

  -- n entries from number i on, of all that the header counts
  told_table : (n i before : ℕ) (next : ℕ → Form) → i + n ≡ entry_count c → ((total : ℕ) → From (readings_byte c) (next total)) → From (entry_byte i) (table_form c n i before next)
  unfolding table_form
  told_table zero i before next m later h = later before (omega arith)
  told_table (suc n) i before next m later h =
      told_field entry (entry_byte i) 4 (omega arith) (λ b l k. in_table b (omega arith) (omega arith)) true _
      (told_field entry (entry_byte i + 4) 4 (omega arith) (λ b l k. in_table b (omega arith) (omega arith)) (count_rule before (four c (entry_byte i + 4))) _
      (λ g. told_field entry (entry_byte i + 8) 4 (omega arith) (λ b l k. in_table b (omega arith) (omega arith)) (eqb (four c (entry_byte i + 8)) (readings_byte c + 4 * before)) _
      (λ k. told_table n (i + 1) (before + four c (entry_byte i + 4)) next (omega arith) later (omega arith)) (omega arith)))
      h

  told_header : (next : Form) → From 24 next → From 0 (header_form c next)
  unfolding header_form
  told_header next later =
      told_field header 0 4 (omega arith) (λ b _ k. in_header b (omega arith)) true _
      (told_field header 4 4 (omega arith) (λ b _ k. in_header b (omega arith)) true _
      (told_field header 8 8 (omega arith) (λ b _ k. in_header b (omega arith)) true _
      (told_field header 16 4 (omega arith) (λ b _ k. in_header b (omega arith)) (leb (four c 16) 512) _
      (told_field header 20 4 (omega arith) (λ b _ k. in_header b (omega arith)) (eqb (four c 20) 24) next later))))

  told_form : Told (form_of c)
  unfolding form_of
  told_form =
      told_header _
      (told_table (entry_count c) 0 0 _ (omega arith) (λ total. told_readings total (readings_byte c) (omega arith)))
      (omega arith)

  pub by_byte : (f : Fault) → form_of c ≡ broken f → NumberByByte c f
  by_byte f e = subst Told e told_form
