-- A file with all that is said of a file of the right form has that form: it passes the header's tests, then those of each entry with the
-- readings before it counted, and it ends with the readings.
-- Assumes nothing.
use mathlib.Core.Path.{◌≡◌, sym, ap, ◌∙◌}
use mathlib.Core.List.{List}
use Prim.Native.Nat.{ℕ, zero, suc, ◌+◌, ◌*◌, ◌<◌, ◌≤◌}
use native.Mathlib.Omega.{arith}
use lib.ListN.{length}
use Rattle.jobfile.specs.Bytes.{four}
use Rattle.jobfile.specs.Form.{Form, formed, entry_count, entry_byte, readings_byte, table_form, readings_form, form_of}
use Rattle.jobfile.specs.File.{total_before}
use Rattle.jobfile.specs.Facts.{FormedFile}
use Rattle.jobfile.proofs.HeaderForm.{header_kept}
use Rattle.jobfile.proofs.TableForm.{nothing_before, before_next, entry_kept}
use Rattle.jobfile.proofs.ReadingsForm.{readings_end}
use Rattle.jobfile.proofs.Formed.{total-within}

module _ (c : List ℕ) (f : FormedFile c) where
  -- n entries from number i on, which are the last
  table_passed : (n i before : ℕ) (next : ℕ → Form) → i + n ≡ entry_count c → before ≡ total_before c i → table_form c n i before next ≡ next (total_before c (entry_count c))
  unfolding table_form
  table_passed zero i before next m b = ap next (b ∙ ap (total_before c) (omega arith))
  table_passed (suc n) i before next m b =
      let h : i < entry_count c = omega arith in
      let few : before + four c (entry_byte i + 4) ≤ 8192 = omega (arith, total-within c i (entry_count c) h, f.total_at_most) in
      let inside = f.entry_inside i h in
      entry_kept c i before (λ total. table_form c n (i + 1) total next) (omega arith) (f.readings_at_least i h) few inside
      (f.readings_from i h ∙ ap (λ x. readings_byte c + 4 * x) (sym b))
      ∙ table_passed n (i + 1) (before + four c (entry_byte i + 4)) next (omega arith) (before_next c i before b)

  pub formed_back : form_of c ≡ formed
  unfolding form_of
  formed_back =
      header_kept c (table_form c (entry_count c) 0 0 (λ total. readings_form (length c) total (readings_byte c))) (omega (arith, f.header_inside)) f.entries_at_most f.header_inside f.table_at
      ∙ table_passed (entry_count c) 0 0 (λ total. readings_form (length c) total (readings_byte c)) (omega arith) (nothing_before c)
      ∙ readings_end (length c) (total_before c (entry_count c)) (readings_byte c) f.size
