-- What holds of a file of the right form: each part's facts, and the total bounds the file's length.
-- Assumes nothing.
use mathlib.Core.Path.{◌≡◌, subst}
use mathlib.Core.Logic.{⊎_elim}
use mathlib.Core.List.{List}
use Prim.Native.Nat.{ℕ, zero, suc, ◌+◌, ◌<◌, ◌≤◌}
use native.Mathlib.Nat.{eq-or-lt_of_le}
use native.Mathlib.Omega.{arith}
use lib.ListN.{length}
use Rattle.jobfile.specs.Bytes.{four}
use Rattle.jobfile.specs.Form.{formed, entry_count, entry_byte, readings_byte, table_form, readings_form, form_of}
use Rattle.jobfile.specs.File.{total_before}
use Rattle.jobfile.specs.Facts.{FormedFile}
use Rattle.jobfile.proofs.HeaderForm.{has_header}
use Rattle.jobfile.proofs.TableForm.{nothing_before, has_table}
use Rattle.jobfile.proofs.ReadingsForm.{has_readings}

-- an entry and those before it count no more than all
pub total-within : (c : List ℕ) (i n : ℕ) → i < n → total_before c i + four c (entry_byte i + 4) ≤ total_before c n
unfolding total_before
total-within c i zero h = absurd (omega arith)
total-within c i (suc n) h =
    ⊎_elim
    (λ e. subst (λ k. total_before c i + four c (entry_byte i + 4) ≤ total_before c (suc k)) e (omega arith))
    (λ l. omega (arith, total-within c i n l))
    (eq-or-lt_of_le {n = i} {m = n} (omega arith))

pub formed_file : (c : List ℕ) → form_of c ≡ formed → FormedFile c
unfolding form_of
formed_file c e =
    let h = has_header c (table_form c (entry_count c) 0 0 (λ total. readings_form (length c) total (readings_byte c))) e in
    let t = has_table c (entry_count c) 0 (entry_count c) 0 (λ total. readings_form (length c) total (readings_byte c)) (omega arith) (nothing_before c) (omega arith) h.rest in
    let size = has_readings (length c) (total_before c (entry_count c)) (readings_byte c) t.rest in
    record {
      header_inside = h.inside;
      entries_at_most = h.few;
      table_at = h.table;
      entry_inside = λ i l. (t.each i (omega arith) l).inside;
      readings_at_least = λ i l. (t.each i (omega arith) l).some;
      readings_at_most = λ i l. (t.each i (omega arith) l).few;
      readings_from = λ i l. (t.each i (omega arith) l).offset;
      readings_inside = λ i l. omega (arith, size, (t.each i (omega arith) l).offset, total-within c i (entry_count c) l);
      total_at_most = t.total;
      size = size;
      size_at_most = omega (arith, size, t.total, h.few);
    }
