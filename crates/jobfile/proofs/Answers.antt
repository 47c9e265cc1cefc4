-- The code's answers, read as the form of the part that they answer for and of what comes next.
-- Assumes nothing.
use mathlib.Core.Path.{◌≡◌, sym}
use mathlib.Core.List.{List}
use Prim.Native.Nat.{ℕ}
use lib.ListN.{length}
use Rattle.std.specs.Prelude.{Err}
use Rattle.jobfile.specs.declared.FormError.{FormError}
use Rattle.jobfile.specs.declared.FormError.TheVariants as errors
use Rattle.jobfile.specs.Form.{Form, formed, header_form, entry_count, readings_byte, table_form, readings_form, form_of, form_in}
use Rattle.jobfile.proofs.HeaderForm.{header_passes, header_stops}

-- ---- the header's answer
module _ (c : List ℕ) where
  abbrev pub then_readings : ℕ → Form
  then_readings total = readings_form (length c) total (readings_byte c)

  pub after_header : header_form c formed ≡ formed → form_of c ≡ table_form c (entry_count c) 0 0 then_readings
  unfolding form_of
  after_header e = header_passes c (table_form c (entry_count c) 0 0 then_readings) e

  -- a refusal of the header is the answer
  pub at_header : (e : FormError) → form_in (Err e) ≡ header_form c formed → form_in (Err e) ≡ form_of c
  unfolding form_in form_of
  at_header (errors.Header b) e = sym (header_stops c _ (sym e))
  at_header (errors.Entry b) e = sym (header_stops c _ (sym e))
  at_header (errors.Readings b) e = sym (header_stops c _ (sym e))
