-- The number of a fault is that of the part at fault: the byte named lies within the field that breaks a rule or is cut off, hence in its part.
-- Assumes nothing.
use mathlib.Core.Path.{◌≡◌, refl, subst}
use mathlib.Core.List.{List}
use Prim.Native.Nat.{ℕ, zero, suc, ◌+◌, ◌*◌, ◌<◌, ◌≤◌}
use native.Mathlib.Omega.{arith}
use lib.ListN.{length}
use Rattle.jobfile.specs.Form.{Fault, broken, entry_count, entry_byte, readings_byte, form_of}
use Rattle.jobfile.specs.File.{total_before}
use Rattle.jobfile.specs.Fields.{Field, axes, budget, threshold, entries, table_offset, indicator, count, offset, reading, width, first_byte, HasField, KeptBefore, part_number, PartAtFault}
use Rattle.jobfile.specs.Facts.{NumberByByte}
use Rattle.jobfile.proofs.Numbers.{by_byte}

module _ (c : List ℕ) where
  -- a file reaches a field whose forerunners are kept
  first_entry : (i : ℕ) → i < entry_count c → KeptBefore c (entry_byte i) → entry_byte i ≤ length c
  first_entry zero h before = omega (arith, (before table_offset tt (omega arith)).inside)
  first_entry (suc i) h before = omega (arith, (before (offset i) (omega arith) (omega arith)).inside)

  first_reading : (n : ℕ) → entry_count c ≡ n → 0 < total_before c n → KeptBefore c (readings_byte c) → readings_byte c ≤ length c
  unfolding total_before
  first_reading zero e h before = absurd (omega arith)
  first_reading (suc n) e h before = omega (arith, e, (before (offset n) (omega (arith, e)) (omega (arith, e))).inside)

  reached : (f : Field) → HasField c f → KeptBefore c (first_byte c f) → first_byte c f ≤ length c
  reached axes h before = omega arith
  reached budget h before = (before axes tt (omega arith)).inside
  reached threshold h before = (before budget tt (omega arith)).inside
  reached entries h before = (before threshold tt (omega arith)).inside
  reached table_offset h before = (before entries tt (omega arith)).inside
  reached (indicator i) h before = first_entry i h before
  reached (count i) h before = (before (indicator i) h (omega arith)).inside
  reached (offset i) h before = omega (arith, (before (count i) h (omega arith)).inside)
  reached (reading zero) h before =
      let start : readings_byte c + 4 * 0 ≡ readings_byte c = omega arith in
      omega (arith, first_reading (entry_count c) refl h (subst (KeptBefore c) start before))
  reached (reading (suc n)) h before = omega (arith, (before (reading n) (omega arith) (omega arith)).inside)

  -- a byte of a field tells the field's part
  module _ (y : Fault) (told : NumberByByte c y) where
    numbered : (f : Field) → HasField c f → first_byte c f ≤ y.byte → y.byte < first_byte c f + width f → y.number ≡ part_number f
    numbered axes h l k = told.header (omega arith)
    numbered budget h l k = told.header (omega arith)
    numbered threshold h l k = told.header (omega arith)
    numbered entries h l k = told.header (omega arith)
    numbered table_offset h l k = told.header (omega arith)
    numbered (indicator i) h l k = told.table (omega arith) (omega arith)
    numbered (count i) h l k = told.table (omega arith) (omega arith)
    numbered (offset i) h l k = told.table (omega arith) (omega arith)
    numbered (reading n) h l k = told.readings (omega arith)

  some-width : (f : Field) → 0 < width f
  some-width axes = omega arith
  some-width budget = omega arith
  some-width threshold = omega arith
  some-width entries = omega arith
  some-width table_offset = omega arith
  some-width (indicator i) = omega arith
  some-width (count i) = omega arith
  some-width (offset i) = omega arith
  some-width (reading n) = omega arith

  pub by_part : (f : Fault) → form_of c ≡ broken f → PartAtFault c f.number f.byte
  by_part f e =
      let told = by_byte c f e in
      record {
        broken_rule = λ x. numbered f told x.field x.has (omega (arith, x.named)) (omega (arith, x.named, some-width x.field));
        early_end = λ x. numbered f told x.field x.has (omega (arith, x.named, reached x.field x.has x.before)) (omega (arith, x.named, x.cut_off));
        too_many = λ x. told.readings (omega (arith, x.named));
      }
