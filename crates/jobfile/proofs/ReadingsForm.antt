-- The readings' form, by the file's length alone: it ends within them, with them, or after them.
-- Assumes nothing.
use mathlib.Core.Path.{◌≡◌, refl, sym, ap, ◌∙◌}
use mathlib.Core.Bool.{Bool, true, false, cond}
use Prim.Native.Nat.{ℕ, zero, suc, ◌+◌, ◌*◌, ◌<◌, ◌≤◌}
use native.Mathlib.Omega.{arith}
use lib.Dec.{ltb, eqb}
use borrow.Author.Tests.{ltb-true, ltb-false, eqb-true, eq-eqb, ne_eqb}
use Rattle.jobfile.specs.Form.{readings, formed, broken, readings_form}
use Rattle.jobfile.proofs.Fields.{never_both, cut_off, kept, cut_later, has_field}

-- the first byte after n readings, from one reading on
step : (n from : ℕ) → from + 4 + 4 * n ≡ from + 4 * suc n
step n from = omega arith

pub readings_cut : (size n from : ℕ) → from ≤ size → size < from + 4 * n → readings_form size n from ≡ broken (readings size)
unfolding readings_form
readings_cut size zero from l h = absurd (omega arith)
readings_cut size (suc n) from l h = by (ltb size (from + 4)) refl (λ m. readings_cut size n (from + 4) m (omega arith))
  where
    by : (b : Bool) → ltb size (from + 4) ≡ b → (from + 4 ≤ size → readings_form size n (from + 4) ≡ broken (readings size)) → readings_form size (suc n) from ≡ broken (readings size)
    by true t later = cut_off readings size from 4 true (readings_form size n (from + 4)) (ltb-true size (from + 4) t)
    by false t later = cut_later readings size from 4 (readings_form size n (from + 4)) (later (ltb-false size (from + 4) t))

pub readings_end : (size n from : ℕ) → size ≡ from + 4 * n → readings_form size n from ≡ formed
unfolding readings_form
readings_end size zero from e = rw (eq-eqb size from (omega arith))
readings_end size (suc n) from e = kept readings size from 4 true (readings_form size n (from + 4)) (omega arith) refl ∙ readings_end size n (from + 4) (omega arith)

pub readings_more : (size n from : ℕ) → from + 4 * n < size → readings_form size n from ≡ broken (readings (from + 4 * n))
unfolding readings_form
readings_more size zero from h = rw (ne_eqb size from (λ e. omega arith)) (ap (λ b. broken (readings b)) (omega arith))
readings_more size (suc n) from h =
    kept readings size from 4 true (readings_form size n (from + 4)) (omega arith) refl
    ∙ readings_more size n (from + 4) (omega arith)
    ∙ ap (λ b. broken (readings b)) (step n from)

-- a formed file ends with its readings
pub has_readings : (size n from : ℕ) → readings_form size n from ≡ formed → size ≡ from + 4 * n
unfolding readings_form
has_readings size zero from e = by (eqb size from) refl e
  where
    by : (b : Bool) → eqb size from ≡ b → cond b formed (broken (readings from)) ≡ formed → size ≡ from + 0
    by true t e = omega (arith, eqb-true size from t)
    by false t e = absurd (never_both (sym e))
has_readings size (suc n) from e =
    has_readings size n (from + 4) (has_field readings size from 4 true (readings_form size n (from + 4)) e).rest ∙ step n from
