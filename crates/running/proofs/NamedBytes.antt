-- The bytes that refusals name: the first reading out of range, an entry's count field, and the header's axes and budget.
-- Assumes nothing.
use mathlib.Core.Path.{◌≡◌, refl, ap, sym, ◌∙◌, subst}
use mathlib.Core.Bool.{Bool, true, false, not, cond, ◌&&◌}
use mathlib.Core.List.{List, [], ◌∷◌}
use Prim.Native.Nat.{ℕ, zero, suc, ◌+◌, ◌*◌, ◌<◌}
use native.Mathlib.Nat.{add-zero}
use native.Mathlib.Omega.{arith}
use borrow.Author.Tests.{leb-true, leb-false}
use lib.Dec.{leb, eqb}
use lib.IntN.{ℤ, pos, nat_abs}
use lib.ListN.{length, get_or}
use Rattle.grid.specs.Terms.{IsReading}
use Rattle.soundness.proofs.Settings.{reads_axes, reads_budget}
use Rattle.area.specs.Settings.{axes_fit, budget_fit, reading_count}
use Rattle.area.specs.Log.{Log}
use Rattle.machine.specs.Log.{any_wanted, wanted_index}
use Rattle.machine.specs.Steps.{started}
use Rattle.machine.specs.Causes.{first_cause, deliver_causes, in_range, short}
use Rattle.calls.proofs.Causes.{start_axes, start_budget}
use Rattle.calls.proofs.Ranges.{readings_range}
use Rattle.jobfile.specs.Bytes.{four, signed_four}
use Rattle.jobfile.specs.Form.{formed, form_of, entry_byte}
use Rattle.jobfile.specs.File.{readings_at, entry_of, file_of}
use Rattle.running.specs.Execution.{own_lengths, refused_at, first_out_of_range, delivery_byte, execution, step_limit, start_byte, file_settings, start_cause, result_in, result_of}
use Rattle.running.specs.Facts.{FirstOut, NamesReading, AxesFit, BudgetFits}
use Rattle.running.proofs.Blocks.{readings-length}

true-not-false : true ≡ false → ⊥
true-not-false e = let z : ◌≡◌ {A = ℕ} 0 1 = cc in omega arith

-- ---- a reading out of range

first_out : (rs : List ℤ) → in_range rs ≡ false → FirstOut rs (first_out_of_range rs)
unfolding first_out_of_range in_range
first_out [] e = absurd (true-not-false e)
first_out (x ∷ rs) e = step (leb (nat_abs x) 1048576) refl e (first_out rs)
  where
    step : (t : Bool) → leb (nat_abs x) 1048576 ≡ t → (t && in_range rs) ≡ false → (in_range rs ≡ false → FirstOut rs (first_out_of_range rs))
        → FirstOut (x ∷ rs) (cond t (suc (first_out_of_range rs)) 0)
    step true q e later = record { there = omega (arith, (later e).there); out = (later e).out; before = earlier }
      where
        earlier : (k : ℕ) → k < suc (first_out_of_range rs) → IsReading (get_or (x ∷ rs) k (pos 0))
        earlier zero h = leb-true (nat_abs x) 1048576 q
        earlier (suc k) h = (later e).before k (omega (arith, h))
    step false q e later = record { there = omega arith; out = λ r. omega (arith, r, leb-false (nat_abs x) 1048576 q); before = λ k h. absurd (omega (arith, h)) }

pub named_reading : (rs : List ℤ) (k : ℕ) → k < length rs → (IsReading (get_or rs k (pos 0)) → ⊥) → FirstOut rs (first_out_of_range rs)
named_reading rs k h out = by (in_range rs) refl
  where
    by : (t : Bool) → in_range rs ≡ t → FirstOut rs (first_out_of_range rs)
    by true e = absurd (out (readings_range rs e k h))
    by false e = first_out rs e

-- ---- the bytes of an entry

pub count_byte : (c : List ℕ) (i : ℕ) → delivery_byte c i 7 ≡ entry_byte i + 4
unfolding delivery_byte
count_byte c i = refl

-- reading k of n, from a byte on
reading_at : (c : List ℕ) (n from k : ℕ) → k < n → get_or (readings_at c n from) k (pos 0) ≡ signed_four c (from + 4 * k)
unfolding readings_at
reading_at c zero from k h = absurd (omega (arith, h))
reading_at c (suc n) from zero h = ap (signed_four c) (sym (add-zero from))
reading_at c (suc n) from (suc k) h = reading_at c n (from + 4) k (omega (arith, h)) ∙ ap (signed_four c) place
  where
    place : from + 4 + 4 * k ≡ from + 4 * suc k
    place = omega arith

pub reading_byte : (c : List ℕ) (i : ℕ) → in_range (entry_of c i).readings ≡ false → NamesReading c i (delivery_byte c i 8)
unfolding delivery_byte entry_of
reading_byte c i e =
    record {
      number = place;
      there = inside;
      named = refl;
      out = λ r. o.out (subst IsReading (sym (reading_at c (four c (entry_byte i + 4)) (four c (entry_byte i + 8)) place inside)) r);
      before = λ k h. subst IsReading (reading_at c (four c (entry_byte i + 4)) (four c (entry_byte i + 8)) k (omega (arith, h, inside))) (o.before k h);
    }
  where
    rs : List ℤ
    rs = readings_at c (four c (entry_byte i + 4)) (four c (entry_byte i + 8))

    place : ℕ
    place = first_out_of_range rs

    o : FirstOut rs place
    o = first_out rs e

    inside : place < four c (entry_byte i + 4)
    inside = omega (arith, o.there, readings-length c (four c (entry_byte i + 4)) (four c (entry_byte i + 8)))

-- 8 refuses only where a reading is out of range
pub range_only : (l : Log) (rs : List ℤ) → first_cause (deliver_causes own_lengths true l rs) ≡ 8 → in_range rs ≡ false
unfolding deliver_causes first_cause
range_only l rs = by (short own_lengths l.settings) (any_wanted l.entries) (eqb (length rs) (reading_count l.settings (wanted_index l.entries))) (in_range rs) refl
  where
    by : (s w n t : Bool) → in_range rs ≡ t → cond {A = ℕ} (cond false true s) 3 (cond false 4 (cond (not w) 5 (cond (not n) 7 (cond (not t) 8 0)))) ≡ 8 → in_range rs ≡ false
    by s w n false q e = q
    by true w n true q e = absurd (omega (arith, e))
    by false false n true q e = absurd (omega (arith, e))
    by false true false true q e = absurd (omega (arith, e))
    by false true true true q e = absurd (omega (arith, e))

-- ---- the header

module _ (c : List ℕ) (right : form_of c ≡ formed) where
  refused_by : (k b : ℕ) → start_cause c ≡ k → eqb k 0 ≡ false → start_byte k ≡ b → result_of c ≡ refused_at k b
  unfolding result_of result_in
  refused_by k b e some at =
      ap (λ x. result_in x c) right
      ∙ ap (λ x. cond (eqb x 0) (execution c step_limit (started (file_settings c)) 0) (refused_at x (start_byte x))) e
      ∙ ap (λ t. cond t (execution c step_limit (started (file_settings c)) 0) (refused_at k (start_byte k))) some
      ∙ ap (refused_at k) at

  pub axes_refused : (AxesFit c → ⊥) → result_of c ≡ refused_at 1 0
  unfolding start_byte file_of
  axes_refused out = refused_by 1 0 (start_axes own_lengths (file_settings c) (by (axes_fit (file_settings c)) refl)) refl refl
    where
      by : (t : Bool) → axes_fit (file_settings c) ≡ t → axes_fit (file_settings c) ≡ false
      by true e = absurd (out ((reads_axes (file_settings c)).sure e))
      by false e = e

  pub budget_refused : AxesFit c → (BudgetFits c → ⊥) → result_of c ≡ refused_at 2 4
  unfolding start_byte file_of
  budget_refused axes out =
      refused_by 2 4 (start_budget own_lengths (file_settings c) ((reads_axes (file_settings c)).back axes) (by (budget_fit (file_settings c)) refl)) refl refl
    where
      by : (t : Bool) → budget_fit (file_settings c) ≡ t → budget_fit (file_settings c) ≡ false
      by true e = absurd (out ((reads_budget (file_settings c)).sure e))
      by false e = e
