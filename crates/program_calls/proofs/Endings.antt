-- Only a run that is met prints a text whose last line is `end met`, and so of the other endings.
-- The idea: the byte before the last is a digit in a refusal and a letter in a report, and with the byte before it, it tells the endings apart.
-- Assumes nothing.
use mathlib.Core.Path.{◌≡◌, refl, ap, ap₂, sym, ◌∙◌, subst}
use mathlib.Core.Bool.{Bool, true, false, cond}
use mathlib.Core.List.{List, [], ◌∷◌, ◌++◌}
use Prim.Native.Nat.{ℕ, ◌+◌, ◌-◌, ◌≤◌}
use native.Mathlib.Omega.{arith}
use borrow.Author.Tests.{eqb-true, eqb-false}
use lib.Dec.{eqb}
use lib.ListN.{length, get_or, length-append, get_or-append}
use lib.Seq.{get_or-append-add}
use Rattle.area.specs.Log.{Machine}
use Rattle.jobfile.specs.Form.{Form, formed, broken, form_of}
use Rattle.reporting.specs.Decimal.{decimal, signed_decimal}
use Rattle.reporting.specs.Text.{space, feed, line, axes_word, old_word, active_word, wanted_word, reserved_word, pending_word, carried_word, ceiling_word, scaled_word, unused_word, end_word, refused_word, at_word, Ending, met, capped, spent, short, ending_word, ReportValues, report_text, refusal_text}
use Rattle.reporting.proofs.Facts.{text_facts}
use Rattle.running.specs.Execution.{Result, refused_at, ended, unfinished, start_byte, start_cause, result_of}
use Rattle.running.specs.Report.{report_values_of, text_in}
use Rattle.running.proofs.Whole.{refused_start}
use Rattle.running.proofs.Facts.{execution-facts}

-- There are k bytes, and the k-th from the end is v.
record EndsIn (k v : ℕ) (l : List ℕ) : Type 0 where
  long : k ≤ length l
  byte : get_or l (length l - k) 0 ≡ v

after : {k v : ℕ} (a l : List ℕ) → EndsIn k v l → EndsIn k v (a ++ l)
after {k} {v} a l h =
    record {
      long = omega (arith, length-append a l, h.long);
      byte = ap (λ n. get_or (a ++ l) n 0) place ∙ get_or-append-add a l (length l - k) 0 ∙ h.byte;
    }
  where
    place : length (a ++ l) - k ≡ length a + (length l - k)
    place = omega (arith, length-append a l, h.long)

one_byte : {k v w : ℕ} {l : List ℕ} → EndsIn k v l → EndsIn k w l → v ≡ w
one_byte x y = sym x.byte ∙ y.byte

-- ---- a report

report_ends : {k v : ℕ} (f : ReportValues) → EndsIn k v (line end_word (ending_word f.ending)) → EndsIn k v (report_text f)
unfolding report_text
report_ends f h =
    after
    (line axes_word (decimal f.axes)
    ++ line old_word (decimal f.old)
    ++ line active_word (decimal f.active)
    ++ line wanted_word (decimal f.wanted)
    ++ line reserved_word (decimal f.reserved)
    ++ line pending_word (decimal f.pending)
    ++ line carried_word (decimal f.carried)
    ++ line ceiling_word (decimal f.ceiling)
    ++ line scaled_word (signed_decimal f.scaled)
    ++ line unused_word (decimal f.unused))
    (line end_word (ending_word f.ending)) h

-- the second and the third byte from the end
abbrev second : Ending → ℕ
second met = 116
second capped = 100
second spent = 116
second short = 116

abbrev third : Ending → ℕ
third met = 101
third capped = 101
third spent = 110
third short = 114

told : (e d : Ending) → second e ≡ second d → third e ≡ third d → e ≡ d
told e d p q = sym (back e) ∙ ap₂ ending_of p q ∙ back d
  where
    ending_of : ℕ → ℕ → Ending
    ending_of u v = cond (eqb u 100) capped (cond (eqb v 101) met (cond (eqb v 110) spent short))

    back : (x : Ending) → ending_of (second x) (third x) ≡ x
    back met = refl
    back capped = refl
    back spent = refl
    back short = refl

-- the second is past the digits
letter : (e : Ending) → 100 ≤ second e
letter met = omega arith
letter capped = omega arith
letter spent = omega arith
letter short = omega arith

third_there : (e : Ending) → EndsIn 3 (third e) (line end_word (ending_word e))
unfolding line ending_word
third_there met = record { long = omega arith; byte = refl }
third_there capped = record { long = omega arith; byte = refl }
third_there spent = record { long = omega arith; byte = refl }
third_there short = record { long = omega arith; byte = refl }

second_there : (e : Ending) → EndsIn 2 (second e) (line end_word (ending_word e))
unfolding line ending_word
second_there met = record { long = omega arith; byte = refl }
second_there capped = record { long = omega arith; byte = refl }
second_there spent = record { long = omega arith; byte = refl }
second_there short = record { long = omega arith; byte = refl }

third_report : (e : Ending) (m : Machine) (u : ℕ) → EndsIn 3 (third e) (report_text (report_values_of e m u))
unfolding report_values_of
third_report e m u = report_ends (report_values_of e m u) (third_there e)

second_report : (e : Ending) (m : Machine) (u : ℕ) → EndsIn 2 (second e) (report_text (report_values_of e m u))
unfolding report_values_of
second_report e m u = report_ends (report_values_of e m u) (second_there e)

-- ---- a refusal

-- one byte more
before_last : {v : ℕ} (l : List ℕ) (x : ℕ) → EndsIn 1 v l → EndsIn 2 v (l ++ x ∷ [])
before_last l x h =
    record {
      long = omega (arith, length-append l (x ∷ []), h.long);
      byte = ap (λ k. get_or (l ++ x ∷ []) k 0) place ∙ get_or-append l (x ∷ []) 0 (length l - 1) (omega (arith, h.long)) ∙ h.byte;
    }
  where
    place : length (l ++ x ∷ []) - 2 ≡ length l - 1
    place = omega (arith, length-append l (x ∷ []))

module _ (n b : ℕ) where
  -- the last digit of the byte that it names
  abbrev last : ℕ
  last = get_or (decimal b) (length (decimal b) - 1) 0

  digit_there : EndsIn 1 last (space ∷ decimal b)
  digit_there = after (space ∷ []) (decimal b) (record { long = text_facts.some b; byte = refl })

  refusal_ends : EndsIn 2 last (refusal_text n b)
  unfolding refusal_text
  refusal_ends =
      before_last (refused_word ++ space ∷ decimal n ++ space ∷ at_word ++ space ∷ decimal b) feed
      (after (refused_word ++ space ∷ decimal n ++ space ∷ at_word) (space ∷ decimal b) digit_there)

  no_letter : (v : ℕ) → 100 ≤ v → EndsIn 2 v (refusal_text n b) → ⊥
  no_letter v l h = omega (arith, l, one_byte h refusal_ends, (text_facts.digits b (length (decimal b) - 1) (omega (arith, text_facts.some b))).1)

-- ---- what a text tells of the result

pub only_ended : (e : Ending) (n : ℕ) (r : Result) (before : List ℕ) → text_in n r ≡ before ++ line end_word (ending_word e) → (m : Machine) × (used : ℕ) × (r ≡ ended e m used)
unfolding text_in
only_ended e n (refused_at number byte) before q = absurd (no_letter number byte (second e) (letter e) (subst (EndsIn 2 (second e)) (sym q) (after before _ (second_there e))))
only_ended e n (ended d m used) before q = (
  m,
  used,
  ap (λ x. ended x m used)
      (told d e (one_byte (second_report d m (n - used)) (subst (EndsIn 2 (second e)) (sym q) (after before _ (second_there e))))
      (one_byte (third_report d m (n - used)) (subst (EndsIn 3 (third e)) (sym q) (after before _ (third_there e))))),
)
only_ended e n unfinished before q = absurd (omega (arith, (subst (EndsIn 2 (second e)) (sym q) (after before _ (second_there e))).long))

-- ---- a file that start refuses

-- ---- a file whose execution ends

module _ (c : List ℕ) (e : Ending) (m : Machine) (used : ℕ) (is : result_of c ≡ ended e m used) where
  apart : (n b : ℕ) → refused_at n b ≡ ended e m used → ⊥
  apart n b q = let z : ◌≡◌ {A = ℕ} 0 1 = cc in omega arith

  -- it has the right form
  pub right_form : form_of c ≡ formed
  right_form = by (form_of c) refl
    where
      by : (t : Form) → form_of c ≡ t → form_of c ≡ formed
      by formed q = q
      by (broken f) q = absurd (apart f.number f.byte (sym (execution-facts.malformed c f q) ∙ is))

  -- and start accepts it
  pub start_accepts_it : start_cause c ≡ 0
  start_accepts_it = by (eqb (start_cause c) 0) refl
    where
      by : (t : Bool) → eqb (start_cause c) 0 ≡ t → start_cause c ≡ 0
      by true q = eqb-true (start_cause c) 0 q
      by false q = absurd (apart (start_cause c) (start_byte (start_cause c)) (sym (refused_start c right_form (eqb-false (start_cause c) 0 q)) ∙ is))
