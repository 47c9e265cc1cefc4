-- The steps of an execution: while so many are passed, what is still to come is what the file comes to.
-- Assumes nothing.
use Rattle.std.proofs.Common.{◌≡◌, refl, ap, ap₂, sym, subst, ◌∙◌, List, ℕ, suc, ◌+◌, ◌-◌, ◌<◌, arith, Ok, Err, Option, Some, None}
use Rattle.std.specs.Prelude as std
use Rattle.machine.specs.Steps.{started}
use Rattle.jobfile.specs.Form.{formed, form_of, entry_count}
use Rattle.reporting.specs.declared.Ending.{Ending}
use Rattle.reporting.specs.Text.{report_text, refusal_text}
use Rattle.reporting.specs.Code.{ending_in}
use Rattle.running.specs.declared.Execution.{Execution}
use Rattle.running.specs.declared.Refusal.{Refusal}
use Rattle.running.specs.Execution.{execution, file_settings, start_cause, result_of}
use Rattle.running.specs.Report.{report_values_of, text_in, text_of}
use Rattle.running.specs.Code.{number_of, state_of, ValidExecution, after_step}
use Rattle.running.proofs.Whole.{executed}
use Rattle.running.proofs.Facts.{execution-facts}

-- k of the 1,025 steps are passed
pub record Course (c : List ℕ) (k : ℕ) (r : Execution) : Type 0 where
  pub is : execution c (1025 - k) (state_of r) r.used ≡ result_of c

-- none is
pub begun : (c : List ℕ) (r : Execution) → form_of c ≡ formed → start_cause c ≡ 0 → state_of r ≡ started (file_settings c) → r.used ≡ 0 → Course c 0 r
begun c r right none state used = record { is = ap₂ (execution c 1025) state used ∙ sym (executed c right none) }

-- the steps don't run out
pub never_out : (c : List ℕ) (r : Execution) → Course c 1025 r → ⊥
never_out c r h = execution-facts.ends c (sym h.is ∙ unfold execution in refl)

-- a step more, which leaves s
module _ (c : List ℕ) (k : ℕ) (r : Execution) (below : k < 1025) (valid : ValidExecution c r) (so_far : Course c k r) (s : Execution) where
  goes : (x : std.Result (Option Ending) Refusal) → ((n : ℕ) → execution r.bytes.now (suc n) (state_of r) r.used ≡ after_step r.bytes.now n s x) → after_step c (1025 - (k + 1)) s x ≡ result_of c
  goes x is = sym (there (1025 - (k + 1))) ∙ ap (λ n. execution c n (state_of r) r.used) one ∙ so_far.is
    where
      there : (n : ℕ) → execution c (suc n) (state_of r) r.used ≡ after_step c n s x
      there = subst (λ b. (n : ℕ) → execution b (suc n) (state_of r) r.used ≡ after_step b n s x) valid.bytes is

      one : suc (1025 - (k + 1)) ≡ 1025 - k
      one = omega (arith, below)

  pub refused : (e : Refusal) → ((n : ℕ) → execution r.bytes.now (suc n) (state_of r) r.used ≡ after_step r.bytes.now n s (Err e)) → refusal_text (number_of e.cause) e.byte ≡ text_of c
  unfolding after_step text_of text_in
  refused e is = ap (text_in (entry_count c)) (goes (Err e) is)

  module _ (after : ValidExecution r.bytes.now s) where
    pub still_valid : ValidExecution c s
    still_valid = subst (λ b. ValidExecution b s) valid.bytes after

    module _ (x : Option Ending) (is : (n : ℕ) → execution r.bytes.now (suc n) (state_of r) r.used ≡ after_step r.bytes.now n s (Ok x)) where
      pub ends : (e : Ending) → x ≡ Some e → report_text (report_values_of (ending_in e) (state_of s) (s.entries - s.used)) ≡ text_of c
      unfolding after_step text_of text_in
      ends e q =
          ap (λ n. report_text (report_values_of (ending_in e) (state_of s) (n - s.used))) still_valid.entries
          ∙ ap (text_in (entry_count c)) (ap (λ y. after_step c (1025 - (k + 1)) s (Ok y)) (sym q) ∙ goes (Ok x) is)

      pub goes_on : x ≡ None → Course c (k + 1) s
      goes_on q = record { is = unfold after_step in ap (λ y. after_step c (1025 - (k + 1)) s (Ok y)) (sym q) ∙ goes (Ok x) is }
