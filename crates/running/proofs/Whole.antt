-- A whole run: what start leaves in storage of the run's own, and the text of a file case by case.
-- Assumes nothing.
use mathlib.Core.Path.{◌≡◌, refl, ap, ap₂, sym, ◌∙◌}
use mathlib.Core.Bool.{cond}
use mathlib.Core.List.{List}
use Prim.Native.Nat.{ℕ, ◌/◌, ◌<◌, ◌≤◌}
use native.Mathlib.Omega.{arith}
use borrow.Author.Tests.{lt-ltb, le-ltb, ne_eqb}
use lib.Dec.{eqb}
use Rattle.std.specs.Prelude.{Ok, Err}
use lib.IntN.{ℤ, pos}
use lib.ListN.{length}
use Rattle.area.specs.declared.Settings.{Settings}
use Rattle.area.specs.declared.JobRecord.{JobRecord}
use Rattle.area.specs.Records.{run_of, stored}
use Rattle.area.specs.Encoding.{Area, area_of, machine_of, written}
use Rattle.area.proofs.Records.{length-records_of}
use Rattle.machine.specs.Steps.{started}
use Rattle.machine.specs.Causes.{first_cause, start_causes}
use Rattle.encoding.specs.Entries.{SoundMachine}
use Rattle.machine.proofs.Facts.{step_facts}
use Rattle.writing.specs.Changes.{root_record}
use Rattle.writing.specs.ValidArea.{ValidArea}
use Rattle.writing.proofs.Facts.{write_facts}
use Rattle.writing.proofs.After.{written_valid}
use Rattle.calls.proofs.Found.{not_zero}
use Rattle.calls.proofs.Accepted.{startable}
use Rattle.calls.proofs.Written.{written_state}
use Rattle.jobfile.specs.Form.{Fault, formed, broken, form_of, entry_count}
use Rattle.reporting.specs.Text.{refusal_text}
use Rattle.running.specs.declared.Refusal.{Refusal}
use Rattle.running.specs.declared.RefusalCause.{RefusalCause}
use Rattle.running.specs.declared.RefusalCause.TheVariants as causes
use Rattle.running.specs.declared.TooShort.{TooShort}
use Rattle.running.specs.Execution.{own_lengths, refused_at, execution, step_limit, start_byte, start_cause, result_in, result_of, file_settings}
use Rattle.running.specs.Report.{text_in, text_of}
use Rattle.running.specs.Code.{number_of, Printed, written_for, answer_in, run_on}

-- ---- what start leaves

module _ (g : Settings) (none : first_cause (start_causes own_lengths g) ≡ 0) (j : JobRecord) (before cells : List ℕ) (store : List ℤ)
    (job : j ≡ record { settings = g; held = 1; reserved = 1; pending = 0; carried = 0; mean = pos 0 }) (run : run_of cells ≡ stored (run_of before) 0 root_record)
    (long : length before ≡ 13824) (room : length store ≡ 8192) where
  abbrev old : Area
  old = area_of j before store

  records_there : length (area_of j before store).run.records ≡ 512
  records_there = length-records_of before ∙ ap (λ n. n / 27) long

  sound : SoundMachine (started g)
  sound = step_facts.start g (startable own_lengths g none).settings

  area_is : area_of j cells store ≡ written (area_of j before store) (started g)
  area_is =
      (λ i. record { job = job i; run = run i; store = store })
      ∙ sym (write_facts.start (area_of j before store) g (omega (arith, records_there)))

  pub start_valid : ValidArea (area_of j cells store)
  start_valid =
      written_valid (area_of j before store) (started g) sound (omega (arith, records_there))
      (unfold started in omega (arith, room, (startable own_lengths g none).readings)) j cells store area_is

  pub start_state : machine_of (area_of j cells store) ≡ started g
  start_state = ap machine_of area_is ∙ written_state (area_of j before store) (started g) sound

-- ---- the text of a file

has_number : (x : RefusalCause) → number_of x ≡ 0 → ⊥
has_number causes.Header e = omega (arith, e)
has_number causes.Entry e = omega (arith, e)
has_number causes.Readings e = omega (arith, e)
has_number (causes.Call d) e = not_zero d e

module _ (c : List ℕ) where
  -- of the wrong form
  pub broken_text : (f : Fault) → form_of c ≡ broken f → text_of c ≡ refusal_text f.number f.byte
  unfolding text_of result_of result_in text_in
  broken_text f e = ap (λ x. text_in (entry_count c) (result_in x c)) e

  -- of the right form: start refuses, or it goes its course
  module _ (right : form_of c ≡ formed) where
    of_form : result_of c ≡ cond (eqb (start_cause c) 0) (execution c step_limit (started (file_settings c)) 0) (refused_at (start_cause c) (start_byte (start_cause c)))
    unfolding result_of result_in
    of_form = ap (λ x. result_in x c) right

    pub refused_start : (start_cause c ≡ 0 → ⊥) → result_of c ≡ refused_at (start_cause c) (start_byte (start_cause c))
    refused_start f = of_form ∙ ap (λ t. cond t (execution c step_limit (started (file_settings c)) 0) (refused_at (start_cause c) (start_byte (start_cause c)))) (ne_eqb (start_cause c) 0 f)

    pub start_text : (r : Refusal) → number_of r.cause ≡ start_cause c → r.byte ≡ start_byte (start_cause c) → refusal_text (number_of r.cause) r.byte ≡ text_of c
    unfolding text_of text_in
    start_text r n b = ap₂ refusal_text n b ∙ sym (ap (text_in (entry_count c)) (refused_start (λ e. has_number r.cause (n ∙ e))))

    pub executed : start_cause c ≡ 0 → result_of c ≡ execution c step_limit (started (file_settings c)) 0
    executed e = of_form ∙ ap (λ k. cond (eqb k 0) (execution c step_limit (started (file_settings c)) 0) (refused_at k (start_byte k))) e

-- ---- what run leaves

pub too_short_lem : (c buffer : List ℕ) (e : TooShort) → length buffer < 512 → record { answer = answer_in c (Err e); buffer = buffer } ≡ run_on c buffer
unfolding run_on answer_in
too_short_lem c buffer e h = rw (lt-ltb (length buffer) 512 h) refl

pub printed : (c before after : List ℕ) (end : ℕ) → 512 ≤ length before → Printed (text_of c) before after end → record { answer = answer_in c (Ok end); buffer = after } ≡ run_on c before
unfolding run_on answer_in
printed c before after end h p = (λ i. record { answer = written_for (entry_count c) (result_of c) (p.count i); buffer = p.bytes i }) ∙ rw (le-ltb (length before) 512 h) refl
