-- What holds of every run, proved. Assumes nothing.
use mathlib.Core.Path.{◌≡◌, refl, sym, ap, subst, ◌∙◌}
use mathlib.Core.Bool.{cond}
use mathlib.Core.List.{List, ◌++◌}
use borrow.Author.Tests.{lt-ltb, le-ltb}
use native.Mathlib.Omega.{arith}
use native.Mathlib.Decide.{dec_lt}
use native.Mathlib.Nat.{le_trans}
use Prim.Native.Nat.{ℕ, ◌-◌, ◌<◌, ◌≤◌, zero-le}
use lib.ListN.{length, take, drop}
use Rattle.std.specs.Prelude.{Ok, Err}
use Rattle.std.proofs.Math.Seq.{take-append_seam}
use Rattle.jobfile.proofs.Facts.{form_facts}
use Rattle.jobfile.specs.Form.{Fault, Form, formed, broken, form_of, entry_count}
use Rattle.area.specs.Log.{Machine}
use Rattle.reporting.specs.Text.{Ending, ReportValues, report_text, refusal_text}
use Rattle.reporting.proofs.Facts.{text_facts}
use Rattle.running.specs.Execution.{Result, refused_at, ended, unfinished, result_in, result_of}
use Rattle.running.specs.Report.{report_values_of, text_in, text_of}
use Rattle.running.specs.declared.TooShort.{TooShort}
use Rattle.running.specs.Code.{RunAnswer, too_short, report, refusal, nothing, written_for, answer_in, RunResult, run_on}
use Rattle.running.specs.Facts.{AllowedResult, ExecutionFacts}
use Rattle.running.proofs.Whole.{broken_text}
use Rattle.running.proofs.Ends.{run_allowed}
use Rattle.running.proofs.NamedBytes.{named_reading, count_byte, reading_byte, axes_refused, budget_refused}

-- Every text is a report, a refusal or empty.
room_in : (n : ℕ) (r : Result) → length (text_in n r) ≤ 512
unfolding text_in
room_in n (refused_at number byte) = text_facts.refusal_room number byte
room_in n (ended e m i) = text_facts.report_room (report_values_of e m (n - i))
room_in n unfinished = omega arith

room_of : (c : List ℕ) → length (text_of c) ≤ 512
unfolding text_of
room_of c = room_in (entry_count c) (result_of c)

-- The number of bytes that an answer counts.
abbrev counted : RunAnswer → ℕ
counted too_short = 0
counted (report f n) = n
counted (refusal number byte n) = n
counted (nothing n) = n

counted_written : (n : ℕ) (r : Result) (count : ℕ) → counted (written_for n r count) ≡ count
unfolding written_for
counted_written n (refused_at number byte) count = refl
counted_written n (ended e m i) count = refl
counted_written n unfinished count = refl

counted_within : (c buffer : List ℕ) → Dec (length buffer < 512) → counted (run_on c buffer).answer ≤ length buffer
unfolding run_on
counted_within c buffer (yes h) = rw (lt-ltb (length buffer) 512 h) zero-le
counted_within c buffer (no h) =
    rw (le-ltb (length buffer) 512 (omega (arith, h)), counted_written (entry_count c) (result_of c) (length (text_of c))) (le_trans (room_of c) (omega (arith, h)))

within_of : (c buffer : List ℕ) (n : ℕ) → answer_in c (Ok n) ≡ (run_on c buffer).answer → n ≤ length buffer
unfolding answer_in
within_of c buffer n e =
    subst (λ k. k ≤ length buffer) (sym (ap counted e) ∙ counted_written (entry_count c) (result_of c) n) (counted_within c buffer (dec_lt (length buffer) 512))

-- ---- what was written

short_of : (c buffer : List ℕ) → length buffer < 512 → run_on c buffer ≡ record { answer = too_short; buffer = buffer }
unfolding run_on
short_of c buffer h = rw (lt-ltb (length buffer) 512 h) refl

abbrev written : List ℕ → (n : ℕ) → Result → RunResult
written buffer n r = record { answer = written_for n r (length (text_in n r)); buffer = text_in n r ++ drop (length (text_in n r)) buffer }

written_of : (c buffer : List ℕ) (r : Result) → 512 ≤ length buffer → result_of c ≡ r → run_on c buffer ≡ written buffer (entry_count c) r
unfolding run_on text_of
written_of c buffer r h e =
    ap (λ t. cond t (record { answer = too_short; buffer = buffer }) (written buffer (entry_count c) (result_of c))) (le-ltb (length buffer) 512 h)
    ∙ ap (written buffer (entry_count c)) e

refusal_of : (c buffer : List ℕ) (number byte : ℕ) → 512 ≤ length buffer → result_of c ≡ refused_at number byte
    → run_on c buffer ≡ record { answer = refusal number byte (length (refusal_text number byte)); buffer = refusal_text number byte ++ drop (length (refusal_text number byte)) buffer }
refusal_of c buffer number byte h e = written_of c buffer (refused_at number byte) h e ∙ unfold written_for text_in in refl

report_of_lem : (c buffer : List ℕ) (e : Ending) (m : Machine) (used : ℕ) (f : ReportValues) → 512 ≤ length buffer → result_of c ≡ ended e m used → f ≡ report_values_of e m (entry_count c - used)
    → run_on c buffer ≡ record { answer = report f (length (report_text f)); buffer = report_text f ++ drop (length (report_text f)) buffer }
report_of_lem c buffer e m used f h is values =
    written_of c buffer (ended e m used) h is
    ∙ unfold written_for text_in in
    ap {B = RunResult} (λ (x : ReportValues). record { answer = report x (length (report_text x)); buffer = report_text x ++ drop (length (report_text x)) buffer }) (sym values)

-- ---- what it comes to

malformed_of : (c : List ℕ) (f : Fault) → form_of c ≡ broken f → result_of c ≡ refused_at f.number f.byte
unfolding result_of result_in
malformed_of c f e = ap (λ x. result_in x c) e

allowed_of : (c : List ℕ) → form_of c ≡ formed → AllowedResult (entry_count c) (result_of c)
allowed_of c e = run_allowed c (form_facts.formed_file c e).entries_at_most e

apart : (n b : ℕ) → refused_at n b ≡ unfinished → ⊥
apart n b e = let z : ◌≡◌ {A = ℕ} 0 1 = cc in omega arith

ends_of_lem : (c : List ℕ) → result_of c ≡ unfinished → ⊥
ends_of_lem c u = step (form_of c) refl
  where
    step : (f : Form) → form_of c ≡ f → ⊥
    step formed e = subst (AllowedResult (entry_count c)) u (allowed_of c e)
    step (broken f) e = apart f.number f.byte (sym (malformed_of c f e) ∙ u)

decided_of : (c : List ℕ) → 38937 ≤ length c → text_of (take 38937 c) ≡ text_of c
decided_of c h =
    let f = form_facts.too_long c h in
    broken_text (take 38937 c) f.0 (form_facts.decided c h ∙ f.1) ∙ sym (broken_text c f.0 f.1)

pub execution-facts : ExecutionFacts
execution-facts = record { malformed = malformed_of; well_formed = allowed_of; axes_refused = axes_refused; budget_refused = budget_refused; count_byte = count_byte; reading_byte = reading_byte; named_reading = named_reading; decided = decided_of; ends = ends_of_lem; room = room_of; within = within_of; short_buffer = short_of; refusal_written = refusal_of; report_written = report_of_lem }

-- ---- a buffer that is long enough

never : (n : ℕ) (r : Result) (count : ℕ) → too_short ≡ written_for n r count → ⊥
unfolding written_for
never n (refused_at number byte) count e = cc
never n (ended x m i) count e = cc
never n unfinished count e = cc

pub never_short : (c before after : List ℕ) (x : TooShort) → 512 ≤ length before → record { answer = answer_in c (Err x); buffer = after } ≡ run_on c before → ⊥
unfolding answer_in
never_short c before after x h e = never (entry_count c) (result_of c) _ (ap (λ (y : RunResult). y.answer) (e ∙ written_of c before (result_of c) h refl))

-- its front is the text
pub text_left : (c before after : List ℕ) (n : ℕ) → 512 ≤ length before → record { answer = answer_in c (Ok n); buffer = after } ≡ run_on c before → take n after ≡ text_of c
unfolding answer_in text_of
text_left c before after n h e = let all = e ∙ written_of c before (result_of c) h refl in
    let count : n ≡ length (text_in (entry_count c) (result_of c)) = sym (counted_written (entry_count c) (result_of c) n) ∙ ap (λ (y : RunResult). counted y.answer) all ∙ counted_written (entry_count c) (result_of c) (length (text_in (entry_count c) (result_of c))) in
    ap (λ k. take k after) count ∙ ap (λ (y : RunResult). take (length (text_in (entry_count c) (result_of c))) y.buffer) all
    ∙ take-append_seam (text_in (entry_count c) (result_of c)) (drop (length (text_in (entry_count c) (result_of c))) before)
