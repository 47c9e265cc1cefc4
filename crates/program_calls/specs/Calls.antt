-- The calls that the program makes on a job file of the right form, worked from the file's bytes and the log ("The third demand's list");
-- the area does not occur. c are the file's bytes. The program runs the inside versions of these calls; that it comes to what they come to is
-- `ProgramIsCalls` (Facts.antt).
use Rattle.std.specs.Prelude.{◌≡◌, Bool, true, false, cond, List, [], ◌∷◌, ℕ, zero, suc, ◌+◌, leb, ℤ}
use Rattle.area.specs.Log.{Log}
use Rattle.machine.specs.Log.{any_wanted}
use Rattle.machine.specs.Choose as choice
use Rattle.machine.specs.Promote as refining
use Rattle.machine.specs.Steps.{start_log}
use Rattle.machine.specs.Causes.{Lengths}
use Rattle.calls.specs.Replies.{Reply, refused, accepted, wrote, chosen, promotion, counts, doubled, total, verdict}
use Rattle.calls.specs.Table.{Call, start, point, points, deliver, choose, promote, result, doubles, cross_total, check, answer}
use Rattle.history.specs.LentCalls.{Part, LentCall, lengths_lent}
use Rattle.history.specs.Logged.{log_step, log_after, answer_by}
use Rattle.history.specs.Promotions.{promotions_after}
use Rattle.history.specs.Source.{lend_all}
use Rattle.jobfile.specs.Form.{entry_count}
use Rattle.jobfile.specs.File.{entry_of}
use Rattle.running.specs.Execution.{step_limit, file_settings}

-- Every call is lent the run's own storage whole: 512 records of 27 cells, and 8,192 readings.
abbrev pub own_part : Part
own_part = record { cells = 13824; readings = 8192 }

abbrev pub lent : Call → LentCall
lent x = record { call = x; part = own_part }

abbrev pub own_lent : Lengths
own_lent = lengths_lent own_part

-- It starts with the file's settings.
abbrev pub start_call : List ℕ → Call
start_call c = start (file_settings c)

-- The delivery of entry i, with its readings and its indicator.
abbrev pub entry_call : List ℕ → ℕ → Call
entry_call c i = deliver (entry_of c i).readings (entry_of c i).indicator

-- The program goes on after *accepted*, a place and *promoted*, and after no other answer.
unfoldable pub goes_on_with : choice.Choice → Bool
goes_on_with choice.met = false
goes_on_with choice.capped = false
goes_on_with (choice.place p) = true

unfoldable pub goes_on_after : refining.Outcome → Bool
goes_on_after refining.spent = false
goes_on_after refining.promoted = true

unfoldable pub goes_on : Reply → Bool
goes_on (refused n) = false
goes_on accepted = true
goes_on (wrote n size) = false
goes_on (chosen c) = goes_on_with c
goes_on (promotion o) = goes_on_after o
goes_on (counts x) = false
goes_on (doubled r) = false
goes_on (total x) = false
goes_on (verdict b) = false

-- A call, and those after it if its answer by the log lets the program go on.
unfoldable pub followed_by : Log → Call → List Call → List Call
followed_by l x next = x ∷ cond (goes_on (answer_by own_lent l x).reply) next []

-- The place that is chosen by the log; where choose is met or capped no call comes after it, and the number does not matter.
unfoldable pub chosen_place : choice.Choice → ℕ
chosen_place choice.met = 0
chosen_place choice.capped = 0
chosen_place (choice.place p) = p

abbrev pub promote_call : Log → Call
promote_call l = promote (chosen_place (choice.choose l))

-- The calls after the start, n steps at most, from the log l on with i entries delivered: while a block is wanted it delivers the next entry,
-- else it chooses, and promotes the place that is chosen. With a block wanted and no entry left there are none.
unfoldable pub calls_from : List ℕ → (n : ℕ) → Log → (i : ℕ) → List Call
calls_from c zero l i = []
calls_from c (suc n) l i =
    cond (any_wanted l.entries)
    (cond (leb (entry_count c) i) [] (followed_by l (entry_call c i) (calls_from c n (log_step l (lent (entry_call c i))) (i + 1))))
    (followed_by l choose (followed_by l (promote_call l) (calls_from c n (log_step l (lent (promote_call l))) i)))

-- ---- choose and promote in turn

-- The program calls both in turn: in the list of calls, from the log l on, an entry is delivered only while a block is wanted; where none is,
-- choose is called, and if it answers a place, promote of that place right after it; if not, nothing comes after it.
pub data InTurn : Log → List Call → Type 0 where
  nothing : {l : Log} → InTurn l []
  delivers : {l : Log} (rs : List ℤ) (i : ℕ) {xs : List Call} → any_wanted l.entries ≡ true → InTurn (log_step l (lent (deliver rs i))) xs → InTurn l (deliver rs i ∷ xs)
  promotes : {l : Log} (p : ℕ) {xs : List Call} → any_wanted l.entries ≡ false → answer_by own_lent l choose ≡ answer (chosen (choice.place p)) → InTurn (log_step l (lent (promote p))) xs
      → InTurn l (choose ∷ promote p ∷ xs)
  ends : {l : Log} → any_wanted l.entries ≡ false → ((p : ℕ) → answer_by own_lent l choose ≡ answer (chosen (choice.place p)) → ⊥) → InTurn l (choose ∷ [])

-- ---- the whole list

-- All calls after the start. That the limit on the steps is never what ends them is `ExecutionFacts.ends` (crate `running`).
unfoldable pub later_calls : List ℕ → List Call
later_calls c = calls_from c step_limit (start_log (file_settings c)) 0

-- The log after all calls.
unfoldable pub program_log : List ℕ → Log
program_log c = log_after (start_log (file_settings c)) (lend_all own_part (later_calls c))

-- The indices made old, in the order of their promotions.
unfoldable pub program_promotions : List ℕ → List (List ℕ)
program_promotions c = promotions_after (start_log (file_settings c)) [] (lend_all own_part (later_calls c))

-- How many entries are delivered, counted on from i, a last one that is refused included.
unfoldable pub next_entry : ℕ → Call → ℕ
next_entry i (start g) = i
next_entry i (point n buffer) = i
next_entry i (points n buffer) = i
next_entry i (deliver rs k) = i + 1
next_entry i choose = i
next_entry i (promote p) = i
next_entry i result = i
next_entry i doubles = i
next_entry i cross_total = i
next_entry i check = i

unfoldable pub deliveries_from : ℕ → List Call → ℕ
deliveries_from i [] = i
deliveries_from i (x ∷ xs) = deliveries_from (next_entry i x) xs
