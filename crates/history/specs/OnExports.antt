-- Lists of exported calls (crate `wihupya`), as callers in C and Rust make them. The work area is the twelve words of the job record, cells and a
-- store; a call is lent so many cells and readings of it, and the arrays into which it writes its answer. What it returns and leaves is what
-- the contracts of `wihupya` say (its src/lib.rt, specs/Exports.antt, specs/Words.antt): `MeetsContract`, `ContractFacts`.
use Rattle.std.specs.Prelude.{◌≡◌, cond, ℕ, ◌*◌, ◌^◌, ◌<◌, ◌≤◌, ℤ, pos, length, take, drop}
use mathlib.Core.List.{List, [], ◌∷◌, ◌++◌, map, Memᴰ}
use Rattle.std.specs.Int.{w64}
use Rattle.std.proofs.Common.{to_z}
use Rattle.doubles.specs.declared.Report.{Report}
use Rattle.doubles.specs.Exact.{LosesNothing}
use Rattle.area.specs.declared.JobRecord.{JobRecord}
use Rattle.area.specs.Settings.{settings_of, least_store}
use Rattle.area.specs.Entry.{pending_of}
use Rattle.area.specs.Log.{Log}
use Rattle.area.specs.Records.{run_of}
use Rattle.area.specs.Encoding.{area_of, job_with}
use Rattle.soundness.specs.Clauses.{checked}
use Rattle.machine.specs.Steps.{start_log}
use Rattle.machine.specs.Means.{cross_of}
use Rattle.machine.specs.Largest.{largest_of}
use Rattle.counting.specs.Doubles.{doubles_of}
use Rattle.calls.specs.Replies.{Reply, refused, accepted, wrote, chosen, promotion, counts, doubled, total, verdict}
use Rattle.calls.specs.Table as table
use Rattle.calls.specs.Table.{Call, Answer, answer}
use Rattle.calls.specs.Calls.{call_on}
use Rattle.wihupya.specs.Words.{word, wide, job_of, words_of}
use Rattle.wihupya.specs.Exports as exports
use Rattle.wihupya.specs.Exports.{bits, number_of, answer_words}
use Rattle.history.specs.LentCalls.{Part, LentCall, lengths_lent}
use Rattle.history.specs.Logged.{state_of, log_step, log_after, answer_by}
use Rattle.history.specs.Storage.{Storage, Lent, call_in, storage_step}
use Rattle.history.specs.Found.{Found}
use Rattle.history.specs.Promotions.{promotions_after, AllChosen}
use Rattle.history.specs.Source.{MeanFollows, StepsFollow, RuleFollows}
use Rattle.history.specs.Spent.{Admissions}

pub record ExportStorage : Type 0 where
  pub words : List ℕ
  pub cells : List ℕ
  pub store : List ℤ

-- The same with the words read as a job record, which is what every exported call does first.
abbrev pub read_storage : ExportStorage → Storage
read_storage w = record { job = job_of w.words; cells = w.cells; store = w.store }

-- ---- the calls

-- An exported call with its arguments, and the words into which it writes its answer, as they are lent; of doubles the bits of three doubles.
pub data ExportCall : Type 0 where
  start : (axes threshold budget : ℕ) → ExportCall
  point : (n : ℕ) (buffer : List ℕ) → ExportCall
  points : (n : ℕ) (given buffer : List ℕ) → ExportCall
  deliver : (readings : List ℤ) (indicator : ℕ) → ExportCall
  choose : (given : List ℕ) → ExportCall
  promote : (place : ℕ) (outcome : List ℕ) → ExportCall
  result : (given : List ℕ) → ExportCall
  doubles : (given : List ℕ) → ExportCall
  cross_total : (given : List ℕ) → ExportCall
  check : ExportCall

-- The call that it is.
unfoldable pub call_of : ExportCall → Call
call_of (start axes threshold budget) = table.start (settings_of axes threshold budget)
call_of (point n buffer) = table.point n buffer
call_of (points n given buffer) = table.points n buffer
call_of (deliver rs i) = table.deliver rs i
call_of (choose given) = table.choose
call_of (promote p outcome) = table.promote p
call_of (result given) = table.result
call_of (doubles given) = table.doubles
call_of (cross_total given) = table.cross_total
call_of check = table.check

-- Its arguments are within their types: a threshold has 64 bits, an indicator 32. (No other type decides anything here; promote's place may be
-- any number.)
abbrev pub Typed : ExportCall → Type 0
Typed (start axes threshold budget) = threshold < 2 ^ 64
Typed (point n buffer) = Unit {0}
Typed (points n given buffer) = Unit {0}
Typed (deliver rs i) = i < 2 ^ 32
Typed (choose given) = Unit {0}
Typed (promote p outcome) = Unit {0}
Typed (result given) = Unit {0}
Typed (doubles given) = Unit {0}
Typed (cross_total given) = Unit {0}
Typed check = Unit {0}

-- A call and what it is lent.
pub record LentExport : Type 0 where
  pub call : ExportCall
  pub part : Part

abbrev pub lent_call : LentExport → LentCall
lent_call x = record { call = call_of x.call; part = x.part }

abbrev pub AllTyped : List LentExport → Type 0
AllTyped [] = Unit {0}
AllTyped (x ∷ xs) = Typed x.call × AllTyped xs

abbrev pub AllLentExports : ExportStorage → List LentExport → Type 0
AllLentExports w [] = Unit {0}
AllLentExports w (x ∷ xs) = Lent (read_storage w) x.part × AllLentExports w xs

-- ---- what a call returns and writes

-- The number that it returns (check: 1 for yes and 0 for no), its own words as they are left, of doubles the bits of its three doubles, and the
-- buffer of point or points.
pub record ExportAnswer : Type 0 where
  pub number : ℕ
  pub words : List ℕ
  pub buffer : List ℕ

unfoldable pub verdict_number : Reply → ℕ
verdict_number (refused n) = 0
verdict_number accepted = 0
verdict_number (wrote n size) = 0
verdict_number (chosen c) = 0
verdict_number (promotion o) = 0
verdict_number (counts c) = 0
verdict_number (doubled r) = 0
verdict_number (total x) = 0
verdict_number (verdict b) = cond b 1 0

unfoldable pub export_answer : ExportCall → Answer → ExportAnswer
export_answer (start axes threshold budget) y = record { number = number_of y.reply; words = []; buffer = [] }
export_answer (point n buffer) y = record { number = number_of y.reply; words = []; buffer = y.buffer }
export_answer (points n given buffer) y = record { number = number_of y.reply; words = answer_words y.reply given; buffer = y.buffer }
export_answer (deliver rs i) y = record { number = number_of y.reply; words = []; buffer = [] }
export_answer (choose given) y = record { number = number_of y.reply; words = answer_words y.reply given; buffer = [] }
export_answer (promote p outcome) y = record { number = number_of y.reply; words = answer_words y.reply outcome; buffer = [] }
export_answer (result given) y = record { number = number_of y.reply; words = answer_words y.reply given; buffer = [] }
export_answer (doubles given) y = record { number = number_of y.reply; words = answer_words y.reply given; buffer = [] }
export_answer (cross_total given) y = record { number = number_of y.reply; words = answer_words y.reply given; buffer = [] }
export_answer check y = record { number = verdict_number y.reply; words = []; buffer = [] }

unfoldable pub exported : ExportStorage → LentExport → ExportAnswer
exported w x = export_answer x.call (call_in (read_storage w) (lent_call x)).answer

-- Start, deliver and promote write the job record's words; the others only read them.
unfoldable pub words_after : ExportCall → List ℕ → JobRecord → List ℕ
words_after (start axes threshold budget) w j = words_of j
words_after (point n buffer) w j = w
words_after (points n given buffer) w j = w
words_after (deliver rs i) w j = words_of j
words_after (choose given) w j = w
words_after (promote p outcome) w j = words_of j
words_after (result given) w j = w
words_after (doubles given) w j = w
words_after (cross_total given) w j = w
words_after check w j = w

unfoldable pub export_step : ExportStorage → LentExport → ExportStorage
export_step w x =
    record {
      words = words_after x.call w.words (storage_step (read_storage w) (lent_call x)).job;
      cells = (storage_step (read_storage w) (lent_call x)).cells;
      store = (storage_step (read_storage w) (lent_call x)).store;
    }

-- ---- a list of calls

unfoldable pub exports_after : ExportStorage → List LentExport → ExportStorage
exports_after w [] = w
exports_after w (x ∷ xs) = exports_after (export_step w x) xs

unfoldable pub export_answers : ExportStorage → List LentExport → List ExportAnswer
export_answers w [] = []
export_answers w (x ∷ xs) = exported w x ∷ export_answers (export_step w x) xs

-- The answers by the log.
unfoldable pub export_answers_by : Log → List LentExport → List ExportAnswer
export_answers_by l [] = []
export_answers_by l (x ∷ xs) = export_answer x.call (answer_by (lengths_lent x.part) l (call_of x.call)) ∷ export_answers_by (log_step l (lent_call x)) xs

-- ---- the contracts

-- What the function of a call returned (check: 1 for yes and 0 for no), and what it left in the words of the job record, in the cells and
-- the store that it was lent, in the words for its answer, of doubles the bits of its three doubles, and in the buffer of point or points.
pub record ExportLeft : Type 0 where
  pub number : ℕ
  pub job : List ℕ
  pub cells : List ℕ
  pub store : List ℤ
  pub words : List ℕ
  pub buffer : List ℕ

-- What is lent to be read alone stays.
abbrev pub OnlyReads : (job cells : List ℕ) (store : List ℤ) → ExportLeft → Type 0
OnlyReads job cells store y = (y.job ≡ job) × (y.cells ≡ cells) × (y.store ≡ store)

-- The contract of the call's function, at the job record's words, the cells and the store that it is lent: the equations of the function's
-- `ensures` (`wihupya`, src/lib.rt), with what is lent by `&` staying, by the borrow, and what a call is not lent empty. That these are the
-- functions' own contracts is `FunctionContracts` (Functions.antt).
abbrev pub Contract : (job cells : List ℕ) (store : List ℤ) → ExportCall → ExportLeft → Type 0
Contract job cells store (start axes threshold budget) y =
    (record { number = y.number; job = y.job; run = run_of y.cells; store = store }
    ≡ exports.exported (call_on (area_of (job_of job) cells store) (table.start (settings_of axes threshold budget))))
    × ((y.number ≡ 0 → ⊥) → y.job ≡ job)
    × (y.store ≡ store)
    × (y.words ≡ [])
    × (y.buffer ≡ [])
Contract job cells store (point n buffer) y =
    (y.number ≡ number_of (call_on (area_of (job_of job) cells store) (table.point n buffer)).answer.reply)
    × (y.buffer ≡ (call_on (area_of (job_of job) cells store) (table.point n buffer)).answer.buffer)
    × OnlyReads job cells store y
    × (y.words ≡ [])
Contract job cells store (points n given buffer) y =
    (y.number ≡ number_of (call_on (area_of (job_of job) cells store) (table.points n buffer)).answer.reply)
    × (y.words ≡ answer_words (call_on (area_of (job_of job) cells store) (table.points n buffer)).answer.reply given)
    × (y.buffer ≡ (call_on (area_of (job_of job) cells store) (table.points n buffer)).answer.buffer)
    × OnlyReads job cells store y
Contract job cells store (deliver rs i) y =
    (record { number = y.number; job = y.job; run = run_of y.cells; store = y.store }
    ≡ exports.exported (call_on (area_of (job_of job) cells store) (table.deliver rs i)))
    × ((y.number ≡ 0 → ⊥) → y.job ≡ job)
    × (y.words ≡ [])
    × (y.buffer ≡ [])
Contract job cells store (choose given) y =
    (y.number ≡ number_of (call_on (area_of (job_of job) cells store) table.choose).answer.reply)
    × (y.words ≡ answer_words (call_on (area_of (job_of job) cells store) table.choose).answer.reply given)
    × OnlyReads job cells store y
    × (y.buffer ≡ [])
Contract job cells store (promote p outcome) y =
    (record { number = y.number; job = y.job; run = run_of y.cells; store = store }
    ≡ exports.exported (call_on (area_of (job_of job) cells store) (table.promote p)))
    × (y.words ≡ answer_words (call_on (area_of (job_of job) cells store) (table.promote p)).answer.reply outcome)
    × ((y.number ≡ 0 → ⊥) → y.job ≡ job)
    × (y.store ≡ store)
    × (y.buffer ≡ [])
Contract job cells store (result given) y =
    (y.number ≡ number_of (call_on (area_of (job_of job) cells store) table.result).answer.reply)
    × (y.words ≡ answer_words (call_on (area_of (job_of job) cells store) table.result).answer.reply given)
    × OnlyReads job cells store y
    × (y.buffer ≡ [])
Contract job cells store (doubles given) y =
    (y.number ≡ number_of (call_on (area_of (job_of job) cells store) table.doubles).answer.reply)
    × (y.words ≡ answer_words (call_on (area_of (job_of job) cells store) table.doubles).answer.reply given)
    × OnlyReads job cells store y
    × (y.buffer ≡ [])
Contract job cells store (cross_total given) y =
    (y.number ≡ number_of (call_on (area_of (job_of job) cells store) table.cross_total).answer.reply)
    × (y.words ≡ answer_words (call_on (area_of (job_of job) cells store) table.cross_total).answer.reply given)
    × OnlyReads job cells store y
    × (y.buffer ≡ [])
Contract job cells store check y =
    (y.number ≡ cond (checked (area_of (job_of job) cells store)) 1 0)
    × OnlyReads job cells store y
    × (y.words ≡ [])
    × (y.buffer ≡ [])

-- At what the call is lent of the storage.
abbrev pub MeetsContract : ExportStorage → LentExport → ExportLeft → Type 0
MeetsContract w x y = Contract w.words (take x.part.cells w.cells) (take x.part.readings w.store) x.call y

-- What it returned and wrote as an answer, and the storage with what it left back in its place.
abbrev pub answer_left : ExportLeft → ExportAnswer
answer_left y = record { number = y.number; words = y.words; buffer = y.buffer }

abbrev pub put_back : ExportStorage → Part → ExportLeft → ExportStorage
put_back w p y = record { words = y.job; cells = y.cells ++ drop p.cells w.cells; store = y.store ++ drop p.readings w.store }

-- A list of calls as it was made: each call finds the storage as the one before left it, and its function met its contract.
abbrev pub AllMeet : ExportStorage → List LentExport → List ExportLeft → Type 0
AllMeet w [] [] = Unit {0}
AllMeet w [] (y ∷ ys) = ⊥
AllMeet w (x ∷ xs) [] = ⊥
AllMeet w (x ∷ xs) (y ∷ ys) = MeetsContract w x y × AllMeet (put_back w x.part y) xs ys

unfoldable pub left_after : ExportStorage → List LentExport → List ExportLeft → ExportStorage
left_after w [] ys = w
left_after w (x ∷ xs) [] = w
left_after w (x ∷ xs) (y ∷ ys) = left_after (put_back w x.part y) xs ys

-- The contracts leave no choice: what a function returned and left, by its contract alone, is what the definitions above say.
pub record ContractFacts : Type 0 where
  pub call : (w : ExportStorage) (x : LentExport) (y : ExportLeft) → MeetsContract w x y → (answer_left y ≡ exported w x) × (put_back w x.part y ≡ export_step w x)
  pub calls : (w : ExportStorage) (xs : List LentExport) (ys : List ExportLeft) → AllMeet w xs ys
      → (map answer_left ys ≡ export_answers w xs) × (left_after w xs ys ≡ exports_after w xs)
  -- and they can be met, where the words are twelve of 32 bits
  pub some : (w : ExportStorage) (x : LentExport) → length w.words ≡ 12 → ((i : ℕ) → word w.words i < 2 ^ 32) → (y : ExportLeft) × MeetsContract w x y

-- ---- what is found

-- All of the cells and all of the store.
abbrev pub whole_part : ExportStorage → Part
whole_part w = record { cells = length w.cells; readings = length w.store }

-- Two words as a 64-bit number with a sign.
abbrev pub signed_at : List ℕ → ℕ → ℤ
signed_at w i = to_z w64 (wide w i)

-- Doubles, not refused: 0 is returned, and the bits are those of the report's three doubles.
abbrev pub reported : Report → ExportAnswer
reported r = record { number = 0; words = bits r.mean ∷ bits r.pending ∷ bits r.largest ∷ []; buffer = [] }

pub record ExportsFound (w : ExportStorage) (l : Log) : Type 0 where
  -- the words are those of the job record that is worked from the log
  pub words : w.words ≡ words_of (job_with (state_of l))
  -- what the third demand says is found is found in the words, cells and store
  pub found : Found (read_storage w) l
  -- the signed number in result's words and that in cross total's are both the sum of full tensor rules over the delivered indices, each times
  -- its combination coefficient, where storage that is long enough is lent
  pub result_mean : (x : Part) (given : List ℕ) → Lent (read_storage w) x → 512 * 27 ≤ x.cells → least_store l.settings ≤ x.readings
      → signed_at (exported w (record { call = result given; part = x })).words 2 ≡ cross_of l.entries
  pub cross_mean : (x : Part) (given : List ℕ) → Lent (read_storage w) x → 512 * 27 ≤ x.cells → least_store l.settings ≤ x.readings
      → signed_at (exported w (record { call = cross_total given; part = x })).words 0 ≡ cross_of l.entries
  -- the whole storage is long enough (`Found.enough`), so of it nothing is asked
  pub whole_result_mean : (given : List ℕ) → signed_at (exported w (record { call = result given; part = whole_part w })).words 2 ≡ cross_of l.entries
  pub whole_cross_mean : (given : List ℕ) → signed_at (exported w (record { call = cross_total given; part = whole_part w })).words 0 ≡ cross_of l.entries
  -- doubles returns 0 and leaves the bits of the log's report, where storage that is long enough is lent, and over the whole of it
  pub doubles_report : (x : Part) (given : List ℕ) → Lent (read_storage w) x → 512 * 27 ≤ x.cells → least_store l.settings ≤ x.readings
      → exported w (record { call = doubles given; part = x }) ≡ reported (doubles_of (state_of l))
  pub whole_doubles_report : (given : List ℕ) → exported w (record { call = doubles given; part = whole_part w }) ≡ reported (doubles_of (state_of l))
  -- with nothing lost: its doubles are that same sum, the pending error and the largest delivered difference
  pub exact_mean : LosesNothing (doubles_of (state_of l)).mean (cross_of l.entries) (2 ^ 20)
  pub exact_pending : LosesNothing (doubles_of (state_of l)).pending (pos (pending_of l.entries)) 1
  pub exact_largest : LosesNothing (doubles_of (state_of l)).largest (largest_of l.entries) (2 ^ 20)

-- After `first`, a start with these numbers, and `later`:
pub record ExportsDemand (w : ExportStorage) (first : LentExport) (later : List LentExport) (axes threshold budget : ℕ) : Type 0 where
  -- every returned number, every output word or double and every byte of a buffer is the log's answer
  pub answers : export_answers w (first ∷ later) ≡ export_answer first.call (answer accepted) ∷ export_answers_by (start_log (settings_of axes threshold budget)) later
  -- which are what the functions return and leave by their contracts, call by call
  pub contracts : (ys : List ExportLeft) → AllMeet w (first ∷ later) ys
      → (map answer_left ys ≡ export_answers w (first ∷ later)) × (left_after w (first ∷ later) ys ≡ exports_after w (first ∷ later))
  -- and 4 is never returned
  pub never_unsound : (y : ExportAnswer) → Memᴰ y (export_answers w (first ∷ later)) → y.number ≡ 4 → ⊥
  -- the storage is as long as before
  pub cells : length (exports_after w (first ∷ later)).cells ≡ length w.cells
  pub store : length (exports_after w (first ∷ later)).store ≡ length w.store
  pub found : ExportsFound (exports_after w (first ∷ later)) (log_after (start_log (settings_of axes threshold budget)) (map lent_call later))
  -- the second demand, of the same log: mean, steps and admissions are the published algorithm's
  pub means : MeanFollows (log_after (start_log (settings_of axes threshold budget)) (map lent_call later))
  pub steps : StepsFollow (log_after (start_log (settings_of axes threshold budget)) (map lent_call later)) (promotions_after (start_log (settings_of axes threshold budget)) [] (map lent_call later))
  pub by_rule : AllChosen (start_log (settings_of axes threshold budget)) (map lent_call later)
      → RuleFollows (log_after (start_log (settings_of axes threshold budget)) (map lent_call later)) (promotions_after (start_log (settings_of axes threshold budget)) [] (map lent_call later))
  pub admissions : Admissions (log_after (start_log (settings_of axes threshold budget)) (map lent_call later))

-- The third demand over the exported calls: for all words, cells and readings, and every list of calls with arguments within their types that
-- begins with a start that returned 0.
abbrev pub ThirdDemandOnExports : Type 0
ThirdDemandOnExports = (w : ExportStorage) (first : LentExport) (later : List LentExport) (axes threshold budget : ℕ) → AllLentExports w (first ∷ later) → AllTyped (first ∷ later)
    → first.call ≡ start axes threshold budget → (exported w first).number ≡ 0 → ExportsDemand w first later axes threshold budget
