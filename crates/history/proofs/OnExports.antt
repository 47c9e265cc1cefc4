-- The third demand over the exported calls.
-- The idea: the words that a call leaves read back as the job record that it left, so the exported calls go hand in hand with the calls; the
-- demand on cells is cited, not proved again.
-- Assumes nothing.
use mathlib.Core.Path.{◌≡◌, refl, ap, ap₂, sym, ◌∙◌, subst}
use mathlib.Core.Logic.{◌⊎◌, inl, inr}
use mathlib.Core.Bool.{true, false}
use mathlib.Core.List.Memᴰ
use mathlib.Core.List.{List, [], ◌∷◌, map, Memᴰ}
use Prim.Native.Nat.{ℕ, ◌+◌, ◌*◌, ◌^◌, ◌<◌, ◌≤◌}
use native.Mathlib.Omega.{arith}
use lib.IntN.{nat_abs}
use lib.ListN.{length}
use mir.Syntax.{w64}
use mir.Val.{to_z, of_z}
use Rattle.sums.proofs.Words.{back_small}
use Rattle.area.specs.declared.JobRecord.{JobRecord}
use Rattle.area.specs.declared.Settings.{Settings}
use Rattle.area.specs.Settings.{settings_of, least_store}
use Rattle.area.specs.Log.{Log, Machine}
use Rattle.area.specs.Encoding.{Area, job_with, machine_of}
use Rattle.encoding.proofs.Ranges.{delivered_few}
use Rattle.machine.specs.Steps as steps
use Rattle.machine.specs.Causes.{first_cause, start_causes}
use Rattle.machine.specs.Counts.{counts_of}
use Rattle.machine.specs.Means.{cross_of}
use Rattle.counting.specs.Doubles.{doubles_of}
use Rattle.calls.specs.Replies.{Reply, refused, accepted, wrote, chosen, promotion, counts, doubled, total, verdict}
use Rattle.calls.specs.Table as table
use Rattle.calls.specs.Table.{Call, Answer, answer, row, effect_of, accepted_answer}
use Rattle.calls.specs.Calls.{CallResult, refusal_on, call_on}
use Rattle.calls.proofs.Facts.{looks_only}
use Rattle.calls.proofs.CauseCases.{call_ways, refused_reply}
use Rattle.wihupya.specs.Words.{job_of, low_word, high_word, words_of}
use Rattle.wihupya.specs.Exports.{number_of, count_words, report_bits, total_words, answer_words}
use Rattle.wihupya.proofs.Facts.{both}
use Rattle.wihupya.proofs.Refusals.{refused_number}
use Rattle.history.specs.LentCalls.{Part, lengths_lent}
use Rattle.history.specs.Logged.{state_of, log_step, log_after, answer_by}
use Rattle.history.specs.Storage.{Storage, area_lent, Lent, AllLent, returned, call_in, storage_step}
use Rattle.history.specs.Found.{Found}
use Rattle.history.specs.OnExports.{ExportStorage, read_storage, ExportCall, start, point, points, deliver, choose, promote, result, doubles, cross_total, check, call_of, Typed, LentExport, lent_call, AllTyped, AllLentExports, ExportAnswer, verdict_number, export_answer, exported, words_after, export_step, exports_after, export_answers, export_answers_by, whole_part, signed_at, reported, ExportsFound, ExportsDemand, ThirdDemandOnExports}
use Rattle.history.proofs.Holding.{Holds, Kept}
use Rattle.history.proofs.Moves.{machine_step, step_log, MachineInvariant, combined, from_log}
use Rattle.history.proofs.Steps.{call-answer, call_keeps}
use Rattle.history.proofs.Lists.{machine_after, after_log}
use Rattle.history.proofs.NeverUnsound.{one}
use Rattle.history.proofs.Steps.{lengths, first_holds}
use Rattle.history.proofs.Demand.{accepted_start, found}
use Rattle.history.proofs.Published.{means_follow}
use Rattle.history.proofs.Moments.{steps_follow, rule_follows}
use Rattle.history.proofs.Spent.{spent_exactly}
use Rattle.history.proofs.Contracts.{answers_met, storage_met}
use Rattle.history.proofs.SmallIndicators.{small_at}
use Rattle.history.proofs.WordRanges.{InRange, reads_back, started_range, step_range}

-- ---- the words after one call

-- the words after the call are those of the job record after it
module _ (w : ExportStorage) (x : LentExport) where
  abbrev v : Storage
  v = storage_step (read_storage w) (lent_call x)

  abbrev a : Area
  a = area_lent (read_storage w) x.part

  same_job : (c : Call) → call_of x.call ≡ c → effect_of (machine_of a) (row c) ≡ table.unchanged → job_of w.words ≡ v.job
  unfolding area_lent storage_step call_in returned
  same_job c is e = sym (ap (λ (b : Area). b.job) (looks_only a c e)) ∙ ap (λ (d : Call). (call_on a d).area.job) (sym is)

  words_written : w.words ≡ words_of (job_of w.words) → words_after x.call w.words v.job ≡ words_of v.job
  unfolding words_after call_of effect_of row
  words_written own = by x.call refl
    where
      by : (c : ExportCall) → x.call ≡ c → words_after c w.words v.job ≡ words_of v.job
      by (start axes threshold budget) is = refl
      by (point n buffer) is = own ∙ ap words_of (same_job (table.point n buffer) (ap call_of is) refl)
      by (points n given buffer) is = own ∙ ap words_of (same_job (table.points n buffer) (ap call_of is) refl)
      by (deliver rs i) is = refl
      by (choose given) is = own ∙ ap words_of (same_job table.choose (ap call_of is) refl)
      by (promote p outcome) is = refl
      by (result given) is = own ∙ ap words_of (same_job table.result (ap call_of is) refl)
      by (doubles given) is = own ∙ ap words_of (same_job table.doubles (ap call_of is) refl)
      by (cross_total given) is = own ∙ ap words_of (same_job table.cross_total (ap call_of is) refl)
      by check is = own ∙ ap words_of (same_job table.check (ap call_of is) refl)

-- ---- words that hold a state

pub record Hand (w : ExportStorage) (m : Machine) : Type 0 where
  pub holds : Holds (read_storage w) m
  pub range : InRange m.log
  pub words : w.words ≡ words_of (job_with m)

-- what a call leaves, with its words known to be those of the job record
module _ (w : ExportStorage) (x : LentExport) (n : Machine) (k : Kept (read_storage w) (storage_step (read_storage w) (lent_call x)) n) (r : InRange n.log)
    (written : words_after x.call w.words (storage_step (read_storage w) (lent_call x)).job ≡ words_of (storage_step (read_storage w) (lent_call x)).job) where
  after_words : (export_step w x).words ≡ words_of (job_with n)
  unfolding export_step
  after_words = written ∙ ap words_of k.holds.job

  after_job : job_of (export_step w x).words ≡ (storage_step (read_storage w) (lent_call x)).job
  after_job = ap job_of after_words ∙ reads_back n k.holds.sound r ∙ sym k.holds.job

  pub read_same : read_storage (export_step w x) ≡ storage_step (read_storage w) (lent_call x)
  unfolding export_step
  read_same = ap {B = Storage} (λ (j : JobRecord). record { job = j; cells = (export_step w x).cells; store = (export_step w x).store }) after_job

  pub hand_after : Hand (export_step w x) n
  hand_after = record { holds = subst (λ (u : Storage). Holds u n) (sym read_same) k.holds; range = r; words = after_words }

module _ (w : ExportStorage) (m : Machine) (h : Hand w m) (x : LentExport) (lent : Lent (read_storage w) x.part) (typed : Typed x.call) where
  kept : Kept (read_storage w) (storage_step (read_storage w) (lent_call x)) (machine_step m (lent_call x))
  kept = call_keeps (read_storage w) (lent_call x) lent m h.holds

  ranged : InRange (machine_step m (lent_call x)).log
  ranged = subst InRange (sym (step_log m (lent_call x))) (step_range m.log h.range x typed)

  written : words_after x.call w.words (storage_step (read_storage w) (lent_call x)).job ≡ words_of (storage_step (read_storage w) (lent_call x)).job
  written = words_written w x (h.words ∙ ap words_of (sym h.holds.job))

  pub hand_step : Hand (export_step w x) (machine_step m (lent_call x))
  hand_step = hand_after w x (machine_step m (lent_call x)) kept ranged written

  pub step_cells : length (export_step w x).cells ≡ length w.cells
  unfolding export_step
  step_cells = kept.cells

  pub step_store : length (export_step w x).store ≡ length w.store
  unfolding export_step
  step_store = kept.store

  pub step_answer : exported w x ≡ export_answer x.call (answer_by (lengths_lent x.part) m.log (call_of x.call))
  unfolding exported
  step_answer = ap (export_answer x.call) (call-answer (read_storage w) (lent_call x) lent m h.holds)

-- ---- a list of calls

lent-later : (w u : ExportStorage) → length u.cells ≡ length w.cells → length u.store ≡ length w.store → (xs : List LentExport) → AllLentExports w xs → AllLentExports u xs
lent-later w u e f [] l = tt
lent-later w u e f (x ∷ xs) l = (record { cells = omega (arith, l.0.cells, e); readings = omega (arith, l.0.readings, f) }, lent-later w u e f xs l.1)

all_lent : (w : ExportStorage) (xs : List LentExport) → AllLentExports w xs → AllLent (read_storage w) (map lent_call xs)
all_lent w [] l = tt
all_lent w (x ∷ xs) l = (l.0, all_lent w xs l.1)

record Along (w : ExportStorage) (m : Machine) (xs : List LentExport) : Type 0 where
  answers : export_answers w xs ≡ export_answers_by m.log xs
  hand : Hand (exports_after w xs) (machine_after m (map lent_call xs))
  cells : length (exports_after w xs).cells ≡ length w.cells
  store : length (exports_after w xs).store ≡ length w.store

along : (w : ExportStorage) (m : Machine) → Hand w m → (xs : List LentExport) → AllLentExports w xs → AllTyped xs → Along w m xs
unfolding export_answers export_answers_by exports_after machine_after
along w m h [] l t = record { answers = refl; hand = h; cells = refl; store = refl }
along w m h (x ∷ xs) l t =
    let u = export_step w x in
    let n = machine_step m (lent_call x) in
    let rest : Along u n xs
    = along u n (hand_step w m h x l.0 t.0) xs (lent-later w u (step_cells w m h x l.0 t.0) (step_store w m h x l.0 t.0) xs l.1) t.1 in
    record {
      answers = ap₂ (λ (y : ExportAnswer) ys. y ∷ ys) (step_answer w m h x l.0 t.0) (rest.answers ∙ ap (λ (o : Log). export_answers_by o xs) (step_log m (lent_call x)));
      hand = rest.hand;
      cells = rest.cells ∙ step_cells w m h x l.0 t.0;
      store = rest.store ∙ step_store w m h x l.0 t.0;
    }

-- ---- what is found

module _ (w : ExportStorage) (m : Machine) (h : Hand w m) where
  abbrev l : Log
  l = m.log

  invariant : MachineInvariant m
  invariant = record { sound = h.holds.sound; mean = h.holds.mean }

  there : Found (read_storage w) l
  there = found (read_storage w) m h.holds

  mean_back : to_z w64 (of_z w64 (cross_of l.entries)) ≡ cross_of l.entries
  mean_back =
      back_small (cross_of l.entries)
      (subst (λ z. nat_abs z ≤ 2 ^ 62) (combined m invariant) (omega (arith, h.holds.sound.mean, delivered_few l.entries, h.holds.sound.count.1)))

  two_words : to_z w64 (low_word (of_z w64 (cross_of l.entries)) + high_word (of_z w64 (cross_of l.entries)) * 2 ^ 32) ≡ cross_of l.entries
  two_words = ap (to_z w64) (both (of_z w64 (cross_of l.entries))) ∙ mean_back

  module _ (x : Part) (given : List ℕ) (lent : Lent (read_storage w) x) (long : 512 * 27 ≤ x.cells) (room : least_store l.settings ≤ x.readings) where
    result_words : (exported w (record { call = result given; part = x })).words ≡ answer_words (counts (counts_of (state_of l))) given
    unfolding exported export_answer call_of call_in
    result_words = ap (λ (y : Answer). answer_words y.reply given) (there.result x lent long room)

    result_signed : signed_at (answer_words (counts (counts_of (state_of l))) given) 2 ≡ cross_of l.entries
    unfolding answer_words count_words counts_of state_of
    result_signed = two_words

    cross_words : (exported w (record { call = cross_total given; part = x })).words ≡ answer_words (total (cross_of l.entries)) given
    unfolding exported export_answer call_of call_in
    cross_words = ap (λ (y : Answer). answer_words y.reply given) (there.cross x lent long room)

    cross_signed : signed_at (answer_words (total (cross_of l.entries)) given) 0 ≡ cross_of l.entries
    unfolding answer_words total_words
    cross_signed = two_words

    result_mean : signed_at (exported w (record { call = result given; part = x })).words 2 ≡ cross_of l.entries
    result_mean = ap (λ (u : List ℕ). signed_at u 2) result_words ∙ result_signed

    cross_mean : signed_at (exported w (record { call = cross_total given; part = x })).words 0 ≡ cross_of l.entries
    cross_mean = ap (λ (u : List ℕ). signed_at u 0) cross_words ∙ cross_signed

  doubles_report : (x : Part) (given : List ℕ) → Lent (read_storage w) x → 512 * 27 ≤ x.cells → least_store l.settings ≤ x.readings
      → exported w (record { call = doubles given; part = x }) ≡ reported (doubles_of (state_of l))
  unfolding exported export_answer call_of call_in number_of answer_words report_bits
  doubles_report x given lent long room = ap (export_answer (doubles given)) (there.doubles x lent long room)

  lent_wholly : Lent (read_storage w) (whole_part w)
  lent_wholly = record { cells = omega arith; readings = omega arith }

  found_there : ExportsFound w l
  found_there =
      record {
        words = h.words ∙ ap (λ (n : Machine). words_of (job_with n)) (from_log m invariant);
        found = there;
        result_mean = result_mean;
        cross_mean = cross_mean;
        whole_result_mean = λ given. result_mean (whole_part w) given lent_wholly there.enough.0 there.enough.1;
        whole_cross_mean = λ given. cross_mean (whole_part w) given lent_wholly there.enough.0 there.enough.1;
        doubles_report = doubles_report;
        whole_doubles_report = λ given. doubles_report (whole_part w) given lent_wholly there.enough.0 there.enough.1;
        exact_mean = there.report.mean;
        exact_pending = there.report.pending (λ p inside. small_at l.entries h.range.indicators p);
        exact_largest = there.report.largest;
      }

-- ---- 4 is never returned

four_reply : (r : Reply) → number_of r ≡ 4 → r ≡ refused 4
four_reply r e = refused_number r (λ z. omega (arith, e, z)) ∙ ap refused e

not_verdict : (r : Reply) → verdict_number r ≡ 4 → ⊥
unfolding verdict_number
not_verdict (refused n) e = omega (arith, e)
not_verdict accepted e = omega (arith, e)
not_verdict (wrote n size) e = omega (arith, e)
not_verdict (chosen c) e = omega (arith, e)
not_verdict (promotion o) e = omega (arith, e)
not_verdict (counts c) e = omega (arith, e)
not_verdict (doubled r) e = omega (arith, e)
not_verdict (total z) e = omega (arith, e)
not_verdict (verdict true) e = omega (arith, e)
not_verdict (verdict false) e = omega (arith, e)

not-four : (c : ExportCall) (y : Answer) → (y.reply ≡ refused 4 → ⊥) → (export_answer c y).number ≡ 4 → ⊥
unfolding export_answer
not-four (start axes threshold budget) y f e = f (four_reply y.reply e)
not-four (point n buffer) y f e = f (four_reply y.reply e)
not-four (points n given buffer) y f e = f (four_reply y.reply e)
not-four (deliver rs i) y f e = f (four_reply y.reply e)
not-four (choose given) y f e = f (four_reply y.reply e)
not-four (promote p outcome) y f e = f (four_reply y.reply e)
not-four (result given) y f e = f (four_reply y.reply e)
not-four (doubles given) y f e = f (four_reply y.reply e)
not-four (cross_total given) y f e = f (four_reply y.reply e)
not-four check y f e = not_verdict y.reply e

never : (l : Log) (xs : List LentExport) (y : ExportAnswer) → Memᴰ y (export_answers_by l xs) → y.number ≡ 4 → ⊥
unfolding export_answers_by
never l [] y n e = Memᴰ.not-nil n
never l (x ∷ xs) y n e = step (Memᴰ.cases_cons n) (never (log_step l (lent_call x)) xs y)
  where
    step : (y ≡ export_answer x.call (answer_by (lengths_lent x.part) l (call_of x.call))) ⊎ Memᴰ y (export_answers_by (log_step l (lent_call x)) xs)
        → (Memᴰ y (export_answers_by (log_step l (lent_call x)) xs) → y.number ≡ 4 → ⊥) → ⊥
    step (inl f) later =
        not-four x.call (answer_by (lengths_lent x.part) l (call_of x.call)) (one (lengths_lent x.part) l (call_of x.call)) (ap (λ (z : ExportAnswer). z.number) (sym f) ∙ e)
    step (inr k) later = later k e

-- ---- an accepted start

zero_accepted : (a : Area) (g : Settings) → number_of (call_on a (table.start g)).answer.reply ≡ 0 → (call_on a (table.start g)).answer ≡ answer accepted
unfolding accepted_answer row
zero_accepted a g =
    call_ways a (table.start g) (λ (x : CallResult). number_of x.answer.reply ≡ 0 → x.answer ≡ answer accepted) (λ none e. refl)
    (λ some e. absurd (some (number_of_lem (ap number_of (sym (refused_reply (refusal_on a (table.start g)) (row (table.start g)))) ∙ e))))
  where
    number_of_lem : {n : ℕ} → number_of (refused n) ≡ 0 → n ≡ 0
    number_of_lem e = unfold number_of in e

module _ (w : ExportStorage) (first : LentExport) (later : List LentExport) (axes threshold budget : ℕ) (lent : AllLentExports w (first ∷ later)) (typed : AllTyped (first ∷ later))
    (is : first.call ≡ start axes threshold budget) (returned-zero : (exported w first).number ≡ 0) where
  abbrev g : Settings
  g = settings_of axes threshold budget

  abbrev m : Machine
  m = steps.started g

  abbrev b : Area
  b = area_lent (read_storage w) first.part

  first-call : call_of first.call ≡ table.start g
  unfolding call_of
  first-call = ap call_of is

  taken : (call_on b (table.start g)).answer ≡ answer accepted
  taken = zero_accepted b g (numbered ∙ returned-zero)
    where
      numbered : number_of (call_on b (table.start g)).answer.reply ≡ (exported w first).number
      numbered = unfold exported call_in export_answer call_of in subst (λ (c : ExportCall). number_of (call_on b (table.start g)).answer.reply ≡ (export_answer c (call_on b (call_of c)).answer).number) (sym is) refl

  clear : first_cause (start_causes (lengths_lent first.part) g) ≡ 0
  clear = ap (λ z. first_cause (start_causes z g)) (sym (lengths (read_storage w) first.part lent.0)) ∙ accepted_start b g taken

  begins : Kept (read_storage w) (storage_step (read_storage w) (lent_call first)) m
  unfolding storage_step call_in
  begins = subst (λ (c : Call). Kept (read_storage w) (returned (read_storage w) first.part (call_on b c).area) m) (sym first-call) (first_holds (read_storage w) first.part lent.0 g clear)

  threshold_small : threshold < 2 ^ 64
  threshold_small = subst Typed is typed.0

  in_range_lem : InRange m.log
  unfolding steps.started
  in_range_lem = started_range axes threshold budget threshold_small

  written-first : words_after first.call w.words (storage_step (read_storage w) (lent_call first)).job ≡ words_of (storage_step (read_storage w) (lent_call first)).job
  unfolding words_after
  written-first = ap (λ (c : ExportCall). words_after c w.words (storage_step (read_storage w) (lent_call first)).job) is

  abbrev u : ExportStorage
  u = export_step w first

  hand_first : Hand u m
  hand_first = hand_after w first m begins in_range_lem written-first

  cells-first : length u.cells ≡ length w.cells
  unfolding export_step
  cells-first = begins.cells

  store-first : length u.store ≡ length w.store
  unfolding export_step
  store-first = begins.store

  rest : Along u m later
  rest = along u m hand_first later (lent-later w u cells-first store-first later lent.1) typed.1

  first-answer : exported w first ≡ export_answer first.call (answer accepted)
  unfolding exported call_in
  first-answer = ap (λ (c : Call). export_answer first.call (call_on b c).answer) first-call ∙ ap (export_answer first.call) taken

  answers : export_answers w (first ∷ later) ≡ export_answer first.call (answer accepted) ∷ export_answers_by (steps.start_log g) later
  unfolding export_answers steps.started
  answers = ap₂ (λ (y : ExportAnswer) ys. y ∷ ys) first-answer rest.answers

  after : ExportsFound (exports_after w (first ∷ later)) (log_after (steps.start_log g) (map lent_call later))
  unfolding exports_after steps.started
  after = subst (ExportsFound (exports_after u later)) (after_log m (map lent_call later)) (found_there (exports_after u later) (machine_after m (map lent_call later)) rest.hand)

  never_four : (y : ExportAnswer) → Memᴰ y (export_answers w (first ∷ later)) → y.number ≡ 4 → ⊥
  never_four y n e = step (Memᴰ.cases_cons (subst (Memᴰ y) answers n))
    where
      step : (y ≡ export_answer first.call (answer accepted)) ⊎ Memᴰ y (export_answers_by (steps.start_log g) later) → ⊥
      step (inl f) = not-four first.call (answer accepted) (λ q. let z : ◌≡◌ {A = ℕ} 0 1 = cc in omega arith) (ap (λ (z : ExportAnswer). z.number) (sym f) ∙ e)
      step (inr k) = never (steps.start_log g) later y k e

  -- the same calls on the job record, for the second demand
  all : AllLent (read_storage w) (lent_call first ∷ map lent_call later)
  all = all_lent w (first ∷ later) lent

  demanded : ExportsDemand w first later axes threshold budget
  unfolding exports_after
  demanded =
      record {
        answers = answers;
        contracts = λ ys made. (answers_met w (first ∷ later) ys made, storage_met w (first ∷ later) ys made);
        never_unsound = never_four;
        cells = rest.cells ∙ cells-first;
        store = rest.store ∙ store-first;
        found = after;
        means = means_follow (read_storage w) (lent_call first) (map lent_call later) g all first-call taken;
        steps = steps_follow (read_storage w) (lent_call first) (map lent_call later) g all first-call taken;
        by_rule = rule_follows (read_storage w) (lent_call first) (map lent_call later) g all first-call taken;
        admissions = spent_exactly (read_storage w) (lent_call first) (map lent_call later) g all first-call taken;
      }

pub third_demand_on_exports : ThirdDemandOnExports
third_demand_on_exports w first later axes threshold budget lent typed is returned-zero = demanded w first later axes threshold budget lent typed is returned-zero
