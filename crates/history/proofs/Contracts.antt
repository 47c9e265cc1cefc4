-- What the exported functions return and leave, by their contracts, is what the lists of exported calls say.
-- The idea: records and rest determine the cells, so each contract's equation gives everything that is left; a call that only reads leaves
-- the area.
-- Assumes nothing.
use mathlib.Core.Path.{◌≡◌, refl, ap, ap₂, sym, ◌∙◌}
use mathlib.Core.Bool.{cond}
use mathlib.Core.List.{List, [], ◌∷◌, ◌++◌, map}
use Prim.Native.Nat.{ℕ, ◌*◌, ◌/◌, ◌<◌}
use native.Mathlib.Omega.{arith}
use lib.IntN.{ℤ}
use lib.ListN.{length, take, drop, length-drop}
use Rattle.area.specs.Records.{cells_of, run_of}
use Rattle.area.specs.Settings.{settings_of}
use Rattle.area.specs.Encoding.{Area, area_of, machine_of}
use Rattle.area.proofs.Facts.{run_facts}
use Rattle.soundness.specs.Clauses.{checked}
use Rattle.encoding.proofs.Cells.{cells_well_formed, held_well_formed}
use Rattle.calls.specs.Table as table
use Rattle.calls.specs.Table.{Call, row, effect_of}
use Rattle.calls.specs.Calls.{CallResult, call_on}
use Rattle.calls.proofs.Facts.{call_facts, looks_only}
use Rattle.wihupya.specs.Words.{job_of, words_of}
use Rattle.wihupya.specs.Exports as exports
use Rattle.wihupya.specs.Exports.{Exported}
use Rattle.wihupya.proofs.Facts.{word-facts}
use Rattle.wihupya.proofs.Refusals.{refused_number}
use Rattle.history.specs.Storage.{area_lent, returned, call_in, storage_step}
use Rattle.history.specs.OnExports.{ExportStorage, ExportCall, start, point, points, deliver, choose, promote, result, doubles, cross_total, check, call_of, LentExport, ExportAnswer, verdict_number, export_answer, exported, words_after, export_step, exports_after, export_answers, ExportLeft, OnlyReads, Contract, MeetsContract, answer_left, put_back, AllMeet, left_after, ContractFacts}
use Rattle.history.proofs.WellFormed.{Leaves, call_leaves}

-- ---- one call

-- what a call leaves, as an answer and an area
record Agrees (j cs : List ℕ) (st : List ℤ) (c : ExportCall) (y : ExportLeft) : Type 0 where
  answer : answer_left y ≡ export_answer c (call_on (area_of (job_of j) cs st) (call_of c)).answer
  job : y.job ≡ words_after c j (call_on (area_of (job_of j) cs st) (call_of c)).area.job
  cells : y.cells ≡ cells_of (call_on (area_of (job_of j) cs st) (call_of c)).area.run
  store : y.store ≡ (call_on (area_of (job_of j) cs st) (call_of c)).area.store

module _ (job cells : List ℕ) (store : List ℤ) (y : ExportLeft) where
  abbrev a : Area
  a = area_of (job_of job) cells store

  -- a call that writes
  module _ (d : CallResult) (s : List ℤ) (is : record { number = y.number; job = y.job; run = run_of y.cells; store = s } ≡ exports.exported d) where
    number_is : y.number ≡ exports.number_of d.answer.reply
    unfolding exports.exported
    number_is = ap (λ (e : Exported). e.number) is

    words_are : y.job ≡ words_of d.area.job
    unfolding exports.exported
    words_are = ap (λ (e : Exported). e.job) is

    cells_are : y.cells ≡ cells_of d.area.run
    unfolding exports.exported
    cells_are = sym (run_facts.back y.cells) ∙ ap (λ (e : Exported). cells_of e.run) is

    store_is : s ≡ d.area.store
    unfolding exports.exported
    store_is = ap (λ (e : Exported). e.store) is

  -- a call that only reads
  module _ (c : Call) (reads : effect_of (machine_of a) (row c) ≡ table.unchanged) (kept : OnlyReads job cells store y) where
    read-cells : y.cells ≡ cells_of (call_on a c).area.run
    read-cells = kept.1 ∙ sym (run_facts.back cells) ∙ ap (λ (b : Area). cells_of b.run) (sym (looks_only a c reads))

    read-store : y.store ≡ (call_on a c).area.store
    read-store = kept.2 ∙ ap (λ (b : Area). b.store) (sym (looks_only a c reads))

  verdict_is : y.number ≡ cond (checked a) 1 0 → y.number ≡ verdict_number (call_on a table.check).answer.reply
  unfolding verdict_number
  verdict_is e = e ∙ sym (ap (λ (d : CallResult). verdict_number d.answer.reply) (call_facts.check_answer a))

  agrees : (c : ExportCall) → Contract job cells store c y → Agrees job cells store c y
  unfolding export_answer words_after call_of effect_of row
  agrees (start axes threshold budget) m =
      let d = call_on a (table.start (settings_of axes threshold budget)) in
      record {
        answer = λ i. record { number = number_is d store m.0 i; words = m.3 i; buffer = m.4 i };
        job = words_are d store m.0;
        cells = cells_are d store m.0;
        store = m.2 ∙ store_is d store m.0;
      }
  agrees (point n buffer) m =
      record {
        answer = λ i. record { number = m.0 i; words = m.3 i; buffer = m.1 i };
        job = m.2.0;
        cells = read-cells (table.point n buffer) refl m.2;
        store = read-store (table.point n buffer) refl m.2;
      }
  agrees (points n given buffer) m =
      record {
        answer = λ i. record { number = m.0 i; words = m.1 i; buffer = m.2 i };
        job = m.3.0;
        cells = read-cells (table.points n buffer) refl m.3;
        store = read-store (table.points n buffer) refl m.3;
      }
  agrees (deliver rs n) m =
      let d = call_on a (table.deliver rs n) in
      record {
        answer = λ i. record { number = number_is d y.store m.0 i; words = m.2 i; buffer = m.3 i };
        job = words_are d y.store m.0;
        cells = cells_are d y.store m.0;
        store = store_is d y.store m.0;
      }
  agrees (choose given) m =
      record {
        answer = λ i. record { number = m.0 i; words = m.1 i; buffer = m.3 i };
        job = m.2.0;
        cells = read-cells table.choose refl m.2;
        store = read-store table.choose refl m.2;
      }
  agrees (promote p outcome) m =
      let d = call_on a (table.promote p) in
      record {
        answer = λ i. record { number = number_is d store m.0 i; words = m.1 i; buffer = m.4 i };
        job = words_are d store m.0;
        cells = cells_are d store m.0;
        store = m.3 ∙ store_is d store m.0;
      }
  agrees (result given) m =
      record {
        answer = λ i. record { number = m.0 i; words = m.1 i; buffer = m.3 i };
        job = m.2.0;
        cells = read-cells table.result refl m.2;
        store = read-store table.result refl m.2;
      }
  agrees (doubles given) m =
      record {
        answer = λ i. record { number = m.0 i; words = m.1 i; buffer = m.3 i };
        job = m.2.0;
        cells = read-cells table.doubles refl m.2;
        store = read-store table.doubles refl m.2;
      }
  agrees (cross_total given) m =
      record {
        answer = λ i. record { number = m.0 i; words = m.1 i; buffer = m.3 i };
        job = m.2.0;
        cells = read-cells table.cross_total refl m.2;
        store = read-store table.cross_total refl m.2;
      }
  agrees check m =
      record {
        answer = λ i. record { number = verdict_is m.0 i; words = m.2 i; buffer = m.3 i };
        job = m.1.0;
        cells = read-cells table.check refl m.1;
        store = read-store table.check refl m.1;
      }

module _ (w : ExportStorage) (x : LentExport) (y : ExportLeft) (m : MeetsContract w x y) where
  agreed : Agrees w.words (take x.part.cells w.cells) (take x.part.readings w.store) x.call y
  agreed = agrees w.words (take x.part.cells w.cells) (take x.part.readings w.store) y x.call m

  pub answer_met : answer_left y ≡ exported w x
  unfolding exported call_in area_lent
  answer_met = agreed.answer

  pub step_met : put_back w x.part y ≡ export_step w x
  unfolding export_step storage_step returned call_in area_lent
  step_met i =
      record {
        words = agreed.job i;
        cells = agreed.cells i ++ drop x.part.cells w.cells;
        store = agreed.store i ++ drop x.part.readings w.store;
      }

-- ---- a list of calls

pub answers_met : (w : ExportStorage) (xs : List LentExport) (ys : List ExportLeft) → AllMeet w xs ys → map answer_left ys ≡ export_answers w xs
unfolding export_answers
answers_met w [] [] m = refl
answers_met w [] (y ∷ ys) m = absurd m
answers_met w (x ∷ xs) [] m = absurd m
answers_met w (x ∷ xs) (y ∷ ys) m =
    ap₂ (λ (z : ExportAnswer) (zs : List ExportAnswer). z ∷ zs) (answer_met w x y m.0)
    (answers_met (put_back w x.part y) xs ys m.1 ∙ ap (λ (v : ExportStorage). export_answers v xs) (step_met w x y m.0))

pub storage_met : (w : ExportStorage) (xs : List LentExport) (ys : List ExportLeft) → AllMeet w xs ys → left_after w xs ys ≡ exports_after w xs
unfolding left_after exports_after
storage_met w [] [] m = refl
storage_met w [] (y ∷ ys) m = absurd m
storage_met w (x ∷ xs) [] m = absurd m
storage_met w (x ∷ xs) (y ∷ ys) m = storage_met (put_back w x.part y) xs ys m.1 ∙ ap (λ (v : ExportStorage). exports_after v xs) (step_met w x y m.0)

-- ---- the contracts can be met

module _ (job cells : List ℕ) (store : List ℤ) (round : words_of (job_of job) ≡ job) where
  abbrev lent : Area
  lent = area_of (job_of job) cells store

  -- what a call that writes leaves
  module _ (c : Call) where
    abbrev d : CallResult
    d = call_on lent c

    left : Leaves lent d.area
    left = call_leaves lent (cells_well_formed cells) c

    rest_short : length d.area.run.rest < 27
    rest_short = omega (arith, ap (λ (r : List ℕ). length r) left.rest, length-drop (length cells / 27 * 27) cells)

    run_back : run_of (cells_of d.area.run) ≡ d.area.run
    run_back = run_facts.forth d.area.run left.well_formed rest_short

    refused_job : (exports.number_of d.answer.reply ≡ 0 → ⊥) → words_of d.area.job ≡ job
    refused_job f =
        ap (λ (b : Area). words_of b.job) (call_facts.refused_keeps lent c (exports.number_of d.answer.reply) (refused_number d.answer.reply f)).0 ∙ round

    written : List ℕ → List ℤ → ExportLeft
    written ws s = record { number = exports.number_of d.answer.reply; job = words_of d.area.job; cells = cells_of d.area.run; store = s; words = ws; buffer = [] }

    written_is : (s : List ℤ) → d.area.store ≡ s
        → record { number = exports.number_of d.answer.reply; job = words_of d.area.job; run = run_of (cells_of d.area.run); store = s } ≡ exports.exported d
    unfolding exports.exported
    written_is s e i = record { number = exports.number_of d.answer.reply; job = words_of d.area.job; run = run_back i; store = sym e i }

  kept : (number : ℕ) (ws buffer : List ℕ) → ExportLeft
  kept number ws buffer = record { number = number; job = job; cells = cells; store = store; words = ws; buffer = buffer }

  met : (c : ExportCall) → (y : ExportLeft) × Contract job cells store c y
  unfolding written kept
  met (start axes threshold budget) =
      let c = table.start (settings_of axes threshold budget) in
      (written c [] store, (written_is c store (call_facts.start_store lent (settings_of axes threshold budget)), refused_job c, refl, refl, refl))
  met (point n buffer) =
      let d = call_on lent (table.point n buffer) in
      (kept (exports.number_of d.answer.reply) [] d.answer.buffer, (refl, refl, (refl, refl, refl), refl))
  met (points n given buffer) =
      let d = call_on lent (table.points n buffer) in
      (kept (exports.number_of d.answer.reply) (exports.answer_words d.answer.reply given) d.answer.buffer, (refl, refl, refl, (refl, refl, refl)))
  met (deliver rs n) =
      let c = table.deliver rs n in
      (written c [] (call_on lent c).area.store, (written_is c (call_on lent c).area.store refl, refused_job c, refl, refl))
  met (choose given) =
      let d = call_on lent table.choose in
      (kept (exports.number_of d.answer.reply) (exports.answer_words d.answer.reply given) [], (refl, refl, (refl, refl, refl), refl))
  met (promote p outcome) =
      let c = table.promote p in (
        written c (exports.answer_words (call_on lent c).answer.reply outcome) store,
        (written_is c store (call_facts.promote_store lent p (held_well_formed (job_of job) cells store)), refl, refused_job c, refl, refl),
      )
  met (result given) =
      let d = call_on lent table.result in
      (kept (exports.number_of d.answer.reply) (exports.answer_words d.answer.reply given) [], (refl, refl, (refl, refl, refl), refl))
  met (doubles given) =
      let d = call_on lent table.doubles in
      (kept (exports.number_of d.answer.reply) (exports.answer_words d.answer.reply given) [], (refl, refl, (refl, refl, refl), refl))
  met (cross_total given) =
      let d = call_on lent table.cross_total in
      (kept (exports.number_of d.answer.reply) (exports.answer_words d.answer.reply given) [], (refl, refl, (refl, refl, refl), refl))
  met check = (kept (cond (checked lent) 1 0) [] [], (refl, (refl, refl, refl), refl, refl))

pub contract_facts : ContractFacts
contract_facts =
    record {
      call = λ w x y m. (answer_met w x y m, step_met w x y m);
      calls = λ w xs ys m. (answers_met w xs ys m, storage_met w xs ys m);
      some = λ w x ten small.
          met w.words (take x.part.cells w.cells) (take x.part.readings w.store) (word-facts.words_round_trip w.words ten small) x.call;
    }
