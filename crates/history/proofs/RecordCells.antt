-- Calls on records and calls on their cells agree step by step.
-- The idea: the cells of the storage's records are storage of cells; one call on either leaves the cells of the same records.
-- Assumes nothing.
use mathlib.Core.Path.{◌≡◌, refl, ap, ap₂, sym, ◌∙◌}
use mathlib.Core.List.{List, [], ◌∷◌, ◌++◌, map, append_assoc, append-nil}
use Prim.Native.Nat.{ℕ, ◌*◌, ◌≤◌}
use native.Mathlib.Omega.{arith}
use lib.ListN.{length, take, drop, take-append-drop, length-append, length-drop}
use lib.Seq.{length-take-le, take_at, drop_at}
use Rattle.area.specs.declared.IndexRecord.{IndexRecord}
use Rattle.area.specs.Records.{Run, record_cells, cells_for, cells_of, run_of}
use Rattle.area.specs.Encoding.{Area}
use Rattle.area.proofs.Cells.{cells-length, forth}
use Rattle.encoding.specs.Encodes.{WellFormed}
use Rattle.machine.specs.Causes.{Lengths}
use Rattle.calls.specs.Table.{Answer}
use Rattle.calls.specs.Calls.{CallResult, call_on}
use Rattle.history.specs.Storage.{Storage, area_lent, Lent, AllLent, returned, call_in, storage_step, storage_after, answers_of}
use Rattle.history.specs.OnRecords.{RecordStorage, RecordPart, RecordCall, in_cells, call_in_cells, records_lent, LentRecords, AllLentRecords, call_in_records, records_returned, records_step, records_after, records_answers}
use Rattle.records.proofs.WellFormed.{well_formed_take, well_formed_drop, well_formed_append}
use Rattle.history.proofs.WellFormed.{Leaves, call_leaves}

-- ---- the cells of records

cells-append : (rs ss : List IndexRecord) → cells_for (rs ++ ss) ≡ cells_for rs ++ cells_for ss
unfolding cells_for
cells-append [] ss = refl
cells-append (r ∷ rs) ss = ap (λ c. record_cells r ++ c) (cells-append rs ss) ∙ sym (append_assoc (record_cells r) (cells_for rs) (cells_for ss))

module _ (n : ℕ) (rs : List IndexRecord) (f : WellFormed rs) (h : n ≤ length rs) where
  parts : cells_for rs ≡ cells_for (take n rs) ++ cells_for (drop n rs)
  parts = ap cells_for (sym (take-append-drop n rs)) ∙ cells-append (take n rs) (drop n rs)

  front_length : length (cells_for (take n rs)) ≡ n * 27
  front_length = cells-length (take n rs) (well_formed_take n rs f) ∙ ap (λ k. k * 27) (length-take-le n rs h)

  pub cells-take : take (n * 27) (cells_for rs) ≡ cells_for (take n rs)
  cells-take = ap (take (n * 27)) parts ∙ take_at (cells_for (take n rs)) (cells_for (drop n rs)) (n * 27) front_length

  pub cells-drop : drop (n * 27) (cells_for rs) ≡ cells_for (drop n rs)
  cells-drop = ap (drop (n * 27)) parts ∙ drop_at (cells_for (take n rs)) (cells_for (drop n rs)) (n * 27) front_length

abbrev alone : List IndexRecord → Run
alone rs = record { records = rs; rest = [] }

pub cells_run : (rs : List IndexRecord) → WellFormed rs → run_of (cells_for rs) ≡ alone rs
unfolding cells_of
cells_run rs f = ap run_of (sym (append-nil (cells_for rs))) ∙ forth (alone rs) f (omega arith)

-- ---- storage

abbrev pub in_storage : RecordStorage → Storage
in_storage w = record { job = w.job; cells = cells_for w.records; store = w.store }

pub lent-cells : (w : RecordStorage) (x : RecordPart) → WellFormed w.records → LentRecords w x → Lent (in_storage w) (in_cells x)
lent-cells w x f l = record { cells = omega (arith, cells-length w.records f, l.records); readings = l.readings }

pub lent_area : (w : RecordStorage) (x : RecordPart) → WellFormed w.records → LentRecords w x → area_lent (in_storage w) (in_cells x) ≡ records_lent w x
unfolding area_lent records_lent
lent_area w x f l =
    ap (λ (u : Run). record { job = w.job; run = u; store = take x.readings w.store })
    (ap run_of (cells-take x.records w.records f l.records) ∙ cells_run (take x.records w.records) (well_formed_take x.records w.records f))

-- ---- one call

module _ (w : RecordStorage) (x : RecordCall) (f : WellFormed w.records) (l : LentRecords w x.part) where
  abbrev n : ℕ
  n = x.part.records

  abbrev a : Area
  a = records_lent w x.part

  abbrev b : Area
  b = (call_in_records w x).area

  lent_well_formed : WellFormed a.run.records
  unfolding records_lent
  lent_well_formed = well_formed_take n w.records f

  left : Leaves a b
  unfolding call_in_records
  left = call_leaves a lent_well_formed x.call

  no_rest : b.run.rest ≡ []
  unfolding records_lent
  no_rest = left.rest

  pub done_same : call_in (in_storage w) (call_in_cells x) ≡ call_in_records w x
  unfolding call_in call_in_records
  done_same = ap (λ (z : Area). call_on z x.call) (lent_area w x.part f l)

  cells_left : cells_of b.run ≡ cells_for b.run.records
  unfolding cells_of
  cells_left = ap (λ (r : List ℕ). cells_for b.run.records ++ r) no_rest ∙ append-nil (cells_for b.run.records)

  returned_same : returned (in_storage w) (in_cells x.part) b ≡ in_storage (records_step w x)
  unfolding returned records_step records_returned
  returned_same =
      let e : cells_of b.run ++ drop (n * 27) (cells_for w.records) ≡ cells_for (b.run.records ++ drop n w.records)
      = ap₂ (λ (c d : List ℕ). c ++ d) cells_left (cells-drop n w.records f l.records) ∙ sym (cells-append b.run.records (drop n w.records)) in
      ap {B = Storage} (λ (c : List ℕ). record { job = b.job; cells = c; store = b.store ++ drop x.part.readings w.store }) e

  pub step_same : storage_step (in_storage w) (call_in_cells x) ≡ in_storage (records_step w x)
  unfolding storage_step
  step_same = ap (λ (d : CallResult). returned (in_storage w) (in_cells x.part) d.area) done_same ∙ returned_same

  pub step_well_formed : WellFormed (records_step w x).records
  unfolding records_step records_returned
  step_well_formed = well_formed_append b.run.records (drop n w.records) left.well_formed (well_formed_drop n w.records f)

  lent_count : length a.run.records ≡ n
  unfolding records_lent
  lent_count = length-take-le n w.records l.records

  lent-readings : length a.store ≡ x.part.readings
  unfolding records_lent
  lent-readings = length-take-le x.part.readings w.store l.readings

  pub step_records : length (records_step w x).records ≡ length w.records
  unfolding records_step records_returned
  step_records =
      omega (arith, length-append b.run.records (drop n w.records), length-drop n w.records, ap (λ (z : Lengths). z.records) left.lengths, lent_count, l.records)

  pub step_store : length (records_step w x).store ≡ length w.store
  unfolding records_step records_returned
  step_store =
      omega (arith, length-append b.store (drop x.part.readings w.store), length-drop x.part.readings w.store, ap (λ (z : Lengths). z.readings) left.lengths, lent-readings, l.readings)

-- ---- a list of calls

lent-later : (w v : RecordStorage) → length v.records ≡ length w.records → length v.store ≡ length w.store → (xs : List RecordCall) → AllLentRecords w xs → AllLentRecords v xs
lent-later w v e g [] l = tt
lent-later w v e g (x ∷ xs) l = (record { records = omega (arith, l.0.records, e); readings = omega (arith, l.0.readings, g) }, lent-later w v e g xs l.1)

pub all_lent : (w : RecordStorage) (xs : List RecordCall) → WellFormed w.records → AllLentRecords w xs → AllLent (in_storage w) (map call_in_cells xs)
all_lent w [] f l = tt
all_lent w (x ∷ xs) f l = (lent-cells w x.part f l.0, all_lent w xs f l.1)

pub record Together (w : RecordStorage) (xs : List RecordCall) : Type 0 where
  pub after : storage_after (in_storage w) (map call_in_cells xs) ≡ in_storage (records_after w xs)
  pub answers : answers_of (in_storage w) (map call_in_cells xs) ≡ records_answers w xs
  pub well_formed : WellFormed (records_after w xs).records
  pub records : length (records_after w xs).records ≡ length w.records
  pub store : length (records_after w xs).store ≡ length w.store

pub together : (w : RecordStorage) (xs : List RecordCall) → WellFormed w.records → AllLentRecords w xs → Together w xs
unfolding storage_after answers_of records_after records_answers
together w [] f l = record { after = refl; answers = refl; well_formed = f; records = refl; store = refl }
together w (x ∷ xs) f l =
    let v = records_step w x in
    let t = together v xs (step_well_formed w x f l.0) (lent-later w v (step_records w x f l.0) (step_store w x f l.0) xs l.1) in
    record {
      after = ap (λ (z : Storage). storage_after z (map call_in_cells xs)) (step_same w x f l.0) ∙ t.after;
      answers =
          ap₂ (λ (y : Answer) (ys : List Answer). y ∷ ys) (ap (λ (d : CallResult). d.answer) (done_same w x f l.0))
          (ap (λ (z : Storage). answers_of z (map call_in_cells xs)) (step_same w x f l.0) ∙ t.answers);
      well_formed = t.well_formed;
      records = t.records ∙ step_records w x f l.0;
      store = t.store ∙ step_store w x f l.0;
    }
