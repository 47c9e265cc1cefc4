-- `calls::start` meets its contract: refused by its cause, or the job record and the root written. Assumes nothing.
use mathlib.Core.Path.{◌≡◌, refl, sym, ap, ◌∙◌}
use mathlib.Core.List.{List}
use Prim.Native.Nat.{ℕ, ◌/◌, ◌≤◌}
use native.Mathlib.Omega.{arith}
use lib.IntN.{ℤ, pos}
use lib.ListN.{length}
use Rattle.area.specs.declared.Settings.{Settings}
use Rattle.area.specs.declared.JobRecord.{JobRecord}
use Rattle.area.specs.Records.{run_of, stored}
use Rattle.area.specs.Encoding.{Area, area_of}
use Rattle.area.proofs.Records.{length-records_of}
use Rattle.machine.specs.Causes.{first_cause, start_causes}
use Rattle.machine.specs.Areas.{start_on}
use Rattle.writing.specs.Changes.{root_record}
use Rattle.writing.proofs.Facts.{write_facts}
use Rattle.calls.specs.Replies.{accepted, lengths_of}
use Rattle.calls.specs.Table.{answer}
use Rattle.calls.proofs.Accepted.{startable}
use Rattle.calls.proofs.Rows.{start_refuses, start_accepts}
use Rattle.calls.proofs.Found.{handed_on, not_zero}
use Rattle.calls.proofs.start.Goals as goal

-- the lengths that the code asks are the area's
module _ (j : JobRecord) (cells : List ℕ) (store : List ℤ) (g : Settings) (n : ℕ) (is : n ≡ first_cause (start_causes (record { records = length cells / 27; readings = length store }) g)) where
  cause_is : n ≡ first_cause (start_causes (lengths_of (area_of j cells store)) g)
  cause_is = is ∙ ap (λ r. first_cause (start_causes (record { records = r; readings = length store }) g)) (sym (length-records_of cells))

  room : n ≡ 0 → 512 ≤ length cells / 27
  room e = (startable (record { records = length cells / 27; readings = length store }) g (sym is ∙ e)).records

-- the job record and the cells that are left hold the area that was to be written
area_is : (j k : JobRecord) (cells after : List ℕ) (store : List ℤ) (g : Settings) → 512 ≤ length cells / 27
    → k ≡ record { settings = g; held = 1; reserved = 1; pending = 0; carried = 0; mean = pos 0 } → run_of after ≡ stored (run_of cells) 0 root_record
    → area_of k after store ≡ start_on (area_of j cells store) g
unfolding start_on
area_is j k cells after store g h e f =
    (λ i. record { job = e i; run = f i; store = store }) ∙ sym (write_facts.start (area_of j cells store) g (omega (arith, length-records_of cells, h)))

pub returns-in_err-start_cause : goal.returns-in_err-start_cause
returns-in_err-start_cause c =
    let a = area_of c.args.job.now c.args.cells.now c.args.store.now in
    let d = c.in_err-start_cause.field-0.0 in
    rw (handed_on c.from_residual.result d c.from_residual.ensures)
    (start_refuses a c.args.settings _ (cause_is c.args.job.now c.args.cells.now c.args.store.now c.args.settings _ c.in_err-start_cause.ensures) (not_zero d))

pub start-requires : goal.start-requires
start-requires c = omega (arith, room c.args.job.now c.args.cells.now c.args.store.now c.args.settings 0 c.in_ok-start_cause.ensures refl)

pub returns : goal.returns
returns c =
    let j = c.args.job.now in
    let cells = c.args.cells.now in
    let store = c.args.store.now in
    let g = c.args.settings in
    let none = c.in_ok-start_cause.ensures in
    ap (λ (x : Area). record { answer = answer accepted; area = x })
    (area_is j c.start.result cells c.start.new.cells store g (room j cells store g 0 none refl) c.start.ensures.job c.start.ensures.run)
    ∙ start_accepts (area_of j cells store) g 0 (cause_is j cells store g 0 none) refl
