-- `calls::area_cause` meets its contract: the tests in the table's order. Assumes nothing.
use mathlib.Core.Path.{sym, ◌∙◌}
use native.Mathlib.Omega.{arith}
use Rattle.area.specs.Encoding.{area_of, machine_of}
use Rattle.area.proofs.Records.{length-records_of}
use Rattle.soundness.specs.Clauses.{is_sound}
use Rattle.calls.specs.Replies.{lengths_of}
use Rattle.calls.proofs.Tests.{few_records, few_readings_lem, enough}
use Rattle.calls.proofs.Causes.{common_short, common_unsound, common_none}
use Rattle.calls.proofs.Validity.{checked_sound}
use Rattle.calls.proofs.area_cause.Goals.{then-few_records-via-then-few_records, then-few_records-via-else-few_records+then-store-least_store}
use Rattle.calls.proofs.area_cause.Goals as goal

pub returns-then-few_records : goal.returns-then-few_records
unfolding machine_of
returns-then-few_records c =
    let a = area_of c.args.job c.args.cells.now c.args.store.now in
    let records = length-records_of c.args.cells.now in
    elim c.then-few_records.branch [
      | then-few_records-via-then-few_records w ↦
          sym (common_short (lengths_of a) (is_sound a) (machine_of a).log (few_records (lengths_of a) c.args.job.settings (omega (arith, records, w.if-few_records.true))))
      | then-few_records-via-else-few_records+then-store-least_store w ↦
          sym (common_short (lengths_of a) (is_sound a) (machine_of a).log (few_readings_lem (lengths_of a) c.args.job.settings (omega (arith, records, w.if-few_records.false)) (omega (arith, w.least_store.ensures, w.if-store-least_store.true))))
    ]

pub returns-then-not-check : goal.returns-then-not-check
unfolding machine_of
returns-then-not-check c =
    let a = area_of c.args.job c.args.cells.now c.args.store.now in
    let unsound = sym (checked_sound c.args.job c.args.cells.now c.args.store.now c.if-few_records.false (omega (arith, c.least_store.ensures, c.if-store-least_store.false))) ∙ (sym c.check.ensures ∙ c.if-not-check.true) in
    sym (common_unsound (lengths_of a) (is_sound a) (machine_of a).log (enough (lengths_of a) c.args.job.settings (omega (arith, length-records_of c.args.cells.now, c.if-few_records.false)) (omega (arith, c.least_store.ensures, c.if-store-least_store.false))) unsound)

pub returns : goal.returns
unfolding machine_of
returns c =
    let a = area_of c.args.job c.args.cells.now c.args.store.now in
    let sound = sym (checked_sound c.args.job c.args.cells.now c.args.store.now c.if-few_records.false (omega (arith, c.least_store.ensures, c.if-store-least_store.false))) ∙ (sym c.check.ensures ∙ c.if-not-check.false) in
    sym (common_none (lengths_of a) (is_sound a) (machine_of a).log (enough (lengths_of a) c.args.job.settings (omega (arith, length-records_of c.args.cells.now, c.if-few_records.false)) (omega (arith, c.least_store.ensures, c.if-store-least_store.false))) sound)
