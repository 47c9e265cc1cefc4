-- `calls::start_cause` meets its contract: the tests in the table's order. Assumes nothing.
use mathlib.Core.Path.{sym}
use native.Mathlib.Omega.{arith}
use Rattle.std.proofs.lemmas.Grind.{common_steps}
use Rattle.soundness.proofs.Settings.{reads_axes}
use Rattle.area.specs.Settings.{SettingsFit}
use Rattle.machine.specs.Causes.{Lengths}
use Rattle.calls.proofs.Tests.{axes_out, budget_out, few_records, few_readings_lem, enough}
use Rattle.calls.proofs.Causes.{start_axes, start_budget, start_short, start_fits}
use Rattle.calls.proofs.start_cause.Goals.{then-records-lt512-via-then-records-lt512, then-records-lt512-via-else-records-lt512+then-readings-least_store}
use Rattle.calls.proofs.start_cause.Goals as goal

pub returns-then-not-axes_fit : goal.returns-then-not-axes_fit
returns-then-not-axes_fit c =
    sym (start_axes (record { records = c.args.records; readings = c.args.readings }) c.args.settings (axes_out c.args.settings (λ low high. grind (arith, common_steps, c.if-not-axes_fit.ensures.cases))))

pub returns-then-not-budget_fits : goal.returns-then-not-budget_fits
returns-then-not-budget_fits c =
    let g = c.args.settings in
    sym (start_budget (record { records = c.args.records; readings = c.args.readings }) g ((reads_axes g).back (grind (arith, common_steps, c.if-not-axes_fit.ensures.cases))) (budget_out g (λ low high. grind (arith, common_steps, c.if-not-budget_fits.ensures.cases))))

pub returns-then-records-lt512 : goal.returns-then-records-lt512
returns-then-records-lt512 c =
    let g = c.args.settings in
    let z : Lengths = record { records = c.args.records; readings = c.args.readings } in
    let fit : SettingsFit g = record { axes = grind (arith, common_steps, c.if-not-axes_fit.ensures.cases); budget = grind (arith, common_steps, c.if-not-budget_fits.ensures.cases) } in
    elim c.then-records-lt512.branch [
      | then-records-lt512-via-then-records-lt512 w ↦ sym (start_short z g fit (few_records z g w.if-records-lt512.true))
      | then-records-lt512-via-else-records-lt512+then-readings-least_store w ↦
          sym (start_short z g fit (few_readings_lem z g w.if-records-lt512.false (omega (arith, w.least_store.ensures, w.if-readings-least_store.true))))
    ]

pub returns : goal.returns
returns c =
    let g = c.args.settings in
    let z : Lengths = record { records = c.args.records; readings = c.args.readings } in
    let fit : SettingsFit g = record { axes = grind (arith, common_steps, c.if-not-axes_fit.ensures.cases); budget = grind (arith, common_steps, c.if-not-budget_fits.ensures.cases) } in
    sym (start_fits z g fit (enough z g c.if-records-lt512.false (omega (arith, c.least_store.ensures, c.if-readings-least_store.false))))
