-- `running::execute` meets its contract: each step goes on as the execution does, and the steps don't run out. Assumes nothing.
use Rattle.std.proofs.Common.{◌≡◌, ap, subst, ◌∙◌, arith}
use Rattle.std.proofs.lemmas.Result.{err_from_is_err_and}
use Rattle.machine.specs.Causes.{first_cause, start_causes}
use Rattle.machine.specs.Steps.{started}
use Rattle.jobfile.proofs.Facts.{form_facts}
use Rattle.reporting.specs.Text.{report_text}
use Rattle.running.specs.Execution.{own_lengths}
use Rattle.running.proofs.Course.{Course, begun, never_out, refused, still_valid, ends, goes_on}
use Rattle.running.proofs.execute.Goals as goal

pub start-execution-requires : goal.start-execution-requires
start-execution-requires c = (form_facts.formed_file c.args.bytes.now c.requires.0, ap (λ g. first_cause (start_causes own_lengths g)) c.requires.1 ∙ c.requires.2)

pub loop-init : goal.loop-init
loop-init c =
    let s = c.start-execution in
    record { valid = s.ensures.valid; course = begun c.args.bytes.now s.result c.requires.0 c.requires.2 (s.ensures.is.0 ∙ ap started c.requires.1) s.ensures.is.1 }

pub returns-in_err-ending : goal.returns-in_err-ending
returns-in_err-ending c =
    let l = c.loop in
    let p = err_from_is_err_and c.from_residual.result c.from_residual.ensures.1 in
    rw (p.1, p.2) (refused c.args.bytes.now l.counter l.execution c.loop-test.true l.invariant.valid l.invariant.course c.step.new.self c.in_err-ending.field-0.0 c.in_err-ending.ensures.is)

pub returns-in-Some : goal.returns-in-Some
returns-in-Some c =
    let l = c.loop in
    ap report_text c.report_values.ensures
    ∙ ends c.args.bytes.now l.counter l.execution c.loop-test.true l.invariant.valid l.invariant.course c.step.new.self c.in_ok-ending.ensures.valid c.in_ok-ending.field-0 c.in_ok-ending.ensures.is c.in-Some.ending c.in-Some.is

pub loop-preserved : goal.loop-preserved
loop-preserved c =
    let l = c.loop in
    record {
      valid = still_valid c.args.bytes.now l.counter l.execution c.loop-test.true l.invariant.valid l.invariant.course c.step.new.self c.in_ok-ending.ensures.valid;
      course = goes_on c.args.bytes.now l.counter l.execution c.loop-test.true l.invariant.valid l.invariant.course c.step.new.self c.in_ok-ending.ensures.valid c.in_ok-ending.field-0 c.in_ok-ending.ensures.is c.in_default.is;
    }

pub unreachable-requires : goal.unreachable-requires
unreachable-requires c =
    let all : c.loop.counter ≡ 1025 = omega arith in
    never_out c.args.bytes.now c.loop.execution (subst (λ k. Course c.args.bytes.now k c.loop.execution) all c.loop.invariant.course)
