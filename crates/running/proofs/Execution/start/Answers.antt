-- `running::Execution::start` meets its contract: start leaves a valid area with the started state. Assumes nothing.
use Rattle.std.proofs.Common.{refl, arith}
use Rattle.running.proofs.Whole.{start_valid, start_state}
use Rattle.running.proofs.Execution.start.Goals as goal

pub returns-clause-is : goal.returns-clause-is
returns-clause-is c =
    let s = c.start-job in
    (start_state c.args.settings c.requires.1 s.result _ s.new.cells _ s.ensures.job s.ensures.run refl refl, refl)

pub returns-clause-valid : goal.returns-clause-valid
returns-clause-valid c =
    let s = c.start-job in
    record {
      bytes = refl;
      formed = c.requires.0;
      entries = c.four_at.ensures;
      used = omega arith;
      area = start_valid c.args.settings c.requires.1 s.result _ s.new.cells _ s.ensures.job s.ensures.run refl refl;
    }
