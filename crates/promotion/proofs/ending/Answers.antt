-- `promotion::ending` meets its contract: by the test. Assumes nothing.
use Prim.Native.Nat.{◌+◌}
use native.Mathlib.Omega.{arith}
use borrow.Author.Tests.{le-leb, lt-leb}
use Rattle.promotion.specs.Outcomes.{choice_of}
use Rattle.promotion.proofs.ending.Goals as goal

pub returns-then-job : goal.returns-then-job
unfolding choice_of
returns-then-job c =
    let j = c.args.job in
    rw (le-leb (j.pending + j.carried) j.settings.threshold (omega (arith, c.if-job.true, c.requires)))

pub returns-else-job : goal.returns-else-job
unfolding choice_of
returns-else-job c =
    let j = c.args.job in
    rw (lt-leb (j.pending + j.carried) j.settings.threshold (omega (arith, c.if-job.false, c.requires)))
