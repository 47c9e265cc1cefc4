-- `checking::Tested::numbers_fit` meets its contract: each number that is not as recorded decides the test, and past them the mean does. Assumes nothing.
use native.Mathlib.Omega.{arith}
use borrow.Author.Rules.{rules}
use Rattle.soundness.specs.Totals.{numbers_test}
use Rattle.std.proofs.lemmas.Bool.Decides.{nat_tests}
use mir.Syntax.{w64}
use mir.Val.{SFits}
use Rattle.sums.proofs.Words.{back}
use Rattle.checking.proofs.Whole.{count_small}
use Rattle.checking.proofs.Tested.numbers_fit.Goals as goal

pub mean_fits-requires : goal.mean_fits-requires
mean_fits-requires c = omega (arith, c.delivered_count.ensures, count_small c.args.self.now.held.now, c.args.self.now.few)

pub returns-then-carried_sum-self : goal.returns-then-carried_sum-self
unfolding numbers_test
returns-then-carried_sum-self c =
    let fits : SFits w64 c.args.self.now.job.mean = search rules in
    grind (arith, nat_tests, back c.args.self.now.job.mean fits)

pub returns-else-carried_sum-self : goal.returns-else-carried_sum-self
unfolding numbers_test
returns-else-carried_sum-self c = grind (arith, nat_tests)
