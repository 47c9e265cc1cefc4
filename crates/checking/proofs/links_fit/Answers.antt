-- `checking::links_fit` meets its contract: each axis is asked. Assumes nothing.
use borrow.Author.Rules.{rules}
use borrow.Author.Tests.{tests}
use Rattle.soundness.specs.Test.{axis_test}
use Rattle.checking.proofs.Each.{all_below}
use Rattle.checking.proofs.links_fit.Goals as goal

pub returns : goal.returns
unfolding axis_test
returns c = all_below (axis_test c.args.held.now c.args.place) 8 _ _ c.all.result c.all.ensures.ran (λ x b q k. search (rules, tests))
