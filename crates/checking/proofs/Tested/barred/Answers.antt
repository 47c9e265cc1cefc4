-- `checking::Tested::barred` meets its contract: each axis is asked. Assumes nothing.
use borrow.Author.Rules.{rules}
use borrow.Author.Tests.{tests}
use Rattle.soundness.specs.Test.{any_from, bars_test}
use mathlib.Core.Path.{ap, ◌∙◌}
use Rattle.checking.proofs.Each.{any_below}
use Rattle.checking.proofs.Tested.barred.Goals as goal

pub returns : goal.returns
returns c =
    let f = bars_test c.args.self.now.held.now c.args.place c.args.axis in
    any_below f c.axes.result _ _ c.any.result c.any.ensures.ran (λ x b q k. search (rules, tests)) ∙ ap (λ n. any_from n 0 f) c.axes.ensures
