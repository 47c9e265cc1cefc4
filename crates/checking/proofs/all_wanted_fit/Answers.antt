-- `checking::all_wanted_fit` meets its contract: each place is asked. Assumes nothing.
use borrow.Author.Rules.{rules}
use borrow.Author.Tests.{tests}
use mathlib.Core.Path.{ap, ◌∙◌}
use Rattle.soundness.specs.Test.{all_from}
use Rattle.soundness.specs.Totals.{wanted_test, all_wanted_test}
use Rattle.checking.proofs.Each.{all_below}
use Rattle.checking.proofs.all_wanted_fit.Goals as goal

pub returns : goal.returns
unfolding all_wanted_test
returns c =
    let f = wanted_test c.args.held.now in
    all_below f c.len.result _ _ c.all.result c.all.ensures.ran (λ x b q k. search (rules, tests)) ∙ ap (λ n. all_from n 0 f) c.len.ensures
