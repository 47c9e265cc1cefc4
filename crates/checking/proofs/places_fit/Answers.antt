-- `checking::places_fit` meets its contract: each place is asked. Assumes nothing.
use borrow.Author.Rules.{rules}
use borrow.Author.Tests.{tests}
use mathlib.Core.Path.{ap, ◌∙◌}
use Rattle.soundness.specs.Test.{all_from, place_test, places_test}
use Rattle.checking.proofs.Each.{all_below}
use Rattle.checking.proofs.places_fit.Goals as goal

pub returns : goal.returns
unfolding places_test
returns c =
    let f = place_test c.args.axes c.args.held.now in
    all_below f c.len.result _ _ c.all.result c.all.ensures.ran (λ x b q k. search (rules, tests)) ∙ ap (λ n. all_from n 0 f) c.len.ensures
