-- `checking::Tested::place_complete` meets its contract: an old index with room is asked along each axis. Assumes nothing.
use borrow.Author.Rules.{rules}
use borrow.Author.Tests.{tests}
use native.Mathlib.Omega.{arith}
use mathlib.Core.Path.{sym, ap, ◌∙◌, subst}
use Rattle.grid.specs.Index.{Within}
use Rattle.std.proofs.lemmas.Bool.Decides.{nat_tests}
use Rattle.soundness.specs.Test.{all_from, axis_complete_test, place_complete_test}
use Rattle.checking.proofs.Each.{all_below}
use Rattle.checking.proofs.Passes.{place_within}
use Rattle.checking.proofs.Tested.place_complete.Goals as goal

pub excess_of-requires : goal.excess_of-requires
excess_of-requires c =
    subst Within (sym c.levels.ensures) (place_within c.args.self.now.job.settings.axes c.args.self.now.held.now c.args.self.now.passed c.args.place c.requires.place_in_bounds)

pub returns-else-excess_of-ge12 : goal.returns-else-excess_of-ge12
unfolding place_complete_test
returns-else-excess_of-ge12 c =
    let f = axis_complete_test c.args.self.now.job.settings.axes c.args.self.now.held.now c.args.place in
    let asked = all_below f c.axes.result _ _ c.all.result c.all.ensures.ran (λ x b q k. search (rules, tests)) ∙ ap (λ n. all_from n 0 f) c.axes.ensures in
    grind (arith, nat_tests, asked)
