use native.Mathlib.Omega.{arith}
use Rattle.std.proofs.lemmas.Bool.Decides.{nat_tests}
use Rattle.soundness.specs.Held.{levels_at}
use Rattle.soundness.specs.Test.{root_test}
use borrow.Author.Rules.{rules}
use Rattle.checking.proofs.Passes.{root_by_excess}
use Rattle.checking.proofs.root_fits.Goals as goal

pub returns : goal.returns
unfolding root_test
returns c =
    let k = levels_at c.args.held.now c.args.place in
    let e = root_by_excess k (search rules) c.requires.1 in
    grind (arith, nat_tests, e)
