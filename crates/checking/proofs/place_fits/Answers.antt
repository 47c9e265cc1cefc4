use native.Mathlib.Omega.{arith}
use Rattle.std.proofs.lemmas.Bool.Decides.{nat_tests}
use Rattle.soundness.specs.Held.{levels_at}
use Rattle.checking.proofs.Passes.{index_within}
use Rattle.checking.proofs.place_fits.Goals as goal

pub root_fits-requires : goal.root_fits-requires
root_fits-requires c = grind (arith, nat_tests, index_within c.args.axes (levels_at c.args.held.now c.args.place))
