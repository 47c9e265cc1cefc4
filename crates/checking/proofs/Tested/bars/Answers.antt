-- `checking::Tested::bars` meets its contract: the first pass gives the places that are read. Assumes nothing.
use native.Mathlib.Omega.{arith}
use Rattle.area.specs.Encoding.{none}
use Rattle.std.proofs.lemmas.Bool.Decides.{nat_tests}
use Rattle.checking.proofs.Passes.{behind-place, ahead_place}
use Rattle.checking.proofs.Tested.bars.Goals as goal

pub link-beside-requires : goal.link-beside-requires
link-beside-requires c =
    let held = behind-place c.args.self.now.job.settings.axes c.args.self.now.held.now c.args.self.now.passed c.args.place c.args.other c.requires.place_in_bounds.0 (omega arith) in
    grind (arith, nat_tests, held)

pub state-requires : goal.state-requires
unfolding none
state-requires c =
    let held = behind-place c.args.self.now.job.settings.axes c.args.self.now.held.now c.args.self.now.passed c.args.place c.args.other c.requires.place_in_bounds.0 (omega arith) in
    let ahead = ahead_place c.args.self.now.job.settings.axes c.args.self.now.held.now c.args.self.now.passed c.link-behind.result c.args.axis in
    grind (arith, nat_tests, held, ahead)
