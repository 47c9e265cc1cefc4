-- `doubles::whole` meets its contract. Assumes nothing.
use Rattle.doubles.proofs.Facts.{whole_is}
use Rattle.doubles.proofs.whole.Goals as goal

pub returns : goal.returns
returns c = whole_is c.args.n
