-- `delivery::put_point` meets its contract: the positions are copied over the bytes from `from` on. Assumes nothing.
use borrow.Author.Rules.{rules}
use mathlib.Core.Path.{◌≡◌}
use Prim.Native.Nat.{◌+◌, ◌-◌}
use native.Mathlib.Omega.{arith}
use lib.ListN.{length, take}
use lib.Seq.{length-take-le}
use Rattle.delivery.proofs.Fronts.{laid_over}
use Rattle.delivery.proofs.put_point.Goals as goal

pub returns : goal.returns
returns c =
    let eight : length c.args.point ≡ 8 = search rules in
    let size = length-take-le c.args.axes c.args.point (omega arith) in
    laid_over c.args.buffer.now (take c.args.axes c.args.point) _ c.args.from (c.args.from + c.args.axes - c.args.from) c.copy_from_slice.ensures.after (omega (arith, size)) (omega (arith, size))
