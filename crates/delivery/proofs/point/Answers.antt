-- `delivery::point` meets its contract: the point of the levels at the place is the one that is written. Assumes nothing.
use mathlib.Core.Path.{◌≡◌, ap, ◌∙◌}
use mathlib.Core.List.{◌++◌}
use native.Mathlib.Omega.{arith}
use lib.ListN.{length, take, drop}
use Rattle.grid.specs.Block.{point_of}
use borrow.Author.Rules.{rules}
use Rattle.delivery.proofs.Fronts.{front}
use Rattle.delivery.proofs.point.Goals as goal

pub returns : goal.returns
returns c =
    let levels = c.levels.ensures in
    let point = c.point_of.result in
    let hl : length point ≡ 8 = search rules in
    c.put_point.ensures
    ∙ front c.args.buffer.now point c.args.axes (omega (arith, hl, c.requires.place_in_bounds)) c.requires.place_in_bounds.2
    ∙ ap (λ p. take c.args.axes p ++ drop c.args.axes c.args.buffer.now) (c.point_of.ensures ∙ ap (λ k. point_of k c.args.n) levels)
