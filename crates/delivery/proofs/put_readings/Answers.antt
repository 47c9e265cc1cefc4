-- `delivery::put_readings` meets its contract: the readings passed are stored, and no other has changed. Assumes nothing.
use native.Mathlib.Omega.{arith}
use mir.Syntax.{w32}
use mir.Facts.{to_z-of_z}
use borrow.Author.Rules.{rules}
use mir.Val.{SFits}
use lib.IntN.{pos}
use lib.ListN.{get_or, length}
use lib.Seq.{take_all}
use Rattle.std.proofs.Common.{◌≡◌, ap, ◌∙◌, take}
use Rattle.std.proofs.lemmas.List.Edits.{sets}
use Rattle.sums.proofs.Lists.{sets_step}
use Rattle.delivery.proofs.put_readings.Goals as goal

pub loop-n-preserved : goal.loop-n-preserved
loop-n-preserved c =
    let l = c.loop-n in
    let readings = c.args.readings.now in
    let fits : SFits w32 (get_or readings l.n (pos 0)) = search rules in
    let same = to_z-of_z fits in
    rw (l.invariant, same) (sets_step c.args.store.now c.args.first readings l.n (pos 0) (omega arith))

pub returns : goal.returns
returns c =
    let l = c.loop-n in
    let readings = c.args.readings.now in
    let all : l.n ≡ length readings = omega arith in
    l.invariant ∙ ap (λ n. sets c.args.store.now c.args.first (take n readings)) all ∙ ap (sets c.args.store.now c.args.first) (take_all (length readings) readings (omega arith))
