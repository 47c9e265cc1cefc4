-- `counting::ceiling_count` meets its contract: the count so far and that of the records left are the whole. Assumes nothing.
use mathlib.Core.Path.{sym, ap, ◌∙◌}
use native.Mathlib.Omega.{arith}
use Rattle.grid.specs.Index.{capped_axes}
use Rattle.counting.proofs.Tallies.{ceiling_old, ceiling_other, ceiling_end}
use Rattle.counting.proofs.ceiling_count.Goals.{then-is_old, else-is_old}
use Rattle.counting.proofs.ceiling_count.Goals as goal

pub capped_axes-count-requires : goal.capped_axes-count-requires
capped_axes-count-requires c = (omega arith, rw c.levels.ensures (c.requires.by_index c.loop-place.place (omega arith)))

pub loop-place-preserved : goal.loop-place-preserved
loop-place-preserved c =
    let l = c.loop-place in
    let state = c.state-is_old.ensures in
    elim c.if-is_old.branch [
      | then-is_old w ↦
          let e = w.capped_axes-count.ensures.0 ∙ ap (capped_axes c.args.axes) w.levels.ensures in (
            omega (arith, w.count-is, w.capped_axes-count.ensures.1),
            omega (arith, w.count-is, e, l.invariant.1, ceiling_old c.args.held.now c.args.axes l.place (omega arith) (sym state ∙ w.if-is_old.true)),
          )
      | else-is_old w ↦ (
        omega (arith, w.count-is),
        omega (arith, w.count-is, l.invariant.1, ceiling_other c.args.held.now c.args.axes l.place (omega arith) (λ e. w.if-is_old.false (state ∙ e))),
      )
    ]

pub returns : goal.returns
returns c =
    let l = c.loop-place in
    omega (arith, l.invariant.1, ceiling_end c.args.held.now c.args.axes l.place (omega arith))
