-- `writing::new_links` meets its contract: the axes passed have their link, the others none. Assumes nothing.
use mathlib.Core.Path.{sym, ap, ◌∙◌, subst}
use Prim.Native.Nat.{◌+◌}
use native.Mathlib.Omega.{arith}
use Rattle.area.specs.Records.{levels_of}
use Rattle.area.specs.Encoding.{none, place_of}
use Rattle.quadrature.proofs.Raised.{found_at, found_none, not_held}
use Rattle.writing.proofs.Links.{new_above, new_none}
use Rattle.writing.proofs.Linking.{SoFar, so_far_start, so_far_skip, so_far_put, so_far_end}
use Rattle.writing.proofs.new_links.Goals as goal
use Rattle.writing.proofs.new_links.Goals.{then-has_backward+in-Some, then-has_backward+in_default, else-has_backward}

pub loop-axis-init : goal.loop-axis-init
unfolding none
loop-axis-init c = so_far_start (levels_of c.args.held.now) c.args.levels

pub overflow_cast-links : goal.overflow_cast-links
overflow_cast-links c =
    omega (arith, (found_at c.args.held.now c.backward_neighbour-behind.result c.requires.few_held c.in-Some.place (sym c.in-Some.ensures)).1, c.requires.few_held)

pub loop-axis-preserved : goal.loop-axis-preserved
loop-axis-preserved c =
    let l = c.loop-axis in
    let k = c.args.levels in
    let rs = c.args.held.now in
    let few = c.requires.few_held in
    let ls = levels_of rs in
    elim c.if-has_backward.branch [
      | then-has_backward+in-Some w ↦
          let x = w.backward_neighbour-behind in
          subst (SoFar ls k (l.axis + 1)) (sym w.links-is)
          (so_far_put ls k l.axis l.links (omega arith) l.invariant w.in-Some.place
          (sym (found_at rs x.result few w.in-Some.place (sym w.in-Some.ensures)).0 ∙ ap (place_of ls) x.ensures ∙ sym (new_above ls k 0 l.axis (omega arith) w.if-has_backward.true)))
      | then-has_backward+in_default w ↦
          let x = w.backward_neighbour-behind in
          subst (SoFar ls k (l.axis + 1)) (sym w.links-is)
          (so_far_skip ls k l.axis l.links (omega arith) l.invariant
          (new_above ls k 0 l.axis (omega arith) w.if-has_backward.true ∙ ap (place_of ls) (sym x.ensures) ∙ not_held rs x.result few (found_none rs x.result few (sym w.in_default.ensures))))
      | else-has_backward w ↦ subst (SoFar ls k (l.axis + 1)) (sym w.links-is) (so_far_skip ls k l.axis l.links (omega arith) l.invariant (new_none ls k 0 l.axis (omega arith) w.if-has_backward.false))
    ]

pub returns : goal.returns
returns c = so_far_end (levels_of c.args.held.now) c.args.levels c.loop-axis.axis c.loop-axis.links (omega arith) c.loop-axis.invariant
