-- `promotion::Scan::admitted` meets its contract: the axes passed are marked where they admit, and the neighbours left answer as all of them did. Assumes nothing.
use mathlib.Core.Path.{◌≡◌, sym, ap, ◌∙◌, subst}
use mathlib.Core.Bool.{Bool}
use mathlib.Core.List.{List}
use Prim.Native.Nat.{ℕ, ◌≤◌}
use native.Mathlib.Omega.{arith}
use Rattle.area.specs.Entry.{Entry}
use Rattle.grid.specs.Index.{within}
use Rattle.soundness.specs.Test.{all_from}
use Rattle.soundness.proofs.Exactly.{all_go, all_stop, all_end}
use Rattle.machine.specs.Promote.{is_old, backward_old, admits}
use Rattle.promotion.proofs.Marks.{SoFar, so_far_skip, so_far_put, so_far_end}
use Rattle.promotion.proofs.Admits.{no_neighbour, neighbour_old, past_ceiling, by_neighbours, admitted_marked, marked_within}
use Rattle.promotion.specs.Marks.{marks_of}
use Rattle.promotion.proofs.Scan.admitted.Goals.{else-neighbour-other-gt1-via-then-neighbour-other-gt1+else-not-is_old, else-neighbour-other-gt1-via-else-neighbour-other-gt1}
use Rattle.promotion.proofs.Scan.admitted.Goals as goal

pub axes-preserved-then-not-within_ceilings : goal.axes-preserved-then-not-within_ceilings
axes-preserved-then-not-within_ceilings c =
    let l = c.axes in
    let d = c.args.axes in
    let es = c.args.self.now in
    let k = c.args.levels in
    let past = ap within (sym c.forward_neighbour-neighbour.ensures) ∙ (sym c.within_ceilings.ensures ∙ c.if-not-within_ceilings.true) in
    so_far_skip (admits d es k) l.axis l.marks (omega (arith, c.requires.0)) l.invariant (past_ceiling d es k l.axis past)

pub axes-preserved-then-not-is_old : goal.axes-preserved-then-not-is_old
axes-preserved-then-not-is_old c =
    let l = c.axes in
    let i = c.loop-other in
    let d = c.args.axes in
    let es = c.args.self.now in
    let k = c.args.levels in
    let neighbour = c.forward_neighbour-neighbour in
    let inside = ap within (sym neighbour.ensures) ∙ (sym c.within_ceilings.ensures ∙ c.if-not-within_ceilings.false) in
    let one = neighbour_old es neighbour.result i.other c.if-neighbour-other-gt1.true ∙ ap (is_old es) (sym c.backward_neighbour.ensures) ∙ sym c.is_old.ensures ∙ c.if-not-is_old.true in
    let no = ap (λ x. all_from d 0 (backward_old es x)) (sym neighbour.ensures) ∙ i.invariant ∙ all_stop (backward_old es neighbour.result) d i.other (omega arith) one in
    so_far_skip (admits d es k) l.axis l.marks (omega (arith, c.requires.0)) l.invariant (by_neighbours d es k l.axis inside ∙ no)

pub loop-other-preserved : goal.loop-other-preserved
loop-other-preserved c =
    let i = c.loop-other in
    let d = c.args.axes in
    let es = c.args.self.now in
    let neighbour = c.forward_neighbour-neighbour.result in
    i.invariant
    ∙ all_go (backward_old es neighbour) d i.other (omega arith)
    (elim c.else-neighbour-other-gt1.branch [
      | else-neighbour-other-gt1-via-then-neighbour-other-gt1+else-not-is_old w ↦
          neighbour_old es neighbour i.other w.if-neighbour-other-gt1.true ∙ ap (is_old es) (sym w.backward_neighbour.ensures) ∙ sym w.is_old.ensures ∙ w.if-not-is_old.false
      | else-neighbour-other-gt1-via-else-neighbour-other-gt1 w ↦ no_neighbour es neighbour i.other w.if-neighbour-other-gt1.false
    ])

pub axes-preserved : goal.axes-preserved
axes-preserved c =
    let l = c.axes in
    let i = c.loop-other in
    let d = c.args.axes in
    let es = c.args.self.now in
    let k = c.args.levels in
    let neighbour = c.forward_neighbour-neighbour in
    let inside = ap within (sym neighbour.ensures) ∙ (sym c.within_ceilings.ensures ∙ c.if-not-within_ceilings.false) in
    let all = ap (λ x. all_from d 0 (backward_old es x)) (sym neighbour.ensures) ∙ i.invariant ∙ all_end (backward_old es neighbour.result) d i.other (omega arith) in
    so_far_put (admits d es k) l.axis l.marks (omega (arith, c.requires.0)) l.invariant (by_neighbours d es k l.axis inside ∙ all)

marks_are : (d : ℕ) (es : List Entry) (k : List ℕ) (axis : ℕ) (marks : List Bool) → d ≤ 8 → axis ≡ d → SoFar (admits d es k) axis marks → marks ≡ marks_of d (admits d es k)
marks_are d es k axis marks few done s = so_far_end (admits d es k) d marks few (subst (λ n. SoFar (admits d es k) n marks) done s)

pub invariant_of-result : goal.invariant_of-result
invariant_of-result c =
    let l = c.axes in
    let d = c.args.axes in
    let es = c.args.self.now in
    let k = c.args.levels in
    record { few = c.requires.0; within = marked_within d es k c.requires.0 (marks_are d es k l.axis l.marks c.requires.0 (omega arith) l.invariant); low = c.requires.1 }

pub returns : goal.returns
returns c =
    let l = c.axes in
    let d = c.args.axes in
    let es = c.args.self.now in
    let k = c.args.levels in
    ap (λ a. record { index = k; along = a }) (admitted_marked d es k c.requires.0 (marks_are d es k l.axis l.marks c.requires.0 (omega arith) l.invariant))
