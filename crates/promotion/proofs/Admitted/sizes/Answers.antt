-- `promotion::Admitted::sizes` meets its contract: the sizes so far and those of the axes left are the whole. Assumes nothing.
use mathlib.Core.Path.{◌≡◌, refl, ap, ◌∙◌}
use mathlib.Core.List.{List, [], ◌∷◌}
use Prim.Native.Nat.{ℕ, ◌+◌, ◌-◌}
use native.Mathlib.Omega.{arith}
use Rattle.promotion.specs.Marks.{marked_axes, Neighbours}
use Rattle.promotion.proofs.Marks.{marked, passing_on, passing_off, passing_end, passing_all}
use Rattle.machine.specs.Promote.{passing}
use Rattle.grid.specs.Index.{forward}
use Rattle.grid.specs.Block.{block_size}
use Rattle.grid.proofs.LoopSteps.{size_small}
use Rattle.writing.specs.Changes.{sizes_of}
use Rattle.promotion.proofs.Admitted.sizes.Goals.{then-self-axis, else-self-axis}
use Rattle.promotion.proofs.Admitted.sizes.Goals as goal

on : (k : List ℕ) (a : ℕ) (rest : List ℕ) → sizes_of k (a ∷ rest) ≡ block_size (forward k a) + sizes_of k rest
unfolding sizes_of
on k a rest = refl

off : (k : List ℕ) → sizes_of k [] ≡ 0
unfolding sizes_of
off k = refl

pub loop-axis-init : goal.loop-axis-init
loop-axis-init c =
    let s = c.self.inside in
    (omega arith, omega (arith, ap (sizes_of s.levels) (passing_all s.marks s.axes)))

pub overflow_add-sum : goal.overflow_add-sum
overflow_add-sum c =
    let l = c.loop-axis in
    let s = c.self.inside in
    let i = c.self.invariant in
    omega (arith, i.few, ap block_size c.forward_neighbour.ensures, c.block_size-sum.ensures, size_small (forward s.levels l.axis) (i.within l.axis (omega arith) c.if-self-axis.true))

pub loop-axis-preserved : goal.loop-axis-preserved
loop-axis-preserved c =
    let l = c.loop-axis in
    let s = c.self.inside in
    let i = c.self.invariant in
    let k = s.levels in
    elim c.if-self-axis.branch [
      | then-self-axis w ↦
          let size = w.block_size-sum.ensures ∙ ap block_size w.forward_neighbour.ensures in
          let small = size_small (forward k l.axis) (i.within l.axis (omega arith) w.if-self-axis.true) in
          let step = ap (sizes_of k) (passing_on s.marks s.axes l.axis (omega arith) w.if-self-axis.true) ∙ on k l.axis (passing (s.axes - (l.axis + 1)) (l.axis + 1) (marked s.marks)) in
          (omega (arith, w.sum-is, size, small, l.invariant.0), omega (arith, w.sum-is, l.invariant.1, size, step))
      | else-self-axis w ↦ (omega (arith, w.sum-is, l.invariant.0), omega (arith, w.sum-is, l.invariant.1, ap (sizes_of k) (passing_off s.marks s.axes l.axis (omega arith) w.if-self-axis.false)))
    ]

pub returns : goal.returns
returns c =
    let l = c.loop-axis in
    let s = c.self.inside in
    let whole : l.sum ≡ sizes_of s.levels (marked_axes s.axes s.marks) = omega (arith, l.invariant.1, ap (sizes_of s.levels) (passing_end s.marks s.axes l.axis (omega arith)) ∙ off s.levels) in
    (whole ∙ ap (λ (n : Neighbours). sizes_of n.index n.along) c.self.view_is, omega (arith, l.invariant.0, c.self.invariant.few))
