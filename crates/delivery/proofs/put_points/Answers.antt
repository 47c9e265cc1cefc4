-- `delivery::put_points` meets its contract: the points passed are written one after the other, and no later byte has changed.
-- Assumes nothing.
use borrow.Author.Rules.{rules}
use mathlib.Core.Path.{◌≡◌, refl, sym, ap, ◌∙◌}
use mathlib.Core.List.{List}
use Prim.Native.Nat.{ℕ, ◌+◌, ◌*◌, ◌<◌, ◌≤◌}
use native.Mathlib.Omega.{arith}
use native.Mathlib.Nat.{zero-add}
use native.Mathlib.Numerals.{add-one}
use lib.ListN.{length, take}
use lib.Seq.{sets, length-sets}
use Rattle.sums.proofs.Lists.{sets-append}
use Rattle.grid.specs.Block.{block_size, point_of}
use Rattle.grid.proofs.LoopSteps.{size_small}
use Rattle.machine.specs.Points.{positions_of}
use Rattle.machine.proofs.Points.{bytes, bytes_suc, bytes_length}
use Rattle.delivery.proofs.put_points.Goals as goal

-- one more point after w
one_more : (d : ℕ) (k : List ℕ) (n w : ℕ) (b : List ℕ) → d ≤ length k → n + w < block_size k
    → sets (sets b 0 (bytes d k n w)) (w * d) (take d (point_of k (n + w))) ≡ sets b 0 (bytes d k n (w + 1))
one_more d k n w b few h =
    let e : 0 + length (bytes d k n w) ≡ w * d = zero-add _ ∙ bytes_length d k n few w (omega (arith, h)) in
    sym
    (ap (λ m. sets b 0 (bytes d k n m)) (add-one w)
    ∙ ap (sets b 0) (bytes_suc d k n w h)
    ∙ sets-append b 0 (bytes d k n w) (take d (point_of k (n + w)))
    ∙ ap (λ m. sets (sets b 0 (bytes d k n w)) m (take d (point_of k (n + w)))) e)

pub loop-written-init : goal.loop-written-init
unfolding positions_of
loop-written-init c = (refl, refl)

pub overflow_add-n : goal.overflow_add-n
overflow_add-n c =
    let small = size_small c.args.levels c.requires.2 in
    omega arith

pub loop-written-preserved : goal.loop-written-preserved
loop-written-preserved c =
    let l = c.loop-written in
    let b = c.args.buffer.now in
    let few : length c.args.levels ≡ 8 = search rules in
    let is =
    c.put_point.ensures
    ∙ ap (λ x. sets x (l.written * c.args.axes) (take c.args.axes c.point_of-point.result)) l.invariant.1
    ∙ ap (λ x. sets (sets b 0 (bytes c.args.axes c.args.levels c.args.n l.written)) (l.written * c.args.axes) (take c.args.axes x)) c.point_of-point.ensures
    ∙ one_more c.args.axes c.args.levels c.args.n l.written b (omega (arith, few, c.requires.0)) (omega (arith, c.requires.3))
    in
    (ap length is ∙ length-sets b 0 (bytes c.args.axes c.args.levels c.args.n (l.written + 1)), is)
