-- `quadrature::Walk::tensor_sum` meets its contract. What a loop has added up is a part of the rule, of size at most 2^40, so each sum fits.
-- Assumes nothing.
use borrow.Author.Rules.{sfits_of}
use Rattle.std.proofs.Common.{◌≡◌, ◌≤◌, ◌<◌, ◌+◌, ◌*◌, ◌-◌, ◌^◌, ℕ, length, drop, refl, sym, ap, ◌∙◌, arith}
use Rattle.std.specs.Prelude.{ℤ, pos, nat_abs, get_or}
use mir.Syntax.{w64}
use mir.Val.{to_z}
use Rattle.sums.specs.Sums.{sum_to}
use Rattle.sums.proofs.Ring.{one-*ℤ}
use Rattle.sums.proofs.Words.{back}
use Rattle.rule.specs.Points.{new_count}
use Rattle.grid.specs.Difference.{behind}
use Rattle.grid.specs.Tensor.{tensor_sum}
use Rattle.quadrature.specs.Readings.{record_at}
use Rattle.quadrature.specs.Parts.{left_at, points_done}
use Rattle.quadrature.proofs.WalkInvariants.{place_in_lem, target_ones, left_one, reading_in_lem, reading_range}
use Rattle.quadrature.proofs.Tensors.{tensor_ones}
use Rattle.quadrature.proofs.Rounds.{round_start, round_higher, round_end, product_fits_here, sum_fits}
use Rattle.quadrature.proofs.AtLevel.{high_eight, further, rank_small, next_one, rule_small, rule_is}
use Rattle.quadrature.proofs.Steps.{count_small}
use Rattle.quadrature.proofs.Running.{running_fits, running_next}
use Rattle.quadrature.proofs.Walk.+tensor_sum.Goals as goal
use Rattle.quadrature.proofs.Walk.+tensor_sum.Goals.{then-level-top, else-level-top}

-- ---- no axis is left

pub weighted_reading-requires-clause-place_in_bounds : goal.weighted_reading-requires-clause-place_in_bounds
weighted_reading-requires-clause-place_in_bounds t c =
    let ready = c.args.self.now.ready in
    let st = c.requires.stands in
    (place_in_lem ready st, reading_in_lem ready st (omega arith))

pub weighted_reading-requires-clause-weight_bound : goal.weighted_reading-requires-clause-weight_bound
weighted_reading-requires-clause-weight_bound t c = (omega arith, reading_range c.args.self.now.ready c.requires.stands (omega arith))

pub returns-then-self-axis : goal.returns-then-self-axis
returns-then-self-axis t c =
    let ready = c.args.self.now.ready in
    let st = c.requires.stands in
    let rs = c.args.self.now.records.now in
    let s = c.args.self.now.store.now in
    let e : c.args.axis ≡ c.args.self.now.axes = omega (arith, c.requires.axis_le_axes.0) in
    let Q = left_at rs s c.args.axis c.args.place c.args.rank in
    back c.weighted_reading.result (sfits_of c.weighted_reading.type_inv) ∙ c.weighted_reading.ensures
    ∙ one-*ℤ (get_or s ((record_at rs c.args.place).first + c.args.rank) (pos 0))
    ∙ sym (ap (λ m. tensor_sum m Q) (target_ones ready st e) ∙ tensor_ones (8 - c.args.axis) Q ∙ left_one ready st e)

-- ---- the points of a level

pub loop-point-init : goal.loop-point-init
unfolding points_done
loop-point-init t c = (omega arith, unfold sum_to in refl)

-- at a point: its rank is in the store, and what the call below it gives is the rule there
module _ (t : ℕ) (c : goal.In-loop-point t) where
  point_in : c.loop-point.point < new_count c.loop-level.level
  point_in = rw (sym c.new_count-count.ensures) (omega arith)

  small : c.args.rank * new_count c.loop-level.level + c.loop-point.point < length c.args.self.now.store.now
  small = rank_small c.args.self.now.ready c.loop-level.invariant.invariant c.if-self-axis.false (sym c.loop-level.invariant.here) c.loop-point.point point_in

pub overflow_mul-below : goal.overflow_mul-below
overflow_mul-below t c = let h = small t c in rw c.new_count-count.ensures (omega arith)

pub overflow_add-below : goal.overflow_add-below
overflow_add-below t c = let h = small t c in rw c.new_count-count.ensures (omega arith)

pub tensor_sum-sum-requires : goal.tensor_sum-sum-requires
tensor_sum-sum-requires t c =
    let ready = c.args.self.now.ready in
    let round = c.loop-level.invariant in
    let left = c.if-self-axis.false in
    let p = c.loop-point.point in (
      omega (arith, c.decreases),
      (
        rw c.new_count-count.ensures (further ready round.invariant left (sym round.here) p (point_in t c)),
        (omega arith, next_one ready round.invariant left (sym round.here) p (point_in t c)),
      ),
    )

-- after the call: the sum with one term more
module _ (t : ℕ) (c : goal.After-tensor_sum-sum t) where
  at_point : c.loop-point.point < new_count c.loop-level.level
  at_point = rw (sym c.new_count-count.ensures) (omega arith)

  -- what each point adds
  abbrev term : ℕ → ℤ
  term i = tensor_sum (drop (c.args.axis + 1) c.args.self.now.target.now) (behind (left_at c.args.self.now.records.now c.args.self.now.store.now c.args.axis c.loop-level.at c.args.rank) c.loop-level.level i)

  next : c.tensor_sum-sum.result ≡ term c.loop-point.point
  next =
      let round = c.loop-level.invariant in
      rule_is c.args.self.now.ready round.invariant c.if-self-axis.false (sym round.here) c.loop-point.point at_point c.new_count-count.ensures c.tensor_sum-sum.ensures

  size : nat_abs c.tensor_sum-sum.result ≤ 2 ^ 40
  size =
      let round = c.loop-level.invariant in
      omega (arith, ap nat_abs next, rule_small c.args.self.now.ready round.invariant c.if-self-axis.false (sym round.here) c.loop-point.point at_point)

  room : (c.loop-point.point + 1) * 2 ^ 40 ≤ 2 ^ 62
  room =
      let round = c.loop-level.invariant in
      omega (arith, at_point, count_small c.loop-level.level (high_eight c.args.self.now.ready round.invariant c.if-self-axis.false (sym round.here)))

pub overflow_add-sum : goal.overflow_add-sum
unfolding points_done
overflow_add-sum t c =
    let l = c.loop-point in
    running_fits (2 ^ 40) (term t c) l.point (to_z w64 l.sum-bits) c.tensor_sum-sum.result (room t c) l.invariant.0 l.invariant.1 (size t c) (sfits_of c.tensor_sum-sum.type_inv) (next t c)

pub loop-point-preserved : goal.loop-point-preserved
unfolding points_done
loop-point-preserved t c =
    let l = c.loop-point in
    running_next (2 ^ 40) (term t c) l.point (to_z w64 l.sum-bits) c.tensor_sum-sum.result (room t c) l.invariant.0 l.invariant.1 (size t c) (sfits_of c.tensor_sum-sum.type_inv) (next t c)

-- ---- the levels of an axis

pub loop-level-init : goal.loop-level-init
loop-level-init t c =
    let left = c.if-self-axis.false in
    round_start c.args.self.now.ready left c.requires.stands (c.requires.axis_le_axes.1 left) refl

pub overflow_mul-total : goal.overflow_mul-total
overflow_mul-total t c =
    product_fits_here c.args.self.now.ready c.if-self-axis.false c.requires.stands c.loop-level.invariant
    c.whole_weight.ensures (sfits_of c.whole_weight.type_inv) c.loop-point.invariant.1 (omega (arith, c.new_count-count.ensures))

pub overflow_add-total : goal.overflow_add-total
overflow_add-total t c =
    sum_fits c.args.self.now.ready c.if-self-axis.false c.requires.stands c.loop-level.invariant
    c.whole_weight.ensures (sfits_of c.whole_weight.type_inv) c.loop-point.invariant.1 (omega (arith, c.new_count-count.ensures))

pub link-at-requires : goal.link-at-requires
link-at-requires t c =
    let ready = c.args.self.now.ready in
    (place_in_lem ready c.loop-level.invariant.invariant, omega (arith, ready.axes))

pub loop-level-preserved : goal.loop-level-preserved
loop-level-preserved t c =
    elim c.if-level-top.branch [
      | then-level-top w ↦
          round_higher c.args.self.now.ready c.if-self-axis.false c.requires.stands c.loop-level.invariant
          c.whole_weight.ensures (sfits_of c.whole_weight.type_inv) c.loop-point.invariant.1 (omega (arith, c.new_count-count.ensures)) w.if-level-top.true (w.at-is ∙ w.link-at.ensures)
      | else-level-top w ↦ absurd (omega arith)
    ]

pub returns-after-level-top : goal.returns-after-level-top
returns-after-level-top t c =
    round_end c.args.self.now.ready c.if-self-axis.false c.requires.stands c.loop-level.invariant
    c.whole_weight.ensures (sfits_of c.whole_weight.type_inv) c.loop-point.invariant.1 (omega (arith, c.new_count-count.ensures)) (omega arith)
