-- The cycle of calls {level_walk, point_walk} meets its contracts. What a call adds up is a part of the difference, of size at most
-- 2^40, so each sum fits.
-- Assumes nothing.
use borrow.Author.Rules.{sfits_of}
use mathlib.Core.Path.{◌≡◌, sym, ap, ap₂, ◌∙◌}
use mathlib.Core.List.{List}
use Prim.Native.Nat.{ℕ, ◌+◌, ◌-◌, ◌<◌}
use native.Mathlib.Omega.{arith}
use lib.IntN.{ℤ, pos, ◌+ℤ◌, ◌*ℤ◌}
use lib.ListN.{get_or, drop}
use mir.Syntax.{w64}
use mir.Val.{to_z, of_z}
use Rattle.sums.proofs.Words.{back, sum_fits, sum_is, product_fits}
use Rattle.rule.specs.Points.{new_count}
use Rattle.rule.specs.Weights.{difference_weight}
use Rattle.grid.specs.Index.{level}
use Rattle.grid.specs.Difference.{units, difference_walk}
use Rattle.grid.proofs.LoopSteps.{count_pos}
use Rattle.area.specs.declared.IndexRecord.{IndexRecord}
use Rattle.quadrature.specs.Readings.{record_at}
use Rattle.quadrature.specs.Ready.{Ready, WalkInvariant}
use Rattle.quadrature.specs.Parts.{left_at, points_left, walk_left}
use Rattle.quadrature.proofs.Walks.{walk_behind, walk_ones}
use Rattle.quadrature.proofs.WalkInvariants.{place_in_lem, target_ones, left_one, reading_in_lem, reading_range}
use Rattle.quadrature.proofs.Steps.{count_small, room_below, room_alone, point_adds, points_last}
use Rattle.quadrature.proofs.AtLevel.{low, high_eight, room_v, v_small, inner_is, walk_small, level_one, next_invariant, next_level, level_sum, further, rank_small, points_small, here_is}
use Rattle.quadrature.proofs.Walk.+level_walk_point_walk.Goals as goal

-- ---- past the last axis: the reading itself

module _ {d : ℕ} {rs : List IndexRecord} {store : List ℤ} {k : List ℕ} {axis place rank : ℕ} (ready : Ready d rs store k) (st : WalkInvariant rs k axis place rank) (e : axis ≡ d) where
  reading_left : (l : ℕ) → walk_left d k axis l (left_at rs store axis place rank) ≡ get_or store ((record_at rs place).first + rank) (pos 0)
  reading_left l =
      walk_behind d k axis l (left_at rs store axis place rank) (omega arith)
      ∙ ap (λ m. difference_walk m (left_at rs store axis place rank)) (target_ones ready st e)
      ∙ walk_ones (8 - axis) (left_at rs store axis place rank) ∙ left_one ready st e

-- ---- the goals of the level walk

pub level_walk-overflow_mul-inner : goal.level_walk-overflow_mul-inner
level_walk-overflow_mul-inner t c =
    let a = c.if-axis-self.true in
    product_fits c.args.weight c.difference_weight.result _ c.ranges.weight (sfits_of c.difference_weight.type_inv) c.difference_weight.ensures
    (v_small c.args.self.now.ready c.requires.stands a (c.requires.axis_le_axes.1 a) c.args.weight c.requires.target_bound)

-- after the call of `difference_weight`: the product is that of the weights
v_is : (t : ℕ) (c : goal.level_walk-After-difference_weight t) → to_z w64 (of_z w64 (to_z w64 (of_z w64 c.args.weight) *ℤ to_z w64 (of_z w64 c.difference_weight.result))) ≡ c.args.weight *ℤ difference_weight (level c.args.self.now.target.now c.args.axis) c.args.level
v_is t c =
    let a = c.if-axis-self.true in
    inner_is c.args.self.now.ready c.requires.stands a (c.requires.axis_le_axes.1 a) c.args.weight c.requires.target_bound c.difference_weight.result c.ranges.weight (sfits_of c.difference_weight.type_inv) c.difference_weight.ensures

pub level_walk-point_walk-here-requires : goal.level_walk-point_walk-here-requires
level_walk-point_walk-here-requires t c =
    let ready = c.args.self.now.ready in
    let st = c.requires.stands in
    let a = c.if-axis-self.true in
    let e = c.requires.axis_le_axes.1 a in (
      omega (arith, count_small c.args.level (high_eight ready st a e), c.decreases),
      (c.requires.stands, ((a, e, count_pos c.args.level (low ready st a e)), rw (v_is t c) (room_v ready st a e c.args.weight c.requires.target_bound))),
    )

pub level_walk-link-next-requires : goal.level_walk-link-next-requires
level_walk-link-next-requires t c = (place_in_lem c.args.self.now.ready c.requires.stands, omega (arith, c.args.self.now.ready.axes))

pub level_walk-level_walk-rest-requires : goal.level_walk-level_walk-rest-requires
level_walk-level_walk-rest-requires t c =
    let ready = c.args.self.now.ready in
    let st = c.requires.stands in
    let a = c.if-axis-self.true in
    let e = c.requires.axis_le_axes.1 a in
    let b = c.if-level-top.true in (
      omega (arith, high_eight ready st a e, c.decreases),
      (
        next_invariant ready st a e b c.link-next.result c.link-next.ensures,
        (
          (c.requires.axis_le_axes.0, λ _. next_level ready st a e b c.link-next.result c.link-next.ensures),
          rw (back c.args.weight c.ranges.weight) c.requires.target_bound,
        ),
      ),
    )

-- after both calls: what they gave comes to what this call is to return
both_are : (t : ℕ) (c : goal.level_walk-After-level_walk-rest t)
    → c.point_walk-here.result +ℤ c.level_walk-rest.result ≡ c.args.weight *ℤ walk_left c.args.self.now.axes c.args.self.now.target.now c.args.axis c.args.level (left_at c.args.self.now.records.now c.args.self.now.store.now c.args.axis c.args.place c.args.rank)
both_are t c =
    let ready = c.args.self.now.ready in
    let st = c.requires.stands in
    let a = c.if-axis-self.true in
    let e = c.requires.axis_le_axes.1 a in
    let v = inner_is ready st a e c.args.weight c.requires.target_bound c.difference_weight.result c.ranges.weight (sfits_of c.difference_weight.type_inv) c.difference_weight.ensures in
    level_sum ready st a e c.if-level-top.true c.link-next.result c.link-next.ensures c.args.weight c.point_walk-here.result c.level_walk-rest.result
    (rw v at c.point_walk-here.ensures) (rw (back c.args.weight c.ranges.weight) at c.level_walk-rest.ensures)

pub level_walk-overflow_add-result : goal.level_walk-overflow_add-result
level_walk-overflow_add-result t c =
    let a = c.if-axis-self.true in
    sum_fits c.point_walk-here.result c.level_walk-rest.result _ (sfits_of c.point_walk-here.type_inv) (sfits_of c.level_walk-rest.type_inv) (both_are t c)
    (walk_small c.args.self.now.ready c.requires.stands a (c.requires.axis_le_axes.1 a) c.args.weight c.requires.target_bound)

pub level_walk-weighted_reading-requires-clause-place_in_bounds :
    goal.level_walk-weighted_reading-requires-clause-place_in_bounds
level_walk-weighted_reading-requires-clause-place_in_bounds t c =
    let e : c.args.axis ≡ c.args.self.now.axes = omega arith in
    (place_in_lem c.args.self.now.ready c.requires.stands, reading_in_lem c.args.self.now.ready c.requires.stands e)

pub level_walk-weighted_reading-requires-clause-weight_bound :
    goal.level_walk-weighted_reading-requires-clause-weight_bound
level_walk-weighted_reading-requires-clause-weight_bound t c =
    let e : c.args.axis ≡ c.args.self.now.axes = omega arith in (
      rw (back c.args.weight c.ranges.weight) (room_alone c.args.weight (units (drop c.args.axis c.args.self.now.target.now)) c.requires.target_bound),
      reading_range c.args.self.now.ready c.requires.stands e,
    )

pub level_walk-returns-then-level-top : goal.level_walk-returns-then-level-top
level_walk-returns-then-level-top t c =
    let a = c.if-axis-self.true in
    sum_is c.point_walk-here.result c.level_walk-rest.result _ (sfits_of c.point_walk-here.type_inv) (sfits_of c.level_walk-rest.type_inv) (both_are t c)
    (walk_small c.args.self.now.ready c.requires.stands a (c.requires.axis_le_axes.1 a) c.args.weight c.requires.target_bound)

pub level_walk-returns-else-level-top : goal.level_walk-returns-else-level-top
level_walk-returns-else-level-top t c =
    let ready = c.args.self.now.ready in
    let st = c.requires.stands in
    let a = c.if-axis-self.true in
    let e = c.requires.axis_le_axes.1 a in
    let v = inner_is ready st a e c.args.weight c.requires.target_bound c.difference_weight.result c.ranges.weight (sfits_of c.difference_weight.type_inv) c.difference_weight.ensures in
    back c.point_walk-here.result (sfits_of c.point_walk-here.type_inv)
    ∙ level_one ready st a e c.args.weight c.point_walk-here.result c.if-level-top.false (rw v at c.point_walk-here.ensures)

pub level_walk-returns-else-axis-self : goal.level_walk-returns-else-axis-self
level_walk-returns-else-axis-self t c =
    let e : c.args.axis ≡ c.args.self.now.axes = omega arith in
    back c.weighted_reading.result (sfits_of c.weighted_reading.type_inv) ∙ c.weighted_reading.ensures
    ∙ ap₂ ◌*ℤ◌ (back c.args.weight c.ranges.weight) (sym (reading_left c.args.self.now.ready c.requires.stands e c.args.level))

-- ---- the goals of the point walk

pub point_walk-overflow_mul-below : goal.point_walk-overflow_mul-below
point_walk-overflow_mul-below t c =
    let r = c.requires.axis_lt_axes in
    let small = rank_small c.args.self.now.ready c.requires.stands r.0 r.1 c.args.point r.2 in
    rw c.new_count-count.ensures (omega arith)

pub point_walk-overflow_add-below : goal.point_walk-overflow_add-below
point_walk-overflow_add-below t c =
    let r = c.requires.axis_lt_axes in
    let small = rank_small c.args.self.now.ready c.requires.stands r.0 r.1 c.args.point r.2 in
    rw c.new_count-count.ensures (omega arith)

pub point_walk-level_walk-here-requires : goal.point_walk-level_walk-here-requires
point_walk-level_walk-here-requires t c =
    let ready = c.args.self.now.ready in
    let st = c.requires.stands in
    let r = c.requires.axis_lt_axes in (
      omega (arith, c.decreases),
      (
        rw c.new_count-count.ensures (further ready st r.0 r.1 c.args.point r.2),
        (
          (omega arith, λ q. sym (st.ones (c.args.axis + 1) (omega arith) (omega (arith, ready.axes)))),
          rw (back c.args.weight c.ranges.weight) (room_below c.args.weight c.args.level (units (drop (c.args.axis + 1) c.args.self.now.target.now)) (low ready st r.0 r.1) c.requires.target_bound),
        ),
      ),
    )

pub point_walk-point_walk-rest-requires : goal.point_walk-point_walk-rest-requires
point_walk-point_walk-rest-requires t c =
    let h : c.args.point + 1 < new_count c.args.level = rw c.new_count-count.ensures at c.if-next-count.true in (
      omega (arith, c.decreases),
      (c.requires.stands, ((c.requires.axis_lt_axes.0, c.requires.axis_lt_axes.1, h), rw (back c.args.weight c.ranges.weight) c.requires.target_bound)),
    )

-- after both calls: what they gave comes to what this call is to return
points_are : (t : ℕ) (c : goal.point_walk-After-point_walk-rest t)
    → c.level_walk-here.result +ℤ c.point_walk-rest.result ≡ c.args.weight *ℤ points_left (new_count c.args.level - c.args.point) c.args.point c.args.level (drop (c.args.axis + 1) c.args.self.now.target.now) (left_at c.args.self.now.records.now c.args.self.now.store.now c.args.axis c.args.place c.args.rank)
points_are t c =
    let r = c.requires.axis_lt_axes in
    let w = back c.args.weight c.ranges.weight in
    point_adds (drop (c.args.axis + 1) c.args.self.now.target.now) c.args.level c.args.point c.args.weight _ r.2 c.level_walk-here.result c.point_walk-rest.result
    (here_is c.args.self.now.ready c.requires.stands r.0 r.1 c.args.point r.2 c.args.weight c.level_walk-here.result c.new_count-count.result c.new_count-count.ensures (rw w at c.level_walk-here.ensures))
    (rw w at c.point_walk-rest.ensures)

pub point_walk-overflow_add-result : goal.point_walk-overflow_add-result
point_walk-overflow_add-result t c =
    let r = c.requires.axis_lt_axes in
    sum_fits c.level_walk-here.result c.point_walk-rest.result _ (sfits_of c.level_walk-here.type_inv) (sfits_of c.point_walk-rest.type_inv) (points_are t c)
    (points_small c.args.self.now.ready c.requires.stands r.0 r.1 c.args.point r.2 c.args.weight c.requires.target_bound)

pub point_walk-returns-then-next-count : goal.point_walk-returns-then-next-count
point_walk-returns-then-next-count t c =
    let r = c.requires.axis_lt_axes in
    sum_is c.level_walk-here.result c.point_walk-rest.result _ (sfits_of c.level_walk-here.type_inv) (sfits_of c.point_walk-rest.type_inv) (points_are t c)
    (points_small c.args.self.now.ready c.requires.stands r.0 r.1 c.args.point r.2 c.args.weight c.requires.target_bound)

pub point_walk-returns-else-next-count : goal.point_walk-returns-else-next-count
point_walk-returns-else-next-count t c =
    let r = c.requires.axis_lt_axes in
    back c.level_walk-here.result (sfits_of c.level_walk-here.type_inv)
    ∙ points_last (drop (c.args.axis + 1) c.args.self.now.target.now) c.args.level c.args.point c.args.weight _ r.2 c.level_walk-here.result (rw c.new_count-count.ensures at c.if-next-count.false)
    (here_is c.args.self.now.ready c.requires.stands r.0 r.1 c.args.point r.2 c.args.weight c.level_walk-here.result c.new_count-count.result c.new_count-count.ensures (rw (back c.args.weight c.ranges.weight) at c.level_walk-here.ensures))
