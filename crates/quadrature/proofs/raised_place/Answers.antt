-- `quadrature::raised_place` meets its contract: the axes passed are raised where marked, and where a link names no held place the
-- raised index is not held. Assumes nothing.
use Rattle.std.proofs.Common.{◌≡◌, sym, ap, ◌∙◌, arith}
use Rattle.std.specs.Prelude.{Some}
use Rattle.grid.specs.Coefficient.{raised_on, marks}
use Rattle.grid.proofs.LoopSteps.{raising, raising_start, raising_out}
use Rattle.area.specs.Lookup.{lookup_in}
use Rattle.quadrature.specs.Readings.{record_at, place_in}
use Rattle.quadrature.proofs.Raised.{step_held, step_none, raising_end, found_place}
use Rattle.quadrature.proofs.raised_place.Goals as goal
use Rattle.quadrature.proofs.raised_place.Goals.{then-mask-axis-eq1+else-len-at, else-mask-axis-eq1}

pub loop-axis-init : goal.loop-axis-init
loop-axis-init c = (c.requires.1, raising_start (record_at c.args.held.now c.args.place).levels c.args.mask)

pub returns-then-len-at : goal.returns-then-len-at
returns-then-len-at c =
    let l = c.loop-axis in
    sym (ap (lookup_in c.args.held.now) l.invariant.1
    ∙ step_none c.requires.0 l.at l.invariant.0 c.args.mask l.axis (omega (arith, c.requires.0.axes)) c.if-mask-axis-eq1.true c.link-at.result (sym c.link-at.ensures) (omega (arith, c.if-len-at.true)))

pub loop-axis-preserved : goal.loop-axis-preserved
loop-axis-preserved c =
    let l = c.loop-axis in
    elim c.if-mask-axis-eq1.branch [
      | then-mask-axis-eq1+else-len-at w ↦
          let q = w.link-at.result in
          rw w.at-is (
            omega (arith, w.if-len-at.false),
            l.invariant.1 ∙ step_held c.requires.0 l.at l.invariant.0 c.args.mask l.axis (omega (arith, c.requires.0.axes)) w.if-mask-axis-eq1.true q (sym w.link-at.ensures) (omega (arith, w.if-len-at.false)),
          )
      | else-mask-axis-eq1 w ↦ rw w.at-is (
        l.invariant.0,
        l.invariant.1 ∙ raising_out (record_at c.args.held.now l.at).levels c.args.mask l.axis (omega (arith, c.requires.0.axes)) (c.requires.0.eight l.at l.invariant.0) w.if-mask-axis-eq1.false,
      )
    ]

pub returns : goal.returns
returns c =
    let l = c.loop-axis in
    let rs = c.args.held.now in
    let lv = (record_at rs l.at).levels in
    let e : raised_on (record_at rs c.args.place).levels (marks 8 c.args.mask) ≡ lv =
    l.invariant.1 ∙ ap (λ a. raising lv c.args.mask a) (omega arith) ∙ raising_end lv c.args.mask c.args.axes c.requires.2 in
    let own : place_in rs lv ≡ l.at = c.requires.0.own l.at l.invariant.0 in
    sym (ap (lookup_in rs) e ∙ found_place rs lv c.requires.0.few (omega (arith, l.invariant.0)) ∙ ap Some own)
