-- `quadrature::unit_sum` meets its contract: the units so far and those of the axes left are the whole. Assumes nothing.
use Rattle.std.proofs.Common.{◌≡◌, ◌≤◌, ◌<◌, ◌+◌, ℕ, zero, suc, List, length, drop, refl, arith}
use Rattle.rule.specs.Rules.{unit}
use Rattle.grid.specs.Index.{level}
use Rattle.grid.specs.Difference.{units}
use Rattle.grid.proofs.LoopSteps.{axis_left, none_left}
use Rattle.quadrature.proofs.unit_sum.Goals as goal
use Rattle.quadrature.proofs.unit_sum.Goals.{then-level-gt1, else-level-gt1}

step : (k : List ℕ) (a : ℕ) → a < length k → units (drop a k) ≡ unit (level k a) + units (drop (a + 1) k)
unfolding units
step k a h = rw (axis_left k a h)

done : (k : List ℕ) (a : ℕ) → length k ≤ a → units (drop a k) ≡ 0
unfolding units
done k a h = rw (none_left k a h)

above : (l : ℕ) → 1 < l → unit l ≡ l
unfolding unit
above zero h = absurd (omega arith)
above (suc zero) h = absurd (omega arith)
above (suc (suc l)) h = refl

at_one : (l : ℕ) → l ≤ 1 → unit l ≡ 0
unfolding unit
at_one zero h = refl
at_one (suc zero) h = refl
at_one (suc (suc l)) h = absurd (omega arith)

pub overflow_add-units : goal.overflow_add-units
overflow_add-units c = omega (arith, c.requires.high c.loop-level.level-index (omega arith))

pub loop-level-preserved : goal.loop-level-preserved
loop-level-preserved c =
    let k = c.args.target in
    let i = c.loop-level.level-index in
    let high : level k i ≤ 8 = c.requires.high i (omega arith) in
    let e = step k i (omega arith) in
    elim c.if-level-gt1.branch [
      | then-level-gt1 w ↦ (omega arith, omega (arith, above (level k i) w.if-level-gt1.true))
      | else-level-gt1 w ↦ (omega arith, omega (arith, at_one (level k i) w.if-level-gt1.false))
    ]

pub returns : goal.returns
returns c = omega (arith, done c.args.target c.loop-level.level-index (omega arith))
