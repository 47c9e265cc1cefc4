-- `grid::within_ceilings` meets its contract: the axes passed are in range, and their excess with that of the axes left is the
-- whole excess. Assumes nothing.
use Rattle.std.proofs.Common.{◌≤◌, arith, ap, sym, ◌∙◌, leb}
use Rattle.std.proofs.lemmas.Grind.{common_steps}
use Rattle.grid.specs.Index.{level}
use Rattle.grid.proofs.LoopSteps.{levels_step, levels_done, levels_outside, excess_step, excess-done, within_no, within-yes}
use Rattle.grid.proofs.within_ceilings.Goals as goal

pub returns-then-not-contains : goal.returns-then-not-contains
returns-then-not-contains c =
    let k = c.args.levels in
    let i = c.loop-level.level-index in
    let out : (1 ≤ level k i) × (level k i ≤ 8) → ⊥ = grind (arith, common_steps, c.if-not-contains.ensures.cases) in
    sym (within_no k (c.loop-level.invariant.1 ∙ levels_outside k i (omega arith) out))

pub loop-level-preserved : goal.loop-level-preserved
loop-level-preserved c =
    let k = c.args.levels in
    let i = c.loop-level.level-index in
    let in_range : (1 ≤ level k i) × (level k i ≤ 8) = grind (arith, common_steps, c.if-not-contains.ensures.cases) in
    (omega arith, c.loop-level.invariant.1 ∙ levels_step k i (omega arith) in_range.0 in_range.1, omega (arith, excess_step k i (omega arith)))

pub returns : goal.returns
returns c =
    let k = c.args.levels in
    let l = c.loop-level in
    sym (within-yes k (l.invariant.1 ∙ levels_done k l.level-index (omega arith)) ∙ ap (λ e. leb e 12) (omega (arith, excess-done k l.level-index (omega arith))))
