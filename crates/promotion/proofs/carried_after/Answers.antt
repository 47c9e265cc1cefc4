-- `promotion::carried_after` meets its contract: by whether the index is at a ceiling. Assumes nothing.
use mathlib.Core.Path.{sym, ap, ◌∙◌}
use mathlib.Core.Bool.{cond}
use Prim.Native.Nat.{◌+◌}
use native.Mathlib.Nat.{add-zero}
use Rattle.promotion.proofs.carried_after.Goals as goal

pub returns-then-at_ceiling : goal.returns-then-at_ceiling
returns-then-at_ceiling c =
    let a = c.args in
    ap (λ n. a.carried + n) c.from.ensures ∙ ap (λ t. a.carried + cond t a.indicator 0) (sym c.if-at_ceiling.true ∙ c.at_ceiling.ensures)

pub returns-else-at_ceiling : goal.returns-else-at_ceiling
returns-else-at_ceiling c =
    let a = c.args in
    sym (add-zero a.carried) ∙ ap (λ t. a.carried + cond t a.indicator 0) (sym c.if-at_ceiling.false ∙ c.at_ceiling.ensures)
