-- `rule::whole_weight` meets its contract: each arm returns the definition's case. Assumes nothing.
use mathlib.Core.Path.{sym, ◌∙◌}
use mathlib.Core.Logic.{⊎_elim}
use native.Mathlib.Omega.{arith}
use Rattle.rule.proofs.Cases.{whole-none, whole_beyond, whole-one, whole_inside, ends_one_lem, ends_one_other}
use Rattle.rule.proofs.whole_weight.Goals as goal

pub returns-then-point-eq0 : goal.returns-then-point-eq0
returns-then-point-eq0 c =
    sym (⊎_elim (whole-none c.args.rule c.args.point) (λ h. whole_beyond c.args.rule c.args.point h.1) c.then-point-eq0.either)

pub returns-in-0-to-1 : goal.returns-in-0-to-1
returns-in-0-to-1 c = sym (whole-one _ _ (omega arith) (omega arith) (omega arith))

pub returns-in-2 : goal.returns-in-2
returns-in-2 c = sym (whole_inside _ _ (omega arith) (omega arith) ∙ ends_one_lem _ (omega arith))

pub returns-in_default : goal.returns-in_default
returns-in_default c = sym (whole_inside _ _ (omega arith) (omega arith) ∙ ends_one_other _ (omega arith) (omega arith))
