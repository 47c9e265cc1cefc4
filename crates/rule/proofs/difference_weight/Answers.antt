-- `rule::difference_weight` meets its contract: each arm returns the definition's case. Assumes nothing.
use mathlib.Core.Path.{sym, ◌∙◌}
use mathlib.Core.Logic.{⊎_elim}
use native.Mathlib.Omega.{arith}
use Rattle.rule.proofs.Cases.{difference_none, difference_beyond, difference_one, difference_two_ends, difference_two_centre}
use Rattle.rule.proofs.Cases.{difference_new, difference_older, ends_minus_one_lem, ends_minus_one_other}
use Rattle.rule.proofs.difference_weight.Goals as goal

pub returns-then-point-eq0 : goal.returns-then-point-eq0
returns-then-point-eq0 c =
    sym (⊎_elim (difference_none c.args.rule c.args.point) (λ h. difference_beyond c.args.rule c.args.point h.1) c.then-point-eq0.either)

pub returns-in-2-point : goal.returns-in-2-point
returns-in-2-point c = sym (difference_two_ends _ _ (omega arith) (omega arith))

pub returns-in_default : goal.returns-in_default
returns-in_default c = sym (difference_two_centre _ _ (omega arith) (omega arith))

pub returns-in-0-to-1 : goal.returns-in-0-to-1
returns-in-0-to-1 c = sym (difference_one _ _ (omega arith) (omega arith) (omega arith))

pub returns-in-2-point-2 : goal.returns-in-2-point-2
returns-in-2-point-2 c = sym (difference_older _ _ (omega arith) (omega arith) ∙ ends_minus_one_lem _ (omega arith))

pub returns-then-point-rule : goal.returns-then-point-rule
returns-then-point-rule c = sym (difference_new _ _ (omega arith) (omega arith))

pub returns-else-point-rule : goal.returns-else-point-rule
returns-else-point-rule c = sym (difference_older _ _ (omega arith) (omega arith) ∙ ends_minus_one_other _ (omega arith) (omega arith))
