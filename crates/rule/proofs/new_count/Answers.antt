-- `rule::new_count` meets its contract: from level 3 up the shift loses no bit. Assumes nothing.
use mathlib.Core.Path.{sym, ◌∙◌}
use native.Mathlib.Omega.{arith}
use Rattle.rule.proofs.Cases.{count_zero, count_one, count_two, count_more, shift_one}
use Rattle.rule.proofs.new_count.Goals as goal

pub returns-in-0 : goal.returns-in-0
returns-in-0 c = sym (count_zero _ (omega arith))

pub returns-in-1 : goal.returns-in-1
returns-in-1 c = sym (count_one _ (omega arith))

pub returns-in-2 : goal.returns-in-2
returns-in-2 c = sym (count_two _ (omega arith))

pub returns-in_default : goal.returns-in_default
returns-in_default c = shift_one _ (omega arith) ∙ sym (count_more _ (omega arith))
