-- `rule::new_point` meets its contract: from level 3 up the n-th odd number is below 2^(k−1), so the shift loses no bit.
-- Assumes nothing.
use mathlib.Core.Path.{sym, ◌∙◌}
use native.Mathlib.Omega.{arith}
use Rattle.rule.proofs.Cases.{count_two, point_one, point_two, point_more, shift_odd, number_small}
use Rattle.rule.proofs.new_point.Goals as goal

pub overflow_cast-result : goal.overflow_cast-result
overflow_cast-result c = omega (arith, number_small c.args.level c.args.n (omega arith) (omega arith))

pub overflow_mul-result : goal.overflow_mul-result
overflow_mul-result c = omega (arith, count_two c.args.level (omega arith))

pub overflow_cast-result-in_default : goal.overflow_cast-result-in_default
overflow_cast-result-in_default c =
    omega (arith, number_small c.args.level c.args.n (omega arith) (omega arith))

pub overflow_mul-result-in_default : goal.overflow_mul-result-in_default
overflow_mul-result-in_default c =
    omega (arith, number_small c.args.level c.args.n (omega arith) (omega arith))

pub overflow_add-result : goal.overflow_add-result
overflow_add-result c =
    omega (arith, number_small c.args.level c.args.n (omega arith) (omega arith))

pub returns-in-2 : goal.returns-in-2
returns-in-2 c = sym (point_two _ _ (omega arith))

pub returns-in-0-to-1 : goal.returns-in-0-to-1
returns-in-0-to-1 c = sym (point_one _ _ (omega arith))

pub returns-in_default : goal.returns-in_default
returns-in_default c =
    shift_odd c.args.level c.args.n (omega arith) (omega arith) (omega arith)
    ∙ sym (point_more _ _ (omega arith))
