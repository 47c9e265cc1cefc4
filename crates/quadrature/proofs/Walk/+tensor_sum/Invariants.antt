-- `quadrature::Walk::tensor_sum` meets its contract. The axes left fall from call to call. What a loop has added up is a part of the rule, of
-- size at most 2^40. Assumes nothing.
use Rattle.std.proofs.Common.{◌≡◌, ◌≤◌, ◌+◌, ◌*◌, ◌-◌, ◌^◌, drop}
use Rattle.std.specs.Prelude.{nat_abs}
use Rattle.quadrature.specs.Parts.{left_at, points_done}
use Rattle.quadrature.proofs.Rounds.{Round}
use Rattle.quadrature.proofs.Walk.+tensor_sum.Given as goal

abbrev pub decreases-tensor_sum : goal.decreases-tensor_sum
decreases-tensor_sum l = l.self.now.axes - l.axis

abbrev pub invariant-loop-level : goal.invariant-loop-level
invariant-loop-level l = Round l.self.records.now l.self.store.now l.self.target.now l.axis l.place l.rank l.top l.total l.level l.at

abbrev pub invariant-loop-point : goal.invariant-loop-point
invariant-loop-point l =
    (nat_abs l.sum ≤ l.point * 2 ^ 40) × (l.sum ≡ points_done l.point l.level (drop (l.axis + 1) l.self.target.now) (left_at l.self.records.now l.self.store.now l.axis l.at l.rank))
