-- `reporting::I64Decimal::push_to` meets its contract: below 0 a minus sign stands before the digits. Assumes nothing.
use mathlib.Core.List.{[], ◌∷◌, append_assoc}
use lib.IntN.{nat_abs}
use Rattle.sums.proofs.Words.{back}
use Rattle.reporting.specs.Decimal.{decimal}
use Rattle.reporting.proofs.Signs.{below, above}
use Rattle.reporting.proofs.I64Decimal.push_to.Goals as goal
use Rattle.reporting.proofs.I64Decimal.push_to.Goals.{then-self-lt0, else-self-lt0}

pub returns-clause-is : goal.returns-clause-is
returns-clause-is c =
    elim c.if-self-lt0.branch [
      | then-self-lt0 w ↦
          rw (c.push_number.ensures.is, w.text-is, w.push.ensures, c.unsigned_abs.ensures.value, back c.args.self c.ranges.self, below c.args.self (rw (back c.args.self c.ranges.self) at w.if-self-lt0.true)) (append_assoc c.args.text.now (45 ∷ []) (decimal (nat_abs c.args.self)))
      | else-self-lt0 w ↦
          rw (c.push_number.ensures.is, w.text-is, c.unsigned_abs.ensures.value, back c.args.self c.ranges.self, above c.args.self (rw (back c.args.self c.ranges.self) at w.if-self-lt0.false))
    ]
