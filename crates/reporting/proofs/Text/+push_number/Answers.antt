-- `reporting::Text::push_number` meets its contract: a call writes all the digits but the last.
-- Assumes nothing.
use mathlib.Core.Path.{ap}
use mathlib.Core.List.{[], ◌∷◌, ◌++◌, append_assoc}
use Prim.Native.Nat.{◌+◌, ◌/◌, ◌%◌}
use native.Mathlib.Omega.{arith}
use lib.ListN.{length-append}
use Rattle.reporting.specs.Decimal.{digit, decimal}
use Rattle.reporting.proofs.Digits.{decimal-one, decimal_more}
use Rattle.reporting.proofs.Texts.{most, most_tenth}
use Rattle.reporting.proofs.Text.+push_number.Goals as goal
use Rattle.reporting.proofs.Text.+push_number.Goals.{then-n-ge10, else-n-ge10}

pub push-requires : goal.push-requires
push-requires t c =
    elim c.if-n-ge10.branch [
      | then-n-ge10 w ↦ rw w.self-is (simp (w.push_number.ensures.is, length-append) (omega (arith, most_tenth c.args.n w.if-n-ge10.true (omega arith))))
      | else-n-ge10 w ↦ rw w.self-is (omega arith)
    ]

pub returns-clause-is : goal.returns-clause-is
returns-clause-is t c =
    elim c.if-n-ge10.branch [
      | then-n-ge10 w ↦
          rw (c.push.ensures, w.self-is, w.push_number.ensures.is, decimal_more c.args.n w.if-n-ge10.true (omega arith)) (append_assoc c.args.self.now (decimal (c.args.n / 10)) (digit (c.args.n % 10) ∷ []))
      | else-n-ge10 w ↦ rw (c.push.ensures, w.self-is, decimal-one c.args.n w.if-n-ge10.false) (ap (λ d. c.args.self.now ++ (48 + d) ∷ []) (omega arith))
    ]

pub returns-clause-near : goal.returns-clause-near
returns-clause-near t c = rw (returns-clause-is t c) (simp length-append (omega (arith, most c.args.n)))
