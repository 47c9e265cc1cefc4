-- `quadrature::tensor_rule` meets its contract: the sum from the root is the full tensor rule, and the shift makes it whole.
-- Assumes nothing.
use borrow.Author.Rules.{sfits_of}
use mathlib.Core.Path.{◌≡◌, sym, ap, ◌∙◌, subst}
use mathlib.Core.List.{List}
use Prim.Native.Nat.{ℕ, ◌-◌, ◌^◌, ◌≤◌}
use native.Mathlib.Omega.{arith}
use lib.IntN.{ℤ, pos, nat_abs, ◌*ℤ◌}
use lib.ListN.{drop}
use Rattle.sums.proofs.Words.{back}
use Rattle.grid.specs.Difference.{units}
use Rattle.grid.specs.Tensor.{tensor_sum, tensor_rule}
use Rattle.grid.proofs.Differences.{tensor_size}
use Rattle.area.specs.declared.IndexRecord.{IndexRecord}
use Rattle.quadrature.specs.Readings.{stored_reading}
use Rattle.quadrature.specs.Ready.{Ready}
use Rattle.quadrature.specs.Parts.{left_at}
use Rattle.quadrature.proofs.Walks.{left_all}
use Rattle.quadrature.proofs.WalkInvariants.{invariant_start, first-level}
use Rattle.quadrature.proofs.tensor_rule.Goals as goal

module _ {d : ℕ} {rs : List IndexRecord} {s : List ℤ} {k : List ℕ} (ready : Ready d rs s k) where
  -- the sum from the root gives the rule in the units of k
  rule_is : (x : ℤ) → x ≡ tensor_sum (drop 0 k) (left_at rs s 0 0 0) → pos (2 ^ (20 - units k)) *ℤ x ≡ tensor_rule k (stored_reading rs s)
  unfolding tensor_rule
  rule_is x e = ap (λ y. pos (2 ^ (20 - units k)) *ℤ y) (e ∙ ap (tensor_sum k) (left_all (stored_reading rs s)))

  small : nat_abs (tensor_rule k (stored_reading rs s)) ≤ 2 ^ 40
  small = tensor_size k (stored_reading rs s) ready.eight ready.ceilings ready.range

pub tensor_sum-sum-requires : goal.tensor_sum-sum-requires
tensor_sum-sum-requires c =
    let ready = c.requires in
    record {
      stands = invariant_start ready;
      axis_le_axes = (omega arith, λ h. first-level ready);
    }

pub scaled-requires : goal.scaled-requires
scaled-requires c =
    let ready = c.requires in
    subst (λ x. nat_abs x ≤ 2 ^ 40) (sym (rule_is ready _ (back c.tensor_sum-sum.result (sfits_of c.tensor_sum-sum.type_inv) ∙ c.tensor_sum-sum.ensures))) (small ready)

pub returns : goal.returns
returns c =
    let ready = c.requires in
    let e = back c.scaled.result (sfits_of c.scaled.type_inv) ∙ c.scaled.ensures ∙ rule_is ready _ (back c.tensor_sum-sum.result (sfits_of c.tensor_sum-sum.type_inv) ∙ c.tensor_sum-sum.ensures) in
    record {
      is = e;
      small = subst (λ x. nat_abs x ≤ 2 ^ 40) (sym e) (small ready);
    }
