-- `quadrature::combination_sum` meets its contract: the places passed have added coefficient times full tensor rule.
-- Assumes nothing.
use Rattle.std.proofs.Common.{◌≡◌, ◌≤◌, ◌*◌, ◌^◌, ℕ, List, take}
use Rattle.std.specs.Prelude.{ℤ, nat_abs}
use Rattle.sums.specs.Sums.{sum_to}
use Rattle.area.specs.declared.IndexRecord.{IndexRecord}
use Rattle.quadrature.specs.Parts.{combined_rule}
use Rattle.quadrature.proofs.combination_sum.Given as goal

-- what each place adds
abbrev pub term : List IndexRecord → ℕ → List ℤ → ℕ → ℤ
term rs held store = combined_rule (take held rs) rs store

abbrev pub invariant-loop-place : goal.invariant-loop-place
invariant-loop-place l =
    (nat_abs l.total ≤ l.place * 2 ^ 48) × (l.total ≡ sum_to l.place (term l.records l.held l.store))
