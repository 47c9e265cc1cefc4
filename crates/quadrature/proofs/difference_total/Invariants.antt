-- `quadrature::difference_total` meets its contract: the places passed have added their differences. Assumes nothing.
use Rattle.std.proofs.Common.{◌≡◌, ◌≤◌, ◌*◌, ◌^◌}
use Rattle.std.specs.Prelude.{nat_abs}
use Rattle.sums.specs.Sums.{sum_to}
use Rattle.quadrature.specs.Parts.{delivered_difference}
use Rattle.quadrature.proofs.difference_total.Given as goal

abbrev pub invariant-loop-place : goal.invariant-loop-place
invariant-loop-place l =
    (nat_abs l.total ≤ l.place * 2 ^ 40) × (l.total ≡ sum_to l.place (delivered_difference l.records l.store))
