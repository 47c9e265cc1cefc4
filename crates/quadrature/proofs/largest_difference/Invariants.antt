-- `quadrature::largest_difference` meets its contract: the largest of the places passed is kept. Assumes nothing.
use Rattle.std.proofs.Common.{◌≡◌, ◌≤◌, ◌^◌}
use Rattle.std.specs.Prelude.{nat_abs}
use Rattle.quadrature.proofs.Largest.{largest_from}
use Rattle.quadrature.proofs.largest_difference.Given as goal

abbrev pub invariant-loop-place : goal.invariant-loop-place
invariant-loop-place l =
    (nat_abs l.largest ≤ 2 ^ 40) × (l.largest ≡ largest_from l.held l.records l.store l.place)
