-- `checking::Tested::indicator_sum` meets its contract: the places so far that pass the test have added their indicators. Assumes nothing.
use mathlib.Core.Path.{◌≡◌}
use mathlib.Core.Bool.{Bool, cond}
use Prim.Native.Nat.{ℕ, ◌*◌, ◌^◌, ◌<◌, ◌≤◌}
use Rattle.sums.specs.Sums.{nat_sum_to}
use lib.ListN.{length}
use Rattle.quadrature.specs.Readings.{record_at}
use Rattle.checking.proofs.Tested.indicator_sum.Given as goal

abbrev pub invariant-loop-place : goal.invariant-loop-place
invariant-loop-place g l = record {
  small : l.sum ≤ l.place * 2 ^ 32;
  so_far : (test : ℕ → Bool) → ((p : ℕ) (b : Bool) → p < length l.self.held.now → goal.F-post g l.passes p b → b ≡ test p)
      → l.sum ≡ nat_sum_to l.place (λ p. cond (test p) (record_at l.self.held.now p).indicator 0);
}
