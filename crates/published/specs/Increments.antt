-- Fig. 1's increment is the source's, over the trapezoidal rule; and with d levels as with eight.
use Rattle.std.specs.Prelude.{◌≡◌, List, ℕ, ◌-◌, ◌^◌, ◌≤◌, pos, ◌*ℤ◌, length, take}
use Rattle.grid.specs.Index.{Within, Index}
use Rattle.grid.specs.Terms.{tensor_product, pad, centred}
use Rattle.grid.specs.Trapezoidal.{trapezoidal_difference}
use Rattle.published.specs.Figure.{Problem, increment}

-- The problem on its first axes alone: m axes behind them stand at the centre, and at level 1.
unfoldable pub on_axes : ℕ → Problem → Problem
on_axes m P =
    record {
      axes = P.axes;
      tolerance = P.tolerance;
      integrand = centred m P.integrand;
      indicator = λ k. P.indicator (pad m k);
    }

-- For indices within the ceilings. How the units go is said in grid/specs/Trapezoidal.antt: the increment is 2^20 times the source's
-- (Δ_{k1} ⊗ … ⊗ Δ_{kd}) f, divided by 2^d.
pub record IncrementFacts : Type 0 where
  -- over the problem's d axes: 256^d times the increment is 2^20 times (D_{k1} ⊗ … ⊗ D_{kd}) f
  pub source : (P : Problem) (k : List ℕ) → P.axes ≤ 8 → Index P.axes k
      → pos (256 ^ P.axes) *ℤ increment P k
      ≡ pos (2 ^ 20) *ℤ tensor_product trapezoidal_difference (take P.axes k) (on_axes (8 - P.axes) P).integrand
  -- over all eight
  pub source_eight : (P : Problem) (k : List ℕ) → length k ≡ 8 → Within k
      → pos (256 ^ 8) *ℤ increment P k ≡ pos (2 ^ 20) *ℤ tensor_product trapezoidal_difference k P.integrand
  -- the increment of an index with level 1 appended is that of the index, of the problem on its axes alone
  pub same : (P : Problem) (k : List ℕ) (m : ℕ) → increment P (pad m k) ≡ increment (on_axes m P) k
