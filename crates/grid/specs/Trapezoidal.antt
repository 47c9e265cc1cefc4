-- The scaled difference beside the source: the tensor product of differences of trapezoidal rules (document 000, section 3.1, and
-- document 001).
-- How the units go. On the interval from −1 to 1 the source has Q₁ f = 2 f(0), Q_k f the trapezoidal rule over the points of level k from 2
-- up, Q₀ = 0 and Δ_k = Q_k − Q_{k−1}. `trapezoidal` gives 128 times its rule, so below T_k = 128 Q_k and D_k = 128 Δ_k, and over d axes
-- (D ⊗ … ⊗ D) f = 128^d (Δ ⊗ … ⊗ Δ) f. Hence 256^d times the scaled difference is 2^20 (D ⊗ … ⊗ D) f exactly if the scaled difference is 2^20
-- times the source's (Δ ⊗ … ⊗ Δ) f, divided by 2^d, which is the volume of the cube. The full tensor rule stands likewise to
-- (T ⊗ … ⊗ T) f = 128^d (Q ⊗ … ⊗ Q) f.
use Rattle.std.specs.Prelude.{◌≡◌, List, ℕ, zero, suc, ◌-◌, ◌^◌, ◌≤◌, ℤ, pos, ◌-ℤ◌, ◌*ℤ◌, length, take}
use Rattle.rule.specs.Points.{points}
use Rattle.rule.specs.Rules.{unit, difference_rule, trapezoidal}
use Rattle.grid.specs.Index.{Within, Index}
use Rattle.grid.specs.Difference.{Readings, scaled_difference}
use Rattle.grid.specs.Tensor.{tensor_rule}
use Rattle.grid.specs.Terms.{Agree, tensor_product, sampled, centred}

-- T_k f. Level 0 has no point. Level 1: the interval's length, which is 256 in units of 1/128, times the value at the centre. From level 2 up
-- the trapezoidal rule over the points of the level.
unfoldable pub trapezoidal_rule : ℕ → (ℕ → ℤ) → ℤ
trapezoidal_rule zero f = pos 0
trapezoidal_rule (suc zero) f = pos 256 *ℤ f 64
trapezoidal_rule (suc (suc k)) f = trapezoidal (points (suc (suc k))) f

-- D_k f = T_k f − T_{k−1} f
unfoldable pub trapezoidal_difference : ℕ → (ℕ → ℤ) → ℤ
trapezoidal_difference k f = trapezoidal_rule k f -ℤ trapezoidal_rule (k - 1) f

-- The readings are an integrand's: on the blocks nowhere higher than k they are the values of f at the blocks' points (`Agree`, `sampled`).
pub record TrapezoidalFacts : Type 0 where
  -- along one axis: the difference rule of level k, in units of 2^−(unit k), is D_k divided by 256
  pub axis : (k : ℕ) → k ≤ 8 → (f : ℕ → ℤ) → pos 256 *ℤ difference_rule k f ≡ pos (2 ^ unit k) *ℤ trapezoidal_difference k f
  -- an index of d levels within the ceilings, and readings of an integrand on d axes: 256^d times the scaled difference is 2^20 times
  -- (D ⊗ … ⊗ D) f
  pub difference : (k : List ℕ) (R : Readings) (f : List ℕ → ℤ) → length k ≤ 8 → Within k → Agree k R (sampled f)
      → pos (256 ^ length k) *ℤ scaled_difference k R ≡ pos (2 ^ 20) *ℤ tensor_product trapezoidal_difference k f
  -- an index as it is stored, of eight levels, and readings of an integrand on eight axes: over all eight
  pub eight_axes : (k : List ℕ) (R : Readings) (f : List ℕ → ℤ) → length k ≡ 8 → Within k → Agree k R (sampled f)
      → pos (256 ^ 8) *ℤ scaled_difference k R ≡ pos (2 ^ 20) *ℤ tensor_product trapezoidal_difference k f
  -- and over the job's d axes, where the axes beyond stand at the centre
  pub job_axes : (d : ℕ) (k : List ℕ) (R : Readings) (f : List ℕ → ℤ) → d ≤ 8 → Index d k → Agree k R (sampled f)
      → pos (256 ^ d) *ℤ scaled_difference k R ≡ pos (2 ^ 20) *ℤ tensor_product trapezoidal_difference (take d k) (centred (8 - d) f)
  -- the full tensor rule of an index of d levels: 256^d times it is 2^20 times (T ⊗ … ⊗ T) f
  pub tensor : (k : List ℕ) (R : Readings) (f : List ℕ → ℤ) → length k ≤ 8 → Within k → Agree k R (sampled f)
      → pos (256 ^ length k) *ℤ tensor_rule k R ≡ pos (2 ^ 20) *ℤ tensor_product trapezoidal_rule k f
  -- and over the job's d axes
  pub tensor_job_axes : (d : ℕ) (k : List ℕ) (R : Readings) (f : List ℕ → ℤ) → d ≤ 8 → Index d k → Agree k R (sampled f)
      → pos (256 ^ d) *ℤ tensor_rule k R ≡ pos (2 ^ 20) *ℤ tensor_product trapezoidal_rule (take d k) (centred (8 - d) f)
