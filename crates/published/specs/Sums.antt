-- The mean at any moment, also between the turns: Fig. 1's own account of r, the sum of the increments over 𝒪 ∪ 𝒜.
use Rattle.std.specs.Prelude.{◌≡◌, ℕ, ◌<◌, ◌≤◌, length}
use mathlib.Core.List.{List, map, Memᴰ}
use Rattle.sums.specs.Sums.{sum_of}
use Rattle.grid.specs.Index.{Index}
use Rattle.grid.specs.Block.{block}
use Rattle.grid.specs.Difference.{scaled_difference}
use Rattle.grid.specs.Terms.{Agree, sampled}
use Rattle.area.specs.Entry.{Entry, delivered_of, reading_in}
use Rattle.area.specs.Log.{Machine}
use Rattle.encoding.specs.Entries.{entry_at, SoundMachine}
use Rattle.machine.specs.Means.{mean_of}
use Rattle.published.specs.Figure.{Problem, increment}
use Rattle.published.specs.Turns.{ReadingValued}

-- Every delivered entry has the integrand's readings, in the block's order.
abbrev pub SampledFrom : Problem → List Entry → Type 0
SampledFrom P es = (p : ℕ) → p < length es → 1 ≤ (entry_at es p).state → (entry_at es p).readings ≡ map P.integrand (block (entry_at es p).levels)

pub record SumFacts : Type 0 where
  -- a delivered index is an index of the job, and the readings of the blocks nowhere higher are the integrand's, so that its difference and
  -- its full tensor rule are over the trapezoidal rule (`TrapezoidalFacts`, crate `grid`)
  pub index : (m : Machine) → SoundMachine m → (k : List ℕ) → Memᴰ k (delivered_of m.log.entries) → Index m.log.settings.axes k
  pub agree : (m : Machine) (P : Problem) → SoundMachine m → SampledFrom P m.log.entries → (k : List ℕ) → Memᴰ k (delivered_of m.log.entries)
      → Agree k (reading_in m.log.entries) (sampled P.integrand)
  -- the difference of each delivered index is the integrand's increment
  pub difference : (m : Machine) (P : Problem) → SoundMachine m → SampledFrom P m.log.entries → (k : List ℕ) → Memᴰ k (delivered_of m.log.entries)
      → scaled_difference k (reading_in m.log.entries) ≡ increment P k
  -- so the scaled mean is the sum of the increments over the delivered indices, old and active
  pub sum : (m : Machine) (P : Problem) → SoundMachine m → SampledFrom P m.log.entries → mean_of m.log.entries ≡ sum_of (delivered_of m.log.entries) (increment P)
  -- a point is new in one block only, so whatever the readings are, they are some integrand's
  pub some : (m : Machine) → SoundMachine m → (P : Problem) × (P.axes ≡ m.log.settings.axes) × ReadingValued P × SampledFrom P m.log.entries
