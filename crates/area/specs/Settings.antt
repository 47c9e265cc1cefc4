-- What a job is started with: d, threshold and budget; their ranges; and how many readings its points have.
use Rattle.std.specs.Prelude.{◌≡◌, Bool, ◌&&◌, List, ℕ, ◌+◌, ◌≤◌, leb}
use Rattle.grid.specs.Block.{block_size}
use Rattle.area.specs.declared.Settings.{Settings}

-- The settings of a job with d axes, a threshold and a budget: so cases, a job file's header and the exported start name them.
abbrev pub settings_of : (axes threshold budget : ℕ) → Settings
settings_of d t b = record { axes = d; threshold = t; budget = b }

-- ---- ranges

-- d is 1 to 8; the budget is 1 to 8,192. The threshold is any 64-bit number.
pub record SettingsFit (g : Settings) : Type 0 where
  pub axes : (1 ≤ g.axes) × (g.axes ≤ 8)
  pub budget : (1 ≤ g.budget) × (g.budget ≤ 8192)

-- The same as Booleans, one for each field.
unfoldable pub axes_fit : Settings → Bool
axes_fit g = leb 1 g.axes && leb g.axes 8

unfoldable pub budget_fit : Settings → Bool
budget_fit g = leb 1 g.budget && leb g.budget 8192

unfoldable pub settings_fit : Settings → Bool
settings_fit g = axes_fit g && budget_fit g

-- ---- points and readings: the budget and *reserved* count points, the store and a delivery count readings

-- How many readings so many points have: a point has one reading.
unfoldable pub readings_for : Settings → (points : ℕ) → ℕ
readings_for g n = n

-- How many readings an index's block has.
unfoldable pub reading_count : Settings → List ℕ → ℕ
reading_count g k = readings_for g (block_size k)

-- The fewest readings that a reading store may have: those of the whole budget.
unfoldable pub least_store : Settings → ℕ
least_store g = readings_for g g.budget

-- What is used of the three: crates that rest on `encoding` use nothing else, but for cases that are proved by computation.
pub record ReadingFacts : Type 0 where
  pub count : (g : Settings) (k : List ℕ) → reading_count g k ≡ readings_for g (block_size k)
  pub least : (g : Settings) → least_store g ≡ readings_for g g.budget
  -- more points have more readings, and together as many as apart
  pub none : (g : Settings) → readings_for g 0 ≡ 0
  pub sum : (g : Settings) (m n : ℕ) → readings_for g (m + n) ≡ readings_for g m + readings_for g n
  pub more : (g : Settings) (m n : ℕ) → m ≤ n → readings_for g m ≤ readings_for g n
  pub fewer : (g : Settings) (m n : ℕ) → SettingsFit g → readings_for g m ≤ readings_for g n → m ≤ n
  -- a block has at most 4,096 points, and these at most 16,384 readings
  pub small : (g : Settings) (n : ℕ) → SettingsFit g → n ≤ 4096 → readings_for g n ≤ 16384
  -- at most 8,192 readings in all
  pub most : (g : Settings) → SettingsFit g → least_store g ≤ 8192
  -- a block has as many readings as points, and the least store as many as the budget says
  pub single : (g : Settings) (k : List ℕ) → reading_count g k ≡ block_size k
  pub whole : (g : Settings) → least_store g ≡ g.budget
