-- Held indices: which place holds an index, and what its record says.
use Rattle.std.specs.Prelude.{◌≡◌, List, ℕ, ◌+◌, ◌<◌, length, get_or}
use Rattle.area.specs.Encoding.{none}
use Rattle.grid.specs.Block.{block_size}
use Rattle.area.specs.declared.IndexRecord.{IndexRecord}
use Rattle.area.specs.declared.Settings.{Settings}
use Rattle.area.specs.Settings.{reading_count}
use Rattle.quadrature.specs.Readings.{record_at}

abbrev pub levels_at : List IndexRecord → ℕ → List ℕ
levels_at rs p = (record_at rs p).levels

-- The state: 0 wanted, 1 active, 2 old; delivered means 1 or 2.
abbrev pub state_at : List IndexRecord → ℕ → ℕ
state_at rs p = (record_at rs p).state

-- The links of a record along an axis: the place of its forward and of its backward neighbour.
abbrev pub forward_link : List IndexRecord → ℕ → ℕ → ℕ
forward_link rs p a = get_or (record_at rs p).links a none

abbrev pub backward_link : List IndexRecord → ℕ → ℕ → ℕ
backward_link rs p a = get_or (record_at rs p).links (8 + a) none

-- How many points the block of a place has, and how many readings.
abbrev pub size_at : List IndexRecord → ℕ → ℕ
size_at rs p = block_size (levels_at rs p)

abbrev pub count_at : Settings → List IndexRecord → ℕ → ℕ
count_at g rs p = reading_count g (levels_at rs p)

-- The place p holds the index k.
pub record Holds (rs : List IndexRecord) (k : List ℕ) (p : ℕ) : Type 0 where
  pub place : p < length rs
  pub same : levels_at rs p ≡ k

-- k is held; k is held and old.
abbrev pub Held : List IndexRecord → List ℕ → Type 0
Held rs k = (p : ℕ) × Holds rs k p

abbrev pub HeldOld : List IndexRecord → List ℕ → Type 0
HeldOld rs k = (p : ℕ) × Holds rs k p × (state_at rs p ≡ 2)
