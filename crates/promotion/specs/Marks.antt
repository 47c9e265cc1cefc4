-- The axes that pass a test, as an array of eight marks; and what a search and a scan of the held records go by.
use Rattle.std.specs.Prelude.{◌≡◌, Bool, true, false, ◌&&◌, List, ℕ, ◌<◌, ◌≤◌, ltb, length, get_or, Option}
use Rattle.sums.specs.Lists.{tabulate}
use Rattle.grid.specs.Index.{level, Within, forward}
use Rattle.area.specs.declared.IndexRecord.{IndexRecord}
use Rattle.area.specs.Packed.{PackedWords}
use Rattle.machine.specs.Promote.{passing}
use Rattle.soundness.specs.Held.{levels_at}

-- True for an axis below d that passes, false for the others.
unfoldable pub marks_of : ℕ → (ℕ → Bool) → List Bool
marks_of d f = tabulate 8 (λ a. ltb a d && f a)

-- The marked axes below d, in order.
unfoldable pub marked_axes : ℕ → List Bool → List ℕ
marked_axes d marks = passing d 0 (λ a. get_or marks a false)

-- The forward neighbours of an index along some axes.
pub record Neighbours : Type 0 where
  pub index : List ℕ
  pub along : List ℕ

-- What the held records give to a search: no index twice, levels that can be raised.
pub record Searchable (rs : List IndexRecord) : Type 0 where
  pub few : length rs ≤ 512
  pub different : (p q : ℕ) → p < length rs → q < length rs → levels_at rs p ≡ levels_at rs q → p ≡ q
  pub eight : (p : ℕ) → p < length rs → length (levels_at rs p) ≡ 8
  pub low : (p a : ℕ) → p < length rs → a < 8 → level (levels_at rs p) a ≤ 8

-- What a scan for neighbours goes by: held records, one of them refined, and their packed words.
pub record Scannable (held : List IndexRecord) (refined : ℕ) (words : Option (List ℕ)) : Type 0 where
  pub inside : refined < length held
  pub searchable : Searchable held
  pub packed : PackedWords words held

-- The marked forward neighbours of an index are within the ceilings.
abbrev pub MarkedWithin : ℕ → List ℕ → List Bool → Type 0
MarkedWithin d k marks = (a : ℕ) → a < d → get_or marks a false ≡ true → Within (forward k a)

-- What marked neighbours keep: there are axes for them, they are within the ceilings, and every level can be raised.
pub record Admissible (axes : ℕ) (levels : List ℕ) (marks : List Bool) : Type 0 where
  pub few : axes ≤ 8
  pub within : MarkedWithin axes levels marks
  pub low : (a : ℕ) → a < 8 → level levels a ≤ 8
