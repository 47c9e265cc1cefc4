-- What the coefficient requires of the held records. A sound area gives it (`soundness`).
use Rattle.std.specs.Prelude.{◌≡◌, cond, List, [], ◌∷◌, ℕ, ◌<◌, ◌≤◌, leb, ℤ, pos, length, get_or}
use Rattle.area.specs.Encoding.{none}
use Rattle.grid.specs.Index.{level, forward, NowhereHigher}
use Rattle.grid.specs.Coefficient.{is_in, sign, raised_on, marks}
use Rattle.area.specs.declared.IndexRecord.{IndexRecord}
use Rattle.quadrature.specs.Readings.{record_at, place_in}

-- The delivered indices among the records, in order of place.
unfoldable pub delivered_in : List IndexRecord → List (List ℕ)
delivered_in [] = []
delivered_in (r ∷ rs) = cond (leb 1 r.state) (r.levels ∷ delivered_in rs) (delivered_in rs)

-- One subset's part in the coefficient of an index.
unfoldable pub subset_term : List IndexRecord → List ℕ → ℕ → ℤ
subset_term rs k mask = cond (is_in (delivered_in rs) (raised_on k (marks 8 mask))) (sign (marks 8 mask)) (pos 0)

-- d is at most 8; at most 512 records of eight levels, each 1 to 8 and 1 beyond the d axes, none twice; every index nowhere higher
-- than a held one is held; and each forward link names its neighbour's place, or none.
pub record Linked (d : ℕ) (rs : List IndexRecord) : Type 0 where
  pub axes : d ≤ 8
  pub few : length rs ≤ 512
  pub eight : (p : ℕ) → p < length rs → length (record_at rs p).levels ≡ 8
  pub low : (p a : ℕ) → p < length rs → a < 8 → 1 ≤ level (record_at rs p).levels a
  pub high : (p a : ℕ) → p < length rs → a < 8 → level (record_at rs p).levels a ≤ 8
  pub beyond : (p a : ℕ) → p < length rs → d ≤ a → a < 8 → level (record_at rs p).levels a ≡ 1
  pub own : (p : ℕ) → p < length rs → place_in rs (record_at rs p).levels ≡ p
  pub lower : (p : ℕ) (k : List ℕ) → p < length rs → NowhereHigher k (record_at rs p).levels → place_in rs k < length rs
  pub ahead : (p a : ℕ) → p < length rs → a < 8 → get_or (record_at rs p).links a none ≡ place_in rs (forward (record_at rs p).levels a)
