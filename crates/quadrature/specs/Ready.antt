-- What the functions require of an area for an index. A sound area gives it for every delivered one (`soundness`).
use Rattle.std.specs.Prelude.{◌≡◌, List, ℕ, ◌+◌, ◌<◌, ◌≤◌, ℤ, length, get_or, take}
use Rattle.area.specs.Encoding.{none}
use Rattle.grid.specs.Index.{level, Within, root, forward, NowhereHigher}
use Rattle.grid.specs.Block.{block_size}
use Rattle.grid.specs.Terms.{IsReading}
use Rattle.area.specs.declared.IndexRecord.{IndexRecord}
use Rattle.quadrature.specs.Readings.{record_at, place_in, stored_reading}

-- k is an index of d axes, at most 8; every index nowhere higher is found at a place below 512 and delivered, its block lies in the
-- store with readings in range, and the forward links between such indices name their places; the root is at place 0.
pub record Ready (d : ℕ) (rs : List IndexRecord) (s : List ℤ) (k : List ℕ) : Type 0 where
  pub axes : d ≤ 8
  pub eight : length k ≡ 8
  pub ceilings : Within k
  pub beyond : (a : ℕ) → d ≤ a → a < 8 → level k a ≡ 1
  pub root_place : place_in rs root ≡ 0
  pub found : (l : List ℕ) → NowhereHigher l k → place_in rs l < 512
  pub delivered : (l : List ℕ) → NowhereHigher l k → 1 ≤ (record_at rs (place_in rs l)).state
  pub room : (l : List ℕ) → NowhereHigher l k → (record_at rs (place_in rs l)).first + block_size l ≤ length s
  pub range : (l : List ℕ) (n : ℕ) → NowhereHigher l k → n < block_size l → IsReading (stored_reading rs s l n)
  pub ahead : (l : List ℕ) (a : ℕ) → a < 8 → NowhereHigher l k → NowhereHigher (forward l a) k
      → get_or (record_at rs (place_in rs l)).links a none ≡ place_in rs (forward l a)

-- Where a walk stands at an axis: the record at the place is nowhere higher than k and at level 1 on the later axes; the rank is
-- that of a point of the axes passed.
pub record WalkInvariant (rs : List IndexRecord) (k : List ℕ) (axis place rank : ℕ) : Type 0 where
  pub inside : place < 512
  pub own : place_in rs (record_at rs place).levels ≡ place
  pub lower : NowhereHigher (record_at rs place).levels k
  pub ones : (b : ℕ) → axis < b → b < 8 → level (record_at rs place).levels b ≡ 1
  pub in_block : rank < block_size (take axis (record_at rs place).levels)

-- Every delivered index among the first `held` records, at most 512, is ready.
pub record AllReady (d held : ℕ) (rs : List IndexRecord) (s : List ℤ) : Type 0 where
  pub few : held ≤ 512
  pub room : held ≤ length rs
  pub ready : (p : ℕ) → p < held → 1 ≤ (record_at rs p).state → Ready d rs s (record_at rs p).levels
