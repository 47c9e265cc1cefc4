-- The scope document's proved boundary cases, P1 to P10, as rows of one theorem about the definitions.
use Rattle.std.specs.Prelude.{◌≡◌, ◌≢◌, cond, List, [], ◌∷◌, map, ℕ, ◌*◌, ◌^◌, ℤ, pos, negsuc, neg_ℤ, length, get_or}
use Rattle.rule.specs.Points.{points, new_points}
use Rattle.rule.specs.Rules.{difference_at}
use Rattle.grid.specs.Index.{Within, root, backward}
use Rattle.grid.specs.Block.{block, block_size}
use Rattle.grid.specs.Difference.{Readings, scaled_difference, scaled_mean}
use Rattle.grid.specs.Coefficient.{same_levels, coefficient}
use Rattle.grid.specs.Cross.{cross_total}
use Rattle.grid.specs.Terms.{DownSet}

-- Two levels as an index of eight; the other axes stand at level 1.
unfoldable pub pair : ℕ → ℕ → List ℕ
pair k l = k ∷ l ∷ 1 ∷ 1 ∷ 1 ∷ 1 ∷ 1 ∷ 1 ∷ []

-- The document's file with 2 axes: its entries in order, each with the index whose block it delivers. That the algorithm wants
-- these blocks in this order is a case about calls (crate `history`, specs/Excluded.antt).
pub record Delivery : Type 0 where
  pub levels : List ℕ
  pub readings : List ℤ

unfoldable pub file : List Delivery
file =
    record { levels = pair 1 1; readings = pos 4160 ∷ [] }
    ∷ record { levels = pair 2 1; readings = pos 64 ∷ pos 16448 ∷ [] }
    ∷ record { levels = pair 1 2; readings = pos 4096 ∷ pos 4224 ∷ [] }
    ∷ record { levels = pair 3 1; readings = pos 1088 ∷ pos 9280 ∷ [] }
    ∷ []

-- The n-th reading of an index in a list of deliveries.
unfoldable pub reading_of : List Delivery → Readings
reading_of [] l n = pos 0
reading_of (e ∷ es) l n = cond (same_levels e.levels l) (get_or e.readings n (pos 0)) (reading_of es l n)

unfoldable pub file_readings : Readings
file_readings = reading_of file

unfoldable pub file_indices : List (List ℕ)
file_indices = map (λ (e : Delivery). e.levels) file

pub record BoundaryCases : Type 0 where
  -- P1: level 2 weights by position: 1, −2, 1
  pub p1_points : points 2 ≡ 0 ∷ 64 ∷ 128 ∷ []
  pub p1 : map (difference_at 2) (points 2) ≡ pos 1 ∷ negsuc 1 ∷ pos 1 ∷ []
  -- P2: level 3: −1, 2, −2, 2, −1
  pub p2_points : points 3 ≡ 0 ∷ 32 ∷ 64 ∷ 96 ∷ 128 ∷ []
  pub p2 : map (difference_at 3) (points 3) ≡ negsuc 0 ∷ pos 2 ∷ negsuc 1 ∷ pos 2 ∷ negsuc 0 ∷ []
  -- P3: new at level 4: 16, 48, 80, 112
  pub p3 : new_points 4 ≡ 16 ∷ 48 ∷ 80 ∷ 112 ∷ []
  -- P4: block of (3,4,1): 8 points; and in reflected order: axis 2 rises, then falls
  pub p4 : length (block (3 ∷ 4 ∷ 1 ∷ [])) ≡ 8
  pub p4_order : block (3 ∷ 4 ∷ 1 ∷ [])
      ≡ (32 ∷ 16 ∷ 64 ∷ []) ∷ (32 ∷ 48 ∷ 64 ∷ []) ∷ (32 ∷ 80 ∷ 64 ∷ []) ∷ (32 ∷ 112 ∷ 64 ∷ [])
      ∷ (96 ∷ 112 ∷ 64 ∷ []) ∷ (96 ∷ 80 ∷ 64 ∷ []) ∷ (96 ∷ 48 ∷ 64 ∷ []) ∷ (96 ∷ 16 ∷ 64 ∷ []) ∷ []
  -- with three refined axes: axis 3 rises and falls by the rank of the first two together
  pub three_axes : block (2 ∷ 2 ∷ 2 ∷ [])
      ≡ (0 ∷ 0 ∷ 0 ∷ []) ∷ (0 ∷ 0 ∷ 128 ∷ []) ∷ (0 ∷ 128 ∷ 128 ∷ []) ∷ (0 ∷ 128 ∷ 0 ∷ [])
      ∷ (128 ∷ 128 ∷ 0 ∷ []) ∷ (128 ∷ 128 ∷ 128 ∷ []) ∷ (128 ∷ 0 ∷ 128 ∷ []) ∷ (128 ∷ 0 ∷ 0 ∷ []) ∷ []
  -- P5: (8,6) passes, (8,7) breaks the ceiling
  pub p5_passes : Within (pair 8 6)
  pub p5_breaks : Within (pair 8 7) → ⊥
  -- in the file each entry has its block's count of readings, and its indices are a set as the identity asks
  pub file_counts : map (λ (e : Delivery). length e.readings) file ≡ map (λ (e : Delivery). block_size e.levels) file
  pub file_set : DownSet file_indices
  -- P6: in the file, the difference of (2,1) is 2048; P7: of (3,1), −512: their scaled values are these times 2^20
  pub p6 : scaled_difference (pair 2 1) file_readings ≡ pos (2048 * 2 ^ 20)
  pub p7 : scaled_difference (pair 3 1) file_readings ≡ neg_ℤ (pos (512 * 2 ^ 20))
  -- P8: coefficients of (1,1), (2,1), (1,2), (3,1): −1, 0, 1, 1
  pub p8 : map (coefficient file_indices) file_indices ≡ negsuc 0 ∷ pos 0 ∷ pos 1 ∷ pos 1 ∷ []
  -- P9: the scaled mean, and the same by the cross total
  pub p9 : scaled_mean file_indices file_readings ≡ pos 5972688896
  pub p9_cross : cross_total file_indices file_readings ≡ pos 5972688896
  -- P10: readings all 5: every difference but the root's is 0, and the root's is 5
  pub p10 : (k : List ℕ) → length k ≡ 8 → Within k → k ≢ root → scaled_difference k (λ l n. pos 5) ≡ pos 0
  pub p10_root : scaled_difference root (λ l n. pos 5) ≡ pos (5 * 2 ^ 20)
  -- the backward neighbours of (2,2) are two: (1,2) and (2,1)
  pub two_neighbours : (backward (pair 2 2) 0 ≡ pair 1 2) × (backward (pair 2 2) 1 ≡ pair 2 1)
