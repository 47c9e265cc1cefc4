-- **Result**: the counts of old, active, wanted and reserved; the pending and the carried error; the scaled mean; and the ceiling count.
use Rattle.std.specs.Prelude.{cond, List, [], ◌∷◌, ℕ, ◌+◌, eqb, ℤ}
use Rattle.grid.specs.Index.{capped_axes}
use Rattle.area.specs.Entry.{Entry, reserved_by, pending_of, carried_of}
use Rattle.area.specs.Log.{Machine}

unfoldable pub count_of : ℕ → List Entry → ℕ
count_of s [] = 0
count_of s (e ∷ es) = cond (eqb e.state s) 1 0 + count_of s es

-- The *ceiling count*: the number of pairs of an old index and an axis whose forward neighbour passes a ceiling.
unfoldable pub ceiling_count : ℕ → List Entry → ℕ
ceiling_count d [] = 0
ceiling_count d (e ∷ es) = cond (eqb e.state 2) (capped_axes d e.levels) 0 + ceiling_count d es

pub record Counts : Type 0 where
  pub old : ℕ
  pub active : ℕ
  pub wanted : ℕ
  pub reserved : ℕ
  pub pending : ℕ
  pub carried : ℕ
  pub mean : ℤ
  pub ceiling : ℕ

-- Reserved and the two errors are worked from the entries; in a sound area they are the recorded ones.
unfoldable pub counts_of : Machine → Counts
counts_of m =
    record {
      old = count_of 2 m.log.entries;
      active = count_of 1 m.log.entries;
      wanted = count_of 0 m.log.entries;
      reserved = reserved_by m.log.entries;
      pending = pending_of m.log.entries;
      carried = carried_of m.log.settings.axes m.log.entries;
      mean = m.mean;
      ceiling = ceiling_count m.log.settings.axes m.log.entries;
    }
