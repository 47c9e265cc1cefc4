-- What the functions' contracts say of an area's cells is said of the entries that are read from it; and what they require can be met.
use Rattle.std.specs.Prelude.{◌≡◌, ℕ, ◌≤◌, ℤ}
use mathlib.Core.List.{List, [], ◌∷◌, Memᴰ}
use Rattle.grid.specs.Index.{root}
use Rattle.grid.specs.Difference.{scaled_difference, scaled_mean}
use Rattle.grid.specs.Tensor.{tensor_rule}
use Rattle.grid.specs.Cross.{cross_total}
use Rattle.grid.specs.Largest.{largest_difference}
use Rattle.grid.specs.Terms.{Agree, IsReading}
use Rattle.area.specs.declared.JobRecord.{JobRecord}
use Rattle.area.specs.Records.{records_of, held_in}
use Rattle.area.specs.declared.Settings.{Settings}
use Rattle.area.specs.Entry.{Entry, delivered_of, reading_in}
use Rattle.area.specs.Encoding.{area_of, entries_of, records_for, store_for}
use Rattle.quadrature.specs.Readings.{stored_reading}
use Rattle.quadrature.specs.Ready.{Ready, AllReady}
use Rattle.quadrature.specs.Linked.{delivered_in, Linked}

-- j is the job record, c the cells, s the reading store
pub record EntryFacts (j : JobRecord) (c : List ℕ) (s : List ℤ) : Type 0 where
  -- an index that is ready among the held records is ready among all records of the cells, as the functions require it
  pub ready : (d : ℕ) (k : List ℕ) → Ready d (held_in c j.held) s k → Ready d (records_of c) s k
  -- the delivered indices are those of the entries
  pub delivered : delivered_in (held_in c j.held) ≡ delivered_of (entries_of (area_of j c s))
  -- the readings of an index that is ready, and of all nowhere higher, are those of the entries
  pub readings : (d : ℕ) (k : List ℕ) → Ready d (held_in c j.held) s k → Agree k (stored_reading (records_of c) s) (reading_in (entries_of (area_of j c s)))
  -- so its difference and its full tensor rule are those of the entries' readings
  pub difference : (d : ℕ) (k : List ℕ) → Ready d (held_in c j.held) s k
      → scaled_difference k (stored_reading (records_of c) s) ≡ scaled_difference k (reading_in (entries_of (area_of j c s)))
  pub tensor : (d : ℕ) (k : List ℕ) → Ready d (held_in c j.held) s k
      → tensor_rule k (stored_reading (records_of c) s) ≡ tensor_rule k (reading_in (entries_of (area_of j c s)))
  -- and the sum of differences is the scaled mean of the entries
  pub mean : (d : ℕ) → ((k : List ℕ) → Memᴰ k (delivered_in (held_in c j.held)) → Ready d (held_in c j.held) s k)
      → scaled_mean (delivered_in (held_in c j.held)) (stored_reading (records_of c) s)
      ≡ scaled_mean (delivered_of (entries_of (area_of j c s))) (reading_in (entries_of (area_of j c s)))
  -- and the sum of coefficient times full tensor rule is the cross total of the entries
  pub cross : (d : ℕ) → ((k : List ℕ) → Memᴰ k (delivered_in (held_in c j.held)) → Ready d (held_in c j.held) s k)
      → cross_total (delivered_in (held_in c j.held)) (stored_reading (records_of c) s)
      ≡ cross_total (delivered_of (entries_of (area_of j c s))) (reading_in (entries_of (area_of j c s)))
  -- and the largest difference is that of the entries
  pub largest : (d : ℕ) → ((k : List ℕ) → Memᴰ k (delivered_in (held_in c j.held)) → Ready d (held_in c j.held) s k)
      → largest_difference (delivered_in (held_in c j.held)) (stored_reading (records_of c) s)
      ≡ largest_difference (delivered_of (entries_of (area_of j c s))) (reading_in (entries_of (area_of j c s)))

-- The entries of a job whose root is delivered, and nothing else is held.
unfoldable pub root_alone : ℤ → List Entry
root_alone reading = record { levels = root; state = 1; indicator = 0; readings = reading ∷ [] } ∷ []

-- What is required is met by these entries as an area encodes them, for all settings, every number of axes and every reading in range.
pub record RequiredFacts (g : Settings) : Type 0 where
  pub ready : (d : ℕ) (x : ℤ) → d ≤ 8 → IsReading x → Ready d (records_for g (root_alone x)) (store_for (root_alone x)) root
  pub all_ready : (d : ℕ) (x : ℤ) → d ≤ 8 → IsReading x → AllReady d 1 (records_for g (root_alone x)) (store_for (root_alone x))
  pub linked : (d : ℕ) (x : ℤ) → d ≤ 8 → Linked d (records_for g (root_alone x))
