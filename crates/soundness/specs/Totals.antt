-- The rest of the check as a test: wanted records, blocks and readings, and the job record's numbers.
use Rattle.std.specs.Prelude.{Bool, true, cond, ◌&&◌, List, ℕ, ◌+◌, ◌*◌, ◌^◌, ltb, leb, eqb, ℤ, pos, nat_abs, length, get_or}
use Rattle.sums.specs.Sums.{nat_sum_to}
use Rattle.grid.specs.Index.{at_ceiling}
use Rattle.area.specs.declared.IndexRecord.{IndexRecord}
use Rattle.area.specs.declared.JobRecord.{JobRecord}
use Rattle.area.specs.declared.Settings.{Settings}
use Rattle.area.specs.Settings.{settings_fit, readings_for, least_store}
use Rattle.area.specs.Encoding.{Area, held_of}
use Rattle.quadrature.specs.Readings.{record_at}
use Rattle.soundness.specs.Held.{levels_at, state_at, count_at}
use Rattle.soundness.specs.Test.{all_from, places_test, all_complete_test}

-- A wanted place has indicator 0, and the next place is wanted too.
unfoldable pub wanted_test : List IndexRecord → ℕ → Bool
wanted_test rs p =
    cond (eqb (state_at rs p) 0) (eqb (record_at rs p).indicator 0 && cond (ltb (p + 1) (length rs)) (eqb (state_at rs (p + 1)) 0) true) true

unfoldable pub all_wanted_test : List IndexRecord → Bool
all_wanted_test rs = all_from (length rs) 0 (wanted_test rs)

-- The number at a place of the store is a reading.
unfoldable pub reading_test : List ℤ → ℕ → Bool
reading_test s i = leb (nat_abs (get_or s i (pos 0))) 1048576

-- The block of a place begins where those before it end, ends within the least store, and has readings in range unless it is wanted.
unfoldable pub block_test : Settings → List IndexRecord → List ℤ → ℕ → Bool
block_test g rs s p =
    eqb (record_at rs p).first (nat_sum_to p (count_at g rs))
    && (leb (nat_sum_to p (count_at g rs) + count_at g rs p) (least_store g)
    && cond (eqb (state_at rs p) 0) true (all_from (count_at g rs p) (nat_sum_to p (count_at g rs)) (reading_test s)))

-- All blocks; together they come to the readings of the reserved points r.
unfoldable pub blocks_test : Settings → ℕ → List IndexRecord → List ℤ → Bool
blocks_test g r rs s = all_from (length rs) 0 (block_test g rs s) && eqb (nat_sum_to (length rs) (count_at g rs)) (readings_for g r)

-- The sum of the active indicators, along the places.
unfoldable pub pending_in : List IndexRecord → ℕ
pending_in rs = nat_sum_to (length rs) (λ p. cond (eqb (state_at rs p) 1) (record_at rs p).indicator 0)

-- The sum of the indicators of the old at a ceiling, along the places.
unfoldable pub carried_in : ℕ → List IndexRecord → ℕ
carried_in d rs = nat_sum_to (length rs) (λ p. cond (eqb (state_at rs p) 2 && at_ceiling d (levels_at rs p)) (record_at rs p).indicator 0)

-- The number of delivered places.
unfoldable pub delivered_count : List IndexRecord → ℕ
delivered_count rs = nat_sum_to (length rs) (λ p. cond (eqb (state_at rs p) 0) 0 1)

-- Settings and held are in range, and lent storage of so many records and readings is long enough.
unfoldable pub job_test : JobRecord → ℕ → ℕ → Bool
job_test j records readings =
    leb 512 records && (leb (least_store j.settings) readings && (settings_fit j.settings && (leb 1 j.held && leb j.held 512)))

-- The errors and the mean that the job record has of the held records.
unfoldable pub numbers_test : JobRecord → List IndexRecord → Bool
numbers_test j rs =
    eqb (pending_in rs) j.pending && (eqb (carried_in j.settings.axes rs) j.carried && leb (nat_abs j.mean) (delivered_count rs * 2 ^ 40))

-- The held records, and the figures that the job record has of them.
unfoldable pub held_test : JobRecord → List IndexRecord → List ℤ → Bool
held_test j rs s =
    (places_test j.settings.axes rs && all_complete_test j.settings.axes rs)
    && (all_wanted_test rs
    && (blocks_test j.settings j.reserved rs s && numbers_test j rs))

unfoldable pub area_test : Area → Bool
area_test a = job_test a.job (length a.run.records) (length a.store) && held_test a.job (held_of a) a.store
