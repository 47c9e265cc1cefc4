-- An area encodes a state: its job record, records and store are what the state makes them; what lies past the records and readings may
-- be anything. Where readings lie is said only of entries that have as many as their block has, or none and are wanted, as `SoundMachine` asks.
use Rattle.std.specs.Prelude.{◌≡◌, List, ℕ, ◌<◌, ℤ, length}
use Rattle.area.specs.declared.IndexRecord.{IndexRecord}
use Rattle.area.specs.Records.{Run}
use Rattle.area.specs.Log.{Machine}
use Rattle.area.specs.Encoding.{Area, run_with, store_with, job_with}
use Rattle.quadrature.specs.Readings.{record_at}

pub record Encodes (a : Area) (m : Machine) : Type 0 where
  pub job : a.job ≡ job_with m
  pub run : a.run ≡ run_with a.run m.log
  pub store : a.store ≡ store_with a.store m.log.entries

-- The area that encodes a state over a run and a store.
abbrev pub encoded_area : Machine → Run → List ℤ → Area
encoded_area m u s = record { job = job_with m; run = run_with u m.log; store = store_with s m.log.entries }

-- Records of eight levels and sixteen links, as cells always hold.
abbrev pub WellFormed : List IndexRecord → Type 0
WellFormed rs = (p : ℕ) → p < length rs → (length (record_at rs p).levels ≡ 8) × (length (record_at rs p).links ≡ 16)
