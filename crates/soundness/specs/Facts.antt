-- What soundness gives, and that a check by links comes to the same as the clauses.
use Rattle.std.specs.Prelude.{◌≡◌, ℕ, ◌<◌, ◌≤◌, ℤ, length}
use mathlib.Core.List.{List, Memᴰ}
use Rattle.grid.specs.Terms.{DownSet}
use Rattle.area.specs.declared.IndexRecord.{IndexRecord}
use Rattle.area.specs.declared.JobRecord.{JobRecord}
use Rattle.area.specs.Settings.{least_store}
use Rattle.area.specs.Encoding.{Area, area_of, held_of}
use Rattle.quadrature.specs.Ready.{Ready, AllReady}
use Rattle.quadrature.specs.Linked.{delivered_in, Linked}
use Rattle.soundness.specs.Held.{levels_at}
use Rattle.soundness.specs.Sound.{Structure, Sound, LongEnough, Exactly}
use Rattle.soundness.specs.LinkCheck.{LinkChecked}
use Rattle.soundness.specs.Test.{link_check_test}
use Rattle.soundness.specs.Totals.{area_test}

-- Following links accepts exactly the held indices and links of a sound area; d is at most 8.
pub record LinkCheckFacts : Type 0 where
  pub accepted : (d : ℕ) → d ≤ 8 → (rs : List IndexRecord) → LinkChecked d rs → Structure d rs
  pub accepts : (d : ℕ) → d ≤ 8 → (rs : List IndexRecord) → Structure d rs → LinkChecked d rs
  -- and as a test, on records of eight levels, it says yes exactly then: an index has eight levels (`Index.eight`), and the test, which is handed
  -- arrays of eight, does not count them
  pub tested : (d : ℕ) → d ≤ 8 → (rs : List IndexRecord) → ((p : ℕ) → p < length rs → length (levels_at rs p) ≡ 8) → Exactly (link_check_test d rs) (Structure d rs)
  -- and the whole test, where the held records have eight levels, says yes exactly if the area is sound and lies in storage that is long enough
  pub whole : (a : Area) → ((p : ℕ) → p < length (held_of a) → length (levels_at (held_of a) p) ≡ 8) → Exactly (area_test a) (LongEnough a × Sound a)
  -- over lent cells every record has eight levels, so there nothing is asked
  pub on_cells : (j : JobRecord) (cells : List ℕ) (s : List ℤ) → Exactly (area_test (area_of j cells s)) (LongEnough (area_of j cells s) × Sound (area_of j cells s))

-- In a sound area; where readings are asked for, the store is long enough:
pub record SoundFacts : Type 0 where
  -- every delivered index is ready, among the held and for the sum over the places, so its difference and tensor rule can be worked
  pub ready : (a : Area) → Sound a → least_store a.job.settings ≤ length a.store → (k : List ℕ) → Memᴰ k (delivered_in (held_of a))
      → Ready a.job.settings.axes (held_of a) a.store k
  pub all_ready : (a : Area) → Sound a → least_store a.job.settings ≤ length a.store → AllReady a.job.settings.axes a.job.held a.run.records a.store
  -- the held records are linked, so coefficients can be worked
  pub linked : (a : Area) → Sound a → Linked a.job.settings.axes (held_of a)
  -- and the delivered indices are what the combination identity asks for
  pub down : (a : Area) → Sound a → DownSet (delivered_in (held_of a))
