-- In a sound area every access is in range and every sum in its type.
-- The idea: a block ends within the sum of all block sizes, which is within the budget; at most 512 indicators and differences are summed.
-- Assumes nothing.
use mathlib.Core.Path.{◌≡◌}
use mathlib.Core.Bool.{Bool, true, false, cond}
use mathlib.Core.List.{List, [], ◌∷◌}
use Prim.Native.Nat.{ℕ, suc, ◌+◌, ◌^◌, ◌<◌, ◌≤◌}
use native.Mathlib.Omega.{arith}
use lib.Dec.{leb}
use lib.IntN.{nat_abs}
use lib.ListN.{length, length-map}
use Rattle.sums.specs.Sums.{nat_sum_to}
use Rattle.area.specs.Settings.{reading_count, least_store}
use Rattle.area.specs.Entry.{Entry, delivered_of}
use Rattle.area.specs.Encoding.{Area, held_of, entry_of, entries_of}
use Rattle.area.proofs.Carried.{carried_facts}
use Rattle.quadrature.specs.Readings.{record_at}
use Rattle.soundness.specs.Held.{levels_at, size_at}
use Rattle.soundness.specs.Sound.{Sound}
use Rattle.soundness.proofs.Sizes.{reserved_sum, count_below}
use Rattle.encoding.specs.Entries.{no_entry}
use Rattle.encoding.proofs.Places.{entries_length, indicator_at}

pub delivered_few : (es : List Entry) → length (delivered_of es) ≤ length es
unfolding delivered_of
delivered_few [] = omega arith
delivered_few (e ∷ es) = step (leb 1 e.state) (delivered_few es)
  where
    step : (t : Bool) → length (delivered_of es) ≤ length es → length (cond t (e.levels ∷ delivered_of es) (delivered_of es)) ≤ suc (length es)
    step true h = omega arith
    step false h = omega arith

module _ (a : Area) (sound : Sound a) where
  all_within : nat_sum_to (length (held_of a)) (size_at (held_of a)) ≤ a.job.settings.budget
  unfolding entries_of
  all_within = omega (arith, reserved_sum a.job.settings a.store (held_of a), sound.numbers.reserved, sound.numbers.within_budget)

  pub block_within : (p : ℕ) → p < length (held_of a)
      → (record_at (held_of a) p).first + reading_count a.job.settings (levels_at (held_of a) p) ≤ least_store a.job.settings
  block_within p h = omega (arith, sound.first_readings p h, count_below a.job.settings (held_of a) p h all_within)

  pub reserved_within : a.job.reserved ≤ 8192
  reserved_within = omega (arith, sound.numbers.within_budget, sound.settings.budget.1)

  module _ (h : (p : ℕ) → p < length (held_of a) → (record_at (held_of a) p).indicator < 2 ^ 32) where
    pub errors_within : a.job.pending + a.job.carried < 2 ^ 41
    unfolding entries_of
    errors_within =
        omega (
          arith,
          sound.numbers.pending,
          sound.numbers.carried,
          carried_facts.together a.job.settings.axes (entries_of a) no_entry (omega (arith, count, sound.structure.count.1))
              (λ p l. omega (arith, indicator_at a.job.settings a.store (held_of a) p, h p (omega (arith, l, count)))),
        )
      where
        count : length (entries_of a) ≡ length (held_of a)
        count = entries_length a.job.settings a.store (held_of a)

    pub pending_within : a.job.pending < 2 ^ 41
    pending_within = omega (arith, errors_within)

  pub mean_within : nat_abs a.job.mean + 2 ^ 40 < 2 ^ 50
  unfolding entries_of
  mean_within =
      omega (arith, sound.numbers.mean, delivered_few (entries_of a), length-map (held_of a) (entry_of a.job.settings a.store), sound.structure.count.1)
