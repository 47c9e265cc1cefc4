-- Promote on an area leaves the area itself, or the place refined.
-- The idea: split the test that the definition asks, with the answer kept.
-- Assumes nothing.
use mathlib.Core.Path.{◌≡◌, refl}
use mathlib.Core.Bool.{Bool, true, false, cond}
use Prim.Native.Nat.{ℕ}
use Rattle.area.specs.Encoding.{Area, entries_of, machine_of, written}
use Rattle.area.specs.Log.{Log, with_entries}
use Rattle.machine.specs.Promote.{Outcome, spent, promoted, fits, refine, Promotion, promote_within}
use Rattle.machine.specs.Areas.{changed_by, refine_on, promote_on}

module _ (a : Area) (p : ℕ) where
  abbrev pub grown_log : Log
  grown_log = with_entries (machine_of a).log (refine a.job.settings.axes (entries_of a) p)

  abbrev pub grown : Area
  grown = written a (record { log = grown_log; mean = a.job.mean })

  abbrev given : Bool → Promotion
  given t = cond t (record { outcome = promoted; log = grown_log }) (record { outcome = spent; log = (machine_of a).log })

  pub outcome_ways : (P : Area → Type 0) → P a → (fits a.job.settings.budget (refine a.job.settings.axes (entries_of a) p) ≡ true → P grown) → P (promote_on a p).area
  unfolding refine_on promote_within changed_by machine_of
  outcome_ways P same more = step (fits a.job.settings.budget (refine a.job.settings.axes (entries_of a) p)) refl
    where
      step : (t : Bool) → fits a.job.settings.budget (refine a.job.settings.axes (entries_of a) p) ≡ t
          → P (changed_by (given t).outcome a (written a (record { log = (given t).log; mean = a.job.mean })))
      step true e = more e
      step false e = same

  -- what isn't promoted changes nothing
  pub idle_area : ((promote_on a p).outcome ≡ promoted → ⊥) → (promote_on a p).area ≡ a
  unfolding refine_on changed_by
  idle_area = step (promote_within a.job.settings.budget (machine_of a).log p).outcome
    where
      step : (o : Outcome) → (o ≡ promoted → ⊥)
          → changed_by o a (written a (record { log = (promote_within a.job.settings.budget (machine_of a).log p).log; mean = a.job.mean })) ≡ a
      step spent n = refl
      step promoted n = absurd (n refl)
