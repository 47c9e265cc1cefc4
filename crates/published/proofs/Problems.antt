-- Whatever readings and indicators the delivered ones of sound entries have, they are a problem's.
-- The idea: the readings are an integrand's, and no index is entered twice, so the indicator of an index is that of the entry that has it.
-- Assumes nothing.
use mathlib.Core.Path.{◌≡◌, refl, sym}
use mathlib.Core.Bool.{cond}
use mathlib.Core.List.{List, [], ◌∷◌}
use Prim.Native.Nat.{ℕ, zero, suc, ◌<◌, ◌≤◌}
use native.Mathlib.Omega.{arith}
use lib.ListN.{length}
use Rattle.grid.specs.Coefficient.{same_levels}
use Rattle.grid.proofs.Members.{same_refl}
use Rattle.area.specs.declared.Settings.{Settings}
use Rattle.area.specs.Entry.{Entry}
use Rattle.area.specs.Log.{Machine}
use Rattle.encoding.specs.Entries.{entry_at, SoundMachine}
use Rattle.machine.proofs.Sets.{Different}
use Rattle.published.specs.Figure.{Problem}
use Rattle.published.specs.Turns.{SettingsMatch, ReadingValued, Supplied, SuppliedSoFar}
use Rattle.published.proofs.MakesOld.{same_no}
use Rattle.published.proofs.Sampling.{sampling}

-- the indicator of the first entry that has the index
indicator_of : List Entry → List ℕ → ℕ
indicator_of [] k = 0
indicator_of (e ∷ es) k = cond (same_levels e.levels k) e.indicator (indicator_of es k)

indicator_at : (es : List Entry) (p : ℕ) → Different es → p < length es → indicator_of es (entry_at es p).levels ≡ (entry_at es p).indicator
unfolding indicator_of
indicator_at [] p u h = absurd (omega arith)
indicator_at (e ∷ es) zero u h = rw (same_refl e.levels)
indicator_at (e ∷ es) (suc p) u h =
    rw (same_no e.levels (entry_at es p).levels (λ i. let z : 0 ≡ suc p = u 0 (suc p) (omega arith) h i in omega arith))
    (indicator_at es p (λ q r hq hr i. let z : suc q ≡ suc r = u (suc q) (suc r) (omega arith) (omega arith) i in omega arith) (omega arith))

module _ {m : Machine} (v : SoundMachine m) where
  abbrev g : Settings
  g = m.log.settings

  abbrev es : List Entry
  es = m.log.entries

  pub posed_so_far : (P : Problem) × SettingsMatch g P × ReadingValued P × SuppliedSoFar P es
  posed_so_far =
      let x = sampling v in (
        record { axes = g.axes; tolerance = g.threshold; integrand = x.0.integrand; indicator = indicator_of es },
        record { axes = refl; tolerance = refl },
        x.2,
        record { readings = x.3; indicators = λ p h s. sym (indicator_at es p v.different h) },
      )

  -- where none is wanted
  pub posed : ((p : ℕ) → p < length m.log.entries → 1 ≤ (entry_at m.log.entries p).state) → (P : Problem) × SettingsMatch g P × ReadingValued P × Supplied P es
  posed all =
      let x = posed_so_far in
      (x.0, x.1, x.2, record { delivered = all; readings = λ p h. x.3.readings p h (all p h); indicators = λ p h. x.3.indicators p h (all p h) })
