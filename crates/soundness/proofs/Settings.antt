-- The settings' ranges read as their Booleans. Assumes nothing.
use Prim.Native.Nat.{◌≤◌}
use Rattle.area.specs.declared.Settings.{Settings}
use Rattle.area.specs.Settings.{SettingsFit, axes_fit, budget_fit, settings_fit}
use Rattle.soundness.specs.Sound.{Exactly}
use Rattle.soundness.proofs.Exactly.{reads_as, reads_le, reads_and}

pub reads_axes : (g : Settings) → Exactly (axes_fit g) ((1 ≤ g.axes) × (g.axes ≤ 8))
unfolding axes_fit
reads_axes g = reads_and _ _ (reads_le 1 g.axes) (reads_le g.axes 8)

pub reads_budget : (g : Settings) → Exactly (budget_fit g) ((1 ≤ g.budget) × (g.budget ≤ 8192))
unfolding budget_fit
reads_budget g = reads_and _ _ (reads_le 1 g.budget) (reads_le g.budget 8192)

pub reads_settings : (g : Settings) → Exactly (settings_fit g) (SettingsFit g)
unfolding settings_fit
reads_settings g = reads_as (λ (axes, budget). record { axes = axes; budget = budget }) (λ f. (f.axes, f.budget)) (reads_and _ _ (reads_axes g) (reads_budget g))
