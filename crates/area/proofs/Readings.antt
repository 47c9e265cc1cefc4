-- How many readings points have: what is used of it. Assumes nothing.
use mathlib.Core.Path.{refl}
use native.Mathlib.Omega.{arith}
use Prim.Native.Nat.{ℕ, ◌≤◌}
use Rattle.area.specs.declared.Settings.{Settings}
use Rattle.area.specs.Settings.{SettingsFit, readings_for, reading_count, least_store, ReadingFacts}

most : (g : Settings) → SettingsFit g → least_store g ≤ 8192
unfolding least_store readings_for
most g fit = fit.budget.1

small : (g : Settings) (n : ℕ) → SettingsFit g → n ≤ 4096 → readings_for g n ≤ 16384
unfolding readings_for
small g n fit h = omega arith

pub reading_facts : ReadingFacts
reading_facts =
    record {
      count = λ g k. unfold reading_count in refl;
      least = λ g. unfold least_store in refl;
      none = λ g. unfold readings_for in refl;
      sum = λ g m n. unfold readings_for in refl;
      more = λ g m n h. unfold readings_for in h;
      fewer = λ g m n fit h. unfold readings_for in h;
      small = small;
      most = most;
      single = λ g k. unfold reading_count readings_for in refl;
      whole = λ g. unfold least_store readings_for in refl;
    }
