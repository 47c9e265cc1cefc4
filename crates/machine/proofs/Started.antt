-- Start leaves sound entries: the root alone, wanted. Every other index has a level above 1, and nothing is old.
-- Assumes nothing.
use mathlib.Core.Path.{◌≡◌, refl, sym}
use mathlib.Core.Logic.{◌⊎◌, inl, inr}
use mathlib.Core.List.{List, [], ◌∷◌}
use Prim.Native.Nat.{ℕ, zero, suc, ◌<◌}
use native.Mathlib.Omega.{arith}
use Rattle.rule.specs.Points.{new_count}
use Rattle.grid.specs.Index.{level, Index, root, backward}
use Rattle.grid.specs.Block.{block_size}
use Rattle.grid.proofs.Neighbours.{root_first, root_index}
use Rattle.area.specs.declared.Settings.{Settings}
use Rattle.area.specs.Settings.{SettingsFit}
use Rattle.area.specs.Entry.{Entry, delivered_of, reserved_by}
use Rattle.soundness.proofs.Levels.{axis_of, root_or}
use Rattle.encoding.specs.Entries.{entry_at, Entered, EnteredOld, SoundMachine}
use Rattle.machine.specs.Log.{wanted}
use Rattle.machine.specs.Steps.{started}
use Rattle.machine.proofs.Clauses.{SoundEntry, sound_wanted, Joint, sound_from}

abbrev one : List Entry
one = wanted root ∷ []

all_wanted : (p : ℕ) → p < 1 → (entry_at one p).state ≡ 0
unfolding wanted
all_wanted zero h = refl
all_wanted (suc p) h = absurd (omega arith)

not_old : (k : List ℕ) → EnteredOld one k → ⊥
not_old k h = omega (arith, all_wanted h.0 h.1.place, h.2)

one_point : reserved_by one ≡ 1
unfolding reserved_by wanted block_size root new_count
one_point = refl

module _ (g : Settings) (fit : SettingsFit g) where
  abbrev d : ℕ
  d = g.axes

  admissible : (k : List ℕ) → Index d k → ((a : ℕ) → a < d → 1 < level k a → EnteredOld one (backward k a)) → Entered one k
  unfolding wanted
  admissible k i old = step (root_or d k i)
    where
      step : (k ≡ root) ⊎ ((a : ℕ) × (a < 8) × (1 < level k a)) → Entered one k
      step (inl e) = (0, record { place = omega arith; same = sym e })
      step (inr s) = absurd (not_old (backward k s.0) (old s.0 (axis_of d k i s.0 s.1 s.2) s.2))

  joint : Joint (started g)
  unfolding started wanted delivered_of
  joint =
      record {
        settings = fit;
        count = (omega arith, omega arith);
        different = λ p q hp hq e. omega arith;
        first = refl;
        admissible = admissible;
        last = λ p q l h z. all_wanted q h;
        within_budget = omega (arith, one_point, fit.budget.0);
        mean = omega arith;
      }

  each_sound : (p : ℕ) → p < 1 → SoundEntry g (EnteredOld one) (entry_at one p)
  each_sound zero h = sound_wanted root (root_index d) (λ a ha l. absurd (root_first a l))
  each_sound (suc p) h = absurd (omega arith)

pub start_sound : (g : Settings) → SettingsFit g → SoundMachine (started g)
unfolding started
start_sound g fit = sound_from (joint g fit) (each_sound g fit)
