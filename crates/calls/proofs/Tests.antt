-- The first cause of a list, test by test.
-- Assumes nothing.
use mathlib.Core.Path.{◌≡◌, refl}
use mathlib.Core.Bool.{Bool, true, false}
use mathlib.Core.List.{List, [], ◌∷◌}
use Prim.Native.Nat.{ℕ, ◌<◌, ◌≤◌}
use native.Mathlib.Omega.{arith}
use borrow.Author.Tests.{le-leb, lt-leb}
use Rattle.soundness.proofs.Exactly.{refuted}
use Rattle.soundness.proofs.Settings.{reads_axes, reads_budget}
use Rattle.area.specs.declared.Settings.{Settings}
use Rattle.area.specs.Settings.{axes_fit, budget_fit, least_store}
use Rattle.machine.specs.Causes.{Cause, cause, first_cause, Lengths, short}

pub hit : (t : Bool) (n : ℕ) (cs : List Cause) → t ≡ true → first_cause (cause t n ∷ cs) ≡ n
unfolding first_cause
hit t n cs e = rw e

pub miss : (t : Bool) (n : ℕ) (cs : List Cause) → t ≡ false → first_cause (cause t n ∷ cs) ≡ first_cause cs
unfolding first_cause
miss t n cs e = rw e

pub end : first_cause [] ≡ 0
unfolding first_cause
end = refl

-- storage and area first, and then the rest
pub record Clear (t u : Bool) : Type 0 where
  pub first : t ≡ false
  pub second : u ≡ false

pub clear : (t u : Bool) → first_cause (cause t 3 ∷ cause u 4 ∷ []) ≡ 0 → Clear t u
unfolding first_cause
clear true u e = absurd (omega (arith, e))
clear false true e = absurd (omega (arith, e))
clear false false e = record { first = refl; second = refl }

pub refusing : (t u : Bool) (rest : List Cause) → (first_cause (cause t 3 ∷ cause u 4 ∷ []) ≡ 0 → ⊥)
    → first_cause (cause t 3 ∷ cause u 4 ∷ rest) ≡ first_cause (cause t 3 ∷ cause u 4 ∷ [])
unfolding first_cause
refusing true u rest n = refl
refusing false true rest n = refl
refusing false false rest n = absurd (n refl)

pub passing : (t u : Bool) (rest : List Cause) → first_cause (cause t 3 ∷ cause u 4 ∷ []) ≡ 0 → first_cause (cause t 3 ∷ cause u 4 ∷ rest) ≡ first_cause rest
unfolding first_cause
passing true u rest e = absurd (omega (arith, e))
passing false true rest e = absurd (omega (arith, e))
passing false false rest e = refl

-- storage, area and a wanted block first, and then the rest
pub refusing_wanted : (t u v : Bool) (rest : List Cause) → (first_cause (cause t 3 ∷ cause u 4 ∷ cause v 6 ∷ []) ≡ 0 → ⊥)
    → first_cause (cause t 3 ∷ cause u 4 ∷ cause v 6 ∷ rest) ≡ first_cause (cause t 3 ∷ cause u 4 ∷ cause v 6 ∷ [])
unfolding first_cause
refusing_wanted true u v rest n = refl
refusing_wanted false true v rest n = refl
refusing_wanted false false true rest n = refl
refusing_wanted false false false rest n = absurd (n refl)

pub passing-wanted : (t u v : Bool) (rest : List Cause) → first_cause (cause t 3 ∷ cause u 4 ∷ cause v 6 ∷ []) ≡ 0
    → first_cause (cause t 3 ∷ cause u 4 ∷ cause v 6 ∷ rest) ≡ first_cause rest
unfolding first_cause
passing-wanted true u v rest e = absurd (omega (arith, e))
passing-wanted false true v rest e = absurd (omega (arith, e))
passing-wanted false false true rest e = absurd (omega (arith, e))
passing-wanted false false false rest e = refl

-- a number out of its range
pub axes_out : (g : Settings) → (1 ≤ g.axes → g.axes ≤ 8 → ⊥) → axes_fit g ≡ false
axes_out g n = refuted (axes_fit g) (reads_axes g) (λ x. n x.0 x.1)

pub budget_out : (g : Settings) → (1 ≤ g.budget → g.budget ≤ 8192 → ⊥) → budget_fit g ≡ false
budget_out g n = refuted (budget_fit g) (reads_budget g) (λ x. n x.0 x.1)

-- lent storage
pub few_records : (z : Lengths) (g : Settings) → z.records < 512 → short z g ≡ true
unfolding short
few_records z g h = rw (lt-leb 512 z.records h)

pub few_readings_lem : (z : Lengths) (g : Settings) → 512 ≤ z.records → z.readings < least_store g → short z g ≡ true
unfolding short
few_readings_lem z g l h = rw (le-leb 512 z.records l, lt-leb (least_store g) z.readings h)

pub enough : (z : Lengths) (g : Settings) → 512 ≤ z.records → least_store g ≤ z.readings → short z g ≡ false
unfolding short
enough z g l h = rw (le-leb 512 z.records l, le-leb (least_store g) z.readings h)
