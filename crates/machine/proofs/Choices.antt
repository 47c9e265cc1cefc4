-- The three choices, each exactly in its case.
-- The idea: what is pending is at most what is pending and carried together, so the two tests leave three cases.
-- Assumes nothing.
use mathlib.Core.Path.{◌≡◌, refl, sym, ap, ◌∙◌}
use mathlib.Core.Bool.{Bool, true, false, cond}
use Prim.Native.Nat.{ℕ, ◌<◌, ◌≤◌}
use native.Mathlib.Omega.{arith}
use borrow.Author.Tests.{leb-true, leb-false}
use Rattle.area.specs.Entry.{pending_of}
use Rattle.area.specs.Log.{Log}
use Rattle.machine.specs.Log.{Active}
use Rattle.machine.specs.Choose.{Choice, met, capped, place, selected, is_over, is_met, choose}
use Rattle.machine.specs.Facts.{errors_of, ChooseFacts}
use Rattle.machine.proofs.Selected.{above_selected}

-- a log with its choice, and the case that it is in
pub data Chosen (l : Log) : Type 0 where
  meets : choose l ≡ met → errors_of l ≤ l.settings.threshold → Chosen l
  caps : choose l ≡ capped → pending_of l.entries ≤ l.settings.threshold → l.settings.threshold < errors_of l → Chosen l
  goes : choose l ≡ place (selected l.entries) → l.settings.threshold < pending_of l.entries → Chosen l

pub chosen : (l : Log) → Chosen l
unfolding choose is_over is_met
chosen l = step (is_over l) (is_met l) refl refl refl
  where
    step : (t u : Bool) → is_over l ≡ t → is_met l ≡ u → choose l ≡ cond t (cond u met capped) (place (selected l.entries)) → Chosen l
    step true true e f c = meets c (leb-true (errors_of l) l.settings.threshold f)
    step true false e f c = caps c (leb-true (pending_of l.entries) l.settings.threshold e) (leb-false (errors_of l) l.settings.threshold f)
    step false u e f c = goes c (leb-false (pending_of l.entries) l.settings.threshold e)

-- which of the three a choice is
abbrev kind : Choice → ℕ
kind met = 0
kind capped = 1
kind (place p) = 2

abbrev number : Choice → ℕ
number met = 0
number capped = 0
number (place p) = p

module _ (l : Log) where
  abbrev t : ℕ
  t = l.settings.threshold

  met_if : errors_of l ≤ t → choose l ≡ met
  met_if h = step (chosen l)
    where
      step : Chosen l → choose l ≡ met
      step (meets e g) = e
      step (caps e g f) = absurd (omega (arith, h, f))
      step (goes e g) = absurd (omega (arith, h, g))

  capped_if : pending_of l.entries ≤ t → t < errors_of l → choose l ≡ capped
  capped_if h k = step (chosen l)
    where
      step : Chosen l → choose l ≡ capped
      step (meets e g) = absurd (omega (arith, k, g))
      step (caps e g f) = e
      step (goes e g) = absurd (omega (arith, h, g))

  place_if : t < pending_of l.entries → choose l ≡ place (selected l.entries)
  place_if h = step (chosen l)
    where
      step : Chosen l → choose l ≡ place (selected l.entries)
      step (meets e g) = absurd (omega (arith, h, g))
      step (caps e g f) = absurd (omega (arith, h, g))
      step (goes e g) = e

  met_only : choose l ≡ met → errors_of l ≤ t
  met_only c = step (chosen l)
    where
      step : Chosen l → errors_of l ≤ t
      step (meets e g) = g
      step (caps e g f) = let z : kind met ≡ kind capped = ap kind (sym c ∙ e) in absurd (omega (arith, z))
      step (goes e g) = let z : kind met ≡ kind (place (selected l.entries)) = ap kind (sym c ∙ e) in absurd (omega (arith, z))

  capped_only : choose l ≡ capped → (pending_of l.entries ≤ t) × (t < errors_of l)
  capped_only c = step (chosen l)
    where
      step : Chosen l → (pending_of l.entries ≤ t) × (t < errors_of l)
      step (meets e g) = let z : kind capped ≡ kind met = ap kind (sym c ∙ e) in absurd (omega (arith, z))
      step (caps e g f) = (g, f)
      step (goes e g) = let z : kind capped ≡ kind (place (selected l.entries)) = ap kind (sym c ∙ e) in absurd (omega (arith, z))

  place_only : (p : ℕ) → choose l ≡ place p → (t < pending_of l.entries) × (p ≡ selected l.entries)
  place_only p c = step (chosen l)
    where
      step : Chosen l → (t < pending_of l.entries) × (p ≡ selected l.entries)
      step (meets e g) = let z : kind (place p) ≡ kind met = ap kind (sym c ∙ e) in absurd (omega (arith, z))
      step (caps e g f) = let z : kind (place p) ≡ kind capped = ap kind (sym c ∙ e) in absurd (omega (arith, z))
      step (goes e g) = (g, ap number (sym c ∙ e))

  place_active : (p : ℕ) → choose l ≡ place p → Active l.entries p
  place_active p c = let x = place_only p c in rw x.1 (above_selected l x.0).is

pub choose-facts : ChooseFacts
choose-facts =
    record {
      met_if = met_if;
      met_only = met_only;
      capped_if = capped_if;
      capped_only = capped_only;
      place_if = place_if;
      place_only = place_only;
      place_active = place_active;
      equal_met = λ l e z. met_if l (omega (arith, e, z));
      equal_met_only = λ l e c. omega (arith, e, met_only l c);
    }
