-- The answer of refining a place, by how many would be held and how large the blocks would be.
-- Assumes nothing.
use mathlib.Core.Path.{◌≡◌, refl, sym, ap, ◌∙◌}
use mathlib.Core.Logic.{◌⊎◌, inl, inr}
use mathlib.Core.Bool.{Bool, true, false, cond}
use Prim.Native.Nat.{ℕ, ◌<◌, ◌≤◌}
use native.Mathlib.Decide.{dec_lt}
use native.Mathlib.Omega.{arith}
use lib.ListN.{length}
use Rattle.area.specs.Entry.{reserved_by}
use Rattle.area.specs.Log.{Log, with_entries}
use Rattle.soundness.specs.Sound.{Exactly}
use Rattle.soundness.proofs.Exactly.{reads_le, reads_and}
use Rattle.machine.specs.Promote.{Promotion, spent, promoted, refine, fits, promote_within, promote_at}

-- x held and y readings reserved are too many
abbrev pub TooMany : ℕ → ℕ → ℕ → Type 0
TooMany budget x y = (512 < x) ⊎ (budget < y)

module _ (l : Log) (p : ℕ) where
  abbrev g : ℕ
  g = l.settings.budget

  abbrev after : Log
  after = with_entries l (refine l.settings.axes l.entries p)

  abbrev given : Bool → Promotion
  given t = cond t (record { outcome = promoted; log = after }) (record { outcome = spent; log = l })

  given_is : (promote_at l p).outcome ≡ (given (fits g after.entries)).outcome
  unfolding promote_within
  given_is = refl

  module _ (x y : ℕ) (held : length (refine l.settings.axes l.entries p) ≡ x) (reserved : reserved_by (refine l.settings.axes l.entries p) ≡ y) where
    fit_read : Exactly (fits g after.entries) ((length after.entries ≤ 512) × (reserved_by after.entries ≤ g))
    unfolding fits
    fit_read = reads_and _ _ (reads_le (length after.entries) 512) (reads_le (reserved_by after.entries) g)

    too_many_or : Dec (TooMany g x y)
    too_many_or = step (dec_lt 512 x) (dec_lt g y)
      where
        neither : (512 < x → ⊥) → (g < y → ⊥) → TooMany g x y → ⊥
        neither a b (inl h) = a h
        neither a b (inr h) = b h

        step : Dec (512 < x) → Dec (g < y) → Dec (TooMany g x y)
        step (yes h) b = yes (inl h)
        step (no a) (yes h) = yes (inr h)
        step (no a) (no b) = no (neither a b)

    fit_not : TooMany g x y → fits g after.entries ≡ true → ⊥
    fit_not (inl h) e = omega (arith, h, held, (fit_read.sure e).0)
    fit_not (inr h) e = omega (arith, h, reserved, (fit_read.sure e).1)

    fit_else : (TooMany g x y → ⊥) → fits g after.entries ≡ true
    fit_else n = fit_read.back (few (dec_lt 512 x), small (dec_lt g y))
      where
        few : Dec (512 < x) → length after.entries ≤ 512
        few (yes h) = absurd (n (inl h))
        few (no h) = omega (arith, held)

        small : Dec (g < y) → reserved_by after.entries ≤ g
        small (yes h) = absurd (n (inr h))
        small (no h) = omega (arith, reserved)

    pub limits_spent : TooMany l.settings.budget x y → (promote_at l p).outcome ≡ spent
    limits_spent h = given_is ∙ step (fits g after.entries) refl
      where
        step : (t : Bool) → fits g after.entries ≡ t → (given t).outcome ≡ spent
        step true e = absurd (fit_not h e)
        step false e = refl

    pub limits_promoted : (TooMany l.settings.budget x y → ⊥) → (promote_at l p).outcome ≡ promoted
    limits_promoted n = given_is ∙ ap (λ t. (given t).outcome) (fit_else n)

    pub limits_only : (promote_at l p).outcome ≡ spent → TooMany l.settings.budget x y
    limits_only e = step too_many_or
      where
        step : Dec (TooMany g x y) → TooMany g x y
        step (yes h) = h
        step (no n) =
            let f : promoted ≡ spent = sym (limits_promoted n) ∙ e in
            let z : ◌≡◌ {A = ℕ} 0 1 = cc in
            absurd (omega arith)
