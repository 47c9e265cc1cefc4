-- The answer of promote, for any place: the place refined where it fits, else spent and the log as it was.
-- Assumes nothing.
use mathlib.Core.Path.{◌≡◌, refl, ap}
use mathlib.Core.Bool.{Bool, true, false}
use Prim.Native.Nat.{ℕ}
use native.Mathlib.Omega.{arith}
use Rattle.area.specs.Log.{Log, with_entries}
use Rattle.machine.specs.Promote.{Outcome, spent, promoted, Promotion, refine, fits, promote_within}

-- the log with the place refined
abbrev pub refined_log : Log → ℕ → Log
refined_log l p = with_entries l (refine l.settings.axes l.entries p)

-- a log with promote's answer, and the case that it is in
pub data Answered (limit : ℕ) (l : Log) (p : ℕ) : Type 0 where
  is_promoted : promote_within limit l p ≡ record { outcome = promoted; log = refined_log l p } → fits limit (refine l.settings.axes l.entries p) ≡ true → Answered limit l p
  is_spent : promote_within limit l p ≡ record { outcome = spent; log = l } → fits limit (refine l.settings.axes l.entries p) ≡ false → Answered limit l p

pub answered : (limit : ℕ) (l : Log) (p : ℕ) → Answered limit l p
unfolding promote_within
answered limit l p = step (fits limit (refine l.settings.axes l.entries p)) refl
  where
    step : (t : Bool) → fits limit (refine l.settings.axes l.entries p) ≡ t → Answered limit l p
    step true e = is_promoted (rw e refl) e
    step false e = is_spent (rw e refl) e

-- the two answers are not one
pub spent_not : {A : Type 0} {o : Outcome} → o ≡ spent → o ≡ promoted → A
spent_not e f = let z : ◌≡◌ {A = ℕ} 0 1 = cc in absurd (omega arith)

module _ (limit : ℕ) (l : Log) (p : ℕ) where
  -- what holds of the log and of the log with the place refined, holds whatever the answer
  pub either_log : (P : Log → Type 0) → (fits limit (refine l.settings.axes l.entries p) ≡ true → P (refined_log l p)) → P l → P (promote_within limit l p).log
  either_log P f g = step (answered limit l p)
    where
      step : Answered limit l p → P (promote_within limit l p).log
      step (is_promoted e h) = rw e (f h)
      step (is_spent e h) = rw e g

  -- the settings stay
  pub promoted_settings : (promote_within limit l p).log.settings ≡ l.settings
  promoted_settings = either_log (λ (o : Log). o.settings ≡ l.settings) (λ e. refl) refl

  -- promoted, the place is refined
  pub promoted_log : (promote_within limit l p).outcome ≡ promoted → (promote_within limit l p).log ≡ refined_log l p
  promoted_log f = step (answered limit l p)
    where
      step : Answered limit l p → (promote_within limit l p).log ≡ refined_log l p
      step (is_promoted e h) = ap (λ (x : Promotion). x.log) e
      step (is_spent e h) = spent_not (ap (λ (x : Promotion). x.outcome) e) f

  -- any other answer leaves the log
  pub same_log : ((promote_within limit l p).outcome ≡ promoted → ⊥) → (promote_within limit l p).log ≡ l
  same_log n = step (answered limit l p)
    where
      step : Answered limit l p → (promote_within limit l p).log ≡ l
      step (is_promoted e h) = absurd (n (ap (λ (x : Promotion). x.outcome) e))
      step (is_spent e h) = ap (λ (x : Promotion). x.log) e
