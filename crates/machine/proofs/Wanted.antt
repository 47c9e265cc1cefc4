-- The first wanted entry: nothing before it is wanted, it is wanted itself, and it is the only such place. Where wanted entries come
-- last, all from it on are wanted.
-- Assumes nothing.
use mathlib.Core.Path.{◌≡◌, refl, sym, ◌∙◌}
use mathlib.Core.Bool.{Bool, true, false, cond}
use mathlib.Core.List.{List, [], ◌∷◌}
use Prim.Native.Nat.{ℕ, zero, suc, ◌<◌, ◌≤◌}
use native.Mathlib.Decide.{dec_lt}
use native.Mathlib.Omega.{arith}
use borrow.Author.Tests.{eqb-true, eqb-false}
use lib.Dec.{eqb}
use lib.ListN.{length}
use Rattle.area.specs.Entry.{Entry}
use Rattle.soundness.specs.Sound.{Exactly}
use Rattle.soundness.proofs.Exactly.{reads_lt}
use Rattle.encoding.specs.Entries.{entry_at}
use Rattle.machine.specs.Log.{first_wanted, any_wanted}
use Rattle.machine.specs.Facts.{WantedFacts}

pub first_inside : (es : List Entry) → first_wanted es ≤ length es
unfolding first_wanted
first_inside [] = omega arith
first_inside (e ∷ es) = step (eqb e.state 0) (first_inside es)
  where
    step : (t : Bool) → first_wanted es ≤ length es → cond t 0 (suc (first_wanted es)) ≤ suc (length es)
    step true h = omega arith
    step false h = omega arith

pub first_is : (es : List Entry) → first_wanted es < length es → (entry_at es (first_wanted es)).state ≡ 0
unfolding first_wanted
first_is [] h = absurd (omega arith)
first_is (e ∷ es) h = step (eqb e.state 0) refl h (first_is es)
  where
    step : (t : Bool) → eqb e.state 0 ≡ t → cond t 0 (suc (first_wanted es)) < suc (length es)
        → (first_wanted es < length es → (entry_at es (first_wanted es)).state ≡ 0) → (entry_at (e ∷ es) (cond t 0 (suc (first_wanted es)))).state ≡ 0
    step true q h ih = eqb-true e.state 0 q
    step false q h ih = ih (omega arith)

pub before_first : (es : List Entry) (p : ℕ) → p < first_wanted es → 1 ≤ (entry_at es p).state
unfolding first_wanted
before_first [] p h = absurd (omega arith)
before_first (e ∷ es) p h = step (eqb e.state 0) refl p h (before_first es)
  where
    step : (t : Bool) → eqb e.state 0 ≡ t → (p : ℕ) → p < cond t 0 (suc (first_wanted es)) → ((q : ℕ) → q < first_wanted es → 1 ≤ (entry_at es q).state)
        → 1 ≤ (entry_at (e ∷ es) p).state
    step true q p h ih = absurd (omega arith)
    step false q zero h ih = let n : e.state ≡ 0 → ⊥ = eqb-false e.state 0 q in omega arith
    step false q (suc p) h ih = ih p (omega arith)

module _ (es : List Entry) where
  -- a wanted place with no wanted one before it
  pub first-only : (p : ℕ) → p < length es → (entry_at es p).state ≡ 0 → ((q : ℕ) → q < p → 1 ≤ (entry_at es q).state) → first_wanted es ≡ p
  first-only p h z f = step (dec_lt (first_wanted es) p) (dec_lt p (first_wanted es))
    where
      step : Dec (first_wanted es < p) → Dec (p < first_wanted es) → first_wanted es ≡ p
      step (yes l) m = absurd (omega (arith, f (first_wanted es) l, first_is es (omega arith)))
      step (no l) (yes m) = absurd (omega (arith, before_first es p m))
      step (no l) (no m) = omega arith

  -- where wanted entries come last
  pub from_first : ((p q : ℕ) → p ≤ q → q < length es → (entry_at es p).state ≡ 0 → (entry_at es q).state ≡ 0)
      → (p : ℕ) → first_wanted es ≤ p → p < length es → (entry_at es p).state ≡ 0
  from_first last p l h = last (first_wanted es) p l h (first_is es (omega arith))

  -- the search comes to the end exactly if nothing is wanted
  pub none-wanted : length es ≤ first_wanted es → (p : ℕ) → p < length es → 1 ≤ (entry_at es p).state
  none-wanted l p h = before_first es p (omega arith)

  pub first-none : ((p : ℕ) → p < length es → 1 ≤ (entry_at es p).state) → first_wanted es ≡ length es
  first-none f = step (dec_lt (first_wanted es) (length es))
    where
      step : Dec (first_wanted es < length es) → first_wanted es ≡ length es
      step (yes h) = absurd (omega (arith, f (first_wanted es) h, first_is es h))
      step (no h) = omega (arith, first_inside es)

  pub reads_wanted : Exactly (any_wanted es) (first_wanted es < length es)
  unfolding any_wanted
  reads_wanted = reads_lt (first_wanted es) (length es)

  -- a wanted place is there, and the first is no later
  first_early : (p : ℕ) → p < length es → (entry_at es p).state ≡ 0 → first_wanted es ≤ p
  first_early p h z = step (dec_lt p (first_wanted es))
    where
      step : Dec (p < first_wanted es) → first_wanted es ≤ p
      step (yes l) = absurd (omega (arith, before_first es p l, z))
      step (no l) = omega arith

  some-wanted : (p : ℕ) → p < length es → (entry_at es p).state ≡ 0 → any_wanted es ≡ true
  some-wanted p h z = reads_wanted.back (omega (arith, h, first_early p h z))

pub wanted-facts : WantedFacts
wanted-facts =
    record {
      sure = λ es e. let h = (reads_wanted es).sure e in (h, first_is es h);
      back = λ es p h z. (some-wanted es p h z, first_early es p h z);
      none = λ es e p h z. let clash : true ≡ false = sym (some-wanted es p h z) ∙ e in let y : ◌≡◌ {A = ℕ} 0 1 = cc in omega arith;
    }
