-- The selected entry: active, of largest indicator, at the lowest place among equals.
-- Assumes nothing.
use mathlib.Core.Path.{◌≡◌, refl, sym, ◌∙◌}
use mathlib.Core.Bool.{Bool, true, false, cond, ◌&&◌}
use mathlib.Core.List.{List, [], ◌∷◌}
use Prim.Native.Nat.{ℕ, zero, suc, ◌+◌, ◌<◌, ◌≤◌}
use native.Mathlib.Decide.{ℕ_discrete, dec_lt}
use native.Mathlib.Omega.{arith}
use borrow.Author.Tests.{eqb-true}
use lib.Dec.{leb, eqb}
use Rattle.area.specs.Entry.{Entry, pending_of}
use Rattle.area.specs.Log.{Log}
use Rattle.soundness.specs.Sound.{Exactly}
use Rattle.soundness.proofs.Exactly.{reads_eq, reads_le, reads_and}
use Rattle.encoding.specs.Entries.{entry_at}
use Rattle.machine.specs.Log.{Active}
use Rattle.machine.specs.Choose.{largest, first_active, selected}

-- a test that says no refutes its statement
refuted : {t : Bool} {P : Type 0} → Exactly t P → t ≡ false → P → ⊥
refuted r e p = let y = r.back p in let z : ◌≡◌ {A = ℕ} 0 1 = cc in omega arith

later : (e : Entry) (es : List Entry) (p : ℕ) → Active es p → Active (e ∷ es) (suc p)
later e es p a = record { place = omega (arith, a.place); active = a.active }

earlier : (e : Entry) (es : List Entry) (p : ℕ) → Active (e ∷ es) (suc p) → Active es p
earlier e es p a = record { place = omega (arith, a.place); active = a.active }

-- ---- the largest indicator

reads_more : (e : Entry) (i : ℕ) → Exactly (eqb e.state 1 && leb i e.indicator) ((e.state ≡ 1) × (i ≤ e.indicator))
reads_more e i = reads_and (eqb e.state 1) (leb i e.indicator) (reads_eq e.state 1) (reads_le i e.indicator)

-- no active entry has a larger one
pub largest_most : (es : List Entry) (p : ℕ) → Active es p → (entry_at es p).indicator ≤ largest es
unfolding largest
largest_most [] p a = absurd (omega (arith, a.place))
largest_most (e ∷ es) p a = step (eqb e.state 1 && leb (largest es) e.indicator) refl p a (largest_most es)
  where
    step : (t : Bool) → (eqb e.state 1 && leb (largest es) e.indicator) ≡ t → (p : ℕ) → Active (e ∷ es) p
        → ((q : ℕ) → Active es q → (entry_at es q).indicator ≤ largest es) → (entry_at (e ∷ es) p).indicator ≤ cond t e.indicator (largest es)
    step true c zero a ih = omega arith
    step true c (suc p) a ih = omega (arith, ih p (earlier e es p a), ((reads_more e (largest es)).sure c).1)
    step false c zero a ih = below (dec_lt e.indicator (largest es))
      where
        below : Dec (e.indicator < largest es) → e.indicator ≤ largest es
        below (yes l) = omega arith
        below (no l) = absurd (refuted (reads_more e (largest es)) c (a.active, omega arith))
    step false c (suc p) a ih = ih p (earlier e es p a)

some_or_none : (es : List Entry) → Dec ((p : ℕ) × Active es p)
some_or_none [] = no (λ s. omega (arith, s.1.place))
some_or_none (e ∷ es) = step (ℕ_discrete e.state 1) (some_or_none es)
  where
    neither : (e.state ≡ 1 → ⊥) → ((p : ℕ) × Active es p → ⊥) → (p : ℕ) → Active (e ∷ es) p → ⊥
    neither f g zero a = f a.active
    neither f g (suc p) a = g (p, earlier e es p a)

    step : Dec (e.state ≡ 1) → Dec ((p : ℕ) × Active es p) → Dec ((p : ℕ) × Active (e ∷ es) p)
    step (yes a) s = yes (0, record { place = omega arith; active = a })
    step (no a) (yes s) = yes (suc s.0, later e es s.0 s.1)
    step (no a) (no s) = no (λ x. neither a s x.0 x.1)

-- it is 0 where none is active, and else an active entry's
pub largest-none : (es : List Entry) → ((p : ℕ) × Active es p → ⊥) → largest es ≡ 0
unfolding largest
largest-none [] n = refl
largest-none (e ∷ es) n =
    step (eqb e.state 1 && leb (largest es) e.indicator) refl (largest-none es (λ s. n (suc s.0, later e es s.0 s.1)))
  where
    step : (t : Bool) → (eqb e.state 1 && leb (largest es) e.indicator) ≡ t → largest es ≡ 0 → cond t e.indicator (largest es) ≡ 0
    step true c ih = absurd (n (0, record { place = omega arith; active = ((reads_more e (largest es)).sure c).0 }))
    step false c ih = ih

pub largest_has : (es : List Entry) → (p : ℕ) × Active es p → (p : ℕ) × Active es p × ((entry_at es p).indicator ≡ largest es)
unfolding largest
largest_has [] s = absurd (omega (arith, s.1.place))
largest_has (e ∷ es) s =
    step (eqb e.state 1 && leb (largest es) e.indicator) refl s.0 s.1 (some_or_none es) (largest_has es)
  where
    step : (t : Bool) → (eqb e.state 1 && leb (largest es) e.indicator) ≡ t → (p : ℕ) → Active (e ∷ es) p → Dec ((p : ℕ) × Active es p)
        → ((p : ℕ) × Active es p → (p : ℕ) × Active es p × ((entry_at es p).indicator ≡ largest es))
        → (p : ℕ) × Active (e ∷ es) p × ((entry_at (e ∷ es) p).indicator ≡ cond t e.indicator (largest es))
    step true c p a w ih = (0, record { place = omega arith; active = ((reads_more e (largest es)).sure c).0 }, refl)
    step false c p a (yes x) ih = let y = ih x in (suc y.0, later e es y.0 y.1, y.2)
    step false c zero a (no x) ih = absurd (refuted (reads_more e (largest es)) c (a.active, omega (arith, largest-none es x)))
    step false c (suc p) a (no x) ih = absurd (x (p, earlier e es p a))

-- ---- the first active entry with an indicator

reads_one : (e : Entry) (i : ℕ) → Exactly (eqb e.state 1 && eqb e.indicator i) ((e.state ≡ 1) × (e.indicator ≡ i))
reads_one e i = reads_and (eqb e.state 1) (eqb e.indicator i) (reads_eq e.state 1) (reads_eq e.indicator i)

-- an active place with an indicator, no later than p
pub record Found (es : List Entry) (i p q : ℕ) : Type 0 where
  pub is : Active es q
  pub indicator : (entry_at es q).indicator ≡ i
  pub early : q ≤ p

-- if some place has it, the found place has it, and is no later
pub first_found : (es : List Entry) (i p : ℕ) → Active es p → (entry_at es p).indicator ≡ i → Found es i p (first_active i es)
unfolding first_active
first_found [] i p a h = absurd (omega (arith, a.place))
first_found (e ∷ es) i p a h = step (eqb e.state 1 && eqb e.indicator i) refl p a h (first_found es i)
  where
    step : (t : Bool) → (eqb e.state 1 && eqb e.indicator i) ≡ t → (p : ℕ) → Active (e ∷ es) p → (entry_at (e ∷ es) p).indicator ≡ i
        → ((q : ℕ) → Active es q → (entry_at es q).indicator ≡ i → Found es i q (first_active i es)) → Found (e ∷ es) i p (cond t 0 (suc (first_active i es)))
    step true c p a h ih =
        let x = (reads_one e i).sure c in
        record { is = record { place = omega arith; active = x.0 }; indicator = x.1; early = omega arith }
    step false c zero a h ih = absurd (refuted (reads_one e i) c (a.active, h))
    step false c (suc p) a h ih =
        let x = ih p (earlier e es p a) h in
        record { is = later e es (first_active i es) x.is; indicator = x.indicator; early = omega (arith, x.early) }

-- ---- the selected entry

pub record Selected (es : List Entry) (p : ℕ) : Type 0 where
  pub is : Active es p
  pub largest : (q : ℕ) → Active es q → (entry_at es q).indicator ≤ (entry_at es p).indicator
  pub lowest : (q : ℕ) → Active es q → (entry_at es q).indicator ≡ (entry_at es p).indicator → p ≤ q

pub selected_is : (es : List Entry) → (p : ℕ) × Active es p → Selected es (selected es)
unfolding selected
selected_is es s =
    record {
      is = x.is;
      largest = λ q a. rw x.indicator (largest_most es q a);
      lowest = λ q a e. (first_found es (largest es) q a (e ∙ x.indicator)).early;
    }
  where
    t : (p : ℕ) × Active es p × ((entry_at es p).indicator ≡ largest es)
    t = largest_has es s

    x : Found es (largest es) t.0 (first_active (largest es) es)
    x = first_found es (largest es) t.0 t.1 t.2

-- and nothing else is
pub selected-only : (es : List Entry) (p q : ℕ) → Selected es p → Selected es q → p ≡ q
selected-only es p q s t =
    let e : (entry_at es p).indicator ≡ (entry_at es q).indicator = omega (arith, s.largest q t.is, t.largest p s.is) in
    omega (arith, s.lowest q t.is (sym e), t.lowest p s.is e)

-- ---- a pending error comes from an active entry

pub pending_some : (es : List Entry) → 0 < pending_of es → (p : ℕ) × Active es p
unfolding pending_of
pending_some [] h = absurd (omega arith)
pending_some (e ∷ es) h = step (eqb e.state 1) refl h (pending_some es)
  where
    step : (t : Bool) → eqb e.state 1 ≡ t → 0 < cond t e.indicator 0 + pending_of es → (0 < pending_of es → (p : ℕ) × Active es p) → (p : ℕ) × Active (e ∷ es) p
    step true c h ih = (0, record { place = omega arith; active = eqb-true e.state 1 c })
    step false c h ih = let s = ih (omega arith) in (suc s.0, later e es s.0 s.1)

-- so where it is above the threshold there is one to select
pub above_selected : (l : Log) → l.settings.threshold < pending_of l.entries → Selected l.entries (selected l.entries)
above_selected l h = selected_is l.entries (pending_some l.entries (omega (arith, h)))
