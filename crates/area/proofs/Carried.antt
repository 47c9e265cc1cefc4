-- The carried error as a sum over the entries.
-- The idea: each entry adds its own part, whatever the others are, and has no part in both errors, since it is not both active and old.
-- Assumes nothing.
use mathlib.Core.Path.{◌≡◌, refl, sym, ◌∙◌}
use mathlib.Core.Bool.{Bool, true, false, cond, ◌&&◌}
use mathlib.Core.List.{List, [], ◌∷◌, ◌++◌}
use Prim.Native.Nat.{ℕ, zero, suc, ◌+◌, ◌*◌, ◌^◌, ◌<◌, ◌≤◌}
use native.Mathlib.Omega.{arith}
use borrow.Author.Tests.{eqb-true, eq-eqb, ne_eqb}
use lib.Dec.{eqb}
use lib.ListN.{length, get_or, set}
use Rattle.grid.specs.Index.{excess, levels_within, within, forward, at_ceiling}
use Rattle.grid.specs.Boundary.{pair}
use Rattle.area.specs.Entry.{Entry, pending_of, carried_of}
use Rattle.area.specs.Facts.{CarriedFacts, CarriedCases}

module _ (d : ℕ) where
  abbrev part : Entry → ℕ
  part e = cond (eqb e.state 2 && at_ceiling d e.levels) e.indicator 0

  one : (e : Entry) → carried_of d (e ∷ []) ≡ part e
  unfolding carried_of
  one e = omega arith

  own : (e : Entry) → e.state ≡ 2 → at_ceiling d e.levels ≡ true → carried_of d (e ∷ []) ≡ e.indicator
  own e s c = one e ∙ rw (eq-eqb e.state 2 s, c) refl

  not_old : (e : Entry) → (e.state ≡ 2 → ⊥) → carried_of d (e ∷ []) ≡ 0
  not_old e n = one e ∙ rw (ne_eqb e.state 2 n) refl

  not_at_ceiling : (e : Entry) → at_ceiling d e.levels ≡ false → carried_of d (e ∷ []) ≡ 0
  not_at_ceiling e c = one e ∙ rw c (either (eqb e.state 2))
    where
      either : (t : Bool) → cond (t && false) e.indicator 0 ≡ 0
      either true = refl
      either false = refl

  append : (es fs : List Entry) → carried_of d (es ++ fs) ≡ carried_of d es + carried_of d fs
  unfolding carried_of
  append [] fs = omega arith
  append (e ∷ es) fs = omega (arith, append es fs)

  replaced : (es : List Entry) (p : ℕ) (e f : Entry) → p < length es
      → carried_of d (set es p e) + carried_of d (get_or es p f ∷ []) ≡ carried_of d es + carried_of d (e ∷ [])
  unfolding carried_of
  replaced [] p e f h = absurd (omega arith)
  replaced (x ∷ es) zero e f h = omega arith
  replaced (x ∷ es) (suc p) e f h = omega (arith, replaced es p e f (omega arith))

  alike : (e f : Entry) → e.levels ≡ f.levels → e.state ≡ f.state → e.indicator ≡ f.indicator → carried_of d (e ∷ []) ≡ carried_of d (f ∷ [])
  alike e f k s i = one e ∙ rw (k, s, i) (sym (one f))

  -- an entry's part in the two errors is at most its indicator
  shared : (e : Entry) → cond (eqb e.state 1) e.indicator 0 + part e ≤ e.indicator
  shared e = step (eqb e.state 1) (eqb e.state 2) (at_ceiling d e.levels) refl refl
    where
      step : (t u c : Bool) → eqb e.state 1 ≡ t → eqb e.state 2 ≡ u → cond t e.indicator 0 + cond (u && c) e.indicator 0 ≤ e.indicator
      step true true c x y = absurd (omega (arith, eqb-true e.state 1 x, eqb-true e.state 2 y))
      step true false c x y = omega arith
      step false true true x y = omega arith
      step false true false x y = omega arith
      step false false c x y = omega arith

  few : (es : List Entry) (f : Entry) → ((p : ℕ) → p < length es → (get_or es p f).indicator < 2 ^ 32) → pending_of es + carried_of d es ≤ length es * 4294967295
  unfolding pending_of carried_of
  few [] f h = omega arith
  few (e ∷ es) f h = omega (arith, few es f (λ p l. h (suc p) (omega (arith, l))), shared e, h 0 (omega arith))

pub carried_facts : CarriedFacts
carried_facts =
    record {
      own = own;
      not_old = not_old;
      not_at_ceiling = not_at_ceiling;
      append = append;
      replaced = replaced;
      alike = alike;
      together = λ d es f n h. omega (arith, n, few d es f h);
    }

pub carried_cases : CarriedCases
carried_cases = record { row = unfold carried_of at_ceiling within levels_within excess forward pair in refl }
