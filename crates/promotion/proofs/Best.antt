-- The best active place among the last ones, as the search from the last place down keeps it.
-- The idea: one more entry in front is taken if it is active and its indicator at least the largest so far.
-- Assumes nothing.
use mathlib.Core.Path.{◌≡◌, refl, sym, ap, ◌∙◌, subst}
use mathlib.Core.Logic.{◌≢◌}
use mathlib.Core.List.{List, [], ◌∷◌}
use Prim.Native.Nat.{ℕ, suc, ◌+◌, ◌-◌, ◌<◌, ◌≤◌}
use native.Mathlib.Omega.{arith}
use lib.ListN.{drop}
use borrow.Author.Tests.{eq-eqb, ne_eqb, le-leb, lt-leb}
use Rattle.area.specs.Entry.{Entry}
use Rattle.machine.specs.Choose.{largest, first_active, selected}

module _ (e : Entry) (es : List Entry) where
  taken : e.state ≡ 1 → largest es ≤ e.indicator → largest (e ∷ es) ≡ e.indicator
  unfolding largest
  taken s h = rw (eq-eqb e.state 1 s, le-leb (largest es) e.indicator h)

  taken_place : e.state ≡ 1 → first_active e.indicator (e ∷ es) ≡ 0
  unfolding first_active
  taken_place s = rw (eq-eqb e.state 1 s, eq-eqb e.indicator e.indicator refl)

  lower : e.state ≡ 1 → e.indicator < largest es → largest (e ∷ es) ≡ largest es
  unfolding largest
  lower s h = rw (eq-eqb e.state 1 s, lt-leb (largest es) e.indicator h)

  lower-place : (i : ℕ) → e.state ≡ 1 → e.indicator ≢ i → first_active i (e ∷ es) ≡ suc (first_active i es)
  unfolding first_active
  lower-place i s n = rw (eq-eqb e.state 1 s, ne_eqb e.indicator i n)

  other : e.state ≢ 1 → largest (e ∷ es) ≡ largest es
  unfolding largest
  other n = rw (ne_eqb e.state 1 n)

  other_place : (i : ℕ) → e.state ≢ 1 → first_active i (e ∷ es) ≡ suc (first_active i es)
  unfolding first_active
  other_place i n = rw (ne_eqb e.state 1 n)

-- what the search has found from place n on
pub record Best (es : List Entry) (n best top : ℕ) : Type 0 where
  pub largest_is : top ≡ largest (drop n es)
  pub place_is : best ≡ n + first_active (largest (drop n es)) (drop n es)

module _ (es : List Entry) (n best top : ℕ) (e : Entry) (front : drop (n - 1) es ≡ e ∷ drop n es) (above : 1 ≤ n) (b : Best es n best top) where
  pub best_new : e.state ≡ 1 → top ≤ e.indicator → Best es (n - 1) (n - 1) e.indicator
  best_new s h =
      let l : largest (drop (n - 1) es) ≡ e.indicator = ap largest front ∙ taken e (drop n es) s (subst (λ x. x ≤ e.indicator) b.largest_is h) in
      record {
        largest_is = sym l;
        place_is =
            omega (arith, ap (λ x. first_active x (drop (n - 1) es)) l ∙ ap (first_active e.indicator) front ∙ taken_place e (drop n es) s);
      }

  kept : largest (drop (n - 1) es) ≡ largest (drop n es) → first_active (largest (drop n es)) (e ∷ drop n es) ≡ suc (first_active (largest (drop n es)) (drop n es))
      → Best es (n - 1) best top
  kept l f =
      record {
        largest_is = b.largest_is ∙ sym l;
        place_is = omega (arith, b.place_is, ap (λ x. first_active x (drop (n - 1) es)) l ∙ ap (first_active (largest (drop n es))) front ∙ f);
      }

  pub best_lower : e.state ≡ 1 → e.indicator < top → Best es (n - 1) best top
  best_lower s h =
      let g : e.indicator < largest (drop n es) = subst (λ x. e.indicator < x) b.largest_is h in
      kept (ap largest front ∙ lower e (drop n es) s g) (lower-place e (drop n es) (largest (drop n es)) s (λ x. omega (arith, g, x)))

  pub best_other : e.state ≢ 1 → Best es (n - 1) best top
  best_other s = kept (ap largest front ∙ other e (drop n es) s) (other_place e (drop n es) (largest (drop n es)) s)

pub best_start : (es : List Entry) (n : ℕ) → drop n es ≡ [] → Best es n n 0
unfolding largest first_active
best_start es n e = record { largest_is = sym (ap largest e); place_is = omega (arith, ap (λ x. first_active (largest x) x) e) }

pub best_end : (es : List Entry) (best top : ℕ) → Best es 0 best top → best ≡ selected es
unfolding selected
best_end es best top b = omega (arith, b.place_is)
