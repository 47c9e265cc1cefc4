-- What is selected: the selected place has the index that Fig. 1 selects.
-- The idea: both searches go through the same indices in the same order, since each entry has the indicator of its index.
-- Assumes nothing.
use mathlib.Core.Path.{◌≡◌, refl, sym, ap, ap₂, ◌∙◌}
use mathlib.Core.Bool.{Bool, true, false, cond, ◌&&◌}
use mathlib.Core.List.{List, [], ◌∷◌}
use Prim.Native.Nat.{ℕ, suc, ◌<◌}
use native.Mathlib.Omega.{arith}
use lib.Dec.{leb, eqb}
use lib.ListN.{length}
use Rattle.area.specs.Entry.{Entry}
use Rattle.encoding.specs.Entries.{no_entry, entry_at}
use Rattle.machine.specs.Choose.{largest, first_active, selected}
use Rattle.published.specs.Figure.{Problem, Figure, largest_of, first_with, select}
use Rattle.published.specs.Turns.{active_of}

-- each entry has the indicator of its index
abbrev pub Indicated : (List ℕ → ℕ) → List Entry → Type 0
Indicated g es = (p : ℕ) → p < length es → (entry_at es p).indicator ≡ g (entry_at es p).levels

module _ (g : List ℕ → ℕ) where
  later : (e : Entry) (es : List Entry) → Indicated g (e ∷ es) → Indicated g es
  later e es f p h = f (suc p) (omega arith)

  largest_same : (es : List Entry) → Indicated g es → largest es ≡ largest_of g (active_of es)
  unfolding largest largest_of active_of
  largest_same [] f = refl
  largest_same (e ∷ es) f = step (eqb e.state 1) (f 0 (omega arith)) (largest_same es (later e es f))
    where
      step : (t : Bool) → e.indicator ≡ g e.levels → largest es ≡ largest_of g (active_of es)
          → cond (t && leb (largest es) e.indicator) e.indicator (largest es) ≡ largest_of g (cond t (e.levels ∷ active_of es) (active_of es))
      step true i ih = ap₂ (λ x y. cond (leb x y) y x) ih i
      step false i ih = ih

  -- where none is found, both give no levels
  first_same : (i : ℕ) (es : List Entry) → Indicated g es → (entry_at es (first_active i es)).levels ≡ first_with g i (active_of es)
  unfolding first_active first_with active_of no_entry
  first_same i [] f = refl
  first_same i (e ∷ es) f = step (eqb e.state 1) (f 0 (omega arith)) (first_same i es (later e es f))
    where
      here : (u : Bool) → (entry_at es (first_active i es)).levels ≡ first_with g i (active_of es)
          → (entry_at (e ∷ es) (cond u 0 (suc (first_active i es)))).levels ≡ cond u e.levels (first_with g i (active_of es))
      here true ih = refl
      here false ih = ih

      step : (t : Bool) → e.indicator ≡ g e.levels → (entry_at es (first_active i es)).levels ≡ first_with g i (active_of es)
          → (entry_at (e ∷ es) (cond (t && eqb e.indicator i) 0 (suc (first_active i es)))).levels ≡ first_with g i (cond t (e.levels ∷ active_of es) (active_of es))
      step true x ih = ap (λ n. (entry_at (e ∷ es) (cond (eqb n i) 0 (suc (first_active i es)))).levels) x ∙ here (eqb (g e.levels) i) ih
      step false x ih = ih

pub select_same : (P : Problem) (es : List Entry) (s : Figure) → Indicated P.indicator es → active_of es ≡ s.active → select P s ≡ (entry_at es (selected es)).levels
unfolding select selected
select_same P es s f e =
    ap (λ ks. first_with P.indicator (largest_of P.indicator ks) ks) (sym e)
    ∙ ap (λ i. first_with P.indicator i (active_of es)) (sym (largest_same P.indicator es f))
    ∙ sym (first_same P.indicator (largest es) es f)
