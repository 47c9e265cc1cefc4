-- Fig. 1 led by a list: one index more is the loop's body once more; 𝒪 is the list; and led by what it selects itself it makes its own turns.
-- Assumes nothing.
use mathlib.Core.Path.{◌≡◌, refl, sym, ap, ◌∙◌}
use mathlib.Core.Bool.{Bool, true, false, cond}
use mathlib.Core.List.{List, [], ◌∷◌, ◌++◌, append_assoc, append-nil}
use Prim.Native.Nat.{ℕ, zero, suc, ◌+◌}
use Rattle.grid.specs.Index.{forward}
use Rattle.published.specs.Figure.{Problem, Figure, initial, select, moved, admissible, joined, scanned, turn_at, turn, turns, led_from, led, selections}

module _ (P : Problem) where
  from_more : (s : Figure) (is : List (List ℕ)) (i : List ℕ) → led_from P s (is ++ i ∷ []) ≡ turn_at P i (led_from P s is)
  unfolding led_from
  from_more s [] i = refl
  from_more s (j ∷ is) i = from_more (turn_at P j s) is i

  pub led_more : (is : List (List ℕ)) (i : List ℕ) → led P (is ++ i ∷ []) ≡ turn_at P i (led P is)
  unfolding led
  led_more is i = from_more (initial P) is i

  -- the scan leaves 𝒪
  scanned_old : (i : List ℕ) (n a : ℕ) (s : Figure) → (scanned P i n a s).old ≡ s.old
  unfolding scanned joined
  scanned_old i zero a s = refl
  scanned_old i (suc n) a s = scanned_old i n (a + 1) (cond (admissible P s (forward i a)) (joined P (forward i a) s) s) ∙ step (admissible P s (forward i a))
    where
      step : (t : Bool) → (cond t (joined P (forward i a) s) s).old ≡ s.old
      step true = refl
      step false = refl

  from_old : (s : Figure) (is : List (List ℕ)) → (led_from P s is).old ≡ s.old ++ is
  unfolding led_from turn_at moved
  from_old s [] = sym (append-nil s.old)
  from_old s (i ∷ is) = from_old (turn_at P i s) is ∙ ap (λ ks. ks ++ is) (scanned_old i P.axes 0 (moved P i s)) ∙ append_assoc s.old (i ∷ []) is

  pub led_old : (is : List (List ℕ)) → (led P is).old ≡ is
  unfolding led initial
  led_old is = from_old (initial P) is

  pub led_itself : (n : ℕ) → led P (selections P n) ≡ turns P n
  unfolding selections turns turn
  led_itself zero = unfold led led_from in refl
  led_itself (suc n) = led_more (selections P n) (select P (turns P n)) ∙ ap (turn_at P (select P (turns P n))) (led_itself n)
