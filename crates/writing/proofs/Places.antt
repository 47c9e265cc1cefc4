-- The place of an index among entries: entered or not, and after one more index.
-- The idea: a search along the entries stops at the first with the index, so one more index at the end changes the search for no other.
-- Assumes nothing.
use mathlib.Core.Path.{◌≡◌, refl, sym, ap, ◌∙◌}
use mathlib.Core.Logic.{◌≢◌, ◌⊎◌, inl, inr, ⊎_elim}
use mathlib.Core.Bool.{Bool, true, false, cond}
use mathlib.Core.List.{List, [], ◌∷◌, ◌++◌}
use Prim.Native.Nat.{ℕ, zero, suc, ◌+◌, ◌<◌}
use native.Mathlib.Nat.{zero-add, add-zero}
use native.Mathlib.Omega.{arith}
use lib.ListN.{length}
use Rattle.grid.specs.Coefficient.{same_levels}
use Rattle.grid.proofs.Members.{same_refl, same_or}
use Rattle.area.specs.Entry.{Entry, indices_of}
use Rattle.area.specs.Encoding.{none, place_from, place_of}
use Rattle.encoding.specs.Entries.{entry_at, Has, Entered}

not_same : (j k : List ℕ) → j ≢ k → same_levels j k ≡ false
not_same j k n = ⊎_elim (λ e. absurd (n e)) (λ x. x.1) (same_or j k)

pub later : (e : Entry) (es : List Entry) (k : List ℕ) → Entered es k → Entered (e ∷ es) k
later e es k h = (suc h.0, record { place = omega (arith, h.1.place); same = h.1.same })

module _ (k : List ℕ) where
  bounded_from : (p : ℕ) (ls : List (List ℕ)) → (place_from p ls k ≡ none) ⊎ (place_from p ls k < p + length ls)
  unfolding place_from
  bounded_from p [] = inl refl
  bounded_from p (l ∷ ls) = step (same_levels l k) (bounded_from (p + 1) ls)
    where
      step : (t : Bool) → (place_from (p + 1) ls k ≡ none) ⊎ (place_from (p + 1) ls k < p + 1 + length ls)
          → (cond t p (place_from (p + 1) ls k) ≡ none) ⊎ (cond t p (place_from (p + 1) ls k) < p + suc (length ls))
      step true r = inr (omega arith)
      step false (inl e) = inl e
      step false (inr h) = inr (omega arith)

  -- whatever is looked up, its place is none or one of the list's
  pub place_bounded : (ls : List (List ℕ)) → (place_of ls k ≡ none) ⊎ (place_of ls k < length ls)
  unfolding place_of
  place_bounded ls = ⊎_elim inl (λ h. inr (omega arith)) (bounded_from 0 ls)

  absent_from : (p : ℕ) (es : List Entry) → (Entered es k → ⊥) → place_from p (indices_of es) k ≡ none
  unfolding place_from indices_of
  absent_from p [] f = refl
  absent_from p (e ∷ es) f =
      rw (not_same e.levels k (λ q. f (0, record { place = omega arith; same = q }))) (absent_from (p + 1) es (λ h. f (later e es k h)))

  pub place_absent : (es : List Entry) → (Entered es k → ⊥) → place_of (indices_of es) k ≡ none
  unfolding place_of
  place_absent es f = absent_from 0 es f

  has_from : (p : ℕ) (es : List Entry) (q : ℕ) → Has es k q → ((r : ℕ) → r < q → (entry_at es r).levels ≢ k) → place_from p (indices_of es) k ≡ p + q
  unfolding place_from indices_of
  has_from p [] q h u = absurd (omega (arith, h.place))
  has_from p (e ∷ es) zero h u = rw (h.same, same_refl k) (sym (add-zero p))
  has_from p (e ∷ es) (suc q) h u =
      rw (not_same e.levels k (u 0 (omega arith)))
      (has_from (p + 1) es q (record { place = omega (arith, h.place); same = h.same }) (λ r l. u (suc r) (omega arith)) ∙ omega arith)

  -- the first entry with the index
  pub place-first : (es : List Entry) (q : ℕ) → Has es k q → ((r : ℕ) → r < q → (entry_at es r).levels ≢ k) → place_of (indices_of es) k ≡ q
  unfolding place_of
  place-first es q h u = has_from 0 es q h u ∙ zero-add q

  other_from : (p : ℕ) (ls : List (List ℕ)) (x : List ℕ) → x ≢ k → place_from p (ls ++ (x ∷ [])) k ≡ place_from p ls k
  unfolding place_from
  other_from p [] x n = rw (not_same x k n)
  other_from p (l ∷ ls) x n = ap (λ q. cond (same_levels l k) p q) (other_from (p + 1) ls x n)

  pub place_other : (ls : List (List ℕ)) (x : List ℕ) → x ≢ k → place_of (ls ++ (x ∷ [])) k ≡ place_of ls k
  unfolding place_of
  place_other = other_from 0

  new_from : (p : ℕ) (es : List Entry) → (Entered es k → ⊥) → place_from p (indices_of es ++ (k ∷ [])) k ≡ p + length es
  unfolding place_from indices_of
  new_from p [] f = rw (same_refl k) (sym (add-zero p))
  new_from p (e ∷ es) f =
      rw (not_same e.levels k (λ q. f (0, record { place = omega arith; same = q }))) (new_from (p + 1) es (λ h. f (later e es k h)) ∙ omega arith)

  -- an index that is not entered, appended
  pub place_new : (es : List Entry) → (Entered es k → ⊥) → place_of (indices_of es ++ (k ∷ [])) k ≡ length es
  unfolding place_of
  place_new es f = new_from 0 es f ∙ zero-add (length es)
