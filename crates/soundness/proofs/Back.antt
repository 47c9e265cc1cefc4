-- The structure of a sound area passes the check by links.
-- The idea: if no axis barred an index that could be raised, the raised one would be admissible, so held, and the link would name it.
-- Assumes nothing.
use mathlib.Core.Path.{◌≡◌, sym, ap, ◌∙◌}
use mathlib.Core.Logic.{◌≢◌, ◌⊎◌, inl, inr}
use mathlib.Core.List.{List, List-discrete}
use Prim.Native.Nat.{ℕ, ◌+◌, ◌<◌, ◌≤◌}
use native.Mathlib.Decide.{ℕ_discrete, dec_lt}
use native.Mathlib.Omega.{arith}
use lib.ListN.{length}
use Rattle.grid.specs.Index.{level, excess, Index, root, forward, backward}
use Rattle.grid.proofs.Neighbours.{forward_other, backward_forward, forward_backward}
use Rattle.area.specs.declared.IndexRecord.{IndexRecord}
use Rattle.area.specs.Encoding.{none}
use Rattle.soundness.specs.Held.{levels_at, state_at, forward_link, backward_link, Holds, Held, HeldOld}
use Rattle.soundness.specs.Sound.{Structure}
use Rattle.soundness.specs.LinkCheck.{Behind, Ahead, Bars, LinkChecked}
use Rattle.soundness.proofs.Levels.{find, forward_same, forward-backward_other, at_least, axis_of, index_forward}
use Rattle.soundness.proofs.Forth.{none_far}

-- an index is held or not
pub held_or : (rs : List IndexRecord) (k : List ℕ) → Held rs k ⊎ (Held rs k → ⊥)
held_or rs k = step (find (length rs) (λ p. levels_at rs p ≡ k) (λ p. List-discrete ℕ_discrete (levels_at rs p) k))
  where
    step : ((p : ℕ) × (p < length rs) × (levels_at rs p ≡ k)) ⊎ ((p : ℕ) → p < length rs → levels_at rs p ≡ k → ⊥) → Held rs k ⊎ (Held rs k → ⊥)
    step (inl s) = inl (s.0, record { place = s.1; same = s.2 })
    step (inr f) = inr (λ s. f s.0 s.1.place s.1.same)

module _ (d : ℕ) (most : d ≤ 8) (rs : List IndexRecord) (s : Structure d rs) where
  index : (p : ℕ) → p < length rs → Index d (levels_at rs p)
  index p h = s.index p h

  axis_in : (p a : ℕ) → p < length rs → a < 8 → a < length (levels_at rs p)
  axis_in p a h l = omega (arith, (index p h).eight)

  only : (p : ℕ) → p < length rs → levels_at rs p ≡ root → p ≡ 0
  only p h e = s.different p 0 h (omega arith) (e ∙ sym s.first)

  -- a place above level 1 along a is what the place behind it names
  named_back : (p q a : ℕ) → p < length rs → a < d → 1 < level (levels_at rs p) a → Holds rs (backward (levels_at rs p) a) q → forward_link rs q a ≡ p
  named_back p q a hp ha l h =
      (s.forward_links q a h.place ha).place p
      (record { place = hp; same = sym (ap (λ z. forward z a) h.same ∙ forward_backward (levels_at rs p) a (axis_in p a hp (omega (arith, most))) (omega arith)) })

  back : (p a : ℕ) → p < length rs → a < 8 → 1 < level (levels_at rs p) a → Behind rs p a (backward_link rs p a)
  back p a hp h l =
      let ha : a < d = axis_of d (levels_at rs p) (index p hp) a h l in
      let x : HeldOld rs (backward (levels_at rs p) a) = s.behind p a hp ha l in
      let e : backward_link rs p a ≡ x.0 = (s.backward_links p a hp ha l).place x.0 x.1 in
      rw e (record { place = x.1.place; same = x.1.same; old = x.2; named_back = named_back p x.0 a hp ha l x.1 })

  back_none : (p a : ℕ) → p < length rs → a < 8 → level (levels_at rs p) a ≤ 1 → backward_link rs p a ≡ none
  back_none p a hp h e = step (dec_lt a d)
    where
      step : Dec (a < d) → backward_link rs p a ≡ none
      step (yes l) = s.no_backward_link p a hp l (omega (arith, at_least d (levels_at rs p) (index p hp) a h))
      step (no l) = (s.beyond p a hp (omega arith) h).1

  -- a forward link is none, or names the place ahead
  ahead_or : (p a : ℕ) → p < length rs → a < d → (forward_link rs p a ≡ none) ⊎ Holds rs (forward (levels_at rs p) a) (forward_link rs p a)
  ahead_or p a hp ha = step (held_or rs (forward (levels_at rs p) a))
    where
      step : Held rs (forward (levels_at rs p) a) ⊎ (Held rs (forward (levels_at rs p) a) → ⊥)
          → (forward_link rs p a ≡ none) ⊎ Holds rs (forward (levels_at rs p) a) (forward_link rs p a)
      step (inl h) = inr (rw ((s.forward_links p a hp ha).place h.0 h.1) h.1)
      step (inr f) = inl ((s.forward_links p a hp ha).otherwise f)

  ahead : (p a : ℕ) → p < length rs → a < 8 → (forward_link rs p a ≡ none) ⊎ Ahead rs p a (forward_link rs p a)
  ahead p a hp h = axis (dec_lt a d)
    where
      there : a < d → Holds rs (forward (levels_at rs p) a) (forward_link rs p a) → Ahead rs p a (forward_link rs p a)
      there ha y =
          let q : ℕ = forward_link rs p a in
          let l : a < length (levels_at rs p) = axis_in p a hp h in
          let up : level (levels_at rs q) a ≡ level (levels_at rs p) a + 1 = ap (λ k. level k a) y.same ∙ forward_same (levels_at rs p) a l in
          let one : 1 ≤ level (levels_at rs p) a = at_least d (levels_at rs p) (index p hp) a h in
          record {
            place = y.place;
            named_back =
                (s.backward_links q a y.place ha (omega arith)).place p
                (record { place = hp; same = sym (ap (λ k. backward k a) y.same ∙ backward_forward (levels_at rs p) a l) });
          }

      step : a < d → (forward_link rs p a ≡ none) ⊎ Holds rs (forward (levels_at rs p) a) (forward_link rs p a) → (forward_link rs p a ≡ none) ⊎ Ahead rs p a (forward_link rs p a)
      step ha (inl e) = inl e
      step ha (inr y) = inr (there ha y)

      axis : Dec (a < d) → (forward_link rs p a ≡ none) ⊎ Ahead rs p a (forward_link rs p a)
      axis (yes ha) = step ha (ahead_or p a hp ha)
      axis (no ha) = inl (s.beyond p a hp (omega arith) h).0

  -- ---- completeness
  -- whether axis b shows that p raised along a is not admissible
  pub bars_or : (p a b : ℕ) → Dec (Bars d rs p a b)
  bars_or p a b = first (dec_lt b d) (ℕ_discrete b a) (dec_lt 1 (level (levels_at rs p) b))
      (ℕ_discrete (forward_link rs (backward_link rs p b) a) none) (ℕ_discrete (state_at rs (forward_link rs (backward_link rs p b) a)) 2)
    where
      out : {A B : Type 0} → (A → ⊥) → (B → ⊥) → A ⊎ B → ⊥
      out f g (inl x) = f x
      out f g (inr x) = g x

      first : Dec (b < d) → Dec (b ≡ a) → Dec (1 < level (levels_at rs p) b) → Dec (forward_link rs (backward_link rs p b) a ≡ none)
          → Dec (state_at rs (forward_link rs (backward_link rs p b) a) ≡ 2) → Dec (Bars d rs p a b)
      first (no n) e l m o = no (λ t. n t.axis)
      first (yes x) (yes e) l m o = no (λ t. t.other e)
      first (yes x) (no e) (no n) m o = no (λ t. n t.above)
      first (yes x) (no e) (yes l) (yes m) o = yes (record { axis = x; other = e; above = l; missing = inl m })
      first (yes x) (no e) (yes l) (no m) (no o) = yes (record { axis = x; other = e; above = l; missing = inr o })
      first (yes x) (no e) (yes l) (no m) (yes o) = no (λ t. out m (λ f. f o) t.missing)

  module _ (p a : ℕ) (hp : p < length rs) (ha : a < d) (old : state_at rs p ≡ 2) (gone : forward_link rs p a ≡ none)
      (low : level (levels_at rs p) a < 8) (small : excess (levels_at rs p) < 12) where
    in_p : a < length (levels_at rs p)
    in_p = axis_in p a hp (omega (arith, most))

    -- where no axis bars, every backward neighbour of p raised along a is held and old
    module _ (free : (b : ℕ) → b < d → Bars d rs p a b → ⊥) where
      behind_other : (b : ℕ) → b < d → b ≢ a → 1 < level (levels_at rs p) b → HeldOld rs (backward (forward (levels_at rs p) a) b)
      behind_other b hb n l = step (ahead_or q a x.place ha)
          (ℕ_discrete (state_at rs (forward_link rs q a)) 2)
        where
          q : ℕ
          q = backward_link rs p b

          x : Behind rs p b q
          x = back p b hp (omega (arith, most)) l

          same : forward (levels_at rs q) a ≡ backward (forward (levels_at rs p) a) b
          same = ap (λ k. forward k a) x.same ∙ forward-backward_other (levels_at rs p) a b n

          step : (forward_link rs q a ≡ none) ⊎ Holds rs (forward (levels_at rs q) a) (forward_link rs q a) → Dec (state_at rs (forward_link rs q a) ≡ 2)
              → HeldOld rs (backward (forward (levels_at rs p) a) b)
          step (inl e) o = absurd (free b hb (record { axis = hb; other = n; above = l; missing = inl e }))
          step (inr y) (yes o) = (forward_link rs q a, record { place = y.place; same = y.same ∙ same }, o)
          step (inr y) (no o) = absurd (free b hb (record { axis = hb; other = n; above = l; missing = inr o }))

      behind_all : (b : ℕ) → b < d → 1 < level (forward (levels_at rs p) a) b → HeldOld rs (backward (forward (levels_at rs p) a) b)
      behind_all b hb l = step (ℕ_discrete b a)
        where
          step : Dec (b ≡ a) → HeldOld rs (backward (forward (levels_at rs p) a) b)
          step (yes e) = (p, record { place = hp; same = sym (ap (backward (forward (levels_at rs p) a)) e ∙ backward_forward (levels_at rs p) a in_p) }, old)
          step (no n) = behind_other b hb n (rw (forward_other (levels_at rs p) a b n) at l)

      impossible : ⊥
      impossible =
          let h : Held rs (forward (levels_at rs p) a) = s.admissible (forward (levels_at rs p) a) (index_forward d (levels_at rs p) (index p hp) most a ha low small) behind_all in
          let e : forward_link rs p a ≡ h.0 = (s.forward_links p a hp ha).place h.0 h.1 in
          omega (arith, none_far, h.1.place, s.count.1)

    complete : (b : ℕ) × Bars d rs p a b
    complete = step (find d (Bars d rs p a) (bars_or p a))
      where
        step : ((b : ℕ) × (b < d) × Bars d rs p a b) ⊎ ((b : ℕ) → b < d → Bars d rs p a b → ⊥) → (b : ℕ) × Bars d rs p a b
        step (inl t) = (t.0, t.2)
        step (inr f) = absurd (impossible f)

  pub link_checked : LinkChecked d rs
  link_checked = record { count = s.count; index = s.index; states = s.states; first = s.first; only = only; back_none = back_none; back = back; ahead = ahead; complete = complete }
