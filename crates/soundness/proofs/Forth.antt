-- What a check by links accepts is the structure of a sound area.
-- The idea: two places with equal levels have backward neighbours with equal levels, which by induction on the excess are one place,
-- and its forward link names both.
-- Assumes nothing.
use mathlib.Core.Path.{◌≡◌, sym, ap, ◌∙◌}
use mathlib.Core.Logic.{◌≢◌, ◌⊎◌, inl, inr}
use mathlib.Core.List.{List}
use Prim.Native.Nat.{ℕ, zero, suc, ◌+◌, ◌<◌, ◌≤◌}
use native.Mathlib.Decide.{dec_lt}
use native.Mathlib.Omega.{arith}
use lib.ListN.{length}
use Rattle.grid.specs.Index.{level, excess, Index, root, forward, backward}
use Rattle.grid.proofs.Neighbours.{backward_other, backward_forward, forward_backward, backward-excess}
use Rattle.area.specs.declared.IndexRecord.{IndexRecord}
use Rattle.area.specs.Encoding.{none}
use Rattle.soundness.specs.Held.{levels_at, state_at, forward_link, backward_link, Holds, Held, HeldOld}
use Rattle.soundness.specs.Sound.{Structure}
use Rattle.soundness.specs.LinkCheck.{Behind, Ahead, Bars, LinkChecked}
use Rattle.soundness.proofs.Levels.{forward_same, forward-backward_other, at_least, axis_of, root_or, forward_index}

pub none_far : 512 ≤ none
unfolding none
none_far = omega arith

module _ (d : ℕ) (most : d ≤ 8) (rs : List IndexRecord) (f : LinkChecked d rs) where
  index : (p : ℕ) → p < length rs → Index d (levels_at rs p)
  index p h = f.index p h

  axis_in : (p a : ℕ) → p < length rs → a < 8 → a < length (levels_at rs p)
  axis_in p a h l = omega (arith, (index p h).eight)

  behind : (p a : ℕ) → p < length rs → a < 8 → 1 < level (levels_at rs p) a → Behind rs p a (backward_link rs p a)
  behind = f.back

  -- a held place whose backward link names p has p's levels raised
  ahead_same : (p q a : ℕ) → p < length rs → a < 8 → Ahead rs p a q → levels_at rs q ≡ forward (levels_at rs p) a
  ahead_same p q a hp h y = step (dec_lt 1 (level (levels_at rs q) a))
    where
      step : Dec (1 < level (levels_at rs q) a) → levels_at rs q ≡ forward (levels_at rs p) a
      step (no l) = absurd (omega (arith, f.back_none q a y.place h (omega arith), y.named_back, none_far, f.count.1))
      step (yes l) =
          let x : Behind rs q a (backward_link rs q a) = behind q a y.place h l in
          let e : levels_at rs p ≡ backward (levels_at rs q) a = ap (λ z. levels_at rs z) (sym y.named_back) ∙ x.same in
          sym (ap (λ k. forward k a) e ∙ forward_backward (levels_at rs q) a (axis_in q a y.place h) l)

  -- ---- places with equal levels are equal, by induction on the excess: their backward neighbours are one place, whose forward link names both
  Unique : ℕ → Type 0
  Unique n = (p q : ℕ) → p < length rs → q < length rs → levels_at rs p ≡ levels_at rs q → excess (levels_at rs p) ≤ n → p ≡ q

  module _ (p q : ℕ) (hp : p < length rs) (hq : q < length rs) (e : levels_at rs p ≡ levels_at rs q) where
    level_too : (a : ℕ) → 1 < level (levels_at rs p) a → 1 < level (levels_at rs q) a
    level_too a l = rw e at l

    at_root : levels_at rs p ≡ root → p ≡ q
    at_root r = f.only p hp r ∙ sym (f.only q hq (sym e ∙ r))

    above : (n a : ℕ) → excess (levels_at rs p) ≤ suc n → a < 8 → 1 < level (levels_at rs p) a → Unique n → p ≡ q
    unfolding Unique
    above n a m h l ih =
        let x : Behind rs p a (backward_link rs p a) = behind p a hp h l in
        let y : Behind rs q a (backward_link rs q a) = behind q a hq h (level_too a l) in
        let less : excess (backward (levels_at rs p) a) ≤ n = omega (arith, backward-excess (levels_at rs p) a (axis_in p a hp h) l) in
        let one : backward_link rs p a ≡ backward_link rs q a =
        ih (backward_link rs p a) (backward_link rs q a) x.place y.place (x.same ∙ ap (λ k. backward k a) e ∙ sym y.same) (rw x.same less) in
        sym x.named_back ∙ ap (λ z. forward_link rs z a) one ∙ y.named_back

  unique_to : (n : ℕ) → Unique n
  unfolding Unique
  unique_to zero p q hp hq e m = step (root_or d (levels_at rs p) (index p hp))
    where
      step : (levels_at rs p ≡ root) ⊎ ((a : ℕ) × (a < 8) × (1 < level (levels_at rs p) a)) → p ≡ q
      step (inl r) = at_root p q hp hq e r
      step (inr s) = absurd (omega (arith, backward-excess (levels_at rs p) s.0 (axis_in p s.0 hp s.1) s.2))
  unique_to (suc n) p q hp hq e m = step (unique_to n) (root_or d (levels_at rs p) (index p hp))
    where
      step : Unique n → (levels_at rs p ≡ root) ⊎ ((a : ℕ) × (a < 8) × (1 < level (levels_at rs p) a)) → p ≡ q
      step ih (inl r) = at_root p q hp hq e r
      step ih (inr s) = above p q hp hq e n s.0 m s.1 s.2 ih

  pub unique : (p q : ℕ) → p < length rs → q < length rs → levels_at rs p ≡ levels_at rs q → p ≡ q
  unfolding Unique
  unique p q hp hq e = unique_to 12 p q hp hq e (index p hp).ceilings.small

  -- ---- links
  -- the place that holds p raised along a is what p's forward link along a names
  ahead_is : (p q a : ℕ) → p < length rs → a < 8 → Holds rs (forward (levels_at rs p) a) q → forward_link rs p a ≡ q
  ahead_is p q a hp h s =
      let up : level (levels_at rs q) a ≡ level (levels_at rs p) a + 1 = ap (λ k. level k a) s.same ∙ forward_same (levels_at rs p) a (axis_in p a hp h) in
      let one : 1 ≤ level (levels_at rs p) a = at_least d (levels_at rs p) (index p hp) a h in
      let y : Behind rs q a (backward_link rs q a) = behind q a s.place h (omega arith) in
      let e : backward_link rs q a ≡ p =
      unique (backward_link rs q a) p y.place hp
      (y.same ∙ ap (λ k. backward k a) s.same ∙ backward_forward (levels_at rs p) a (axis_in p a hp h)) in
      ap (λ z. forward_link rs z a) (sym e) ∙ y.named_back

  ahead_none : (p a : ℕ) → p < length rs → a < 8 → (Held rs (forward (levels_at rs p) a) → ⊥) → forward_link rs p a ≡ none
  ahead_none p a hp h out = step (f.ahead p a hp h)
    where
      step : (forward_link rs p a ≡ none) ⊎ Ahead rs p a (forward_link rs p a) → forward_link rs p a ≡ none
      step (inl e) = e
      step (inr y) = absurd (out (forward_link rs p a, record { place = y.place; same = ahead_same p (forward_link rs p a) a hp h y }))

  back_holds : (p a : ℕ) → p < length rs → a < 8 → 1 < level (levels_at rs p) a → Holds rs (backward (levels_at rs p) a) (backward_link rs p a)
  back_holds p a hp h l = let y : Behind rs p a (backward_link rs p a) = behind p a hp h l in record { place = y.place; same = y.same }

  back_is : (p q a : ℕ) → p < length rs → a < 8 → 1 < level (levels_at rs p) a → Holds rs (backward (levels_at rs p) a) q → backward_link rs p a ≡ q
  back_is p q a hp h l s =
      let y : Holds rs (backward (levels_at rs p) a) (backward_link rs p a) = back_holds p a hp h l in
      unique (backward_link rs p a) q y.place s.place (y.same ∙ sym s.same)

  -- beyond the axes no index is raised
  none_beyond : (p a : ℕ) → p < length rs → d ≤ a → a < 8 → forward_link rs p a ≡ none
  none_beyond p a hp hd h = ahead_none p a hp h (λ s.
      let up : level (levels_at rs s.0) a ≡ level (levels_at rs p) a + 1 = ap (λ k. level k a) s.1.same ∙ forward_same (levels_at rs p) a (axis_in p a hp h) in
      omega (arith, (index p hp).beyond a hd h, (index s.0 s.1.place).beyond a hd h))

  -- ---- completeness
  module _ (k : List ℕ) (i : Index d k) (all : (a : ℕ) → a < d → 1 < level k a → HeldOld rs (backward k a)) where
    -- p is the backward neighbour of k along a
    module _ (p a : ℕ) (ha : a < d) (l : 1 < level k a) (s : Holds rs (backward k a) p) (o : state_at rs p ≡ 2) where
      in_k : a < length k
      in_k = omega (arith, i.eight, most)

      raised_is : forward (levels_at rs p) a ≡ k
      raised_is = ap (λ z. forward z a) s.same ∙ forward_backward k a in_k (omega arith)

      -- no axis shows that k is not admissible
      unbarred : (b : ℕ) → Bars d rs p a b → ⊥
      unbarred b t = step t.missing
        where
          x : Holds rs (backward (levels_at rs p) b) (backward_link rs p b)
          x = back_holds p b s.place (omega (arith, t.axis, most)) t.above

          above_k : 1 < level k b
          above_k = rw (s.same, backward_other k a b t.other) at t.above

          y : HeldOld rs (backward k b)
          y = all b t.axis above_k

          meet : levels_at rs y.0 ≡ forward (levels_at rs (backward_link rs p b)) a
          meet =
              y.1.same
              ∙ ap (λ z. backward z b) (sym raised_is)
              ∙ sym (forward-backward_other (levels_at rs p) a b t.other)
              ∙ ap (λ z. forward z a) (sym x.same)

          named : forward_link rs (backward_link rs p b) a ≡ y.0
          named = ahead_is (backward_link rs p b) y.0 a x.place (omega (arith, most)) (record { place = y.1.place; same = meet })

          step : (forward_link rs (backward_link rs p b) a ≡ none) ⊎ (state_at rs (forward_link rs (backward_link rs p b) a) ≢ 2) → ⊥
          step (inl e) = omega (arith, e, named, none_far, y.1.place, f.count.1)
          step (inr e) = e (ap (λ z. state_at rs z) named ∙ y.2)

      taken : (forward_link rs p a ≡ none) ⊎ Ahead rs p a (forward_link rs p a) → Held rs k
      taken (inr y) = (forward_link rs p a, record { place = y.place; same = ahead_same p (forward_link rs p a) a s.place (omega (arith, most)) y ∙ raised_is })
      taken (inl e) =
          let w : (level (levels_at rs p) a < 8) × (excess (levels_at rs p) < 12) =
          forward_index d (levels_at rs p) (index p s.place) most a ha (rw raised_is i) in
          let t : (b : ℕ) × Bars d rs p a b = f.complete p a s.place ha o e w.0 w.1 in
          absurd (unbarred t.0 t.1)

    admitted : Held rs k
    admitted = step (root_or d k i)
      where
        step : (k ≡ root) ⊎ ((a : ℕ) × (a < 8) × (1 < level k a)) → Held rs k
        step (inl r) = (0, record { place = f.count.0; same = f.first ∙ sym r })
        step (inr s) =
            let ha : s.0 < d = axis_of d k i s.0 s.1 s.2 in
            let t : HeldOld rs (backward k s.0) = all s.0 ha s.2 in
            taken t.0 s.0 ha s.2 t.1 t.2 (f.ahead t.0 s.0 t.1.place s.1)

  pub structure : Structure d rs
  structure =
      record {
        index = f.index;
        states = f.states;
        count = f.count;
        beyond = λ p a hp hd h. (none_beyond p a hp hd h, f.back_none p a hp h (omega (arith, (index p hp).beyond a hd h)));
        different = unique;
        first = f.first;
        behind = λ p a hp ha l. let y : Behind rs p a (backward_link rs p a) = behind p a hp (axis ha) l in
            (backward_link rs p a, record { place = y.place; same = y.same }, y.old);
        admissible = admitted;
        forward_links = λ p a hp ha. record { place = λ q s. ahead_is p q a hp (axis ha) s; otherwise = ahead_none p a hp (axis ha) };
        backward_links = λ p a hp ha l.
            record { place = λ q s. back_is p q a hp (axis ha) l s; otherwise = λ out. absurd (out (backward_link rs p a, back_holds p a hp (axis ha) l)) };
        no_backward_link = λ p a hp ha e. f.back_none p a hp (axis ha) (omega arith);
      }
    where
      axis : {a : ℕ} → a < d → a < 8
      axis h = omega (arith, most)
