-- The held indices are downward closed through old: an index nowhere higher than a held one is that one, or held and old.
-- The idea: an index that is lower along some axis is nowhere higher than the backward neighbour along it, which is old; by induction
-- on the excess.
-- Assumes nothing.
use mathlib.Core.Path.{◌≡◌, sym, ◌∙◌, subst}
use mathlib.Core.Logic.{◌⊎◌, inl, inr, ⊎_elim}
use mathlib.Core.Bool.{Bool, true, false, cond}
use mathlib.Core.List.{List, [], ◌∷◌}
use Prim.Native.Nat.{ℕ, zero, suc, ◌+◌, ◌<◌, ◌≤◌}
use native.Mathlib.Decide.{ℕ_discrete, dec_lt}
use native.Mathlib.Omega.{arith}
use lib.ListN.{length}
use lib.Seq.{ext_get_or}
use Rattle.grid.specs.Index.{level, excess, Index, backward, NowhereHigher}
use Rattle.grid.specs.Coefficient.{same_levels}
use Rattle.grid.proofs.Members.{same_refl}
use Rattle.grid.proofs.Neighbours.{backward-length, backward-level, backward_other, backward-excess}
use Rattle.area.specs.declared.IndexRecord.{IndexRecord}
use Rattle.area.specs.Records.{levels_of}
use Rattle.area.specs.Encoding.{none, place_from, place_of}
use Rattle.quadrature.specs.Readings.{place_in}
use Rattle.quadrature.proofs.Places.{place_levels}
use Rattle.soundness.specs.Held.{levels_at, Holds, Held, HeldOld}
use Rattle.soundness.specs.Sound.{Structure}
use Rattle.soundness.proofs.Levels.{find, axis_of}
use Rattle.soundness.proofs.Forth.{none_far}

-- ---- the place of a held index

place_below : (p q : ℕ) (rs : List IndexRecord) (k : List ℕ) → q < length rs → levels_at rs q ≡ k → place_from p (levels_of rs) k < p + length rs
unfolding place_from levels_of
place_below p q [] k h e = absurd (omega arith)
place_below p zero (r ∷ rs) k h e = rw (e, same_refl k) (omega arith)
place_below p (suc q) (r ∷ rs) k h e = step (same_levels r.levels k) (place_below (p + 1) q rs k (omega arith) e)
  where
    step : (t : Bool) → place_from (p + 1) (levels_of rs) k < p + 1 + length rs → cond t p (place_from (p + 1) (levels_of rs) k) < p + suc (length rs)
    step true x = omega arith
    step false x = omega arith

pub held_place : (rs : List IndexRecord) (k : List ℕ) → Held rs k → place_in rs k < length rs
unfolding place_of
held_place rs k h = omega (arith, place_below 0 h.0 rs k h.1.place h.1.same)

module _ (d : ℕ) (rs : List IndexRecord) (s : Structure d rs) where
  pub place_is : (k : List ℕ) (p : ℕ) → Holds rs k p → place_in rs k ≡ p
  place_is k p h =
      let inside = held_place rs k (p, h) in
      let below : place_in rs k < none = omega (arith, none_far, s.count.1) in
      s.different (place_in rs k) p inside h.place (place_levels rs k below ∙ sym h.same)

  -- and the record there holds it
  pub place_holds : (k : List ℕ) → place_in rs k < length rs → Holds rs k (place_in rs k)
  place_holds k h = record { place = h; same = place_levels rs k (omega (arith, none_far, s.count.1)) }

  -- ---- downward

  -- equal, or lower along some axis
  lower_or : (l k : List ℕ) → length k ≡ 8 → NowhereHigher l k → (l ≡ k) ⊎ ((a : ℕ) × (a < 8) × (level l a < level k a))
  lower_or l k e w = step (find 8 (λ a. level l a < level k a) (λ a. dec_lt (level l a) (level k a)))
    where
      step : ((a : ℕ) × (a < 8) × (level l a < level k a)) ⊎ ((a : ℕ) → a < 8 → level l a < level k a → ⊥) → (l ≡ k) ⊎ ((a : ℕ) × (a < 8) × (level l a < level k a))
      step (inl x) = inr x
      step (inr f) = inl (ext_get_or 0 l k w.axes (λ a h.
          let h8 : a < length k = omega (arith, w.axes) in
          let n : level l a < level k a → ⊥ = f a (omega arith) in
          omega (arith, w.high a h8)))

  lower-behind : (l k : List ℕ) (a : ℕ) → length k ≡ 8 → NowhereHigher l k → a < 8 → level l a < level k a → NowhereHigher l (backward k a)
  lower-behind l k a e w h m =
      record {
        axes = w.axes ∙ sym (backward-length k a);
        low = λ c x. w.low c (omega (arith, backward-length k a));
        high = λ c x. high c (omega (arith, backward-length k a)) (ℕ_discrete c a);
      }
    where
      high : (c : ℕ) → c < length k → Dec (c ≡ a) → level l c ≤ level (backward k a) c
      high c x (yes q) = rw (q, backward-level k a (omega arith)) (omega arith)
      high c x (no q) = rw (backward_other k a c q) (w.high c x)

  Closed : ℕ → Type 0
  Closed n = (k l : List ℕ) → Held rs k → excess k ≤ n → NowhereHigher l k → (l ≡ k) ⊎ HeldOld rs l

  module _ (k l : List ℕ) (h : Held rs k) (w : NowhereHigher l k) where
    index_k : Index d k
    index_k = subst (Index d) h.1.same (s.index h.0 h.1.place)

    -- the backward neighbour along an axis where l is lower
    behind_k : (a : ℕ) → a < 8 → level l a < level k a → (1 < level k a) × HeldOld rs (backward k a)
    behind_k a b m =
        let low : 1 < level k a = omega (arith, w.low a (omega (arith, index_k.eight))) in
        let ax : a < d = axis_of d k index_k a b low in
        (low, subst (λ z. HeldOld rs (backward z a)) h.1.same (s.behind h.0 a h.1.place ax (subst (λ z. 1 < level z a) (sym h.1.same) low)))

  closed : (n : ℕ) → Closed n
  unfolding Closed
  closed zero k l h e w = step (lower_or l k (index_k k l h w).eight w)
    where
      step : (l ≡ k) ⊎ ((a : ℕ) × (a < 8) × (level l a < level k a)) → (l ≡ k) ⊎ HeldOld rs l
      step (inl q) = inl q
      step (inr x) =
          let y = behind_k k l h w x.0 x.1 x.2 in
          absurd (omega (arith, backward-excess k x.0 (omega (arith, (index_k k l h w).eight, x.1)) y.0))
  closed (suc n) k l h e w = step (closed n) (lower_or l k (index_k k l h w).eight w)
    where
      step : Closed n → (l ≡ k) ⊎ ((a : ℕ) × (a < 8) × (level l a < level k a)) → (l ≡ k) ⊎ HeldOld rs l
      step ih (inl q) = inl q
      step ih (inr x) =
          let y = behind_k k l h w x.0 x.1 x.2 in
          let old = y.1 in
          inr
          (⊎_elim (λ q. subst (HeldOld rs) (sym q) old) (λ z. z)
          (ih (backward k x.0) l (old.0, old.1) (omega (arith, backward-excess k x.0 (omega (arith, (index_k k l h w).eight, x.1)) y.0))
          (lower-behind l k x.0 (index_k k l h w).eight w x.1 x.2)))

  pub lower_old : (k l : List ℕ) → Held rs k → NowhereHigher l k → (l ≡ k) ⊎ HeldOld rs l
  unfolding Closed
  lower_old k l h w = closed (excess k) k l h (omega arith) w

  pub lower_held : (k l : List ℕ) → Held rs k → NowhereHigher l k → Held rs l
  lower_held k l h w = ⊎_elim (λ q. subst (Held rs) (sym q) h) (λ z. (z.0, z.1)) (lower_old k l h w)
