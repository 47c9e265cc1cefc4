-- The check by links as a test: two passes over the places, the second for completeness.
use Rattle.std.specs.Prelude.{Bool, true, false, not, cond, ◌&&◌, List, ℕ, zero, suc, ◌+◌, ◌-◌, ltb, leb, eqb, length}
use Rattle.grid.specs.Index.{level, excess, within, root, backward}
use Rattle.grid.specs.Coefficient.{same_levels}
use Rattle.area.specs.declared.IndexRecord.{IndexRecord}
use Rattle.area.specs.Encoding.{none}
use Rattle.soundness.specs.Held.{levels_at, state_at, forward_link, backward_link}

-- f holds of n numbers from i on.
unfoldable pub all_from : ℕ → ℕ → (ℕ → Bool) → Bool
all_from zero i f = true
all_from (suc n) i f = f i && all_from n (i + 1) f

-- f holds of one of n numbers from i on.
unfoldable pub any_from : ℕ → ℕ → (ℕ → Bool) → Bool
any_from zero i f = false
any_from (suc n) i f = cond (f i) true (any_from n (i + 1) f)

-- An index of d axes: within the ceilings, and level 1 beyond axis d.
unfoldable pub index_test : ℕ → List ℕ → Bool
index_test d k = within k && all_from (8 - d) d (λ a. eqb (level k a) 1)

-- The root is exactly at place 0.
unfoldable pub root_test : List IndexRecord → ℕ → Bool
root_test rs p = cond (eqb p 0) (same_levels (levels_at rs p) root) (not (same_levels (levels_at rs p) root))

-- The place q is behind p along a.
unfoldable pub backward_neighbour_test : List IndexRecord → ℕ → ℕ → ℕ → Bool
backward_neighbour_test rs p a q =
    ltb q (length rs) && (eqb (state_at rs q) 2 && (eqb (forward_link rs q a) p && same_levels (levels_at rs q) (backward (levels_at rs p) a)))

unfoldable pub backward_link_test : List IndexRecord → ℕ → ℕ → Bool
backward_link_test rs p a = cond (leb (level (levels_at rs p) a) 1) (eqb (backward_link rs p a) none) (backward_neighbour_test rs p a (backward_link rs p a))

unfoldable pub forward_link_test : List IndexRecord → ℕ → ℕ → Bool
forward_link_test rs p a =
    cond (eqb (forward_link rs p a) none) true (ltb (forward_link rs p a) (length rs) && eqb (backward_link rs (forward_link rs p a) a) p)

-- The links along one axis.
unfoldable pub axis_test : List IndexRecord → ℕ → ℕ → Bool
axis_test rs p a = backward_link_test rs p a && forward_link_test rs p a

-- What one place shows of itself.
unfoldable pub place_test : ℕ → List IndexRecord → ℕ → Bool
place_test d rs p = index_test d (levels_at rs p) && (leb (state_at rs p) 2 && (root_test rs p && all_from 8 0 (axis_test rs p)))

-- The first pass.
unfoldable pub places_test : ℕ → List IndexRecord → Bool
places_test d rs = all_from (length rs) 0 (place_test d rs)

-- Axis c bars p along a.
unfoldable pub bars_test : List IndexRecord → ℕ → ℕ → ℕ → Bool
bars_test rs p a c =
    not (eqb c a)
    && (ltb 1 (level (levels_at rs p) c)
    && cond (eqb (forward_link rs (backward_link rs p c) a) none) true (not (eqb (state_at rs (forward_link rs (backward_link rs p c) a)) 2)))

-- Where p has no forward link along a and its level there could be raised, some axis bars it.
unfoldable pub axis_complete_test : ℕ → List IndexRecord → ℕ → ℕ → Bool
axis_complete_test d rs p a = cond (eqb (forward_link rs p a) none && ltb (level (levels_at rs p) a) 8) (any_from d 0 (bars_test rs p a)) true

-- An old index whose excess could grow, along every axis.
unfoldable pub place_complete_test : ℕ → List IndexRecord → ℕ → Bool
place_complete_test d rs p = cond (eqb (state_at rs p) 2 && ltb (excess (levels_at rs p)) 12) (all_from d 0 (axis_complete_test d rs p)) true

-- The second pass.
unfoldable pub all_complete_test : ℕ → List IndexRecord → Bool
all_complete_test d rs = all_from (length rs) 0 (place_complete_test d rs)

unfoldable pub link_check_test : ℕ → List IndexRecord → Bool
link_check_test d rs = (leb 1 (length rs) && leb (length rs) 512) && (places_test d rs && all_complete_test d rs)
