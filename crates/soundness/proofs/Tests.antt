-- The test by links is true exactly if the area is followed, so exactly if it has the structure of a sound area.
-- The idea: each test reads as its statement, and tests are joined as statements are.
-- Assumes nothing.
use mathlib.Core.Path.{◌≡◌, refl}
use mathlib.Core.Logic.{◌≢◌, ◌⊎◌, inl, inr}
use mathlib.Core.Bool.{not}
use mathlib.Core.List.{List}
use Prim.Native.Nat.{ℕ, ◌-◌, ◌<◌, ◌≤◌}
use native.Mathlib.Decide.{ℕ_discrete}
use native.Mathlib.Omega.{arith}
use lib.Dec.{eqb}
use lib.ListN.{length}
use Rattle.grid.specs.Index.{level, excess, Within, within, Index, root, backward}
use Rattle.grid.specs.Coefficient.{same_levels}
use Rattle.grid.proofs.Levels.{within_sure, within_back}
use Rattle.area.specs.declared.IndexRecord.{IndexRecord}
use Rattle.area.specs.Encoding.{none}
use Rattle.soundness.specs.Held.{levels_at, state_at, forward_link, backward_link}
use Rattle.soundness.specs.Sound.{Exactly, Structure}
use Rattle.soundness.specs.LinkCheck.{Behind, Ahead, Bars, LinkChecked}
use Rattle.soundness.specs.Test.{all_from, index_test, root_test, backward_neighbour_test, backward_link_test, forward_link_test, axis_test, place_test, places_test, bars_test, axis_complete_test, place_complete_test, all_complete_test, link_check_test}
use Rattle.soundness.proofs.Exactly.{reads_as, reads_eq, reads_lt, reads_le, reads_not, reads_and, reads_cond, reads_or, reads_if, reads_all_from, reads_all, reads_any, reads_same}
use Rattle.soundness.proofs.Forth.{structure}
use Rattle.soundness.proofs.Back.{link_checked}

reads_within : (k : List ℕ) → Exactly (within k) (Within k)
reads_within k = record { sure = within_sure k; back = within_back k }

reads_index : (d : ℕ) (k : List ℕ) → d ≤ 8 → length k ≡ 8 → Exactly (index_test d k) (Index d k)
unfolding index_test
reads_index d k h e =
    reads_as (λ x. record { eight = e; ceilings = x.0; beyond = λ a l h8. x.1 a l (omega arith) })
    (λ i. (i.ceilings, λ a l h8. i.beyond a l (omega arith)))
    (reads_and (within k) (all_from (8 - d) d (λ a. eqb (level k a) 1)) (reads_within k)
    (reads_all_from (λ a. eqb (level k a) 1) (λ a. level k a ≡ 1) (8 - d) d (λ a l. reads_eq (level k a) 1)))

module _ (d : ℕ) (rs : List IndexRecord) where
  abbrev pub Root : ℕ → Type 0
  Root p = (p ≡ 0 → levels_at rs p ≡ root) × ((p ≡ 0 → ⊥) → levels_at rs p ≡ root → ⊥)

  reads_root : (p : ℕ) → Exactly (root_test rs p) (Root p)
  unfolding root_test
  reads_root p =
      reads_cond (eqb p 0) (same_levels (levels_at rs p) root) (not (same_levels (levels_at rs p) root)) (reads_eq p 0)
      (reads_same (levels_at rs p) root) (reads_not (same_levels (levels_at rs p) root) (reads_same (levels_at rs p) root))

  reads_behind : (p a q : ℕ) → Exactly (backward_neighbour_test rs p a q) (Behind rs p a q)
  unfolding backward_neighbour_test
  reads_behind p a q =
      reads_as (λ x. record { place = x.0; same = x.1.1.1; old = x.1.0; named_back = x.1.1.0 })
      (λ y. (y.place, (y.old, (y.named_back, y.same))))
      (reads_and _ _ (reads_lt q (length rs))
      (reads_and _ _ (reads_eq (state_at rs q) 2) (reads_and _ _ (reads_eq (forward_link rs q a) p) (reads_same (levels_at rs q) (backward (levels_at rs p) a)))))

  abbrev pub Backs : ℕ → ℕ → Type 0
  Backs p a =
      (level (levels_at rs p) a ≤ 1 → backward_link rs p a ≡ none) × ((level (levels_at rs p) a ≤ 1 → ⊥) → Behind rs p a (backward_link rs p a))

  reads_back : (p a : ℕ) → Exactly (backward_link_test rs p a) (Backs p a)
  unfolding backward_link_test
  reads_back p a =
      reads_cond _ _ _ (reads_le (level (levels_at rs p) a) 1) (reads_eq (backward_link rs p a) none) (reads_behind p a (backward_link rs p a))

  reads_ahead : (p a : ℕ) → Exactly (forward_link_test rs p a) ((forward_link rs p a ≡ none) ⊎ Ahead rs p a (forward_link rs p a))
  unfolding forward_link_test
  reads_ahead p a =
      reads_or _ _ (reads_eq (forward_link rs p a) none)
      (reads_as (λ x. record { place = x.0; named_back = x.1 }) (λ y. (y.place, y.named_back))
      (reads_and _ _ (reads_lt (forward_link rs p a) (length rs)) (reads_eq (backward_link rs (forward_link rs p a) a) p)))

  -- what one place shows of itself
  pub record Place (p : ℕ) : Type 0 where
    pub index : Index d (levels_at rs p)
    pub states : state_at rs p ≤ 2
    pub roots : Root p
    pub axes : (a : ℕ) → a < 8 → Backs p a × ((forward_link rs p a ≡ none) ⊎ Ahead rs p a (forward_link rs p a))

  pub reads_place : d ≤ 8 → (p : ℕ) → length (levels_at rs p) ≡ 8 → Exactly (place_test d rs p) (Place p)
  unfolding place_test axis_test
  reads_place few p e =
      reads_as (λ x. record { index = x.0; states = x.1.0; roots = x.1.1.0; axes = x.1.1.1 })
      (λ y. (y.index, (y.states, (y.roots, y.axes))))
      (reads_and _ _ (reads_index d (levels_at rs p) few e)
      (reads_and _ _ (reads_le (state_at rs p) 2)
      (reads_and _ _ (reads_root p)
      (reads_all (axis_test rs p) (λ a. Backs p a × ((forward_link rs p a ≡ none) ⊎ Ahead rs p a (forward_link rs p a))) 8
      (λ a h. reads_and _ _ (reads_back p a) (reads_ahead p a))))))

  -- what the second pass needs of the first, to read where links lead
  module _ (all : (p : ℕ) → p < length rs → Place p) where
    pub back_held : (p b : ℕ) → p < length rs → b < 8 → 1 < level (levels_at rs p) b → backward_link rs p b < length rs
    back_held p b hp hb l = (((all p hp).axes b hb).0.1 (λ m. omega arith)).place

    pub ahead_held : (p a : ℕ) → p < length rs → a < 8 → forward_link rs p a ≢ none → forward_link rs p a < length rs
    ahead_held p a hp ha n = step ((all p hp).axes a ha).1
      where
        step : (forward_link rs p a ≡ none) ⊎ Ahead rs p a (forward_link rs p a) → forward_link rs p a < length rs
        step (inl e) = absurd (n e)
        step (inr y) = y.place

  reads_bars : (p a b : ℕ) → b < d → Exactly (bars_test rs p a b) (Bars d rs p a b)
  unfolding bars_test
  reads_bars p a b hb =
      reads_as (λ x. record { axis = hb; other = x.0; above = x.1.0; missing = x.1.1 }) (λ y. (y.other, (y.above, y.missing)))
      (reads_and _ _ (reads_not (eqb b a) (reads_eq b a))
      (reads_and _ _ (reads_lt 1 (level (levels_at rs p) b))
      (reads_or _ _ (reads_eq (forward_link rs (backward_link rs p b) a) none)
      (reads_not (eqb (state_at rs (forward_link rs (backward_link rs p b) a)) 2) (reads_eq (state_at rs (forward_link rs (backward_link rs p b) a)) 2)))))

  -- where the level could be raised along a
  abbrev Open : ℕ → ℕ → Type 0
  Open p a = (forward_link rs p a ≡ none) × (level (levels_at rs p) a < 8) → (c : ℕ) × (c < d) × Bars d rs p a c

  reads_open : (p a : ℕ) → Exactly (axis_complete_test d rs p a) (Open p a)
  unfolding axis_complete_test
  reads_open p a =
      reads_if _ _ (reads_and _ _ (reads_eq (forward_link rs p a) none) (reads_lt (level (levels_at rs p) a) 8))
      (reads_any (bars_test rs p a) (Bars d rs p a) d (λ b hb. reads_bars p a b hb))

  abbrev Complete : ℕ → Type 0
  Complete p = (state_at rs p ≡ 2) × (excess (levels_at rs p) < 12) → (a : ℕ) → a < d → Open p a

  reads_complete : (p : ℕ) → Exactly (place_complete_test d rs p) (Complete p)
  unfolding place_complete_test
  reads_complete p =
      reads_if _ _ (reads_and _ _ (reads_eq (state_at rs p) 2) (reads_lt (excess (levels_at rs p)) 12))
      (reads_all (axis_complete_test d rs p) (Open p) d (λ a ha. reads_open p a))

  -- every record has eight levels, as whatever is read from cells has
  module _ (few : d ≤ 8) (formed : (p : ℕ) → p < length rs → length (levels_at rs p) ≡ 8) where
    abbrev Whole : Type 0
    Whole = ((1 ≤ length rs) × (length rs ≤ 512)) × (((p : ℕ) → p < length rs → Place p) × ((p : ℕ) → p < length rs → Complete p))

    there : Whole → LinkChecked d rs
    there (count, (place, complete)) =
        record {
          count = count;
          index = λ p h. (place p h).index;
          states = λ p h. (place p h).states;
          first = (place 0 count.0).roots.0 refl;
          only = λ p h e. zero_or p h e (ℕ_discrete p 0);
          back_none = λ p a h h8 l. ((place p h).axes a h8).0.0 l;
          back = λ p a h h8 l. ((place p h).axes a h8).0.1 (λ m. omega arith);
          ahead = λ p a h h8. ((place p h).axes a h8).1;
          complete = λ p a h ha o e l m. let t : (c : ℕ) × (c < d) × Bars d rs p a c = complete p h (o, m) a ha (e, l) in (t.0, t.2);
        }
      where
        zero_or : (p : ℕ) → p < length rs → levels_at rs p ≡ root → Dec (p ≡ 0) → p ≡ 0
        zero_or p h e (yes z) = z
        zero_or p h e (no z) = absurd ((place p h).roots.1 z e)

    here : LinkChecked d rs → Whole
    here f = (
      f.count,
      (
        λ p h.
            record {
              index = f.index p h;
              states = f.states p h;
              roots = (λ e. rw e f.first, λ n e. n (f.only p h e));
              axes = λ a h8. ((f.back_none p a h h8, λ n. f.back p a h h8 (omega arith)), f.ahead p a h h8);
            },
        λ p h o a ha w.
            let t : (c : ℕ) × Bars d rs p a c = f.complete p a h ha o.0 w.0 w.1 o.1 in
            (t.0, t.1.axis, t.1),
      ),
    )

    pub reads_places : Exactly (places_test d rs) ((p : ℕ) → p < length rs → Place p)
    unfolding places_test
    reads_places = reads_all (place_test d rs) Place (length rs) (λ p h. reads_place few p (formed p h))

    pub reads_completes : Exactly (all_complete_test d rs) ((p : ℕ) → p < length rs → Complete p)
    unfolding all_complete_test
    reads_completes = reads_all (place_complete_test d rs) Complete (length rs) (λ p h. reads_complete p)

    pub reads_link_checked : Exactly (link_check_test d rs) (LinkChecked d rs)
    unfolding link_check_test
    reads_link_checked =
        reads_as there here (reads_and _ _ (reads_and _ _ (reads_le 1 (length rs)) (reads_le (length rs) 512)) (reads_and _ _ reads_places reads_completes))

    -- the test says yes exactly if the held indices and links are those of a sound area
    pub reads_structure : Exactly (link_check_test d rs) (Structure d rs)
    reads_structure = reads_as (structure d few rs) (link_checked d few rs) reads_link_checked
