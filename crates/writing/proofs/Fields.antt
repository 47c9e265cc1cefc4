-- What a change leaves as it was, by place: a record with another state or link keeps its levels, and their number stays.
-- The idea: lists that a function maps to one list agree, in what it sees, at every place.
-- Assumes nothing.
use mathlib.Core.Path.{◌≡◌, refl, sym, ap, ◌∙◌}
use mathlib.Core.List.{List, map}
use Prim.Native.Nat.{ℕ}
use lib.ListN.{get_or, set, get_or-map}
use lib.Seq.{map-set_same}
use Rattle.area.specs.declared.IndexRecord.{IndexRecord}
use Rattle.area.specs.Records.{blank, levels_of}
use Rattle.quadrature.specs.Readings.{record_at}
use Rattle.soundness.specs.Held.{levels_at, state_at}
use Rattle.writing.specs.Changes.{with_state, with_forward_link}

pub mapped_at : {A B : Type 0} (g : A → B) (d : A) (l m : List A) → map g l ≡ map g m → (p : ℕ) → g (get_or l p d) ≡ g (get_or m p d)
mapped_at g d l m e p = sym (get_or-map g l p d) ∙ ap (λ y. get_or y p (g d)) e ∙ get_or-map g m p d

module _ (rs : List IndexRecord) (p s i : ℕ) where
  pub with_state_levels_of : levels_of (set rs p (with_state (record_at rs p) s i)) ≡ levels_of rs
  unfolding levels_of with_state
  with_state_levels_of = map-set_same (λ (r : IndexRecord). r.levels) rs p (with_state (record_at rs p) s i) blank refl

  pub with_state_levels : (q : ℕ) → levels_at (set rs p (with_state (record_at rs p) s i)) q ≡ levels_at rs q
  unfolding levels_of
  with_state_levels = mapped_at (λ (r : IndexRecord). r.levels) blank (set rs p (with_state (record_at rs p) s i)) rs with_state_levels_of

module _ (rs : List IndexRecord) (p a n : ℕ) where
  pub with_forward_link_levels_of : levels_of (set rs p (with_forward_link (record_at rs p) a n)) ≡ levels_of rs
  unfolding levels_of with_forward_link
  with_forward_link_levels_of = map-set_same (λ (r : IndexRecord). r.levels) rs p (with_forward_link (record_at rs p) a n) blank refl

  pub with_forward_link_levels : (q : ℕ) → levels_at (set rs p (with_forward_link (record_at rs p) a n)) q ≡ levels_at rs q
  unfolding levels_of
  with_forward_link_levels = mapped_at (λ (r : IndexRecord). r.levels) blank (set rs p (with_forward_link (record_at rs p) a n)) rs with_forward_link_levels_of

  pub with_forward_link_states : (q : ℕ) → state_at (set rs p (with_forward_link (record_at rs p) a n)) q ≡ state_at rs q
  unfolding with_forward_link
  with_forward_link_states =
      mapped_at (λ (r : IndexRecord). r.state) blank (set rs p (with_forward_link (record_at rs p) a n)) rs
      (map-set_same (λ (r : IndexRecord). r.state) rs p (with_forward_link (record_at rs p) a n) blank refl)
