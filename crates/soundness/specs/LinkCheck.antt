-- What a check tests, place by place, by following links instead of searching. Soundness is not defined by it: that it comes to the
-- same is proved.
use Rattle.std.specs.Prelude.{◌≡◌, ◌≢◌, ◌⊎◌, List, ℕ, ◌<◌, ◌≤◌, length}
use Rattle.grid.specs.Index.{level, excess, Index, root, backward}
use Rattle.area.specs.declared.IndexRecord.{IndexRecord}
use Rattle.area.specs.Encoding.{none}
use Rattle.soundness.specs.Held.{levels_at, state_at, forward_link, backward_link}

-- q is behind p along a: held, with p's levels lowered along a, old, and its forward link names p.
pub record Behind (rs : List IndexRecord) (p a q : ℕ) : Type 0 where
  pub place : q < length rs
  pub same : levels_at rs q ≡ backward (levels_at rs p) a
  pub old : state_at rs q ≡ 2
  pub named_back : forward_link rs q a ≡ p

-- q is ahead of p along a: held, and its backward link names p. Its own test then compares the levels.
pub record Ahead (rs : List IndexRecord) (p a q : ℕ) : Type 0 where
  pub place : q < length rs
  pub named_back : backward_link rs q a ≡ p

-- Axis c bars p along a, that is, shows that p raised along a is not admissible. The backward neighbour along c of p raised along a is
-- p's backward neighbour along c, raised along a; its place is the forward link of the place behind, and it is none or not old.
pub record Bars (d : ℕ) (rs : List IndexRecord) (p a c : ℕ) : Type 0 where
  pub axis : c < d
  pub other : c ≢ a
  pub above : 1 < level (levels_at rs p) c
  pub missing : (forward_link rs (backward_link rs p c) a ≡ none) ⊎ (state_at rs (forward_link rs (backward_link rs p c) a) ≢ 2)

-- Two places with one index would have the same place behind, whose forward link names one of them only; so, down to the root, all are
-- different. An admissible index other than the root is a forward neighbour of an old one. Beyond axis d levels are 1, so links there
-- come out none.
pub record LinkChecked (d : ℕ) (rs : List IndexRecord) : Type 0 where
  pub count : (1 ≤ length rs) × (length rs ≤ 512)
  pub index : (p : ℕ) → p < length rs → Index d (levels_at rs p)
  pub states : (p : ℕ) → p < length rs → state_at rs p ≤ 2
  -- the root is exactly at place 0
  pub first : levels_at rs 0 ≡ root
  pub only : (p : ℕ) → p < length rs → levels_at rs p ≡ root → p ≡ 0
  -- backward links: none at level 1, else to the place behind
  pub back_none : (p a : ℕ) → p < length rs → a < 8 → level (levels_at rs p) a ≤ 1 → backward_link rs p a ≡ none
  pub back : (p a : ℕ) → p < length rs → a < 8 → 1 < level (levels_at rs p) a → Behind rs p a (backward_link rs p a)
  -- forward links: none, or to the place ahead
  pub ahead : (p a : ℕ) → p < length rs → a < 8 → (forward_link rs p a ≡ none) ⊎ Ahead rs p a (forward_link rs p a)
  -- where an old index has no forward link but could be raised, some axis bars it
  pub complete : (p a : ℕ) → p < length rs → a < d → state_at rs p ≡ 2 → forward_link rs p a ≡ none
      → level (levels_at rs p) a < 8 → excess (levels_at rs p) < 12 → (c : ℕ) × Bars d rs p a c
