-- What naming a new place changes and keeps: only forward links change, and only those of the records whose places are in the backward links.
-- The idea: at one axis at most one record gets one other link, and the axes are gone through one after the other.
-- Assumes nothing.
use mathlib.Core.Path.{◌≡◌, refl, sym, ap, ◌∙◌}
use mathlib.Core.Logic.{◌≢◌, ◌⊎◌, inl, inr, ⊎_elim}
use mathlib.Core.Bool.{Bool, true, false, cond}
use mathlib.Core.List.{List, ◌++◌, map}
use Prim.Native.Nat.{ℕ, zero, suc, ◌+◌, ◌<◌, ◌≤◌}
use native.Mathlib.Decide.{ℕ_discrete, dec_lt}
use native.Mathlib.Omega.{arith}
use borrow.Author.Tests.{eqb-false, ne_eqb}
use lib.Dec.{eqb}
use lib.ListN.{length, get_or, set, length-map, length-set, get_or-append}
use lib.Seq.{get_or-set_same, get_or-set_other, set_out, set-append_left, map-set_same}
use Rattle.area.specs.declared.IndexRecord.{IndexRecord}
use Rattle.area.specs.Records.{blank, levels_of}
use Rattle.area.specs.Encoding.{none}
use Rattle.quadrature.specs.Readings.{record_at}
use Rattle.writing.specs.Changes.{with_forward_link, named_from}
use Rattle.writing.proofs.Fields.{mapped_at}

module _ (links : List ℕ) (n : ℕ) where
  -- one axis
  abbrev behind : ℕ → ℕ
  behind a = get_or links (8 + a) 0

  abbrev named : ℕ → List IndexRecord → List IndexRecord
  named a rs = cond (eqb (behind a) none) rs (set rs (behind a) (with_forward_link (record_at rs (behind a)) a n))

  -- ---- what is kept: whatever a link has no part in

  module _ {A : Type 0} (g : IndexRecord → A) (same : (r : IndexRecord) (a : ℕ) → g (with_forward_link r a n) ≡ g r) where
    axis_keeps : (a : ℕ) (rs : List IndexRecord) → map g (named a rs) ≡ map g rs
    axis_keeps a rs = step (eqb (behind a) none)
      where
        step : (t : Bool) → map g (cond t rs (set rs (behind a) (with_forward_link (record_at rs (behind a)) a n))) ≡ map g rs
        step true = refl
        step false = map-set_same g rs (behind a) (with_forward_link (record_at rs (behind a)) a n) blank (same (record_at rs (behind a)) a)

    named_keeps : (m a : ℕ) (rs : List IndexRecord) → map g (named_from m a links n rs) ≡ map g rs
    unfolding named_from
    named_keeps zero a rs = refl
    named_keeps (suc m) a rs = named_keeps m (a + 1) (named a rs) ∙ axis_keeps a rs

    named_keeps_at : (m a : ℕ) (rs : List IndexRecord) (p : ℕ) → g (record_at (named_from m a links n rs) p) ≡ g (record_at rs p)
    named_keeps_at m a rs p = mapped_at g blank (named_from m a links n rs) rs (named_keeps m a rs) p

  module _ (m a : ℕ) (rs : List IndexRecord) where
    pub named_levels_of : levels_of (named_from m a links n rs) ≡ levels_of rs
    unfolding levels_of with_forward_link
    named_levels_of = named_keeps (λ (r : IndexRecord). r.levels) (λ r b. refl) m a rs

    pub named-length : length (named_from m a links n rs) ≡ length rs
    unfolding levels_of
    named-length = sym (length-map (named_from m a links n rs) (λ (r : IndexRecord). r.levels)) ∙ ap length named_levels_of ∙ length-map rs (λ (r : IndexRecord). r.levels)

    module _ (p : ℕ) where
      pub named_levels : (record_at (named_from m a links n rs) p).levels ≡ (record_at rs p).levels
      unfolding with_forward_link
      named_levels = named_keeps_at (λ (r : IndexRecord). r.levels) (λ r b. refl) m a rs p

      pub named_state : (record_at (named_from m a links n rs) p).state ≡ (record_at rs p).state
      unfolding with_forward_link
      named_state = named_keeps_at (λ (r : IndexRecord). r.state) (λ r b. refl) m a rs p

      pub named_indicator : (record_at (named_from m a links n rs) p).indicator ≡ (record_at rs p).indicator
      unfolding with_forward_link
      named_indicator = named_keeps_at (λ (r : IndexRecord). r.indicator) (λ r b. refl) m a rs p

      pub named-first : (record_at (named_from m a links n rs) p).first ≡ (record_at rs p).first
      unfolding with_forward_link
      named-first = named_keeps_at (λ (r : IndexRecord). r.first) (λ r b. refl) m a rs p

      pub named_links_length : length (record_at (named_from m a links n rs) p).links ≡ length (record_at rs p).links
      unfolding with_forward_link
      named_links_length = named_keeps_at (λ (r : IndexRecord). length r.links) (λ r b. length-set r.links b n) m a rs p

  -- ---- the links of one place

  -- another link than the axis's, or of another place
  axis_other : (a : ℕ) (rs : List IndexRecord) (p j : ℕ) → (j ≢ a) ⊎ (behind a ≢ p) → get_or (record_at (named a rs) p).links j none ≡ get_or (record_at rs p).links j none
  axis_other a rs p j w = step (eqb (behind a) none) (ℕ_discrete p (behind a)) w
    where
      new : IndexRecord
      new = with_forward_link (record_at rs (behind a)) a n

      step : (t : Bool) → Dec (p ≡ behind a) → (j ≢ a) ⊎ (behind a ≢ p) → get_or (record_at (cond t rs (set rs (behind a) new)) p).links j none ≡ get_or (record_at rs p).links j none
      step true d w = refl
      step false (no d) w = ap (λ (r : IndexRecord). get_or r.links j none) (get_or-set_other rs (behind a) p new blank d)
      step false (yes d) (inr f) = absurd (f (sym d))
      step false (yes d) (inl f) = inside (dec_lt (behind a) (length rs))
        where
          inside : Dec (behind a < length rs) → get_or (record_at (set rs (behind a) new) p).links j none ≡ get_or (record_at rs p).links j none
          inside (no h) = ap (λ x. get_or (record_at x p).links j none) (set_out rs (behind a) new (omega arith))
          inside (yes h) =
              rw d
              (ap (λ (r : IndexRecord). get_or r.links j none) (get_or-set_same rs (behind a) new blank h)
              ∙ unfold with_forward_link in get_or-set_other (record_at rs (behind a)).links a j n none f)

  -- the axis's link of the place
  axis_hit : (a : ℕ) (rs : List IndexRecord) (p : ℕ) → behind a ≡ p → p ≢ none → p < length rs → a < length (record_at rs p).links
      → get_or (record_at (named a rs) p).links a none ≡ n
  axis_hit a rs p e f h l =
      rw (e, ne_eqb p none f)
      (ap (λ (r : IndexRecord). get_or r.links a none) (get_or-set_same rs p (with_forward_link (record_at rs p) a n) blank h)
      ∙ unfold with_forward_link in get_or-set_same (record_at rs p).links a n none l)

  pub named_other : (m a : ℕ) (rs : List IndexRecord) (p j : ℕ) → (j < a) ⊎ ((a + m ≤ j) ⊎ (get_or links (8 + j) 0 ≢ p))
      → get_or (record_at (named_from m a links n rs) p).links j none ≡ get_or (record_at rs p).links j none
  unfolding named_from
  named_other zero a rs p j w = refl
  named_other (suc m) a rs p j w = named_other m (a + 1) (named a rs) p j (next w) ∙ axis_other a rs p j (here (ℕ_discrete j a) w)
    where
      next : (j < a) ⊎ ((a + suc m ≤ j) ⊎ (behind j ≢ p)) → (j < a + 1) ⊎ ((a + 1 + m ≤ j) ⊎ (behind j ≢ p))
      next (inl h) = inl (omega arith)
      next (inr (inl h)) = inr (inl (omega arith))
      next (inr (inr f)) = inr (inr f)

      here : Dec (j ≡ a) → (j < a) ⊎ ((a + suc m ≤ j) ⊎ (behind j ≢ p)) → (j ≢ a) ⊎ (behind a ≢ p)
      here (no d) w = inl d
      here (yes d) (inl h) = absurd (omega arith)
      here (yes d) (inr (inl h)) = absurd (omega arith)
      here (yes d) (inr (inr f)) = inr (rw d at f)

  pub named_hit : (m a : ℕ) (rs : List IndexRecord) (p j : ℕ) → a ≤ j → j < a + m → get_or links (8 + j) 0 ≡ p → p ≢ none → p < length rs
      → j < length (record_at rs p).links → get_or (record_at (named_from m a links n rs) p).links j none ≡ n
  unfolding named_from
  named_hit zero a rs p j u v e f h l = absurd (omega arith)
  named_hit (suc m) a rs p j u v e f h l = step (ℕ_discrete j a) (named_hit m (a + 1) (named a rs) p j)
    where
      step : Dec (j ≡ a)
          → (a + 1 ≤ j → j < a + 1 + m → behind j ≡ p → p ≢ none → p < length (named a rs) → j < length (record_at (named a rs) p).links
          → get_or (record_at (named_from m (a + 1) links n (named a rs)) p).links j none ≡ n)
          → get_or (record_at (named_from m (a + 1) links n (named a rs)) p).links j none ≡ n
      step (no d) r = r (omega arith) (omega arith) e f (omega (arith, named-length 1 a rs)) (omega (arith, named_links_length 1 a rs p))
      step (yes d) r = named_other m (a + 1) (named a rs) p j (inl (omega arith)) ∙ rw d (axis_hit a rs p (rw d at e) f h (rw d at l))

  -- ---- records past the places in the links are not touched

  pub named_rest : (m a : ℕ) (rs rest : List IndexRecord) → ((b : ℕ) → b < a + m → (get_or links (8 + b) 0 ≡ none) ⊎ (get_or links (8 + b) 0 < length rs))
      → named_from m a links n (rs ++ rest) ≡ named_from m a links n rs ++ rest
  unfolding named_from
  named_rest zero a rs rest w = refl
  named_rest (suc m) a rs rest w =
      ap (named_from m (a + 1) links n) (step (eqb (behind a) none) refl (w a (omega arith)))
      ∙ named_rest m (a + 1) (named a rs) rest (λ b h. ⊎_elim inl (λ l. inr (omega (arith, named-length 1 a rs))) (w b (omega arith)))
    where
      new : IndexRecord → IndexRecord
      new r = with_forward_link r a n

      step : (t : Bool) → eqb (behind a) none ≡ t → (behind a ≡ none) ⊎ (behind a < length rs)
          → cond t (rs ++ rest) (set (rs ++ rest) (behind a) (new (record_at (rs ++ rest) (behind a)))) ≡ cond t rs (set rs (behind a) (new (record_at rs (behind a)))) ++ rest
      step true e v = refl
      step false e (inl q) = absurd (eqb-false (behind a) none e q)
      step false e (inr h) =
          ap (λ r. set (rs ++ rest) (behind a) (new r)) (get_or-append rs rest blank (behind a) h)
          ∙ set-append_left rs rest (behind a) (new (record_at rs (behind a))) h
