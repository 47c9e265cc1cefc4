-- Links are the places of the neighbours: sixteen links that name exactly the held neighbours are those that the encoding makes of the
-- levels, and the encoding's links name exactly the held neighbours.
-- The idea: an index raised beyond the axes, or lowered at level 1, is never held, so its place is none.
-- Assumes nothing.
use mathlib.Core.Path.{◌≡◌, sym, ap, ap₂, ◌∙◌}
use mathlib.Core.List.{List}
use Prim.Native.Nat.{ℕ, ◌+◌, ◌-◌, ◌<◌, ◌≤◌}
use native.Mathlib.Decide.{dec_lt}
use native.Mathlib.Omega.{arith}
use lib.ListN.{length, get_or, length-append, get_or-append}
use lib.Seq.{ext_get_or, get_or-append-add}
use Rattle.sums.specs.Lists.{tabulate}
use Rattle.sums.proofs.Lists.{length-tabulate, get_d_tabulate}
use Rattle.grid.specs.Index.{level, Index, forward, backward}
use Rattle.grid.proofs.Neighbours.{forward_level, backward-level}
use Rattle.area.specs.declared.IndexRecord.{IndexRecord}
use Rattle.area.specs.Records.{levels_of}
use Rattle.area.specs.Encoding.{none, place_of, links_of}
use Rattle.quadrature.specs.Readings.{record_at, place_in}
use Rattle.quadrature.proofs.Places.{place_levels, below_none}
use Rattle.quadrature.proofs.Raised.{not_held}
use Rattle.soundness.specs.Held.{levels_at, backward_link, Holds, Held}
use Rattle.soundness.specs.Sound.{Names, Structure}
use Rattle.soundness.proofs.Levels.{at_least}
use Rattle.soundness.proofs.Lower.{held_place}
use Rattle.soundness.proofs.Gives.{structure_linked}

-- ---- sixteen links by axis

module _ (ls : List (List ℕ)) (k : List ℕ) where
  abbrev ahead : List ℕ
  ahead = tabulate 8 (λ a. place_of ls (forward k a))

  abbrev behind : List ℕ
  behind = tabulate 8 (λ a. place_of ls (backward k a))

  links_length : length (links_of ls k) ≡ 16
  unfolding links_of
  links_length = length-append ahead behind ∙ ap₂ ◌+◌ (length-tabulate 8 (λ a. place_of ls (forward k a))) (length-tabulate 8 (λ a. place_of ls (backward k a)))

  pub forward_at : (a : ℕ) → a < 8 → get_or (links_of ls k) a none ≡ place_of ls (forward k a)
  unfolding links_of
  forward_at a h =
      get_or-append ahead behind none a (omega (arith, length-tabulate 8 (λ a. place_of ls (forward k a)))) ∙ get_d_tabulate 8 (λ a. place_of ls (forward k a)) a none h

  pub backward_at : (a : ℕ) → a < 8 → get_or (links_of ls k) (8 + a) none ≡ place_of ls (backward k a)
  unfolding links_of
  backward_at a h =
      ap (λ n. get_or (links_of ls k) (n + a) none) (sym (length-tabulate 8 (λ a. place_of ls (forward k a))))
      ∙ get_or-append-add ahead behind a none
      ∙ get_d_tabulate 8 (λ a. place_of ls (backward k a)) a none h

  -- sixteen links are an index's if they are its neighbours' places
  links_are : (m : List ℕ) → length m ≡ 16 → ((a : ℕ) → a < 8 → get_or m a none ≡ place_of ls (forward k a))
      → ((a : ℕ) → a < 8 → get_or m (8 + a) none ≡ place_of ls (backward k a)) → m ≡ links_of ls k
  links_are m e f b = ext_get_or none m (links_of ls k) (e ∙ sym links_length) (λ i h. each i (omega arith) (dec_lt i 8))
    where
      each : (i : ℕ) → i < 16 → Dec (i < 8) → get_or m i none ≡ get_or (links_of ls k) i none
      each i h (yes l) = f i l ∙ sym (forward_at i l)
      each i h (no l) =
          let s : i ≡ 8 + (i - 8) = omega arith in
          rw s (b (i - 8) (omega arith) ∙ sym (backward_at (i - 8) (omega arith)))

-- ---- places of neighbours

module _ (rs : List IndexRecord) (few : length rs ≤ 512) where
  absent : (k : List ℕ) → (Held rs k → ⊥) → place_in rs k ≡ none
  absent k f =
      not_held rs k few (λ q. f (place_in rs k, record { place = q; same = place_levels rs k (below_none (omega arith)) }))

  module _ (different : (p q : ℕ) → p < length rs → q < length rs → levels_at rs p ≡ levels_at rs q → p ≡ q) where
    place_of_lem : (k : List ℕ) (p : ℕ) → Holds rs k p → place_in rs k ≡ p
    place_of_lem k p h =
        let inside = held_place rs k (p, h) in
        different (place_in rs k) p inside h.place (place_levels rs k (below_none (omega arith)) ∙ sym h.same)

    -- a link names an index exactly if it is its place
    pub names : (k : List ℕ) (link : ℕ) → link ≡ place_in rs k → Names rs k link
    names k link e = record { place = λ q h. e ∙ place_of_lem k q h; otherwise = λ f. e ∙ absent k f }

    pub named : (k : List ℕ) (link : ℕ) → Names rs k link → link ≡ place_in rs k
    named k link n = step (dec_lt (place_in rs k) (length rs))
      where
        step : Dec (place_in rs k < length rs) → link ≡ place_in rs k
        step (yes q) = n.place (place_in rs k) (record { place = q; same = place_levels rs k (below_none (omega arith)) })
        step (no q) = n.otherwise (λ h. q (held_place rs k h)) ∙ sym (not_held rs k few q)

  module _ (d : ℕ) (index : (p : ℕ) → p < length rs → Index d (levels_at rs p)) (p a : ℕ) (hp : p < length rs) (ha : a < 8) where
    -- raised along an axis beyond d
    pub not_raised : d ≤ a → place_in rs (forward (levels_at rs p) a) ≡ none
    not_raised hd =
        absent (forward (levels_at rs p) a) (λ x.
        let e = ap (λ k. level k a) x.1.same in
        omega
        (arith, e, forward_level (levels_at rs p) a (omega (arith, (index p hp).eight)), (index p hp).beyond a hd ha, (index x.0 x.1.place).beyond a hd ha))

    -- lowered along an axis at level 1
    pub not_lowered : level (levels_at rs p) a ≡ 1 → place_in rs (backward (levels_at rs p) a) ≡ none
    not_lowered one =
        absent (backward (levels_at rs p) a) (λ x.
        let e = ap (λ k. level k a) x.1.same in
        omega
        (arith, e, backward-level (levels_at rs p) a (omega (arith, (index p hp).eight)), at_least d (levels_at rs x.0) (index x.0 x.1.place) a ha))

-- ---- the links of held records

module _ (d : ℕ) (most : d ≤ 8) (rs : List IndexRecord) (s : Structure d rs) (p : ℕ) (hp : p < length rs) where
  backward-place : (a : ℕ) → a < 8 → backward_link rs p a ≡ place_in rs (backward (levels_at rs p) a)
  backward-place a ha = step (dec_lt a d) (dec_lt 1 (level (levels_at rs p) a))
    where
      step : Dec (a < d) → Dec (1 < level (levels_at rs p) a) → backward_link rs p a ≡ place_in rs (backward (levels_at rs p) a)
      step (yes h) (yes l) =
          named rs s.count.1 s.different (backward (levels_at rs p) a) (backward_link rs p a) (s.backward_links p a hp h l)
      step (yes h) (no l) =
          let one : level (levels_at rs p) a ≡ 1 = omega (arith, at_least d (levels_at rs p) (s.index p hp) a ha) in
          s.no_backward_link p a hp h one ∙ sym (not_lowered rs s.count.1 d s.index p a hp ha one)
      step (no h) l =
          (s.beyond p a hp (omega arith) ha).1 ∙ sym (not_lowered rs s.count.1 d s.index p a hp ha ((s.index p hp).beyond a (omega arith) ha))

  pub links_place : length (record_at rs p).links ≡ 16 → (record_at rs p).links ≡ links_of (levels_of rs) (levels_at rs p)
  links_place sixteen =
      links_are (levels_of rs) (levels_at rs p) (record_at rs p).links sixteen (λ a h. (structure_linked d most rs s).ahead p a hp h) backward-place
