-- Whether an index is old once a place is refined, by the place where it is found.
-- The idea: no index is held twice, so the place that a lookup finds is the only one; refined, it is old, and else as it was.
-- Assumes nothing.
use mathlib.Core.Path.{◌≡◌, refl, sym, ap, ◌∙◌, subst}
use mathlib.Core.Logic.{◌≢◌}
use mathlib.Core.Bool.{Bool, true, false}
use mathlib.Core.List.{List}
use Prim.Native.Nat.{ℕ, ◌<◌}
use native.Mathlib.Decide.{ℕ_discrete}
use native.Mathlib.Omega.{arith}
use lib.Dec.{eqb}
use lib.ListN.{length, length-set}
use lib.Seq.{get_or-set_same, get_or-set_other}
use Rattle.area.specs.declared.IndexRecord.{IndexRecord}
use Rattle.std.specs.Prelude.{Some, None}
use Rattle.area.specs.Lookup.{lookup_in}
use Rattle.area.specs.Entry.{Entry}
use Rattle.quadrature.specs.Readings.{record_at, place_in}
use Rattle.quadrature.proofs.Raised.{found_at, found_none}
use Rattle.quadrature.proofs.Places.{place_levels as held_levels}
use Rattle.soundness.specs.Held.{levels_at}
use Rattle.soundness.proofs.Exactly.{same_answer, reads_as, reads_eq}
use Rattle.soundness.proofs.Forth.{none_far}
use Rattle.soundness.proofs.Lower.{held_place}
use Rattle.encoding.specs.Entries.{no_entry, entry_at, Has, EnteredOld}
use Rattle.machine.specs.Promote.{made_old, make_old, is_old}
use Rattle.machine.proofs.Old.{reads_old}
use Rattle.writing.specs.Heads.{heads_of}
use Rattle.promotion.specs.Marks.{Searchable}
use Rattle.promotion.proofs.Heads.{heads_length, head_levels, head_state}

module _ (rs : List IndexRecord) (refined : ℕ) (k : List ℕ) (inside : refined < length rs) (s : Searchable rs) where
  abbrev es : List Entry
  es = make_old (heads_of rs) refined

  es_length : length es ≡ length rs
  unfolding make_old
  es_length = length-set (heads_of rs) refined (made_old (entry_at (heads_of rs) refined)) ∙ heads_length rs

  here : entry_at es refined ≡ made_old (entry_at (heads_of rs) refined)
  unfolding make_old
  here = get_or-set_same (heads_of rs) refined (made_old (entry_at (heads_of rs) refined)) no_entry (omega (arith, heads_length rs))

  there : (p : ℕ) → p ≢ refined → entry_at es p ≡ entry_at (heads_of rs) p
  unfolding make_old
  there p n = get_or-set_other (heads_of rs) refined p (made_old (entry_at (heads_of rs) refined)) no_entry n

  -- levels stay
  es_levels : (p : ℕ) → (entry_at es p).levels ≡ levels_at rs p
  unfolding made_old
  es_levels p = step (ℕ_discrete p refined) ∙ head_levels rs p
    where
      step : Dec (p ≡ refined) → (entry_at es p).levels ≡ (entry_at (heads_of rs) p).levels
      step (yes e) = rw e (ap (λ (x : Entry). x.levels) here)
      step (no e) = ap (λ (x : Entry). x.levels) (there p e)

  es_state_here : (entry_at es refined).state ≡ 2
  unfolding made_old
  es_state_here = ap (λ (x : Entry). x.state) here

  es_state_there : (p : ℕ) → p ≢ refined → (entry_at es p).state ≡ (record_at rs p).state
  es_state_there p n = ap (λ (x : Entry). x.state) (there p n) ∙ head_state rs p

  -- ---- found at a place
  module _ (q : ℕ) (found : lookup_in rs k ≡ Some q) where
    place : q ≡ place_in rs k
    place = sym (found_at rs k s.few q found).0

    place_held : q < length rs
    place_held = (found_at rs k s.few q found).1

    place_levels : levels_at rs q ≡ k
    place_levels = ap (levels_at rs) place ∙ held_levels rs k (omega (arith, none_far, place, place_held, s.few))

    only : (p : ℕ) → Has es k p → p ≡ q
    only p h = s.different p q (omega (arith, h.place, es_length)) place_held (sym (es_levels p) ∙ (h.same ∙ sym place_levels))

    has : Has es k q
    has = record { place = omega (arith, place_held, es_length); same = es_levels q ∙ place_levels }

    pub refined_old : q ≡ refined → true ≡ is_old es k
    refined_old e = sym ((reads_old es k).back (q, has, rw e es_state_here))

    pub other_old : q ≢ refined → eqb (record_at rs q).state 2 ≡ is_old es k
    other_old n =
        same_answer (eqb (record_at rs q).state 2) (is_old es k) (reads_eq (record_at rs q).state 2)
        (reads_as old_state (λ e. (q, has, es_state_there q n ∙ e)) (reads_old es k))
      where
        old_state : EnteredOld es k → (record_at rs q).state ≡ 2
        old_state x = sym (es_state_there q n) ∙ subst (λ p. (entry_at es p).state ≡ 2) (only x.0 x.1) x.2

  pub not_old : lookup_in rs k ≡ None → false ≡ is_old es k
  not_old found = answer (is_old es k) refl
    where
      answer : (b : Bool) → is_old es k ≡ b → false ≡ b
      answer false e = refl
      answer true e =
          let x = (reads_old es k).sure e in
          absurd
          (found_none rs k s.few found
          (held_place rs k (x.0, record { place = omega (arith, x.1.place, es_length); same = sym (es_levels x.0) ∙ x.1.same })))
