-- In a sound area links agree both ways.
-- The idea: a clause says what each link names; a neighbour's neighbour along the axis is the index itself.
-- Assumes nothing.
use mathlib.Core.Path.{◌≡◌, refl, ap, sym, ◌∙◌, subst}
use mathlib.Core.Bool.{Bool, true, false}
use mathlib.Core.List.{List}
use Prim.Native.Nat.{ℕ, suc, ◌+◌, ◌<◌, ◌≤◌}
use native.Mathlib.Omega.{arith}
use borrow.Author.Tests.{ltb-true, ltb-false}
use lib.Dec.{ltb}
use lib.ListN.{length, get_or}
use lib.Seq.{get_or-take, length-take-le}
use Rattle.grid.specs.Index.{level, Index, forward, backward}
use Rattle.grid.proofs.Facts.{index_facts}
use Rattle.area.specs.declared.IndexRecord.{IndexRecord}
use Rattle.area.specs.Records.{blank}
use Rattle.area.specs.Entry.{Entry}
use Rattle.area.specs.Encoding.{Area, held_of, entries_of, none}
use Rattle.quadrature.specs.Readings.{record_at}
use Rattle.soundness.specs.Held.{levels_at, forward_link, backward_link, Holds, Held}
use Rattle.soundness.specs.Sound.{Sound, Structure}
use Rattle.encoding.specs.Entries.{entry_at, Has, Entered}
use Rattle.encoding.proofs.Places.{levels_at_lem, entries_length, has, holds}
use Rattle.history.specs.Found.{LinksAgree}

module _ (a : Area) (s : Sound a) where
  abbrev rs : List IndexRecord
  rs = held_of a

  abbrev all : List IndexRecord
  all = a.run.records

  abbrev d : ℕ
  d = a.job.settings.axes

  abbrev st : Structure a.job.settings.axes (held_of a)
  st = s.structure

  held_length : length rs ≡ a.job.held
  held_length = length-take-le a.job.held all s.held_lent

  module _ (p : ℕ) (h : p < length rs) where
    record_same : record_at rs p ≡ record_at all p
    record_same = get_or-take a.job.held all p blank (omega (arith, held_length, h))

    index : Index d (levels_at rs p)
    index = st.index p h

    module _ (x : ℕ) (l : x < 8) where
      in_length : x < length (levels_at rs p)
      in_length = omega (arith, index.eight, l)

      ahead_level : level (forward (levels_at rs p) x) x ≡ suc (level (levels_at rs p) x)
      ahead_level = index_facts.forward_level (levels_at rs p) x in_length

      -- beyond the job's axes no forward neighbour is held
      no_ahead : d ≤ x → (q : ℕ) → Holds rs (forward (levels_at rs p) x) q → ⊥
      no_ahead b q t =
          omega (arith, ap (λ k. level k x) t.same, ahead_level, index.beyond x b l, (st.index q t.place).beyond x b l)

      forward_to : (q : ℕ) → Holds rs (forward (levels_at rs p) x) q → forward_link rs p x ≡ q
      forward_to q t = step (ltb x d) refl
        where
          step : (u : Bool) → ltb x d ≡ u → forward_link rs p x ≡ q
          step true e = (st.forward_links p x h (ltb-true x d e)).place q t
          step false e = absurd (no_ahead (ltb-false x d e) q t)

      forward-none : (Held rs (forward (levels_at rs p) x) → ⊥) → forward_link rs p x ≡ none
      forward-none n = step (ltb x d) refl
        where
          step : (u : Bool) → ltb x d ≡ u → forward_link rs p x ≡ none
          step true e = (st.forward_links p x h (ltb-true x d e)).otherwise n
          step false e = (st.beyond p x h (ltb-false x d e) l).0

      in_job : 1 < level (levels_at rs p) x → x < d
      in_job u = step (ltb x d) refl
        where
          step : (t : Bool) → ltb x d ≡ t → x < d
          step true e = ltb-true x d e
          step false e = absurd (omega (arith, u, index.beyond x (ltb-false x d e) l))

      backward_to : 1 < level (levels_at rs p) x → (q : ℕ) → Holds rs (backward (levels_at rs p) x) q → backward_link rs p x ≡ q
      backward_to u q t = (st.backward_links p x h (in_job u) u).place q t

      backward-none : level (levels_at rs p) x ≡ 1 → backward_link rs p x ≡ none
      backward-none e = step (ltb x d) refl
        where
          step : (t : Bool) → ltb x d ≡ t → backward_link rs p x ≡ none
          step true f = st.no_backward_link p x h (ltb-true x d f) e
          step false f = (st.beyond p x h (ltb-false x d f) l).1

  module _ (p x : ℕ) (h : p < length rs) (l : x < 8) where
    -- the place ahead names this one back
    ahead_back : (q : ℕ) → Holds rs (forward (levels_at rs p) x) q → backward_link rs q x ≡ p
    ahead_back q t =
        backward_to q t.place x l (omega (arith, ap (λ k. level k x) t.same, ahead_level p h x l, (index p h).ceilings.low x (in_length p h x l))) p
        (record { place = h; same = sym (ap (λ k. backward k x) t.same ∙ index_facts.backward_forward (levels_at rs p) x (in_length p h x l)) })

    -- and so does the place behind
    behind_back : 1 < level (levels_at rs p) x → (q : ℕ) → Holds rs (backward (levels_at rs p) x) q → forward_link rs q x ≡ p
    behind_back u q t =
        forward_to q t.place x l p
        (record { place = h; same = sym (ap (λ k. forward k x) t.same ∙ index_facts.forward_backward (levels_at rs p) x (in_length p h x l) u) })

  -- ---- of the entries and all records

  abbrev es : List Entry
  es = entries_of a

  module _ (p : ℕ) (h : p < length es) where
    there : p < length rs
    unfolding entries_of
    there = omega (arith, entries_length a.job.settings a.store rs, h)

    same_levels_lem : (entry_at es p).levels ≡ levels_at rs p
    unfolding entries_of
    same_levels_lem = levels_at_lem a.job.settings a.store rs p

    forward_in : (x : ℕ) → forward_link all p x ≡ forward_link rs p x
    forward_in x = ap (λ (r : IndexRecord). get_or r.links x none) (sym (record_same p there))

    backward_in : (x : ℕ) → backward_link all p x ≡ backward_link rs p x
    backward_in x = ap (λ (r : IndexRecord). get_or r.links (8 + x) none) (sym (record_same p there))

    held_ahead : (x q : ℕ) → Has es (forward (entry_at es p).levels x) q → Holds rs (forward (levels_at rs p) x) q
    unfolding entries_of
    held_ahead x q t = holds a.job.settings a.store rs (forward (levels_at rs p) x) q (subst (λ k. Has es (forward k x) q) same_levels_lem t)

    held_behind : (x q : ℕ) → Has es (backward (entry_at es p).levels x) q → Holds rs (backward (levels_at rs p) x) q
    unfolding entries_of
    held_behind x q t = holds a.job.settings a.store rs (backward (levels_at rs p) x) q (subst (λ k. Has es (backward k x) q) same_levels_lem t)

    ahead_entered : (x : ℕ) → Held rs (forward (levels_at rs p) x) → Entered es (forward (entry_at es p).levels x)
    unfolding entries_of
    ahead_entered x t = (t.0, subst (λ k. Has es (forward k x) t.0) (sym same_levels_lem) (has a.job.settings a.store rs (forward (levels_at rs p) x) t.0 t.1))

    same_level : (x : ℕ) → level (entry_at es p).levels x ≡ level (levels_at rs p) x
    same_level x = ap (λ k. level k x) same_levels_lem

  pub links_agree : LinksAgree es all
  links_agree =
      record {
        ahead = λ p x q h l t. let u = held_ahead p h x q t in (
          forward_in p h x ∙ forward_to p (there p h) x l q u,
          backward_in q t.place x ∙ ahead_back p x (there p h) l q u,
        );
        none_ahead = λ p x h l n. forward_in p h x ∙ forward-none p (there p h) x l (λ t. n (ahead_entered p h x t));
        behind = λ p x q h l u t. let v = held_behind p h x q t in let above = subst (λ n. 1 < n) (same_level p h x) u in (
          backward_in p h x ∙ backward_to p (there p h) x l above q v,
          forward_in q t.place x ∙ behind_back p x (there p h) l above q v,
        );
        none_behind = λ p x h l e. backward_in p h x ∙ backward-none p (there p h) x l (sym (same_level p h x) ∙ e);
        apart = unfold none entries_of in omega (arith, entries_length a.job.settings a.store rs, st.count.1);
      }
