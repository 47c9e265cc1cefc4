-- Refining an active place changes its state, appends the admitted and adds their counts.
-- The idea: the entries are the former ones with one made old, and wanted ones after them. The former keep their readings and the wanted
-- have none, so the store stays; the pending error loses the indicator of that one, and at a ceiling the carried error gains it.
-- Assumes nothing.
use mathlib.Core.Path.{◌≡◌, refl, sym, ap, ap₂, ◌∙◌}
use mathlib.Core.Bool.{true, cond}
use mathlib.Core.List.{List, ◌++◌}
use Prim.Native.Nat.{ℕ, ◌+◌, ◌-◌, ◌<◌, ◌≤◌}
use native.Mathlib.Omega.{arith}
use borrow.Author.Tests.{leb-true}
use lib.Dec.{leb}
use lib.ListN.{length, set, drop, length-set, length-append, length-drop, length-map}
use lib.Seq.{drop-drop}
use Rattle.grid.specs.Index.{forward, at_ceiling}
use Rattle.grid.proofs.Levels.{and_left}
use Rattle.area.specs.declared.IndexRecord.{IndexRecord}
use Rattle.area.specs.Entry.{Entry, reserved_by, pending_of, carried_of}
use Rattle.area.specs.declared.Settings.{Settings}
use Rattle.area.specs.Settings.{readings_for}
use Rattle.area.specs.Encoding.{Area, entries_of, machine_of, records_for, store_with}
use Rattle.quadrature.specs.Readings.{record_at}
use Rattle.soundness.specs.Held.{levels_at, state_at}
use Rattle.encoding.specs.Entries.{entry_at}
use Rattle.machine.specs.Log.{wanted}
use Rattle.machine.specs.Promote.{made_old, make_old, admitted_axes, refine, fits}
use Rattle.machine.proofs.CarriedError.{carried_steps}
use Rattle.writing.specs.Changes.{with_state, appended_all, sizes_of}
use Rattle.writing.specs.ValidArea.{ValidArea}
use Rattle.writing.proofs.Entries.{ahead, reserved_set, pending_set, store-set, reserved_ahead, pending_ahead, store_ahead, pending_at}
use Rattle.writing.proofs.Admitted.{refine_run}
use Rattle.writing.proofs.Areas.{clauses, held_is, store_is, levels_is, state_is, indicator_is, entry_replaced}

module _ (a : Area) (r : ValidArea a) where
  abbrev g : Settings
  g = a.job.settings

  abbrev es : List Entry
  es = entries_of a

  abbrev all : List IndexRecord
  all = a.run.records

  abbrev rest : List IndexRecord
  rest = drop (length es) all

  module _ (p : ℕ) (h : p < a.job.held) (active : state_at all p ≡ 1) where
    abbrev d : ℕ
    d = g.axes

    abbrev k : List ℕ
    k = (entry_at es p).levels

    abbrev refined : List Entry
    refined = refine d es p

    -- the admitted axes, of the levels as the entry and as the record has them
    abbrev axes_of : List ℕ → List ℕ
    axes_of y = admitted_axes d (make_old es p) y

    inside : p < length es
    inside = omega (arith, held_is a r)

    refined_count : length refined ≡ length es + length (axes_of k)
    unfolding refine make_old
    refined_count =
        length-append (set es p (made_old (entry_at es p))) (ahead k (axes_of k))
        ∙ ap₂ ◌+◌ (length-set es p (made_old (entry_at es p))) (length-map (axes_of k) (λ c. wanted (forward k c)))

    same_axes : {A : Type 0} (f : List ℕ → List ℕ → A) → f k (axes_of k) ≡ f (levels_at all p) (axes_of (levels_at all p))
    same_axes f = ap (λ y. f y (axes_of y)) (levels_is a r p inside)

    made_old-records : records_for g (make_old es p) ++ rest ≡ set all p (with_state (record_at all p) 2 (record_at all p).indicator)
    unfolding make_old made_old
    made_old-records =
        entry_replaced a r p inside (made_old (entry_at es p)) refl ∙ ap (λ i. set all p (with_state (record_at all p) 2 i)) (indicator_is a r p inside)

    pub refined_held : length refined ≡ a.job.held + length (axes_of (levels_at all p))
    refined_held = refined_count ∙ ap₂ ◌+◌ (sym (held_is a r)) (same_axes (λ y l. length l))

    pub refined_reserved : reserved_by refined ≡ a.job.reserved + sizes_of (levels_at all p) (axes_of (levels_at all p))
    unfolding refine make_old made_old
    refined_reserved =
        reserved_ahead k (set es p (made_old (entry_at es p))) (axes_of k)
        ∙ ap₂ ◌+◌ (reserved_set es p (made_old (entry_at es p)) refl ∙ sym r.sound.numbers.reserved) (same_axes sizes_of)

    -- the place's part in the pending error goes
    left_pending : pending_of refined + (record_at all p).indicator ≡ a.job.pending
    unfolding refine make_old
    left_pending =
        omega
        (arith, pending_ahead k (set es p (made_old (entry_at es p))) (axes_of k), pending_set es p (made_old (entry_at es p)) inside, was, now, indicator_is a r p inside, r.sound.numbers.pending)
      where
        was : pending_at (entry_at es p) ≡ (entry_at es p).indicator
        was = rw (state_is a r p inside ∙ active)

        now : pending_at (made_old (entry_at es p)) ≡ 0
        now = unfold made_old in refl

    pub refined_pending : pending_of refined ≡ a.job.pending - (record_at all p).indicator
    refined_pending = omega (arith, left_pending)

    -- and joins the carried error if its index is at a ceiling
    pub refined_carried : carried_of d refined ≡ a.job.carried + cond (at_ceiling d (levels_at all p)) (record_at all p).indicator 0
    refined_carried =
        carried_steps.refine d es p inside (state_is a r p inside ∙ active)
        ∙ ap₂ (λ n x. n + x) (sym r.sound.numbers.carried)
        (ap₂ (λ y i. cond (at_ceiling d y) i 0) (levels_is a r p inside) (indicator_is a r p inside))

    pub indicator_within : (record_at all p).indicator ≤ a.job.pending
    indicator_within = omega (arith, left_pending)

    pub refined_store : store_with a.store refined ≡ a.store
    unfolding store_with refine make_old made_old
    refined_store =
        ap (λ t. t ++ drop (length t) a.store)
        (store_ahead k (set es p (made_old (entry_at es p))) (axes_of k) ∙ store-set es p (made_old (entry_at es p)) refl)
        ∙ sym (store_is a r)

    module _ (fit : fits g.budget refined ≡ true) where
      few : length refined ≤ 512
      unfolding fits
      few = leb-true (length refined) 512 (and_left (leb (length refined) 512) (leb (reserved_by refined) g.budget) fit)

      pub refined_records : records_for g refined ++ drop (length refined) all
          ≡ appended_all g (set all p (with_state (record_at all p) 2 (record_at all p).indicator)) a.job.held (readings_for g a.job.reserved) (levels_at all p) (axes_of (levels_at all p))
      unfolding machine_of
      refined_records =
          ap (λ t. records_for g refined ++ t) (ap (λ n. drop n all) refined_count ∙ sym (drop-drop (length (axes_of k)) (length es) all))
          ∙ sym
          (refine_run (machine_of a) (clauses a r) p inside (state_is a r p inside ∙ active) rest few
          (omega (arith, few, refined_count, length-drop (length es) all, r.lent.records)))
          ∙ ap (λ l. appended_all g l (length es) (readings_for g (reserved_by es)) k (axes_of k)) made_old-records
          ∙ ap₂ (λ n f. appended_all g marked n (readings_for g f) k (axes_of k)) (sym (held_is a r)) (sym r.sound.numbers.reserved)
          ∙ same_axes (appended_all g marked a.job.held (readings_for g a.job.reserved))
        where
          marked : List IndexRecord
          marked = set all p (with_state (record_at all p) 2 (record_at all p).indicator)
