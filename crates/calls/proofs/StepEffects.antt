-- What the steps leave in the store, and what start leaves, where no cause refuses them.
-- The idea: the area is valid, so the step's state is written by the changes that are known.
-- Assumes nothing.
use mathlib.Core.Path.{◌≡◌, refl, sym, ap, ◌∙◌}
use mathlib.Core.Logic.{◌⊎◌, inl, inr}
use mathlib.Core.Bool.{true}
use mathlib.Core.List.{List, [], ◌∷◌, ◌++◌}
use Prim.Native.Nat.{ℕ, suc, ◌+◌, ◌<◌, ◌≤◌}
use native.Mathlib.Omega.{arith}
use lib.IntN.{ℤ, pos}
use lib.ListN.{length, get_or, set, take, drop, length-append, get_or-append}
use lib.Seq.{sets, sets-eq, length-take-le, get_or-set_other, get_or-append-add}
use Rattle.area.specs.Settings.{reading_count}
use Rattle.area.specs.declared.Settings.{Settings}
use Rattle.area.specs.Encoding.{Area, held_of, entries_of, records_for, encoded_from, run_with, machine_of, written}
use Rattle.quadrature.specs.Readings.{record_at}
use Rattle.soundness.specs.Clauses.{is_sound}
use Rattle.encoding.specs.Encodes.{WellFormed}
use Rattle.encoding.proofs.Places.{entries_length, levels_at_lem}
use Rattle.encoding.proofs.Facts.{range_facts}
use Rattle.machine.specs.Log.{first_wanted}
use Rattle.machine.specs.Promote.{fits, refine}
use Rattle.machine.specs.Steps.{started}
use Rattle.machine.specs.Causes.{first_cause, deliver_causes, promote_causes}
use Rattle.machine.specs.Areas.{start_on, deliver_on, promote_on}
use Rattle.writing.specs.ValidArea.{ValidArea}
use Rattle.writing.proofs.Areas.{held_is, state_is, held_record}
use Rattle.writing.proofs.Facts.{write_facts}
use Rattle.writing.proofs.Start.{root-store}
use Rattle.calls.specs.Replies.{lengths_of}
use Rattle.calls.proofs.Accepted.{Deliverable, deliverable, Promotable, promotable}
use Rattle.calls.proofs.Next.{valid}
use Rattle.calls.proofs.Outcomes.{grown, outcome_ways}

-- ---- start

pub started-store : (a : Area) (g : Settings) → (start_on a g).store ≡ a.store
unfolding start_on started written
started-store a g = root-store a.store

-- the job record and record 0 are made of the arguments alone
pub started_same : (a b : Area) (g : Settings)
    → ((start_on a g).job ≡ (start_on b g).job) × (record_at (start_on a g).run.records 0 ≡ record_at (start_on b g).run.records 0)
unfolding start_on started written run_with records_for encoded_from
started_same a b g = (refl, refl)

-- ---- the store after a delivery

outside : (s rs : List ℤ) (f n : ℕ) → (n < f) ⊎ (f + length rs ≤ n) → get_or (sets s f rs) n (pos 0) ≡ get_or s n (pos 0)
outside s [] f n h = refl
outside s (r ∷ rs) f n h = outside (set s f r) rs (suc f) n (later h) ∙ get_or-set_other s f n r (pos 0) (other h)
  where
    later : (n < f) ⊎ (f + suc (length rs) ≤ n) → (n < suc f) ⊎ (suc f + length rs ≤ n)
    later (inl l) = inl (omega arith)
    later (inr l) = inr (omega arith)

    other : (n < f) ⊎ (f + suc (length rs) ≤ n) → n ≡ f → ⊥
    other (inl l) e = omega arith
    other (inr l) e = omega arith

stored_at : (s rs : List ℤ) (f n : ℕ) → f + length rs ≤ length s → n < length rs → get_or (sets s f rs) (f + n) (pos 0) ≡ get_or rs n (pos 0)
stored_at s rs f n room h =
    ap (λ l. get_or l (f + n) (pos 0)) (sets-eq rs s f room)
    ∙ get_or-append (take f s ++ rs) (drop (f + length rs) s) (pos 0) (f + n) (omega (arith, before, length-append (take f s) rs, h))
    ∙ ap (λ m. get_or (take f s ++ rs) (m + n) (pos 0)) (sym before)
    ∙ get_or-append-add (take f s) rs n (pos 0)
  where
    before : length (take f s) ≡ f
    before = length-take-le f s (omega (arith, room))

-- ---- on an area whose held records are well-formed

module _ (a : Area) (well_formed : WellFormed (held_of a)) where
  abbrev w : ℕ
  w = first_wanted (entries_of a)

  -- ---- deliver
  module _ (rs : List ℤ) (i : ℕ) (none : first_cause (deliver_causes (lengths_of a) (is_sound a) (machine_of a).log rs) ≡ 0) where
    accepted : Deliverable (lengths_of a) (is_sound a) (machine_of a).log rs
    accepted = deliverable (lengths_of a) (is_sound a) (machine_of a).log rs none

    abbrev set_up : ValidArea a
    set_up = valid a well_formed accepted.clear

    -- the store, with the block's first reading as the held records have it
    stored_is : (deliver_on a rs i).store ≡ sets a.store (record_at (held_of a) w).first rs
    unfolding deliver_on machine_of
    stored_is =
        ap (λ (x : Area). x.store) (write_facts.deliver a rs i set_up accepted.wanted accepted.whole)
        ∙ ap (λ r. sets a.store r.first rs) (sym (held_record a set_up w accepted.wanted))

    pub delivered_outside : (n : ℕ) → (n < (record_at (held_of a) w).first) ⊎ ((record_at (held_of a) w).first + length rs ≤ n)
        → get_or (deliver_on a rs i).store n (pos 0) ≡ get_or a.store n (pos 0)
    delivered_outside n h = ap (λ s. get_or s n (pos 0)) stored_is ∙ outside a.store rs (record_at (held_of a) w).first n h

    room : (record_at (held_of a) w).first + length rs ≤ length a.store
    unfolding entries_of machine_of
    room =
        omega (
          arith,
          range_facts.block a set_up.sound w (omega (arith, entries_length a.job.settings a.store (held_of a), accepted.wanted)),
          accepted.whole,
          ap (reading_count a.job.settings) (levels_at_lem a.job.settings a.store (held_of a) w),
          set_up.lent.store,
        )

    pub delivered-stored : (n : ℕ) → n < length rs → get_or (deliver_on a rs i).store ((record_at (held_of a) w).first + n) (pos 0) ≡ get_or rs n (pos 0)
    delivered-stored n h =
        ap (λ s. get_or s ((record_at (held_of a) w).first + n) (pos 0)) stored_is ∙ stored_at a.store rs (record_at (held_of a) w).first n room h

  -- ---- promote
  module _ (p : ℕ) (none : first_cause (promote_causes (lengths_of a) (is_sound a) (machine_of a).log p) ≡ 0) where
    open_to : Promotable (lengths_of a) (is_sound a) (machine_of a).log p
    open_to = promotable (lengths_of a) (is_sound a) (machine_of a).log p none

    abbrev ready : ValidArea a
    ready = valid a well_formed open_to.clear

    grown_store : fits a.job.settings.budget (refine a.job.settings.axes (entries_of a) p) ≡ true → (grown a p).store ≡ a.store
    unfolding machine_of
    grown_store fit =
        let s = open_to.active in
        ap (λ (x : Area). x.store)
        (write_facts.refine a p ready open_to.free (omega (arith, held_is a ready, s.place)) (sym (state_is a ready p s.place) ∙ s.active) fit)

    pub promoted_store : (promote_on a p).area.store ≡ a.store
    promoted_store = outcome_ways a p (λ x. x.store ≡ a.store) refl grown_store
