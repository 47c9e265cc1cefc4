-- The place of a promotion, where choose would not be refused: what its record's state tells.
-- Assumes nothing.
use mathlib.Core.Path.{◌≡◌, sym, ap, ◌∙◌}
use mathlib.Core.List.{List}
use Prim.Native.Nat.{ℕ, ◌*◌, ◌<◌, ◌≤◌}
use native.Mathlib.Omega.{arith}
use lib.IntN.{ℤ}
use lib.ListN.{length}
use Rattle.area.specs.declared.JobRecord.{JobRecord}
use Rattle.area.specs.declared.IndexRecord.{IndexRecord}
use Rattle.area.specs.Records.{records_of, held_in}
use Rattle.area.proofs.PackedRuns.{held_count}
use Rattle.area.specs.Log.{Log}
use Rattle.area.specs.Encoding.{Area, area_of, entries_of, machine_of}
use Rattle.soundness.specs.Clauses.{is_sound}
use Rattle.soundness.specs.Held.{state_at}
use Rattle.encoding.specs.Entries.{entry_at}
use Rattle.encoding.proofs.Places.{state_at_lem}
use Rattle.machine.specs.Log.{first_wanted, Active}
use Rattle.machine.proofs.ActivePlaces.{place-facts}
use Rattle.writing.specs.ValidArea.{ValidArea}
use Rattle.writing.proofs.Areas.{state_is}
use Rattle.calls.specs.Replies.{lengths_of}
use Rattle.calls.specs.Calls.{choose_cause, promote_cause}
use Rattle.calls.proofs.Causes.{promote_not-active, promote_active}
use Rattle.calls.proofs.Accepted.{choosable, Promotable, promotable}
use Rattle.calls.proofs.Validity.{valid, held_there, entries_count}

module _ (j : JobRecord) (cells : List ℕ) (store : List ℤ) (p : ℕ) where
  abbrev a : Area
  a = area_of j cells store

  abbrev l : Log
  l = (machine_of a).log

  abbrev cause : ℕ
  cause = promote_cause a p

  module _ (none : 0 ≡ choose_cause a) where
    clear : choose_cause a ≡ 0
    clear = sym none

    ready : ValidArea a
    ready = valid j cells store (choosable (lengths_of a) (is_sound a) l clear).clear

    pub room : j.held * 27 ≤ length cells
    room = held_there j cells store ready

    module _ (rs : List IndexRecord) (are : rs ≡ held_in cells j.held) where
      count : length rs ≡ length (entries_of a)
      count = omega (arith, ap length are, held_count cells j.held room, entries_count j cells store ready)

      pub past : length rs ≤ p → 11 ≡ cause
      unfolding machine_of
      past h = sym (promote_not-active (lengths_of a) (is_sound a) l p clear (place-facts.past (entries_of a) p (omega (arith, h, count))))

      module _ (x : ℕ) (state : x ≡ state_at rs p) where
        state_there : x ≡ (entry_at (entries_of a) p).state
        unfolding held_in entries_of
        state_there = (rw are at state) ∙ sym (state_at_lem j.settings store (held_in cells j.held) p)

        pub other : (x ≡ 1 → ⊥) → 11 ≡ cause
        unfolding machine_of
        other f = sym (promote_not-active (lengths_of a) (is_sound a) l p clear (place-facts.other (entries_of a) p (λ e. f (state_there ∙ e))))

        pub active : p < length rs → x ≡ 1 → 0 ≡ cause
        unfolding machine_of
        active h e =
            sym
            (promote_active (lengths_of a) (is_sound a) l p clear
            (place-facts.back (entries_of a) p (record { place = omega (arith, h, count); active = sym state_there ∙ e })))

  -- ---- where promote itself is not refused

  module _ (none : 0 ≡ cause) where
    open_to : Promotable (lengths_of a) (is_sound a) l p
    open_to = promotable (lengths_of a) (is_sound a) l p (sym none)

    area_ready : ValidArea a
    area_ready = valid j cells store open_to.clear

    pub refine_asks : (ValidArea a × (length (entries_of a) ≤ first_wanted (entries_of a))) × ((p < j.held) × (state_at (records_of cells) p ≡ 1) × (j.settings.budget ≤ j.settings.budget))
    unfolding machine_of
    refine_asks =
        let t : Active (entries_of a) p = open_to.active in
        ((area_ready, open_to.free), (omega (arith, t.place, entries_count j cells store area_ready), sym (state_is a area_ready p t.place) ∙ t.active, omega arith))
