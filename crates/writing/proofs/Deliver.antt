-- Delivering changes one record's state and indicator, one block of the store, the pending error and the mean.
-- Assumes nothing.
use mathlib.Core.Path.{◌≡◌, refl, sym, ap, ◌∙◌}
use mathlib.Core.List.{List, ◌++◌}
use Prim.Native.Nat.{ℕ, ◌+◌, ◌<◌, ◌≤◌}
use native.Mathlib.Omega.{arith}
use lib.IntN.{ℤ}
use lib.ListN.{length, set, drop, length-set}
use lib.Seq.{sets}
use Rattle.area.specs.declared.IndexRecord.{IndexRecord}
use Rattle.area.specs.declared.Settings.{Settings}
use Rattle.area.specs.Settings.{reading_count}
use Rattle.area.specs.Entry.{Entry, reserved_by, pending_of, carried_of}
use Rattle.area.specs.Encoding.{Area, held_of, entries_of, machine_of, records_for, store_for, store_with}
use Rattle.quadrature.specs.Readings.{record_at}
use Rattle.encoding.specs.Entries.{entry_at}
use Rattle.encoding.proofs.Places.{levels_at_lem, entries_length}
use Rattle.encoding.proofs.Facts.{range_facts}
use Rattle.machine.specs.Log.{first_wanted, wanted_index}
use Rattle.machine.specs.Steps.{delivered, deliver_at}
use Rattle.machine.proofs.CarriedError.{carried_steps}
use Rattle.writing.specs.Changes.{with_state}
use Rattle.writing.specs.ValidArea.{ValidArea}
use Rattle.writing.proofs.Entries.{reserved_set}
use Rattle.writing.proofs.Store.{first_free, deliver_pending, deliver_store}
use Rattle.writing.proofs.Areas.{clauses, held_is, store_is, held_record, entry_record, entry_replaced}

module _ (a : Area) (r : ValidArea a) where
  abbrev g : Settings
  g = a.job.settings

  abbrev es : List Entry
  es = entries_of a

  abbrev all : List IndexRecord
  all = a.run.records

  module _ (rs : List ℤ) (i : ℕ) (some : first_wanted es < length es) (right : length rs ≡ reading_count g (wanted_index es)) where
    abbrev w : ℕ
    w = first_wanted es

    abbrev next : List Entry
    next = deliver_at es w rs i

    delivered_count_lem : length next ≡ length es
    unfolding deliver_at
    delivered_count_lem = length-set es w (delivered (entry_at es w) rs i)

    pub delivered_held : length next ≡ a.job.held
    delivered_held = delivered_count_lem ∙ sym (held_is a r)

    pub delivered-records : records_for g next ++ drop (length next) all ≡ set all w (with_state (record_at all w) 1 i)
    unfolding deliver_at delivered
    delivered-records = ap (λ n. records_for g next ++ drop n all) delivered_count_lem ∙ entry_replaced a r w some (delivered (entry_at es w) rs i) refl

    pub delivered_reserved : reserved_by next ≡ a.job.reserved
    unfolding deliver_at delivered
    delivered_reserved = reserved_set es w (delivered (entry_at es w) rs i) refl ∙ sym r.sound.numbers.reserved

    pub delivered_pending : pending_of next ≡ a.job.pending + i
    unfolding machine_of
    delivered_pending = deliver_pending (machine_of a) (clauses a r) some rs i ∙ ap (λ n. n + i) (sym r.sound.numbers.pending)

    pub delivered_carried : carried_of g.axes next ≡ a.job.carried
    delivered_carried = carried_steps.deliver g.axes es rs i some ∙ sym r.sound.numbers.carried

    -- the block begins where the stored readings end
    pub first_is : (record_at all w).first ≡ length (store_for es)
    unfolding machine_of
    first_is = ap (λ (x : IndexRecord). x.first) (entry_record a r w some) ∙ first_free (machine_of a) (clauses a r) some

    room : length (store_for es) + length rs ≤ length a.store
    unfolding entries_of
    room =
        omega (
          arith,
          range_facts.block a r.sound w (omega (arith, entries_length g a.store (held_of a))),
          ap (λ (x : IndexRecord). x.first) (held_record a r w some),
          first_is,
          ap (reading_count g) (levels_at_lem g a.store (held_of a) w),
          r.lent.store,
        )

    pub delivered-store : store_with a.store next ≡ sets a.store (record_at all w).first rs
    unfolding machine_of
    delivered-store =
        deliver_store (machine_of a) (clauses a r) some rs i a.store (store_is a r) room ∙ ap (λ n. sets a.store n rs) (sym first_is)
