-- An area that no cause refuses is valid; and what the code reads from its cells is what its entries have.
-- Assumes nothing.
use mathlib.Core.Path.{◌≡◌, refl, sym, ap, ◌∙◌, subst}
use mathlib.Core.Bool.{◌&&◌, true, false}
use mathlib.Core.List.{List}
use Prim.Native.Nat.{ℕ, ◌*◌, ◌/◌, ◌<◌, ◌≤◌}
use native.Mathlib.Omega.{arith}
use borrow.Author.Tests.{not-false, le-leb}
use lib.Dec.{leb}
use lib.IntN.{ℤ}
use lib.ListN.{length}
use Rattle.std.specs.Prelude.{Option, None, Some, IfSome, unwrap_or, is_some}
use Rattle.area.specs.Settings.{least_store, reading_count}
use Rattle.grid.specs.Index.{Within}
use Rattle.grid.specs.Block.{block_size}
use Rattle.area.specs.declared.JobRecord.{JobRecord}
use Rattle.area.specs.declared.IndexRecord.{IndexRecord}
use Rattle.area.specs.Records.{held_in}
use Rattle.area.specs.Encoding.{Area, area_of, entries_of, machine_of}
use Rattle.area.proofs.Records.{length-records_of}
use Rattle.area.proofs.PackedRuns.{held_count}
use Rattle.quadrature.specs.Readings.{record_at}
use Rattle.soundness.specs.Sound.{Sound, LongEnough}
use Rattle.soundness.specs.Clauses.{is_sound, checked}
use Rattle.soundness.proofs.Exactly.{reads_and, reads_le}
use Rattle.soundness.proofs.Clauses.{clause_facts}
use Rattle.encoding.proofs.Places.{levels_at_lem}
use Rattle.encoding.proofs.Facts.{encoding_facts}
use Rattle.machine.specs.Log.{first_wanted, any_wanted, wanted_index}
use Rattle.machine.specs.Causes.{short, first_cause, result_causes}
use Rattle.writing.specs.Heads.{heads_of}
use Rattle.writing.specs.ValidArea.{ValidArea}
use Rattle.writing.proofs.Unread.{heads_are, alike_wanted}
use Rattle.writing.proofs.Areas.{clauses, held_is}
use Rattle.calls.specs.Replies.{lengths_of}
use Rattle.calls.specs.Calls.{area_cause}
use Rattle.calls.proofs.Causes.{common_clear, wanted-yes, wanted_no}

module _ (a : Area) (none : first_cause (result_causes (lengths_of a) (is_sound a) (machine_of a).log) ≡ 0) where
  pub sound_there : Sound a
  sound_there = (clause_facts.agree a).sure (not-false (is_sound a) (common_clear (lengths_of a) (is_sound a) (machine_of a).log none).second)

  pub long_there : LongEnough a
  unfolding machine_of short
  long_there =
      let long = (reads_and _ _ (reads_le 512 (length a.run.records)) (reads_le (least_store a.job.settings) (length a.store))).sure
      (not-false (leb 512 (length a.run.records) && leb (least_store a.job.settings) (length a.store)) (common_clear (lengths_of a) (is_sound a) (machine_of a).log none).first) in
      record { records = long.0; store = long.1 }

module _ (j : JobRecord) (c : List ℕ) (s : List ℤ) where
  abbrev a : Area
  a = area_of j c s

  -- where storage is long enough, check answers by soundness alone
  pub checked_sound : 512 ≤ length c / 27 → least_store j.settings ≤ length s → checked a ≡ is_sound a
  unfolding checked
  checked_sound h k = rw (length-records_of c, le-leb 512 (length c / 27) h, le-leb (least_store j.settings) (length s) k)

  pub valid : first_cause (result_causes (lengths_of a) (is_sound a) (machine_of a).log) ≡ 0 → ValidArea a
  valid none = record { sound = sound_there a none; lent = long_there a none; well_formed = encoding_facts.well_formed j c s }

  module _ (st : ValidArea a) where
    pub held_there : j.held * 27 ≤ length c
    held_there = omega (arith, st.sound.held_lent, length-records_of c)

    pub entries_count : length (entries_of a) ≡ j.held
    entries_count = sym (held_is a st)

    pub wanted-place : first_wanted (heads_of (held_in c j.held)) ≡ first_wanted (entries_of a)
    wanted-place = alike_wanted (heads_of (held_in c j.held)) (entries_of a) (heads_are j c s)

    module _ (p : ℕ) (is : p ≡ first_wanted (entries_of a)) where
      pub wanted_levels_lem : (record_at (held_in c j.held) p).levels ≡ wanted_index (entries_of a)
      unfolding held_in entries_of
      wanted_levels_lem = ap (λ q. (record_at (held_in c j.held) q).levels) is ∙ sym (levels_at_lem j.settings s (held_in c j.held) (first_wanted (entries_of a)))

      pub wanted-within : p < j.held → Within (record_at (held_in c j.held) p).levels
      unfolding machine_of
      wanted-within h = subst Within (sym wanted_levels_lem) ((clauses a st).index (first_wanted (entries_of a)) (omega (arith, entries_count, is, h))).ceilings

-- ---- where storage and area do not refuse: what the scan of the held records for the first wanted place tells
module _ (j : JobRecord) (cells : List ℕ) (store : List ℤ) (none : 0 ≡ area_cause (area_of j cells store)) where
  pub st : ValidArea (area_of j cells store)
  st = valid j cells store (sym none)

  pub held_room : j.held * 27 ≤ length cells
  held_room = held_there j cells store st

  module _ (rs : List IndexRecord) (are : rs ≡ held_in cells j.held) where
    first : first_wanted (heads_of rs) ≡ first_wanted (entries_of (area_of j cells store))
    first = rw are (wanted-place j cells store st)

    count : length rs ≡ length (entries_of (area_of j cells store))
    count = omega (arith, ap length are, held_count cells j.held held_room, entries_count j cells store st)

    pub nothing : length rs ≡ first_wanted (heads_of rs) → any_wanted (machine_of (area_of j cells store)).log.entries ≡ false
    unfolding machine_of
    nothing e = wanted_no (machine_of (area_of j cells store)).log (omega (arith, first, count, e))

    module _ (p : ℕ) (e : p ≡ first_wanted (heads_of rs)) where
      pub at_first : p ≡ first_wanted (entries_of (area_of j cells store))
      at_first = e ∙ first

      module _ (h : p < length rs) where
        pub something : any_wanted (machine_of (area_of j cells store)).log.entries ≡ true
        unfolding machine_of
        something = wanted-yes (machine_of (area_of j cells store)).log (omega (arith, at_first, count, h))

        module _ (k : List ℕ) (l : k ≡ (record_at rs p).levels) where
          levels_are : k ≡ wanted_index (machine_of (area_of j cells store)).log.entries
          unfolding machine_of
          levels_are = (rw are at l) ∙ wanted_levels_lem j cells store st p at_first

          pub within : Within k
          within = subst Within (sym (rw are at l)) (wanted-within j cells store st p at_first (omega (arith, h, count, entries_count j cells store st)))

          pub size_is : (x : ℕ) → x ≡ block_size k → x ≡ block_size (wanted_index (machine_of (area_of j cells store)).log.entries)
          size_is x f = f ∙ ap block_size levels_are

          pub count_is : (x : ℕ) → x ≡ reading_count j.settings k
              → x ≡ reading_count (machine_of (area_of j cells store)).log.settings (wanted_index (machine_of (area_of j cells store)).log.entries)
          unfolding machine_of
          count_is x f = f ∙ ap (reading_count j.settings) levels_are

    -- whether the scan finds one
    pub is_wanted : (r : Option ℕ) → unwrap_or r (length rs) ≡ first_wanted (heads_of rs) → IfSome r (λ p. p < length rs)
        → is_some r ≡ any_wanted (machine_of (area_of j cells store)).log.entries
    is_wanted None e h = sym (nothing e)
    is_wanted (Some p) e h = sym (something p e h)

-- ---- an Option of a place below n, as a place: n stands for none
pub some_below : (r : Option ℕ) (n p : ℕ) → p ≡ unwrap_or r n → p < n → is_some r ≡ true
some_below None n p is h = absurd (omega (arith, is, h))
some_below (Some q) n p is h = refl

pub none_above : (r : Option ℕ) (n p : ℕ) → IfSome r (λ q. q < n) → p ≡ unwrap_or r n → n ≤ p → is_some r ≡ false
none_above None n p within is h = refl
none_above (Some q) n p within is h = absurd (omega (arith, is, within, h))
