-- The delivery of an entry: why it is refused, and what an accepted one leaves.
-- The idea: in a valid area with a block wanted only the count and the range of the readings can refuse.
-- Assumes nothing.
use mathlib.Core.Path.{◌≡◌, refl, ap, ap₂, sym, ◌∙◌, subst}
use mathlib.Core.Bool.{true, false, cond}
use mathlib.Core.List.{List}
use Prim.Native.Nat.{ℕ, ◌+◌, ◌*◌, ◌<◌}
use native.Mathlib.Omega.{arith}
use lib.Dec.{eqb}
use lib.IntN.{ℤ}
use lib.ListN.{length}
use Rattle.area.proofs.Readings.{reading_facts}
use Rattle.area.specs.Settings.{reading_count}
use Rattle.grid.specs.Index.{Within}
use Rattle.area.specs.declared.JobRecord.{JobRecord}
use Rattle.area.specs.Records.{held_in}
use Rattle.area.specs.Encoding.{Area, area_of, entries_of, machine_of}
use Rattle.quadrature.specs.Readings.{record_at}
use Rattle.area.specs.Log.{Machine}
use Rattle.machine.specs.Log.{first_wanted, any_wanted, wanted_index}
use Rattle.machine.specs.Steps.{deliver}
use Rattle.machine.specs.Areas.{deliver_on}
use Rattle.machine.specs.Causes.{first_cause, in_range, result_causes}
use Rattle.encoding.specs.Entries.{SoundMachine}
use Rattle.machine.proofs.Facts.{step_facts}
use Rattle.writing.specs.ValidArea.{ValidArea}
use Rattle.writing.proofs.After.{machine_sound}
use Rattle.calls.proofs.Tests as tests
use Rattle.calls.proofs.Causes.{common_none, wanted-yes, deliver_count, deliver_range, deliver-fits}
use Rattle.calls.proofs.Validity.{entries_count, wanted_levels_lem, wanted-within}
use Rattle.calls.proofs.Ranges.{readings_range}
use Rattle.calls.proofs.Written.{written_state}
use Rattle.jobfile.specs.Bytes.{four}
use Rattle.jobfile.specs.Form.{entry_byte}
use Rattle.jobfile.specs.File.{readings_at, entry_of}
use Rattle.running.specs.Execution.{own_lengths, Result, refused_at, first_out_of_range, delivery_cause, delivery_byte, execution}
use Rattle.running.proofs.Blocks.{readings-length}

-- ---- in a valid area, with the first wanted block at p

module _ (j : JobRecord) (cells : List ℕ) (store : List ℤ) (st : ValidArea (area_of j cells store)) (p : ℕ) (is : p ≡ first_wanted (entries_of (area_of j cells store))) (held : p < j.held) where
  abbrev a : Area
  a = area_of j cells store

  abbrev m : Machine
  m = machine_of (area_of j cells store)

  none : first_cause (result_causes own_lengths true (machine_of (area_of j cells store)).log) ≡ 0
  unfolding machine_of
  none = common_none own_lengths true (machine_of (area_of j cells store)).log (tests.enough own_lengths j.settings (omega arith) (reading_facts.most j.settings st.sound.settings)) refl

  first_there : first_wanted (machine_of (area_of j cells store)).log.entries < length (machine_of (area_of j cells store)).log.entries
  unfolding machine_of
  first_there = omega (arith, is, held, entries_count j cells store st)

  some : any_wanted (machine_of (area_of j cells store)).log.entries ≡ true
  some = wanted-yes (machine_of (area_of j cells store)).log first_there

  pub levels_within_lem : (k : List ℕ) → k ≡ (record_at (held_in cells j.held) p).levels → Within k
  levels_within_lem k e = subst Within (sym e) (wanted-within j cells store st p is held)

  pub count_is : (k : List ℕ) → k ≡ (record_at (held_in cells j.held) p).levels
      → reading_count j.settings k ≡ reading_count (machine_of (area_of j cells store)).log.settings (wanted_index (machine_of (area_of j cells store)).log.entries)
  unfolding machine_of
  count_is k e = ap (reading_count j.settings) (e ∙ wanted_levels_lem j cells store st p is)

  -- ---- entry i of the bytes b
  module _ (b : List ℕ) (i : ℕ) where
    abbrev rs : List ℤ
    rs = (entry_of b i).readings

    rs_length : length (entry_of b i).readings ≡ four b (entry_byte i + 4)
    unfolding entry_of
    rs_length = readings-length b (four b (entry_byte i + 4)) (four b (entry_byte i + 8))

    abbrev goes : ℕ → Result
    goes n =
        cond (eqb (delivery_cause b (machine_of (area_of j cells store)) i) 0) (execution b n (deliver (machine_of (area_of j cells store)) (entry_of b i).readings (entry_of b i).indicator) (i + 1))
        (refused_at (delivery_cause b (machine_of (area_of j cells store)) i) (delivery_byte b i (delivery_cause b (machine_of (area_of j cells store)) i)))

    abbrev next : ℕ → Result
    next n = execution b n (deliver (machine_of (area_of j cells store)) (entry_of b i).readings (entry_of b i).indicator) (i + 1)

    refused : (k n : ℕ) → eqb k 0 ≡ false → delivery_cause b (machine_of (area_of j cells store)) i ≡ k → goes n ≡ refused_at k (delivery_byte b i k)
    refused k n f e = ap (λ x. cond (eqb x 0) (next n) (refused_at x (delivery_byte b i x))) e ∙ ap (λ t. cond t (next n) (refused_at k (delivery_byte b i k))) f

    pub count_refused : (four b (entry_byte i + 4) ≡ reading_count (machine_of (area_of j cells store)).log.settings (wanted_index (machine_of (area_of j cells store)).log.entries) → ⊥) → (n : ℕ) → goes n ≡ refused_at 7 (24 + 12 * i + 4)
    unfolding delivery_byte
    count_refused f n = refused 7 n refl (deliver_count own_lengths true (machine_of (area_of j cells store)).log rs none some (λ e. f (sym rs_length ∙ e)))

    module _ (whole : four b (entry_byte i + 4) ≡ reading_count (machine_of (area_of j cells store)).log.settings (wanted_index (machine_of (area_of j cells store)).log.entries)) where
      pub range_refused : in_range (entry_of b i).readings ≡ false → (n : ℕ) → goes n ≡ refused_at 8 (four b (entry_byte i + 8) + 4 * first_out_of_range (entry_of b i).readings)
      unfolding delivery_byte
      range_refused bad n = refused 8 n refl (deliver_range own_lengths true (machine_of (area_of j cells store)).log rs none some (rs_length ∙ whole) bad)

      module _ (fits : in_range (entry_of b i).readings ≡ true) where
        clear : delivery_cause b (machine_of (area_of j cells store)) i ≡ 0
        clear = deliver-fits own_lengths true (machine_of (area_of j cells store)).log rs none some (rs_length ∙ whole) fits

        sound : SoundMachine (deliver (machine_of (area_of j cells store)) (entry_of b i).readings (entry_of b i).indicator)
        sound = step_facts.deliver (machine_of (area_of j cells store)) rs (entry_of b i).indicator (machine_sound (area_of j cells store) st) first_there (rs_length ∙ whole) (readings_range rs fits)

        -- the area that the delivery leaves holds the next state
        pub done : (after : Area) → after ≡ deliver_on (area_of j cells store) (entry_of b i).readings (entry_of b i).indicator → (n : ℕ) → goes n ≡ execution b n (machine_of after) (i + 1)
        unfolding deliver_on
        done after e n =
            ap (λ x. cond (eqb x 0) (next n) (refused_at x (delivery_byte b i x))) clear
            ∙ ap (λ (y : Machine). execution b n y (i + 1))
            (sym (ap machine_of e ∙ written_state (area_of j cells store) (deliver (machine_of (area_of j cells store)) (entry_of b i).readings (entry_of b i).indicator) sound))

-- the block holds the entry's readings
pub block_is : (b : List ℕ) (i count from n : ℕ) (after : List ℤ) → after ≡ readings_at b n from → n ≡ count → count ≡ four b (entry_byte i + 4) → from ≡ four b (entry_byte i + 8)
    → after ≡ (entry_of b i).readings
unfolding entry_of
block_is b i count from n after e c q f = e ∙ ap₂ (readings_at b) (c ∙ q) f
