-- What point and points find where nothing refuses them: a valid area, whose first wanted block is the one at the place that point_cause found.
-- Assumes nothing.
use mathlib.Core.Path.{◌≡◌, sym, ap, subst}
use mathlib.Core.List.{List}
use Prim.Native.Nat.{ℕ, ◌*◌, ◌<◌, ◌≤◌}
use native.Mathlib.Omega.{arith}
use lib.IntN.{ℤ}
use lib.ListN.{length}
use Rattle.grid.specs.Index.{Within}
use Rattle.grid.specs.Block.{block_size}
use Rattle.area.specs.declared.JobRecord.{JobRecord}
use Rattle.area.specs.declared.IndexRecord.{IndexRecord}
use Rattle.area.specs.Records.{held_in}
use Rattle.area.proofs.PackedRuns.{held_count}
use Rattle.area.specs.Encoding.{area_of, entries_of, machine_of}
use Rattle.quadrature.specs.Readings.{record_at}
use Rattle.soundness.specs.Clauses.{is_sound}
use Rattle.machine.specs.Log.{first_wanted, wanted_index}
use Rattle.writing.specs.ValidArea.{ValidArea}
use Rattle.calls.specs.Replies.{lengths_of}
use Rattle.calls.specs.Calls.{point_cause}
use Rattle.calls.proofs.Accepted.{Pointable, pointable}
use Rattle.calls.proofs.Validity.{valid, held_there, entries_count, wanted_levels_lem, wanted-within}

-- The block at the place p of the held records is the one that is asked for; n is the number of a point, w the length of the buffer.
pub record Pointed (j : JobRecord) (cells : List ℕ) (store : List ℤ) (n w : ℕ) (rs : List IndexRecord) (p : ℕ) : Type 0 where
  pub there : p < length rs
  pub levels : (record_at rs p).levels ≡ wanted_index (entries_of (area_of j cells store))
  pub ceilings : Within (record_at rs p).levels
  pub in_block : n < block_size (record_at rs p).levels
  pub axes_some : 1 ≤ j.settings.axes
  pub axes_few : j.settings.axes ≤ 8
  pub room : j.settings.axes ≤ w

module _ (j : JobRecord) (cells : List ℕ) (store : List ℤ) (n w : ℕ) (none : 0 ≡ point_cause (area_of j cells store) n w) where
  open_to : Pointable (lengths_of (area_of j cells store)) (is_sound (area_of j cells store)) (machine_of (area_of j cells store)).log n w
  open_to = pointable (lengths_of (area_of j cells store)) (is_sound (area_of j cells store)) (machine_of (area_of j cells store)).log n w (sym none)

  st : ValidArea (area_of j cells store)
  st = valid j cells store open_to.clear

  pub pointing_held : j.held * 27 ≤ length cells
  pointing_held = held_there j cells store st

  pub pointing : (rs : List IndexRecord) → rs ≡ held_in cells j.held → (p : ℕ) → p ≡ first_wanted (entries_of (area_of j cells store)) → Pointed j cells store n w rs p
  unfolding machine_of
  pointing rs are p at =
      record {
        there = omega (arith, ap length are, held_count cells j.held pointing_held, inside);
        levels = levels;
        ceilings = rw are (wanted-within j cells store st p at inside);
        in_block = subst (λ k. n < block_size k) (sym levels) open_to.inside;
        axes_some = st.sound.settings.axes.0;
        axes_few = st.sound.settings.axes.1;
        room = open_to.room;
      }
    where
      inside : p < j.held
      inside = omega (arith, at, entries_count j cells store st, open_to.wanted)

      levels : (record_at rs p).levels ≡ wanted_index (entries_of (area_of j cells store))
      levels = rw are (wanted_levels_lem j cells store st p at)
