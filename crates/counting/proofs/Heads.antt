-- What a valid area gives to the counts, which don't look at readings.
-- Assumes nothing.
use mathlib.Core.Path.{◌≡◌}
use mathlib.Core.List.{List}
use Prim.Native.Nat.{ℕ, ◌*◌, ◌<◌, ◌≤◌}
use native.Mathlib.Omega.{arith}
use lib.IntN.{ℤ}
use lib.ListN.{length}
use Rattle.grid.specs.Index.{Within}
use Rattle.area.specs.declared.JobRecord.{JobRecord}
use Rattle.area.specs.Records.{held_in}
use Rattle.area.specs.Encoding.{area_of, entries_of}
use Rattle.area.proofs.Records.{length-records_of}
use Rattle.quadrature.specs.Readings.{record_at}
use Rattle.quadrature.proofs.Held.{held_length}
use Rattle.machine.specs.Counts.{count_of, ceiling_count}
use Rattle.writing.specs.Heads.{heads_of}
use Rattle.writing.specs.ValidArea.{ValidArea}
use Rattle.writing.proofs.Unread.{heads_are, alike_count, alike_ceiling}

module _ (j : JobRecord) (c : List ℕ) (s : List ℤ) (valid : ValidArea (area_of j c s)) where
  pub held_there : j.held * 27 ≤ length c
  held_there = omega (arith, valid.sound.held_lent, length-records_of c)

  pub held_few : length (held_in c j.held) ≤ 512
  unfolding held_in
  held_few = valid.sound.structure.count.1

  pub held_within : (p : ℕ) → p < length (held_in c j.held) → Within (record_at (held_in c j.held) p).levels
  unfolding held_in
  held_within p h = (valid.sound.structure.index p h).ceilings

  -- the job record counts at most 512 held indices
  pub held_few_count : j.held ≤ 512
  held_few_count = omega (arith, held_few, held_length c j.held held_there)

  -- each place below that count holds an index within the ceilings
  pub held_within_count : (p : ℕ) → p < j.held → Within (record_at (held_in c j.held) p).levels
  held_within_count p h = held_within p (omega (arith, h, held_length c j.held held_there))

  pub counted : (t : ℕ) → count_of t (heads_of (held_in c j.held)) ≡ count_of t (entries_of (area_of j c s))
  counted t = alike_count (heads_of (held_in c j.held)) (entries_of (area_of j c s)) (heads_are j c s) t

  pub capped : (d : ℕ) → ceiling_count d (heads_of (held_in c j.held)) ≡ ceiling_count d (entries_of (area_of j c s))
  capped d = alike_ceiling (heads_of (held_in c j.held)) (entries_of (area_of j c s)) (heads_are j c s) d
