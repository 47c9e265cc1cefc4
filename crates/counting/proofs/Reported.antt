-- What a valid area gives to the report of doubles: the largest difference over its cells is that of its entries, and all three numbers are
-- below 2^53 in size.
-- Assumes nothing.
use mathlib.Core.Path.{◌≡◌}
use mathlib.Core.List.{List}
use Prim.Native.Nat.{ℕ, ◌^◌, ◌<◌}
use native.Mathlib.Omega.{arith}
use lib.IntN.{ℤ, nat_abs}
use lib.ListN.{get_or, take}
use Rattle.grid.specs.Largest.{largest_difference}
use Rattle.area.specs.declared.JobRecord.{JobRecord}
use Rattle.area.specs.Records.{records_of, held_in}
use Rattle.area.specs.Encoding.{area_of, entries_of}
use Rattle.area.proofs.Records.{indicators_small}
use Rattle.quadrature.specs.Readings.{stored_reading}
use Rattle.quadrature.specs.Linked.{delivered_in}
use Rattle.quadrature.proofs.Facts.{entry-facts}
use Rattle.soundness.proofs.Facts.{sound_facts}
use Rattle.encoding.proofs.Facts.{range_facts}
use Rattle.machine.specs.Largest.{largest_of}
use Rattle.writing.specs.ValidArea.{ValidArea}

module _ (j : JobRecord) (c : List ℕ) (s : List ℤ) (valid : ValidArea (area_of j c s)) where
  pub largest_is : largest_difference (delivered_in (take j.held (records_of c))) (stored_reading (records_of c) s) ≡ largest_of (entries_of (area_of j c s))
  unfolding held_in largest_of
  largest_is = (entry-facts j c s).largest j.settings.axes (sound_facts.ready (area_of j c s) valid.sound valid.lent.store)

  pub mean_small : nat_abs j.mean < 2 ^ 53
  mean_small = omega (arith, range_facts.mean (area_of j c s) valid.sound)

  pub pending_small : ((n : ℕ) → get_or c n 0 < 2 ^ 32) → j.pending < 2 ^ 53
  pending_small words = let small = range_facts.pending (area_of j c s) valid.sound (indicators_small c j.held words) in omega arith
