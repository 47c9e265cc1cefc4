-- What a valid area gives to the combination sum, and that the sum over its cells is the cross total of its entries.
-- The idea: in a sound area every delivered index is ready and the held records are linked.
-- Assumes nothing.
use mathlib.Core.Path.{◌≡◌}
use mathlib.Core.List.{List}
use Prim.Native.Nat.{ℕ}
use lib.IntN.{ℤ}
use lib.ListN.{take}
use Rattle.grid.specs.Cross.{cross_total}
use Rattle.area.specs.declared.JobRecord.{JobRecord}
use Rattle.area.specs.Records.{records_of, held_in}
use Rattle.area.specs.Encoding.{area_of, entries_of}
use Rattle.quadrature.specs.Readings.{stored_reading}
use Rattle.quadrature.specs.Ready.{AllReady}
use Rattle.quadrature.specs.Linked.{delivered_in, Linked}
use Rattle.quadrature.proofs.Facts.{entry-facts}
use Rattle.soundness.proofs.Facts.{sound_facts}
use Rattle.machine.specs.Means.{cross_of}
use Rattle.writing.specs.ValidArea.{ValidArea}

module _ (j : JobRecord) (c : List ℕ) (s : List ℤ) (valid : ValidArea (area_of j c s)) where
  pub summable : AllReady j.settings.axes j.held (records_of c) s × Linked j.settings.axes (take j.held (records_of c))
  summable = (sound_facts.all_ready (area_of j c s) valid.sound valid.lent.store, sound_facts.linked (area_of j c s) valid.sound)

  pub summed : cross_total (delivered_in (take j.held (records_of c))) (stored_reading (records_of c) s) ≡ cross_of (entries_of (area_of j c s))
  unfolding held_in cross_of
  summed = (entry-facts j c s).cross j.settings.axes (sound_facts.ready (area_of j c s) valid.sound valid.lent.store)
