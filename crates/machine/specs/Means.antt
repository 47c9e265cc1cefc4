-- The mean of a list of entries, worked from its readings in two ways; and that the steps add to it what they add to the recorded mean.
use Rattle.std.specs.Prelude.{◌≡◌, List, ℕ, ◌<◌, ℤ, pos, ◌+ℤ◌, length}
use Rattle.grid.specs.Difference.{scaled_difference, scaled_mean}
use Rattle.grid.specs.Cross.{cross_total}
use Rattle.area.specs.declared.Settings.{Settings}
use Rattle.area.specs.Entry.{Entry, delivered_of, reading_in}
use Rattle.area.specs.Log.{Machine}
use Rattle.encoding.specs.Entries.{SoundMachine}
use Rattle.machine.specs.Log.{first_wanted, wanted_index, Active}
use Rattle.machine.specs.Steps.{started, deliver, promote_step}

-- The *scaled mean*: the sum of the delivered indices' differences, times 2^20.
unfoldable pub mean_of : List Entry → ℤ
mean_of es = scaled_mean (delivered_of es) (reading_in es)

-- The *cross total*: the sum of full tensor rules over the delivered indices, each times its combination coefficient.
unfoldable pub cross_of : List Entry → ℤ
cross_of es = cross_total (delivered_of es) (reading_in es)

pub record MeanFacts : Type 0 where
  -- before the first delivery the mean is 0
  pub start : (g : Settings) → mean_of (started g).log.entries ≡ pos 0
  -- a delivery adds the delivered index's difference: that of every index delivered before stays
  pub deliver : (m : Machine) (rs : List ℤ) (i : ℕ) → SoundMachine m → first_wanted m.log.entries < length m.log.entries
      → mean_of (deliver m rs i).log.entries ≡ mean_of m.log.entries +ℤ scaled_difference (wanted_index m.log.entries) (reading_in (deliver m rs i).log.entries)
  -- a promotion of any active place adds none
  pub promote : (m : Machine) (p : ℕ) → SoundMachine m → Active m.log.entries p → mean_of (promote_step m p).log.entries ≡ mean_of m.log.entries
  -- and the two ways come to the same
  pub cross : (m : Machine) → SoundMachine m → mean_of m.log.entries ≡ cross_of m.log.entries
