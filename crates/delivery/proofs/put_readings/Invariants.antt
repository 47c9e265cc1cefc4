-- `delivery::put_readings` meets its contract: the readings passed are stored, and no other has changed. Assumes nothing.
use Rattle.std.proofs.Common.{◌≡◌, take}
use Rattle.std.proofs.lemmas.List.Edits.{sets}
use Rattle.delivery.proofs.put_readings.Given as goal

abbrev pub invariant-loop-n : goal.invariant-loop-n
invariant-loop-n l = l.store ≡ sets l.initial.store l.first (take l.n l.readings)
