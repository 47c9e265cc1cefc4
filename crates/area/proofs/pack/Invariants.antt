-- `area::pack` meets its contract: the word so far is that of the axes passed, all of which fit. Assumes nothing.
use Rattle.std.proofs.Common.{◌≡◌, drop}
use Rattle.area.specs.Packed.{packed, FitsByte}
use Rattle.area.proofs.pack.Given as goal

abbrev pub invariant-loop-axis : goal.invariant-loop-axis
invariant-loop-axis l = record { word_is : l.word ≡ packed (drop l.axis l.levels); fit : FitsByte (drop l.axis l.levels) }
