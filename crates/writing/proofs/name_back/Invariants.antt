-- `writing::name_back` meets its contract: the axes left name back what all of them would. Assumes nothing.
use mathlib.Core.Path.{◌≡◌}
use Prim.Native.Nat.{◌-◌}
use lib.ListN.{length}
use Rattle.area.specs.Records.{records_of, run_of}
use Rattle.writing.specs.Changes.{named_from}
use Rattle.writing.proofs.name_back.Given as goal

abbrev pub invariant-loop-axis : goal.invariant-loop-axis
invariant-loop-axis l =
    (length l.cells ≡ length l.initial.cells) × ((run_of l.cells).rest ≡ (run_of l.initial.cells).rest)
    × (named_from 8 0 l.links l.held (records_of l.initial.cells) ≡ named_from (8 - l.axis) l.axis l.links l.held (records_of l.cells))
