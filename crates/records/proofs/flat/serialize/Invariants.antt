-- `records::flat::serialize`: the records so far lie over the cells.
use mathlib.Core.Path.{◌≡◌}
use Rattle.area.specs.Records.{run_of}
use Rattle.records.specs.Lent.{over_run}
use Rattle.records.proofs.flat.serialize.Given as goal

abbrev pub invariant-loop-place : goal.invariant-loop-place
invariant-loop-place l = run_of l.cells ≡ over_run l.place l.records (run_of l.initial.cells)
