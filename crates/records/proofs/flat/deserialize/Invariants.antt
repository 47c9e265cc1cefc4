-- `records::flat::deserialize`: the records of the cells so far lie over the records.
use mathlib.Core.Path.{◌≡◌}
use Rattle.records.specs.Lent.{over}
use Rattle.records.proofs.flat.deserialize.Given as goal

abbrev pub invariant-loop-place : goal.invariant-loop-place
invariant-loop-place l = l.records ≡ over l.place l.held l.initial.records
