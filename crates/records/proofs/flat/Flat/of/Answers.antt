-- `records::flat::Flat::of` meets its contract: the cells hold the records that a call looks at. Assumes nothing.
use native.Mathlib.Omega.{arith}
use Rattle.records.proofs.Overs.{flat_front}
use Rattle.records.proofs.flat.Flat.of.Goals as goal

pub returns-clause-front : goal.returns-clause-front
returns-clause-front c = flat_front c.args.records.now c.room-flat.result.count c.room-flat.result.words c.serialize.new.cells (omega arith) c.serialize.ensures
