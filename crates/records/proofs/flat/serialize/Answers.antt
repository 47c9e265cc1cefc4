-- `records::flat::serialize` meets its contract: each turn lays one record more. Assumes nothing.
use Rattle.records.proofs.Overs.{serialize_none, serialize_next}
use Rattle.records.proofs.flat.serialize.Goals as goal

pub loop-place-init : goal.loop-place-init
loop-place-init c = serialize_none c.args.records.now c.args.cells.now

pub loop-place-preserved : goal.loop-place-preserved
loop-place-preserved c =
    let l = c.loop-place in
    serialize_next c.args.records.now c.args.cells.now l.cells c.store.new.cells l.place _ c.loop-place-test.true c.requires l.invariant c.store.ensures
