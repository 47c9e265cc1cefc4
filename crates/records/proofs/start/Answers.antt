-- `records::start` meets its contract: start goes by the number of the records, and what it changed is stored back. Assumes nothing.
use borrow.Author.Rules.{rules}
use mathlib.Core.Path.{◌≡◌}
use lib.ListN.{length}
use Rattle.records.proofs.Started.{start_either}
use Rattle.records.proofs.start.Goals as goal

pub returns : goal.returns
returns c =
    let room = c.room-count.result in
    let words : length c.room-count.result.words ≡ 13824 = search rules in
    start_either c.args.job.now c.args.records.now c.args.store.now room.count room.words c.start-started.new.cells c.args.settings c.start-started.new.job c.room-count.ensures words c.start-started.auto.cells c.start-started.result
    c.store_back.new.records c.to_store-kept.result c.start-started.ensures c.to_store-kept.ensures c.store_back.ensures
