-- `records::deliver` meets its contract: the call on the first records, with what it changed stored back, is the call on all. Assumes nothing.
use borrow.Author.Rules.{rules}
use mathlib.Core.Path.{◌≡◌}
use lib.ListN.{length}
use Rattle.calls.specs.Cause.{number_of_cause}
use Rattle.calls.specs.Replies.{accepted}
use Rattle.calls.specs.Table as table
use Rattle.calls.proofs.Found.{handed_on}
use Rattle.records.proofs.Stored.{stored_held, refused_none}
use Rattle.records.proofs.deliver.Goals as goal

pub returns-in_err-deliver : goal.returns-in_err-deliver
returns-in_err-deliver c =
    let d = c.in_err-deliver.field-0.0 in
    let flat = c.of-count.result in
    let words : length c.of-count.result.words ≡ 13824 = search rules in
    rw (handed_on c.from_residual.result d c.from_residual.ensures)
    (refused_none c.args.job.now c.args.records.now c.args.store.now flat.count flat.words c.deliver.new.cells c.deliver.new.job c.deliver.new.store c.of-count.ensures.count words c.of-count.ensures.front c.deliver.auto.cells
    (table.deliver c.args.readings.now c.args.indicator) (number_of_cause d) c.in_err-deliver.ensures)

pub returns : goal.returns
returns c =
    let flat = c.of-count.result in
    let words : length c.of-count.result.words ≡ 13824 = search rules in
    stored_held c.args.job.now c.args.records.now c.args.store.now flat.count flat.words c.deliver.new.cells (table.deliver c.args.readings.now c.args.indicator) accepted c.deliver.new.job c.deliver.new.store c.of-count.ensures.count words
    c.of-count.ensures.front c.deliver.auto.cells c.in_ok-deliver.ensures c.store_back.new.records c.store_back.ensures
