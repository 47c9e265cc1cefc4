-- `wihupya::wihupya_deliver` meets its contract: the call on the words' job record, written as words again; a refusal writes none. Assumes nothing.
use mathlib.Core.Path.{refl}
use Rattle.calls.specs.Replies.{accepted}
use Rattle.calls.specs.Table as table
use Rattle.wihupya.specs.Exports.{number_of}
use Rattle.wihupya.proofs.Refusals.{words_left}
use Rattle.wihupya.proofs.wihupya_deliver.Goals as goal

pub returns-clause-is : goal.returns-clause-is
unfolding number_of
returns-clause-is c =
    let is = rw c.from-after.ensures.0 at c.deliver-delivered.ensures in
    words_left (λ u. accepted) c.args.job.now c.args.cells.now _ (table.deliver c.args.readings.now c.args.indicator) c.deliver-delivered.result c.deliver-delivered.new.job c.deliver-delivered.new.cells c.deliver-delivered.new.store c.put_job.new.words c.put_job.result
    (λ u. refl) c.from-after.ensures.1 is c.put_job.ensures.words c.put_job.ensures.number
