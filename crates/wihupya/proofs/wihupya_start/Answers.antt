-- `wihupya::wihupya_start` meets its contract: the call on the words' job record, written as words again; a refusal writes none. Assumes nothing.
use mathlib.Core.Path.{refl}
use Rattle.calls.specs.Replies.{accepted}
use Rattle.calls.specs.Table as table
use Rattle.wihupya.specs.Exports.{number_of}
use Rattle.wihupya.proofs.Refusals.{words_left}
use Rattle.wihupya.proofs.wihupya_start.Goals as goal

pub returns-clause-is : goal.returns-clause-is
unfolding number_of
returns-clause-is c =
    let is = rw c.from-after.ensures.0 at c.start-started.ensures in
    words_left (λ u. accepted) c.args.job.now c.args.cells.now _ (table.start (record { axes = c.args.axes; threshold = c.args.threshold; budget = c.args.budget })) c.start-started.result c.start-started.new.job c.start-started.new.cells c.args.store.now c.put_job.new.words c.put_job.result
    (λ u. refl) c.from-after.ensures.1 is c.put_job.ensures.words c.put_job.ensures.number
