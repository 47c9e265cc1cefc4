-- `counting::result` meets its contract: each count is that of the entries, and the recorded numbers are the area's. Assumes nothing.
use borrow.Author.Rules.{rules}
use mir.Syntax.{w64}
use mir.Val.{SFits}
use mathlib.Core.Path.{◌∙◌}
use Rattle.sums.proofs.Words.{back}
use Rattle.area.specs.Encoding.{machine_of}
use Rattle.machine.specs.Counts.{counts_of}
use Rattle.counting.specs.Answer.{counts_in}
use Rattle.counting.proofs.Heads.{held_there, held_few, held_within, counted, capped}
use Rattle.counting.proofs.result.Goals as goal

pub first-held-requires : goal.first-held-requires
first-held-requires c = held_there c.args.job c.args.cells.now c.args.store.now c.requires

pub state_count-old-requires : goal.state_count-old-requires
state_count-old-requires c = rw c.first-held.ensures (held_few c.args.job c.args.cells.now c.args.store.now c.requires)

pub state_count-active-requires : goal.state_count-active-requires
state_count-active-requires c = rw c.first-held.ensures (held_few c.args.job c.args.cells.now c.args.store.now c.requires)

pub state_count-wanted-requires : goal.state_count-wanted-requires
state_count-wanted-requires c = rw c.first-held.ensures (held_few c.args.job c.args.cells.now c.args.store.now c.requires)

pub ceiling_count-ceiling-requires : goal.ceiling_count-ceiling-requires
ceiling_count-ceiling-requires c =
    record {
      held_len = (rw c.first-held.ensures (held_few c.args.job c.args.cells.now c.args.store.now c.requires), c.requires.sound.settings.axes.1);
      by_index = rw c.first-held.ensures (held_within c.args.job c.args.cells.now c.args.store.now c.requires);
    }

pub returns : goal.returns
unfolding counts_in counts_of machine_of
returns c =
    let j = c.args.job in
    let cells = c.args.cells.now in
    let store = c.args.store.now in
    let held = c.first-held.ensures in
    let old = (rw held at c.state_count-old.ensures) ∙ counted j cells store c.requires 2 in
    let active = (rw held at c.state_count-active.ensures) ∙ counted j cells store c.requires 1 in
    let wanted = (rw held at c.state_count-wanted.ensures) ∙ counted j cells store c.requires 0 in
    let ceiling = (rw held at c.ceiling_count-ceiling.ensures) ∙ capped j cells store c.requires j.settings.axes in
    let fits : SFits w64 j.mean = search rules in
    let mean = back j.mean fits in
    λ i. record { old = old i; active = active i; wanted = wanted i; reserved = c.requires.sound.numbers.reserved i; pending = c.requires.sound.numbers.pending i; carried = c.requires.sound.numbers.carried i; mean = mean i; ceiling = ceiling i }
