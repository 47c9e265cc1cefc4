-- `promotion::choose` meets its contract: the recorded errors decide whether it is met or capped, and else it is the selected place. Assumes nothing.
use mathlib.Core.Path.{◌∙◌}
use Rattle.promotion.specs.Outcomes.{choice_of}
use Rattle.promotion.proofs.Refining.{room}
use Rattle.promotion.proofs.Choosing.{ended_is, found, selected_is}
use Rattle.promotion.proofs.choose.Goals as goal

pub returns-then-job : goal.returns-then-job
returns-then-job c =
    c.ending.ensures ∙ ended_is c.args.job c.args.cells.now c.args.store.now c.requires c.if-job.true

pub first-held-requires : goal.first-held-requires
first-held-requires c = room c.args.job c.args.cells.now c.args.store.now c.requires

pub unwrap-requires : goal.unwrap-requires
unwrap-requires c = found c.args.job c.args.cells.now c.args.store.now c.requires c.if-job.false c.first-held.result c.first-held.ensures c.select.result c.select.ensures.place

pub returns : goal.returns
unfolding choice_of
returns c =
    selected_is c.args.job c.args.cells.now c.args.store.now c.requires c.if-job.false c.first-held.result c.first-held.ensures c.select.result c.select.ensures.place
    c.unwrap.result c.unwrap.ensures
