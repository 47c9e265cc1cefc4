-- `records::cross_total` meets its contract: the call on the first records answers as on all. Assumes nothing.
use mathlib.Core.Path.{◌∙◌}
use Rattle.calls.specs.Table as table
use Rattle.records.proofs.Lent.{answer_on_cells}
use Rattle.records.proofs.cross_total.Goals as goal

pub returns : goal.returns
returns c = c.cross_total.ensures ∙ answer_on_cells c.args.job c.args.records.now c.args.store.now c.of-flat.result.words _ table.cross_total c.of-flat.ensures.count c.of-flat.ensures.front c.cells.ensures
