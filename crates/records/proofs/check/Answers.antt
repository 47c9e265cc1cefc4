-- `records::check` meets its contract: the first records are sound exactly if all are. Assumes nothing.
use mathlib.Core.Path.{◌∙◌}
use Rattle.records.proofs.Lent.{check_on_cells}
use Rattle.records.proofs.check.Goals as goal

pub returns : goal.returns
returns c = c.check.ensures ∙ check_on_cells c.args.job c.args.records.now c.args.store.now c.of-flat.result.words _ c.of-flat.ensures.count c.of-flat.ensures.front c.cells.ensures
