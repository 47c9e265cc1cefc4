-- `IndexRecords::len` meets its contract: the count is their number. Assumes nothing.
use mathlib.Core.Path.{sym}
use Rattle.area.proofs.Views.{count_is}
use Rattle.area.proofs.index_records.IndexRecords.len.Goals as goal

pub returns : goal.returns
returns c = sym (count_is c.self.inside.cells.now c.self.inside.count c.args.self.now c.self.invariant c.self.view_is)
