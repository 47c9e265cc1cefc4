-- `IndexRecords::levels_are` meets its contract: two level lists are equal exactly if they are the same. Assumes nothing.
use Rattle.std.proofs.Common.{ap, ◌∙◌}
use Rattle.grid.specs.Coefficient.{same_levels}
use Rattle.area.proofs.Lookups.{equal-same}
use Rattle.area.proofs.index_records.IndexRecords.levels_are.Goals as goal

pub returns : goal.returns
returns c = c.eq.ensures ∙ equal-same c.levels.result c.args.levels ∙ ap (λ k. same_levels k c.args.levels) c.levels.ensures
