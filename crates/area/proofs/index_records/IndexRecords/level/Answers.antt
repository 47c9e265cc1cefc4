-- `IndexRecords::level` meets its contract: the cell of the row is the record's. Assumes nothing.
use mathlib.Core.Path.{sym, ap, ◌∙◌}
use lib.Seq.{get_or-take}
use Rattle.grid.specs.Index.{level}
use Rattle.area.specs.declared.IndexRecord.{IndexRecord}
use Rattle.area.specs.Records.{record_of}
use Rattle.area.proofs.index_records.IndexRecords.level.Goals as goal

pub returns : goal.returns
unfolding record_of
returns c = sym (get_or-take 8 c.row.result.now c.args.axis 0 c.requires.1) ∙ ap (λ (r : IndexRecord). level r.levels c.args.axis) c.row.ensures.record
