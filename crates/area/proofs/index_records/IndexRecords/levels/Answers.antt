-- `IndexRecords::levels` meets its contract: a row's first eight cells are the levels. Assumes nothing.
use mathlib.Core.Path.{ap, ◌∙◌}
use Rattle.area.specs.declared.IndexRecord.{IndexRecord}
use Rattle.area.specs.Records.{record_of}
use Rattle.area.proofs.index_records.IndexRecords.levels.Goals as goal

pub returns : goal.returns
unfolding record_of
returns c = c.run_at.ensures ∙ ap (λ (r : IndexRecord). r.levels) c.row.ensures.record
