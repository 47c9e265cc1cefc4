-- `IndexRecords::link` meets its contract: the cell of the row is the record's. Assumes nothing.
use mathlib.Core.Path.{sym, ap, ◌∙◌}
use native.Mathlib.Omega.{arith}
use lib.ListN.{get_or, take, drop, length-drop}
use lib.Seq.{get_or-take, get_or-drop, length-take-le}
use Rattle.area.specs.declared.IndexRecord.{IndexRecord}
use Rattle.area.specs.Encoding.{none}
use Rattle.area.specs.Records.{record_of}
use Rattle.std.proofs.lemmas.List.{get_or_default}
use Rattle.area.proofs.index_records.IndexRecords.link.Goals as goal

pub returns : goal.returns
unfolding record_of
returns c =
    let row = c.row.result.now in
    let i = c.args.which in
    sym (get_or-drop 11 row i 0)
    ∙ sym (get_or-take 16 (drop 11 row) i 0 c.requires.1)
    ∙ get_or_default (take 16 (drop 11 row)) i 0 none (omega (arith, c.requires.1, c.row.ensures.length, length-drop 11 row, length-take-le 16 (drop 11 row) (omega (arith, length-drop 11 row, c.row.ensures.length))))
    ∙ ap (λ (r : IndexRecord). get_or r.links i none) c.row.ensures.record
