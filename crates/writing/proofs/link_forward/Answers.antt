-- `writing::link_forward` meets its contract: one record read, one link changed, and stored. Assumes nothing.
use mathlib.Core.Path.{ap, ◌∙◌}
use native.Mathlib.Omega.{arith}
use lib.ListN.{length}
use Rattle.area.specs.declared.IndexRecord.{IndexRecord}
use Rattle.area.specs.Records.{run_of, stored}
use Rattle.area.proofs.Records.{length-records_of}
use Rattle.quadrature.specs.Readings.{record_at}
use Rattle.writing.specs.Changes.{with_forward_link}
use Rattle.writing.proofs.link_forward.Goals as goal

pub record-index-requires : goal.record-index-requires
record-index-requires c = omega (arith, c.requires.0, ap length c.all.ensures, length-records_of c.args.cells.now)

pub returns : goal.returns
unfolding with_forward_link
returns c =
    c.store.ensures
    ∙ ap (λ (r : IndexRecord). stored (run_of c.args.cells.now) c.args.place (with_forward_link r c.args.axis c.args.to))
    (c.record-index.ensures ∙ ap (λ rs. record_at rs c.args.place) c.all.ensures)
