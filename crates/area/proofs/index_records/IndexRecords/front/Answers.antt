-- `IndexRecords::front` meets its contract: fewer of the same cells. Assumes nothing.
use mathlib.Core.Path.{sym, ap, ◌∙◌}
use native.Mathlib.Omega.{arith}
use lib.ListN.{take}
use lib.Seq.{take-take}
use Rattle.area.specs.Records.{records_of, held_in}
use Rattle.area.proofs.Views.{count_is}
use Rattle.area.proofs.index_records.IndexRecords.front.Goals as goal

pub invariant_of-result : goal.invariant_of-result
invariant_of-result c = omega (arith, c.requires, c.self.invariant, count_is c.self.inside.cells.now c.self.inside.count c.args.self.now c.self.invariant c.self.view_is)

pub returns : goal.returns
unfolding held_in
returns c =
    sym (take-take c.args.count c.self.inside.count (records_of c.self.inside.cells.now) (omega (arith, c.requires, count_is c.self.inside.cells.now c.self.inside.count c.args.self.now c.self.invariant c.self.view_is)))
    ∙ ap (take c.args.count) c.self.view_is
