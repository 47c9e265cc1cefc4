-- `IndexRecords::lookup` meets its contract: the place that is found has the levels, and none before it. Assumes nothing.
use borrow.Author.Rules.{rules}
use borrow.Author.Tests.{tests}
use mathlib.Core.Path.{◌≡◌}
use mathlib.Core.Bool.{true, false}
use lib.ListN.{get_or}
use Rattle.std.proofs.lemmas.Iterator.{first_from_Range}
use Rattle.grid.specs.Coefficient.{same_levels}
use Rattle.area.specs.Records.{blank}
use Rattle.area.proofs.Lookups.{searched}
use Rattle.area.proofs.index_records.IndexRecords.lookup.Goals as goal

pub returns : goal.returns
returns c =
    let rs = c.args.self.now in
    let k = c.args.levels in
    searched rs k c.len.result c.len.ensures c.find.result
    (first_from_Range (record { start = 0; end = c.len.result }) _ _ c.find.result (λ p. same_levels (get_or rs p blank).levels k ≡ true) (λ p. same_levels (get_or rs p blank).levels k ≡ false) c.find.ensures.ran
    (λ x q k. search (rules, tests)) (λ x q k. search (rules, tests)))
