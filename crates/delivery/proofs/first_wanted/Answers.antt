-- `delivery::first_wanted` meets its contract: the place that is found is wanted, and none before it. Assumes nothing.
use borrow.Author.Rules.{rules}
use borrow.Author.Tests.{tests}
use mathlib.Core.Path.{◌≡◌}
use mathlib.Core.Logic.{◌≢◌}
use Rattle.std.proofs.lemmas.Iterator.{first_from_Range}
use Rattle.quadrature.specs.Readings.{record_at}
use Rattle.delivery.proofs.Wanted.{found}
use Rattle.delivery.proofs.first_wanted.Goals as goal

pub returns : goal.returns
returns c =
    let rs = c.args.held.now in
    let f = found rs c.len.result c.len.ensures c.find.result
    (first_from_Range (record { start = 0; end = c.len.result }) _ _ c.find.result (λ p. (record_at rs p).state ≡ 0) (λ p. (record_at rs p).state ≢ 0) c.find.ensures.ran
    (λ x q k. search (rules, tests)) (λ x q k. search (rules, tests)))
    in
    record { place = f.0; within = f.1 }
