-- `counting::state_count` meets its contract: the places with the state are kept and counted. Assumes nothing.
use borrow.Author.Rules.{rules}
use borrow.Author.Tests.{tests}
use mathlib.Core.Path.{◌∙◌}
use native.Mathlib.Omega.{arith}
use Rattle.std.proofs.lemmas.Iterator.{YieldsList-from_range}
use Rattle.std.proofs.lemmas.Iterator.Consumers.{YieldsList-from_filter, count_from_yields_List}
use Rattle.counting.proofs.Tallies.{has_state, counted_all}
use Rattle.counting.proofs.state_count.Goals as goal

pub returns : goal.returns
returns c =
    count_from_yields_List c.filter.result c.count.result c.count.ensures.ran
    (YieldsList-from_filter _ (has_state c.args.held.now c.args.state) (YieldsList-from_range 0 c.len.result c.len.result c.filter.ensures.source (omega arith)) c.filter.ensures.closure (λ x b q k. search (rules, tests)))
    ∙ counted_all c.args.held.now c.args.state c.len.result c.len.ensures
