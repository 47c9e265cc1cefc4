-- `counting::cross_total` meets its contract: the combination sum over the cells is that of the entries. Assumes nothing.
use borrow.Author.Rules.{sfits_of}
use mathlib.Core.Path.{◌∙◌}
use Rattle.sums.proofs.Words.{back}
use Rattle.counting.proofs.Cross.{summable, summed}
use Rattle.counting.proofs.cross_total.Goals as goal

pub combination_sum-requires : goal.combination_sum-requires
combination_sum-requires c = rw c.all-records.ensures (summable c.args.job c.args.cells.now c.args.store.now c.requires)

pub returns : goal.returns
returns c =
    back c.combination_sum.result (sfits_of c.combination_sum.type_inv)
    ∙ (rw c.all-records.ensures at c.combination_sum.ensures.is)
    ∙ summed c.args.job c.args.cells.now c.args.store.now c.requires
