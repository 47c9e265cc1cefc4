-- `figures::figures_difference_total` meets its contract: the held records are the first of all that the cells have room for.
-- Assumes nothing.
use borrow.Author.Rules.{sfits_of}
use Rattle.std.proofs.Common.{◌∙◌}
use Rattle.sums.proofs.Words.{back}
use Rattle.area.specs.Records.{held_in}
use Rattle.figures.proofs.figures_difference_total.Goals as goal

pub returns : goal.returns
unfolding held_in
returns c = back c.difference_total.result (sfits_of c.difference_total.type_inv) ∙ rw c.all-records.ensures at c.difference_total.ensures.is
