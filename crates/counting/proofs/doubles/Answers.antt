-- `counting::doubles` meets its contract: the recorded numbers are the area's, and the largest difference over the cells is that of the entries.
-- Assumes nothing.
use borrow.Author.Rules.{rules, sfits_of}
use mathlib.Core.Path.{ap, ◌∙◌}
use native.Mathlib.Omega.{arith}
use lib.IntN.{nat_abs}
use Rattle.sums.proofs.Words.{back, back_small}
use Rattle.doubles.specs.Double.{report_of}
use Rattle.area.specs.Encoding.{machine_of}
use Rattle.counting.specs.Doubles.{doubles_of}
use Rattle.counting.proofs.Cross.{summable}
use Rattle.counting.proofs.Reported.{largest_is, mean_small, pending_small}
use Rattle.counting.proofs.doubles.Goals as goal

pub largest_difference-largest-requires : goal.largest_difference-largest-requires
largest_difference-largest-requires c = rw c.all-records.ensures (summable c.args.job c.args.cells.now c.args.store.now c.requires).0

pub report_of-requires : goal.report_of-requires
report_of-requires c =
    let j = c.args.job in
    let mean = mean_small j c.args.cells.now c.args.store.now c.requires in
    let largest = c.largest_difference-largest in (
      omega (arith, ap nat_abs (back_small j.mean (omega (arith, mean))), mean),
      pending_small j c.args.cells.now c.args.store.now c.requires (search rules),
      omega (arith, ap nat_abs (back largest.result (sfits_of largest.type_inv)), largest.ensures.small),
    )

pub returns : goal.returns
unfolding doubles_of machine_of
returns c =
    let j = c.args.job in
    let mean = back_small j.mean (omega (arith, mean_small j c.args.cells.now c.args.store.now c.requires)) in
    let found = c.largest_difference-largest in
    let largest = back found.result (sfits_of found.type_inv) ∙ (rw c.all-records.ensures at found.ensures.is) ∙ largest_is j c.args.cells.now c.args.store.now c.requires in
    c.report_of.ensures ∙ (λ i. report_of (mean i) (c.requires.sound.numbers.pending i) (largest i))
