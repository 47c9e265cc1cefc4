-- `grid::capped_axes` meets its contract: with an excess of 12 every axis counts, else the axes at level 8.
-- Assumes nothing.
use Rattle.std.proofs.Common.{rules, arith, ◌≡◌, length, take, count_by, nat_le, sym, ◌∙◌}
use Rattle.grid.proofs.Ceilings.{capped_all, capped_count}
use Rattle.grid.proofs.capped_axes.Goals as goal

pub returns-then-excess_of-ge12 : goal.returns-then-excess_of-ge12
returns-then-excess_of-ge12 c =
    let eight : length c.args.levels ≡ 8 = search rules in
    (sym (capped_all c.args.levels eight c.requires.1 (omega (arith, c.excess_of.ensures)) c.args.axes c.requires.0), c.requires.0)

pub returns : goal.returns
returns c =
    let eight : length c.args.levels ≡ 8 = search rules in
    let counted : c.count.result ≡ count_by (λ l. nat_le 8 l) (take c.args.axes c.args.levels) = search rules in
    (counted ∙ capped_count c.args.levels eight c.requires.1 (omega (arith, c.excess_of.ensures)) c.args.axes c.requires.0, search rules)
