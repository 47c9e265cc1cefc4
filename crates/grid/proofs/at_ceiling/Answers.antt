-- `grid::at_ceiling` meets its contract: with an excess of 12 it is, else it is so where some level is 8. Assumes nothing.
use Rattle.std.proofs.Common.{rules, tests, arith, ◌≡◌, length, nat_le, sym, ◌∙◌, le-leb}
use Rattle.std.specs.List.{list_any}
use Rattle.std.proofs.lemmas.Iterator.{YieldsList-from_slice}
use Rattle.std.proofs.lemmas.Iterator.Search.{any_from_yields_List}
use Rattle.grid.proofs.Ceilings.{full_excess, ceiling_any, ceiling_back}
use Rattle.grid.proofs.at_ceiling.Goals as goal

pub returns-then-excess_of-ge12 : goal.returns-then-excess_of-ge12
returns-then-excess_of-ge12 c =
    let k = c.args.levels in
    let eight : length k ≡ 8 = search rules in
    le-leb 12 c.excess_of.result c.if-excess_of-ge12.true
    ∙ sym (ceiling_back 8 k 0 (omega arith) (full_excess k eight c.requires 0 (omega arith) (omega (arith, c.excess_of.ensures))))

pub returns-else-excess_of-ge12 : goal.returns-else-excess_of-ge12
returns-else-excess_of-ge12 c =
    let eight : length c.args.levels ≡ 8 = search rules in
    let any : c.any.result ≡ list_any (λ l. nat_le 8 l) c.args.levels = any_from_yields_List (λ l. nat_le 8 l) _ _ c.any.result c.any.ensures.ran (YieldsList-from_slice c.args.levels cc) (λ x b q k. search (rules, tests)) in
    any ∙ ceiling_any c.args.levels eight c.requires (omega (arith, c.excess_of.ensures))
