-- `grid::number_visited` meets its contract: its branches are the two directions of an axis. Assumes nothing.
use borrow.Author.Rules.{rules}
use native.Mathlib.Omega.{arith}
use mathlib.Core.Path.{sym}
use Rattle.grid.proofs.Turns.{turned_even, turned-odd}
use Rattle.grid.proofs.number_visited.Goals as goal

pub returns-then-rises : goal.returns-then-rises
returns-then-rises c = (sym (turned_even c.args.rank c.args.count c.args.q (search rules)), search rules)

pub returns-else-rises : goal.returns-else-rises
returns-else-rises c = (sym (turned-odd c.args.rank c.args.count c.args.q (omega arith)), omega arith)
