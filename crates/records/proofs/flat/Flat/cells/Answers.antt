-- `records::flat::Flat::cells` meets its contract: a multiple of 27 words holds records and nothing else. Assumes nothing.
use Rattle.records.proofs.Cuts.{cut_run}
use borrow.Author.Rules.{rules}
use mathlib.Core.Path.{◌≡◌}
use lib.ListN.{length}
use Rattle.records.proofs.flat.Flat.cells.Goals as goal

pub returns : goal.returns
returns c =
    let flat = c.args.self.now in
    let count : length flat.words ≡ 13824 = search rules in
    cut_run flat.count flat.words c.requires count
