-- `figures::figures_search` meets its contract: the lookup as an answer and as a place are one. Assumes nothing.
use Rattle.std.proofs.Common.{◌≤◌, ◌*◌, ℕ, List, length, ap, ◌∙◌, arith}
use Rattle.std.specs.Prelude.{unwrap_or}
use Rattle.area.specs.Records.{held_in}
use Rattle.area.specs.Encoding.{none}
use Rattle.area.proofs.LookupPlaces.{place_found}
use Rattle.quadrature.proofs.Held.{held_length}
use Rattle.figures.proofs.figures_search.Goals as goal

few : (cells : List ℕ) (held : ℕ) → held * 27 ≤ length cells → held ≤ 512 → length (held_in cells held) ≤ 512
few cells held room h = omega (arith, held_length cells held room)

pub returns : goal.returns
unfolding none
returns c =
    let rs = held_in c.args.cells.now c.args.held in
    c.unwrap_or.ensures ∙ ap (λ o. unwrap_or o none) (rw c.first-records.ensures at c.lookup.ensures)
    ∙ place_found rs c.args.levels.now (omega (arith, few c.args.cells.now c.args.held c.requires.0 c.requires.1))
