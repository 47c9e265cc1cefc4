-- `promotion::Scan::is_old` meets its contract: the only place that holds the index decides. Assumes nothing.
use mathlib.Core.Path.{sym, ap, ◌∙◌}
use mathlib.Core.List.{List}
use borrow.Author.Tests.{eq-eqb}
use lib.Dec.{eqb}
use Rattle.area.specs.Entry.{Entry}
use Rattle.machine.specs.Promote.{is_old}
use Rattle.quadrature.proofs.Raised.{found_at}
use Rattle.promotion.proofs.Olds.{refined_old, other_old, not_old}
use Rattle.promotion.proofs.Scan.is_old.Goals as goal

pub state-requires : goal.state-requires
state-requires c =
    (found_at c.self.inside.held.now c.args.levels c.self.invariant.searchable.few c.in-Some.place (sym c.in-Some.ensures)).1

pub returns-then-place-self : goal.returns-then-place-self
returns-then-place-self c =
    let s = c.self.inside in
    let i = c.self.invariant in
    let q = c.in-Some.place in
    eq-eqb q s.refined c.if-place-self.true ∙ refined_old s.held.now s.refined c.args.levels i.inside i.searchable q (sym c.in-Some.ensures) c.if-place-self.true
    ∙ ap (λ (es : List Entry). is_old es c.args.levels) c.self.view_is

pub returns-else-place-self : goal.returns-else-place-self
returns-else-place-self c =
    let s = c.self.inside in
    let i = c.self.invariant in
    ap (λ x. eqb x 2) c.state.ensures ∙ other_old s.held.now s.refined c.args.levels i.inside i.searchable c.in-Some.place (sym c.in-Some.ensures) c.if-place-self.false
    ∙ ap (λ (es : List Entry). is_old es c.args.levels) c.self.view_is

pub returns-in-None : goal.returns-in-None
returns-in-None c =
    let s = c.self.inside in
    let i = c.self.invariant in
    not_old s.held.now s.refined c.args.levels i.inside i.searchable (sym c.in-None.ensures)
    ∙ ap (λ (es : List Entry). is_old es c.args.levels) c.self.view_is
