-- `running::Execution::promote` meets its contract: met, capped and spent leave the area, a place that is chosen is an active one, and no entry is
-- delivered. Assumes nothing.
use Rattle.std.proofs.Common.{refl, ap, sym, arith}
use Rattle.machine.specs.Steps.{promote_step}
use Rattle.promotion.specs.Outcomes.{choice_of}
use Rattle.reporting.specs.Code.{ending_in}
use Rattle.running.specs.Execution.{by_choice, execution}
use Rattle.running.specs.Code.{state_of, after_step}
use Rattle.running.proofs.Stepping.{none_wanted, chosen_place_lem, spent_step, spent_left, promoted_step}
use Rattle.running.proofs.Execution.promote.Goals as goal

pub refine-requires-clause-place_lt_held : goal.refine-requires-clause-place_lt_held
unfolding choice_of
refine-requires-clause-place_lt_held c =
    let a = c.args.self.now in
    let active = chosen_place_lem a.job a.cells a.store c.requires.0.area c.in-Place.place (sym c.in-Place.ensures) in
    (active.0, active.1, omega arith)

pub returns-in-Met-clause-is : goal.returns-in-Met-clause-is
unfolding choice_of by_choice after_step ending_in
returns-in-Met-clause-is c n =
    let a = c.args.self.now in
    ap (λ x. by_choice x (state_of a) a.used (λ p. execution a.bytes.now n (promote_step (state_of a) p) a.used)) (sym c.in-Met.ensures)

pub returns-in-Capped-clause-is : goal.returns-in-Capped-clause-is
unfolding choice_of by_choice after_step ending_in
returns-in-Capped-clause-is c n =
    let a = c.args.self.now in
    ap (λ x. by_choice x (state_of a) a.used (λ p. execution a.bytes.now n (promote_step (state_of a) p) a.used)) (sym c.in-Capped.ensures)

pub returns-in-Spent-clause-is : goal.returns-in-Spent-clause-is
unfolding choice_of after_step ending_in
returns-in-Spent-clause-is c n =
    let a = c.args.self.now in
    spent_step a.job a.cells a.store c.requires.0.area c.in-Place.place (sym c.in-Place.ensures) c.refine.new.job c.refine.new.cells c.in-Spent.ensures.is a.bytes.now n a.used

pub returns-in-Spent-clause-left : goal.returns-in-Spent-clause-left
unfolding choice_of
returns-in-Spent-clause-left c =
    let a = c.args.self.now in
    (spent_left a.job a.cells a.store c.requires.0.area c.in-Place.place (sym c.in-Place.ensures) c.refine.new.job c.refine.new.cells c.in-Spent.ensures.is, refl)

pub returns-in-Promoted-clause-is : goal.returns-in-Promoted-clause-is
unfolding choice_of after_step
returns-in-Promoted-clause-is c n =
    let a = c.args.self.now in
    promoted_step a.job a.cells a.store c.requires.0.area c.in-Place.place (sym c.in-Place.ensures) c.refine.new.job c.refine.new.cells c.in-Promoted.ensures.is a.bytes.now n a.used

pub returns-in-Promoted-clause-used : goal.returns-in-Promoted-clause-used
returns-in-Promoted-clause-used c =
    let a = c.args.self.now in
    rw (none_wanted a.job a.cells a.store c.requires.0.area c.requires.1) refl
