-- `records::promote` meets its contract: the call on the first records, with what it changed stored back, is the call on all. Assumes nothing.
use borrow.Author.Rules.{rules}
use mathlib.Core.Path.{◌≡◌}
use lib.ListN.{length}
use Rattle.calls.specs.Cause.{number_of_cause}
use Rattle.calls.specs.Replies.{promotion}
use Rattle.calls.specs.Table as table
use Rattle.calls.proofs.Found.{handed_on}
use denote.Enum.Bare.{sameb}
use mathlib.Core.Bool.{Bool, false}
use Rattle.machine.specs.Promote.{promoted}
use Rattle.promotion.specs.contracts.Outcome.{the_type}
use Rattle.promotion.specs.declared.Outcome as code
use Rattle.promotion.specs.declared.Outcome.TheVariants.{Spent, Promoted}
use Rattle.promotion.specs.Outcomes.{outcome_of}
use Rattle.records.proofs.Stored.{stored_held, spent_none, refused_none}
use Rattle.records.proofs.promote.Goals as goal

pub returns-in_err-outcome : goal.returns-in_err-outcome
returns-in_err-outcome c =
    let d = c.in_err-outcome.field-0.0 in
    let flat = c.of-count.result in
    let words : length c.of-count.result.words ≡ 13824 = search rules in
    rw (handed_on c.from_residual.result d c.from_residual.ensures)
    (refused_none c.args.job.now c.args.records.now c.args.store.now flat.count flat.words c.promote.new.cells c.promote.new.job c.args.store.now c.of-count.ensures.count words c.of-count.ensures.front c.promote.auto.cells
    (table.promote c.args.place) (number_of_cause d) c.in_err-outcome.ensures)

pub returns-then-eq : goal.returns-then-eq
returns-then-eq c =
    let flat = c.of-count.result in
    let words : length c.of-count.result.words ≡ 13824 = search rules in
    stored_held c.args.job.now c.args.records.now c.args.store.now flat.count flat.words c.promote.new.cells (table.promote c.args.place) (promotion (outcome_of c.in_ok-outcome.outcome)) c.promote.new.job c.args.store.now c.of-count.ensures.count words
    c.of-count.ensures.front c.promote.auto.cells c.in_ok-outcome.ensures c.store_back.new.records c.store_back.ensures

-- an outcome that is not `Promoted`
spent : (o : code.Outcome) → ◌≡◌ {A = Bool} false (sameb the_type o Promoted) → outcome_of o ≡ promoted → ⊥
unfolding outcome_of
spent Spent e f = cc
spent Promoted e f = cc

pub returns-else-eq : goal.returns-else-eq
returns-else-eq c =
    let flat = c.of-count.result in
    let words : length c.of-count.result.words ≡ 13824 = search rules in
    spent_none c.args.job.now c.args.records.now c.args.store.now flat.count flat.words c.promote.new.cells c.promote.new.job c.args.store.now c.of-count.ensures.count words c.of-count.ensures.front c.promote.auto.cells
    c.args.place (outcome_of c.in_ok-outcome.outcome) (spent c.in_ok-outcome.outcome c.if-eq.ensures) c.in_ok-outcome.ensures
