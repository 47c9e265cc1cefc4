-- `running::Execution::step` meets its contract: a block is wanted or not, and an entry is left or not. Assumes nothing.
use Rattle.std.proofs.Common.{◌∙◌, arith}
use Rattle.std.proofs.lemmas.Result.{err_from_is_err_and}
use Rattle.reporting.specs.Code.{ending_in}
use Rattle.running.specs.Code.{state_of, after_delivery, after_step}
use Rattle.running.proofs.Stepping.{way_short, way_deliver, way_choose, place_is, wanted_there, none_there, wanted-none}
use Rattle.running.proofs.Execution.step.Goals as goal

pub returns-then-self-clause-is : goal.returns-then-self-clause-is
unfolding after_step ending_in
returns-then-self-clause-is c n =
    let a = c.args.self.now in
    let p = c.in-Some in
    way_short a.bytes.now n (state_of a) a.used (wanted_there a.job a.cells a.store c.requires.area c.first-held.result c.first-held.ensures p.place p.ensures.place p.ensures.within) (omega (arith, c.requires.entries, c.if-self.true))

pub deliver_entry-requires : goal.deliver_entry-requires
deliver_entry-requires c =
    let a = c.args.self.now in
    let p = c.in-Some in
    let is = place_is a.job a.cells a.store c.requires.area c.first-held.result c.first-held.ensures p.place p.ensures.place p.ensures.within in
    (c.requires, is.0, is.1, c.if-self.false)

pub returns-in_err-deliver_entry-clause-is : goal.returns-in_err-deliver_entry-clause-is
unfolding after_delivery after_step
returns-in_err-deliver_entry-clause-is c n =
    let a = c.args.self.now in
    let p = c.in-Some in
    let e = err_from_is_err_and c.from_residual.result c.from_residual.ensures.1 in
    rw (e.1, e.2)
    (way_deliver a.bytes.now n (state_of a) a.used (wanted_there a.job a.cells a.store c.requires.area c.first-held.result c.first-held.ensures p.place p.ensures.place p.ensures.within) (omega (arith, c.requires.entries, c.if-self.false))
    ∙ c.in_err-deliver_entry.ensures.is n)

pub returns-in-Some-clause-is : goal.returns-in-Some-clause-is
unfolding after_delivery after_step
returns-in-Some-clause-is c n =
    let a = c.args.self.now in
    let p = c.in-Some in
    way_deliver a.bytes.now n (state_of a) a.used (wanted_there a.job a.cells a.store c.requires.area c.first-held.result c.first-held.ensures p.place p.ensures.place p.ensures.within) (omega (arith, c.requires.entries, c.if-self.false))
    ∙ c.in_ok-deliver_entry.ensures.is n

pub returns-in-Some-clause-used : goal.returns-in-Some-clause-used
returns-in-Some-clause-used c =
    let a = c.args.self.now in
    let p = c.in-Some in
    rw (wanted_there a.job a.cells a.store c.requires.area c.first-held.result c.first-held.ensures p.place p.ensures.place p.ensures.within)
    c.in_ok-deliver_entry.ensures.used

pub promote-requires : goal.promote-requires
promote-requires c =
    let a = c.args.self.now in
    (c.requires, none_there a.job a.cells a.store c.requires.area c.first-held.result c.first-held.ensures c.in_default.ensures.place)

pub returns-clause-is : goal.returns-clause-is
returns-clause-is c n =
    let a = c.args.self.now in
    way_choose a.bytes.now n (state_of a) a.used (wanted-none a.job a.cells a.store c.requires.area c.first-held.result c.first-held.ensures c.in_default.ensures.place) ∙ c.promote.ensures.is n
