-- `calls::choose` meets its contract: refused by its cause, or the choice in a valid area. Assumes nothing.
use mathlib.Core.Path.{refl, sym, ap, ◌∙◌}
use Rattle.area.specs.Encoding.{area_of, machine_of}
use Rattle.soundness.specs.Clauses.{is_sound}
use Rattle.machine.specs.Choose.{Choice}
use Rattle.calls.specs.Replies.{chosen, lengths_of}
use Rattle.calls.specs.Table.{answer}
use Rattle.calls.proofs.Rows.{choose_refuses, choose_accepts}
use Rattle.calls.proofs.Accepted.{choosable}
use Rattle.calls.proofs.Validity.{valid}
use Rattle.calls.proofs.Found.{handed_on, not_zero}
use Rattle.calls.proofs.choose.Goals as goal

pub returns-in_err-choose_cause : goal.returns-in_err-choose_cause
returns-in_err-choose_cause c =
    let a = area_of c.args.job c.args.cells.now c.args.store.now in
    let d = c.in_err-choose_cause.field-0.0 in
    rw (handed_on c.from_residual.result d c.from_residual.ensures) (choose_refuses a _ c.in_err-choose_cause.ensures (not_zero d))

pub choose-requires : goal.choose-requires
choose-requires c =
    let a = area_of c.args.job c.args.cells.now c.args.store.now in
    valid c.args.job c.args.cells.now c.args.store.now (choosable (lengths_of a) (is_sound a) (machine_of a).log (sym c.in_ok-choose_cause.ensures)).clear

pub returns : goal.returns
returns c =
    let a = area_of c.args.job c.args.cells.now c.args.store.now in
    ap (λ (o : Choice). answer (chosen o)) c.choose.ensures ∙ choose_accepts a 0 c.in_ok-choose_cause.ensures refl
