-- `running::run_file` meets its contract: a fault of form, start's cause and what the execution gives are what the file comes to. Assumes nothing.
use Rattle.std.proofs.Common.{◌≡◌, ap, sym, ◌∙◌, arith, rules}
use Rattle.std.proofs.lemmas.Result.{err_from_is_err_and}
use Rattle.machine.specs.Causes.{first_cause, start_causes}
use Rattle.calls.specs.Cause.{cause_of}
use Rattle.jobfile.specs.Form.{form_in}
use Rattle.jobfile.proofs.Facts.{form_facts}
use Rattle.running.specs.Execution.{own_lengths, start_byte, start_cause}
use Rattle.running.specs.Code.{number_of}
use Rattle.running.proofs.Whole.{broken_text, start_text}
use Rattle.running.proofs.run_file.Goals as goal

pub returns-in_err-parse : goal.returns-in_err-parse
returns-in_err-parse c =
    let p = err_from_is_err_and c.from_residual.result c.from_residual.ensures.1 in
    rw p.1 (sym (broken_text c.args.bytes.now _ (sym c.in_err-parse.ensures ∙ p.2)))

pub file_settings-settings-requires : goal.file_settings-settings-requires
unfolding form_in
file_settings-settings-requires c = let f = form_facts.formed_file c.args.bytes.now (sym c.in_ok-parse.ensures) in omega (arith, f.header_inside)

pub returns-in_err-map_err : goal.returns-in_err-map_err
unfolding form_in
returns-in_err-map_err c =
    let r = c.in_err-map_err.field-0.0 in
    let told : (number_of r.cause ≡ cause_of c.start_cause.result) × (r.byte ≡ start_byte (cause_of c.start_cause.result)) = search rules in
    let cause : cause_of c.start_cause.result ≡ start_cause c.args.bytes.now = c.start_cause.ensures ∙ ap (λ g. first_cause (start_causes own_lengths g)) c.file_settings-settings.ensures in
    let p = err_from_is_err_and c.from_residual-in_err-map_err.result c.from_residual-in_err-map_err.ensures.1 in
    rw (p.1, p.2) (start_text c.args.bytes.now (sym c.in_ok-parse.ensures) r (told.0 ∙ cause) (told.1 ∙ ap start_byte cause))

pub execute-requires : goal.execute-requires
unfolding form_in
execute-requires c =
    let none : cause_of c.start_cause.result ≡ 0 = search rules in
    let cause : cause_of c.start_cause.result ≡ start_cause c.args.bytes.now = c.start_cause.ensures ∙ ap (λ g. first_cause (start_causes own_lengths g)) c.file_settings-settings.ensures in
    (sym c.in_ok-parse.ensures, c.file_settings-settings.ensures, sym cause ∙ none)
