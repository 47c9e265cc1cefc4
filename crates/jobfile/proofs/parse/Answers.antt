-- `jobfile::parse` meets its contract: the header's answer, then the table's, then the readings'. Assumes nothing.
use mathlib.Core.Path.{◌≡◌, sym, ap, ◌∙◌}
use mathlib.Core.List.{List}
use Prim.Native.Nat.{ℕ, ◌+◌, ◌*◌}
use native.Mathlib.Omega.{arith}
use lib.ListN.{length}
use Rattle.std.specs.Prelude.{Ok}
use Rattle.std.proofs.lemmas.Result.{err_from_is_err_and}
use Rattle.jobfile.specs.Form.{Form, formed, header_form, table_form, readings_form, form_in, table_in}
use Rattle.jobfile.proofs.HeaderForm.{HeaderKept, has_header}
use Rattle.jobfile.proofs.TableForm.{Answered, nothing_before, answered, table_inside}
use Rattle.jobfile.proofs.Answers.{then_readings, after_header, at_header}
use Rattle.jobfile.proofs.parse.Goals as goal

pub returns-in_err-header_form : goal.returns-in_err-header_form
returns-in_err-header_form c =
    let p = err_from_is_err_and c.from_residual.result c.from_residual.ensures.1 in
    rw (p.1, p.2) (at_header c.args.bytes.now c.in_err-header_form.field-0.0 c.in_err-header_form.ensures)

-- the header is formed
header_of : (bytes : List ℕ) → form_in (Ok tt) ≡ header_form bytes formed → HeaderKept bytes formed
unfolding form_in
header_of bytes ensures = has_header bytes formed (sym ensures)

pub four_at-entries-requires : goal.four_at-entries-requires
four_at-entries-requires c = omega (arith, (header_of c.args.bytes.now c.in_ok-header_form.ensures).inside)

pub table_form-requires : goal.table_form-requires
table_form-requires c = (c.four_at-entries.ensures, omega (arith, c.four_at-entries.ensures, (header_of c.args.bytes.now c.in_ok-header_form.ensures).few))

-- the total of a table that is formed
total_of : (bytes : List ℕ) (n t : ℕ) → ((next : ℕ → Form) → table_in (Ok t) next ≡ table_form bytes n 0 0 next) → Answered bytes n 0 t
unfolding table_in
total_of bytes n t answers = answered bytes n 0 n 0 t (omega arith) (nothing_before bytes) (omega arith) answers

pub returns-in_err-total : goal.returns-in_err-total
unfolding form_in table_in
returns-in_err-total c =
    let n = c.four_at-entries in
    let bytes = c.args.bytes.now in
    let p = err_from_is_err_and c.from_residual-in_err-total.result c.from_residual-in_err-total.ensures.1 in
    rw (p.1, p.2)
    (c.in_err-total.ensures (then_readings bytes)
    ∙ ap (λ k. table_form bytes k 0 0 (then_readings bytes)) n.ensures
    ∙ sym (after_header bytes (sym c.in_ok-header_form.ensures)))

pub readings_form-requires : goal.readings_form-requires
readings_form-requires c =
    let n = c.four_at-entries in
    let h = header_of c.args.bytes.now c.in_ok-header_form.ensures in
    let a = total_of c.args.bytes.now n.result c.in_ok-total.total c.in_ok-total.ensures in
    (a.small, omega (arith, n.ensures, h.few), table_inside c.args.bytes.now n.result h.inside a.each)

pub returns : goal.returns
unfolding form_in table_in
returns c =
    let n = c.four_at-entries in
    let bytes = c.args.bytes.now in
    let t = c.in_ok-total.total in
    c.readings_form.ensures
    ∙ ap (λ k. readings_form (length bytes) t (24 + 12 * k)) n.ensures
    ∙ c.in_ok-total.ensures (then_readings bytes)
    ∙ ap (λ k. table_form bytes k 0 0 (then_readings bytes)) n.ensures
    ∙ sym (after_header bytes (sym c.in_ok-header_form.ensures))
