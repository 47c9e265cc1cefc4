-- `jobfile::header_form` meets its contract: the tests in byte order. Assumes nothing.
use mathlib.Core.Path.{sym, ◌∙◌}
use native.Mathlib.Omega.{arith}
use Rattle.jobfile.specs.Form.{formed, form_in}
use Rattle.jobfile.proofs.HeaderForm.{header_cut, header_many, header-short, header_offset, header_kept}
use Rattle.jobfile.proofs.header_form.Goals as goal

pub returns-then-size-lt20 : goal.returns-then-size-lt20
unfolding form_in
returns-then-size-lt20 c = sym (header_cut c.args.bytes.now formed c.if-size-lt20.true)

pub returns-then-four_at-gt512 : goal.returns-then-four_at-gt512
unfolding form_in
returns-then-four_at-gt512 c = sym (header_many c.args.bytes.now formed (omega arith) (omega arith))

pub returns-then-size-lt24 : goal.returns-then-size-lt24
unfolding form_in
returns-then-size-lt24 c = sym (header-short c.args.bytes.now formed (omega arith) (omega arith) c.if-size-lt24.true)

pub returns-then-four_at-ne24 : goal.returns-then-four_at-ne24
unfolding form_in
returns-then-four_at-ne24 c =
    sym (header_offset c.args.bytes.now formed (omega arith) (omega arith) (omega arith) (λ e. c.if-four_at-ne24.true (c.four_at-2.ensures ∙ e)))

pub returns : goal.returns
unfolding form_in
returns c =
    sym (header_kept c.args.bytes.now formed (omega arith) (omega arith) (omega arith) (sym c.four_at-2.ensures ∙ c.if-four_at-ne24.false))
