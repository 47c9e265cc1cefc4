-- `jobfile::readings_form` meets its contract: the file ends within the readings, after them or with them. Assumes nothing.
use mathlib.Core.Path.{sym}
use native.Mathlib.Omega.{arith}
use Rattle.jobfile.specs.Form.{form_in}
use Rattle.jobfile.proofs.ReadingsForm.{readings_cut, readings_end, readings_more}
use Rattle.jobfile.proofs.readings_form.Goals as goal

pub returns-then-size-end : goal.returns-then-size-end
unfolding form_in
returns-then-size-end c = sym (readings_cut c.args.size c.args.total c.args.from (omega arith) c.if-size-end.true)

pub returns-then-end-size : goal.returns-then-end-size
unfolding form_in
returns-then-end-size c = sym (readings_more c.args.size c.args.total c.args.from (omega arith))

pub returns : goal.returns
unfolding form_in
returns c = sym (readings_end c.args.size c.args.total c.args.from (omega arith))
