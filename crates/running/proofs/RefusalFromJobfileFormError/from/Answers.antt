-- A fault of form as a refusal: the same number and byte. Assumes nothing.
use Rattle.std.proofs.Common.{ap, Err}
use Rattle.jobfile.specs.Form.{form_in}
use Rattle.running.proofs.RefusalFromJobfileFormError.from.Goals as goal

pub returns-in-Header : goal.returns-in-Header
unfolding form_in
returns-in-Header c = ap (λ e. form_in (Err e)) c.in-Header.is

pub returns-in-Entry : goal.returns-in-Entry
unfolding form_in
returns-in-Entry c = ap (λ e. form_in (Err e)) c.in-Entry.is

pub returns-in-Readings : goal.returns-in-Readings
unfolding form_in
returns-in-Readings c = ap (λ e. form_in (Err e)) c.in-Readings.is
