-- `wihupya::wihupya_doubles` meets its contract: the call on the words' job record; the report is written, a refusal is not. Assumes nothing.
use mathlib.Core.Path.{◌≡◌, sym, ap, refl}
use Rattle.std.specs.Prelude.{Result, Ok, Err, IfOk}
use Rattle.area.specs.Encoding.{Area, area_of}
use Rattle.doubles.specs.declared.Report.{Report}
use Rattle.doubles.specs.Exact.{NoneNan}
use Rattle.calls.specs.declared.cause.Cause.{Cause}
use Rattle.calls.specs.Replies.{doubled, reply_of_doubles}
use Rattle.calls.specs.Table as table
use Rattle.calls.specs.Calls.{call_on}
use Rattle.calls.proofs.ReportTold.{report-facts}
use Rattle.wihupya.specs.Exports.{number_of, answer_words}
use Rattle.wihupya.proofs.Refusals.{answer_left}
use Rattle.wihupya.proofs.wihupya_doubles.Goals as goal

-- a report that was answered has no NaN
none_nan : (a : Area) (r : Result Report Cause) → table.answer (reply_of_doubles r) ≡ (call_on a table.doubles).answer → IfOk r NoneNan
none_nan a (Ok x) is = report-facts.none_nan a x (sym (ap (λ (y : table.Answer). y.reply) is))
none_nan a (Err d) is = tt

pub put_answer-requires : goal.put_answer-requires
put_answer-requires c = none_nan (area_of c.into.result c.args.cells.now c.args.store.now) c.doubles.result c.doubles.ensures

pub returns : goal.returns
unfolding number_of answer_words
returns c =
    let is = ap (λ (x : table.Answer). x.reply) (rw c.into.ensures.0 at c.doubles.ensures) in
    answer_left doubled c.doubles.result _ c.put_answer.result c.args.report.now c.put_answer.new.lent (λ x. refl) is c.put_answer.ensures.number c.put_answer.ensures.words
