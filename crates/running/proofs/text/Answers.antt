-- `running::text` meets its contract: the buffer is never too short, and the text is at its front. Assumes nothing.
use Rattle.std.proofs.Common.{ap, arith}
use Rattle.running.specs.Code.{RunResult}
use Rattle.running.proofs.Facts.{execution-facts, never_short, text_left}
use Rattle.running.proofs.text.Goals as goal

pub shared_ref_as_front-result : goal.shared_ref_as_front-result
shared_ref_as_front-result c =
    let within = execution-facts.within c.args.bytes.now c.args.buffer.now c.in-Ok.count (ap (λ (x : RunResult). x.answer) c.in-Ok.ensures) in
    omega (arith, within)

pub unreachable-requires : goal.unreachable-requires
unreachable-requires c = never_short c.args.bytes.now c.args.buffer.now _ c.in-Err.field-0 (omega arith) c.in-Err.ensures

pub returns : goal.returns
returns c = text_left c.args.bytes.now c.args.buffer.now c.run.new.report c.in-Ok.count (omega arith) c.in-Ok.ensures
