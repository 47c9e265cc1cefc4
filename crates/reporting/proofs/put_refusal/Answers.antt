-- `reporting::put_refusal` meets its contract: its parts, one after the other. Assumes nothing.
use mathlib.Core.Path.{◌≡◌}
use Rattle.reporting.specs.Text.{refusal_text}
use Rattle.reporting.proofs.Texts.{refusal_parts}
use Rattle.reporting.proofs.put_refusal.Goals as goal

pub returns : goal.returns
returns c =
    let is : c.push.new.self ≡ refusal_text c.args.number c.args.byte =
    rw (c.push.ensures, c.push_number-2.ensures.is, c.push_word-2.ensures, c.push_number.ensures.is, c.from.ensures, c.push_word.ensures, c.new-text.ensures)
    (refusal_parts c.args.number c.args.byte) in
    record { bytes = rw (c.copy_to.ensures.bytes, is); count = rw (c.copy_to.ensures.count, is) }
