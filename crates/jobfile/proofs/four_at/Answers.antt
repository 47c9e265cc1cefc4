-- `jobfile::four_at` meets its contract: the bytes taken are the list's from there on. Assumes nothing.
use mathlib.Core.Path.{◌∙◌}
use Rattle.jobfile.proofs.Bytes.{four_taken}
use Rattle.jobfile.proofs.four_at.Goals as goal

pub returns : goal.returns
returns c = rw c.bytes_at.ensures at c.from_le_bytes.ensures ∙ four_taken c.args.bytes.now c.args.from
