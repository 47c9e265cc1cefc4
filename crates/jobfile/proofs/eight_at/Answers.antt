-- `jobfile::eight_at` meets its contract: the bytes taken are the list's from there on. Assumes nothing.
use mathlib.Core.Path.{◌∙◌}
use Rattle.jobfile.proofs.Bytes.{eight_taken}
use Rattle.jobfile.proofs.eight_at.Goals as goal

pub returns : goal.returns
returns c = rw c.bytes_at.ensures at c.from_le_bytes.ensures ∙ eight_taken c.args.bytes.now c.args.from
