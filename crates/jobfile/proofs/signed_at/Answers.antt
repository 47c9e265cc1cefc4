-- `jobfile::signed_at` meets its contract: the four bytes are read as a signed number. Assumes nothing.
use mathlib.Core.Path.{ap, ◌∙◌}
use mir.Syntax.{w32}
use mir.Val.{to_z}
use Rattle.std.proofs.lemmas.Int.{to_z-of_z}
use Rattle.jobfile.specs.Bytes.{signed_four}
use Rattle.jobfile.proofs.signed_at.Goals as goal

pub returns : goal.returns
unfolding signed_four
returns c = to_z-of_z w32 c.cast_signed.result (record { sfits = c.cast_signed.type_inv }) ∙ c.cast_signed.ensures ∙ ap (to_z w32) c.four_at.ensures
