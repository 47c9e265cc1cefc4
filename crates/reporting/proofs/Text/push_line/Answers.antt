-- `reporting::Text::push_line` meets its contract: a word, a space, the digits and a line feed are one line. Assumes nothing.
use mathlib.Core.List.{append_assoc}
use Rattle.reporting.specs.Text.{line}
use Rattle.reporting.proofs.Text.push_line.Goals as goal

pub returns-clause-is : goal.returns-clause-is
unfolding line
returns-clause-is g c = rw (c.push-2.ensures, c.push_to.ensures.is, c.push.ensures, c.push_word.ensures) (simp append_assoc)
