-- `reporting::Text::push_ending` meets its contract: a word, a space, another and a line feed are one line. Assumes nothing.
use mathlib.Core.List.{append_assoc}
use Rattle.reporting.specs.Text.{line}
use Rattle.reporting.proofs.Text.push_ending.Goals as goal

pub returns : goal.returns
unfolding line
returns c = rw (c.push.ensures, c.push_word-2.ensures, c.push_word.ensures, c.word.ensures.is) (simp append_assoc)
