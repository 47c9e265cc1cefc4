-- `reporting::Ending::word` meets its contract: case by case. Assumes nothing.
use Rattle.reporting.specs.Text.{ending_word}
use Rattle.reporting.specs.Code.{ending_in}
use Rattle.reporting.proofs.Ending.word.Goals as goal

pub returns-in-Met-clause-is : goal.returns-in-Met-clause-is
unfolding ending_in ending_word
returns-in-Met-clause-is c = rw c.in-Met.is

pub returns-in-Capped-clause-is : goal.returns-in-Capped-clause-is
unfolding ending_in ending_word
returns-in-Capped-clause-is c = rw c.in-Capped.is

pub returns-in-Spent-clause-is : goal.returns-in-Spent-clause-is
unfolding ending_in ending_word
returns-in-Spent-clause-is c = rw c.in-Spent.is

pub returns-in-Short-clause-is : goal.returns-in-Short-clause-is
unfolding ending_in ending_word
returns-in-Short-clause-is c = rw c.in-Short.is
