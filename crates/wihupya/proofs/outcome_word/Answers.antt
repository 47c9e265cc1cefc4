-- `wihupya::outcome_word` meets its contract: case by case. Assumes nothing.
use mathlib.Core.Path.{sym, ap}
use Rattle.promotion.specs.Outcomes.{outcome_of}
use Rattle.wihupya.specs.Exports.{outcome_word}
use Rattle.wihupya.proofs.outcome_word.Goals as goal

pub returns-in-Spent : goal.returns-in-Spent
unfolding outcome_of outcome_word
returns-in-Spent c = ap (λ x. outcome_word (outcome_of x)) (sym c.in-Spent.is)

pub returns-in-Promoted : goal.returns-in-Promoted
unfolding outcome_of outcome_word
returns-in-Promoted c = ap (λ x. outcome_word (outcome_of x)) (sym c.in-Promoted.is)
