-- `wihupya::choice_words` meets its contract: case by case. Assumes nothing.
use mathlib.Core.Path.{sym, ap}
use native.Mathlib.Omega.{arith}
use Rattle.promotion.specs.Outcomes.{choice_of}
use Rattle.wihupya.specs.Exports.{choice_words}
use Rattle.wihupya.proofs.choice_words.Goals as goal

pub overflow_cast-result : goal.overflow_cast-result
unfolding choice_of
overflow_cast-result c = record { fits = omega (arith, c.requires c.in-Place.place (ap choice_of c.in-Place.is)) }

pub returns-in-Met : goal.returns-in-Met
unfolding choice_of choice_words
returns-in-Met c = ap (λ x. choice_words (choice_of x)) (sym c.in-Met.is)

pub returns-in-Capped : goal.returns-in-Capped
unfolding choice_of choice_words
returns-in-Capped c = ap (λ x. choice_words (choice_of x)) (sym c.in-Capped.is)

pub returns-in-Place : goal.returns-in-Place
unfolding choice_of choice_words
returns-in-Place c = ap (λ x. choice_words (choice_of x)) (sym c.in-Place.is)
