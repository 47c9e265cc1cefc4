-- `area::lookup_word` meets its contract: the words left to search answer as all of them did. Assumes nothing.
use Rattle.std.proofs.Common.{◌≡◌, ℕ, ◌*◌, List, drop}
use Rattle.std.specs.Prelude.{Option}
use Rattle.area.specs.Packed.{word_from}
use Rattle.area.proofs.lookup_word.Given as goal

-- what is left to search from a place on
abbrev pub from : List ℕ → ℕ → ℕ → Option ℕ
from words word place = word_from place (drop place words) word

abbrev pub invariant-loop-pair : goal.invariant-loop-pair
invariant-loop-pair l = word_from 0 l.words l.word ≡ from l.words l.word (2 * l.pair)
