-- What an exported call leaves: a number, 0 if it was not refused and else the number of the cause; the job record's words, the cells'
-- records and rest, and the store. Points, choose, promote, result and cross total write their answer into words of their own, doubles into
-- three doubles of its own (`answer_words`), which a refusal leaves.
use Rattle.std.specs.Prelude.{List, [], ◌∷◌, ℕ, ℤ, Float}
use Rattle.std.specs.Float.{binary64}
use Rattle.std.specs.Float.Ieee.{to_bits}
use Rattle.std.specs.Int.{w64}
use Rattle.std.proofs.Common.{of_z}
use Rattle.doubles.specs.declared.Report.{Report}
use Rattle.area.specs.Records.{Run}
use Rattle.machine.specs.Choose.{Choice, met, capped, place}
use Rattle.machine.specs.Promote.{Outcome, spent, promoted}
use Rattle.machine.specs.Counts.{Counts}
use Rattle.calls.specs.Replies.{Reply, refused, accepted, wrote, chosen, promotion, counts, doubled, total, verdict}
use Rattle.calls.specs.Calls.{CallResult}
use Rattle.wihupya.specs.Words.{low_word, high_word, words_of}

-- The bits of a double: sign, exponent, fraction.
abbrev pub bits : Float → ℕ
bits x = to_bits binary64 x

unfoldable pub number_of : Reply → ℕ
number_of (refused n) = n
number_of accepted = 0
number_of (wrote written size) = 0
number_of (chosen c) = 0
number_of (promotion o) = 0
number_of (counts c) = 0
number_of (doubled r) = 0
number_of (total x) = 0
number_of (verdict b) = 0

pub record Exported : Type 0 where
  pub number : ℕ
  pub job : List ℕ
  pub run : Run
  pub store : List ℤ

unfoldable pub exported : CallResult → Exported
exported x = record { number = number_of x.answer.reply; job = words_of x.area.job; run = x.area.run; store = x.area.store }

-- ---- the words of an answer

-- Choose: 0 met, 3 capped, 4 chosen; and then the place that the rule selects, else 0.
unfoldable pub choice_words : Choice → List ℕ
choice_words met = 0 ∷ 0 ∷ []
choice_words capped = 3 ∷ 0 ∷ []
choice_words (place p) = 4 ∷ p ∷ []

-- Promote: 1 spent, 2 promoted.
unfoldable pub outcome_word : Outcome → ℕ
outcome_word spent = 1
outcome_word promoted = 2

-- Result: pending error and scaled mean with their low word first, then old, active, wanted, reserved and the ceiling count, then the carried
-- error with its low word first.
unfoldable pub count_words : Counts → List ℕ
count_words c =
    low_word c.pending
    ∷ high_word c.pending
    ∷ low_word (of_z w64 c.mean)
    ∷ high_word (of_z w64 c.mean)
    ∷ c.old
    ∷ c.active
    ∷ c.wanted
    ∷ c.reserved
    ∷ c.ceiling
    ∷ low_word c.carried
    ∷ high_word c.carried
    ∷ []

-- Doubles: mean, pending error and largest delivered difference, each by its 64 bits. A NaN that was lent has bits of its own, so that a
-- refusal leaves it as it was.
unfoldable pub report_bits : Report → List ℕ
report_bits r = bits r.mean ∷ bits r.pending ∷ bits r.largest ∷ []

-- Cross total: the low word first.
unfoldable pub total_words : ℤ → List ℕ
total_words x = low_word (of_z w64 x) ∷ high_word (of_z w64 x) ∷ []

-- What a call leaves in the words w that are lent for its answer: those of the answer. A refusal leaves them, and so does an answer that has no
-- words. Points has two: how many were written, and how many the block has.
unfoldable pub answer_words : Reply → (w : List ℕ) → List ℕ
answer_words (refused n) w = w
answer_words accepted w = w
answer_words (wrote written size) w = written ∷ size ∷ []
answer_words (chosen c) w = choice_words c
answer_words (promotion o) w = outcome_word o ∷ []
answer_words (counts c) w = count_words c
answer_words (doubled r) w = report_bits r
answer_words (total x) w = total_words x
answer_words (verdict b) w = w
