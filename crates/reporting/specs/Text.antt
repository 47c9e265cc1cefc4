-- The text of a report: a word, a space, what it says and a line feed, line after line; of a refusal `refused N at B`. As bytes.
use Rattle.std.specs.Prelude.{List, [], ◌∷◌, ◌++◌, ℕ, ℤ}
use Rattle.reporting.specs.Decimal.{decimal, signed_decimal}

abbrev pub space : ℕ
space = 32

abbrev pub feed : ℕ
feed = 10

-- One line.
unfoldable pub line : (word said : List ℕ) → List ℕ
line word said = word ++ space ∷ said ++ feed ∷ []

-- The words, letter by letter.
abbrev pub axes_word : List ℕ
axes_word = 97 ∷ 120 ∷ 101 ∷ 115 ∷ []

abbrev pub old_word : List ℕ
old_word = 111 ∷ 108 ∷ 100 ∷ []

abbrev pub active_word : List ℕ
active_word = 97 ∷ 99 ∷ 116 ∷ 105 ∷ 118 ∷ 101 ∷ []

abbrev pub wanted_word : List ℕ
wanted_word = 119 ∷ 97 ∷ 110 ∷ 116 ∷ 101 ∷ 100 ∷ []

abbrev pub reserved_word : List ℕ
reserved_word = 114 ∷ 101 ∷ 115 ∷ 101 ∷ 114 ∷ 118 ∷ 101 ∷ 100 ∷ []

abbrev pub pending_word : List ℕ
pending_word = 112 ∷ 101 ∷ 110 ∷ 100 ∷ 105 ∷ 110 ∷ 103 ∷ []

abbrev pub carried_word : List ℕ
carried_word = 99 ∷ 97 ∷ 114 ∷ 114 ∷ 105 ∷ 101 ∷ 100 ∷ []

abbrev pub ceiling_word : List ℕ
ceiling_word = 99 ∷ 101 ∷ 105 ∷ 108 ∷ 105 ∷ 110 ∷ 103 ∷ []

abbrev pub scaled_word : List ℕ
scaled_word = 115 ∷ 99 ∷ 97 ∷ 108 ∷ 101 ∷ 100 ∷ []

abbrev pub unused_word : List ℕ
unused_word = 117 ∷ 110 ∷ 117 ∷ 115 ∷ 101 ∷ 100 ∷ []

abbrev pub end_word : List ℕ
end_word = 101 ∷ 110 ∷ 100 ∷ []

abbrev pub refused_word : List ℕ
refused_word = 114 ∷ 101 ∷ 102 ∷ 117 ∷ 115 ∷ 101 ∷ 100 ∷ []

abbrev pub at_word : List ℕ
at_word = 97 ∷ 116 ∷ []

-- How a run ends.
pub data Ending : Type 0 where
  met : Ending
  capped : Ending
  spent : Ending
  short : Ending

unfoldable pub ending_word : Ending → List ℕ
ending_word met = 109 ∷ 101 ∷ 116 ∷ []
ending_word capped = 99 ∷ 97 ∷ 112 ∷ 112 ∷ 101 ∷ 100 ∷ []
ending_word spent = 115 ∷ 112 ∷ 101 ∷ 110 ∷ 116 ∷ []
ending_word short = 115 ∷ 104 ∷ 111 ∷ 114 ∷ 116 ∷ []

-- A report's figures, in its order.
pub record ReportValues : Type 0 where
  pub axes : ℕ
  pub old : ℕ
  pub active : ℕ
  pub wanted : ℕ
  pub reserved : ℕ
  pub pending : ℕ
  pub carried : ℕ
  pub ceiling : ℕ
  pub scaled : ℤ
  pub unused : ℕ
  pub ending : Ending

unfoldable pub report_text : ReportValues → List ℕ
report_text f =
    line axes_word (decimal f.axes)
    ++ line old_word (decimal f.old)
    ++ line active_word (decimal f.active)
    ++ line wanted_word (decimal f.wanted)
    ++ line reserved_word (decimal f.reserved)
    ++ line pending_word (decimal f.pending)
    ++ line carried_word (decimal f.carried)
    ++ line ceiling_word (decimal f.ceiling)
    ++ line scaled_word (signed_decimal f.scaled)
    ++ line unused_word (decimal f.unused)
    ++ line end_word (ending_word f.ending)

-- `refused N at B`.
unfoldable pub refusal_text : (number byte : ℕ) → List ℕ
refusal_text n b = refused_word ++ space ∷ decimal n ++ space ∷ at_word ++ space ∷ decimal b ++ feed ∷ []
