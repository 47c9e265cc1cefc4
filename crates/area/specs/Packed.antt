-- Eight levels as one 64-bit word, a byte for each, and the words of a run of records.
use Rattle.std.specs.Prelude.{◌≡◌, Bool, true, cond, ◌&&◌, List, [], ◌∷◌, ℕ, ◌+◌, ◌*◌, ◌^◌, ◌<◌, ◌≤◌, ltb, eqb, length, get_or, set, Option, Some, None, IfSome}
use Rattle.sums.specs.Sums.{nat_sum_to}
use Rattle.grid.specs.Index.{level}
use Rattle.area.specs.declared.IndexRecord.{IndexRecord}
use Rattle.area.specs.Records.{blank}

-- The *word* of a level list: the sum of the levels, each times 256 to the power (axis − 1). Axis 1, at place 0 of the list, is the
-- lowest byte.
unfoldable pub packed : List ℕ → ℕ
packed k = nat_sum_to (length k) (λ a. level k a * 256 ^ a)

-- Every level *fits a byte*: of one level list, and of the records of a run.
abbrev pub FitsByte : List ℕ → Type 0
FitsByte k = (a : ℕ) → a < length k → level k a < 256

abbrev pub AllFitByte : List IndexRecord → Type 0
AllFitByte rs = (p : ℕ) → p < length rs → FitsByte (get_or rs p blank).levels

-- Both as tests (`PackFacts.tested`, `all_tested`).
unfoldable pub fits_byte : List ℕ → Bool
fits_byte [] = true
fits_byte (l ∷ k) = ltb l 256 && fits_byte k

unfoldable pub all_fit_byte : List IndexRecord → Bool
all_fit_byte [] = true
all_fit_byte (r ∷ rs) = fits_byte r.levels && all_fit_byte rs

-- What packing answers: the word, or none where a level is larger than a byte.
unfoldable pub packing_of : List ℕ → Option ℕ
packing_of k = cond (fits_byte k) (Some (packed k)) None

-- The words with that of a level list at a place; as they were where a level is larger.
unfoldable pub words_with : List ℕ → ℕ → List ℕ → List ℕ
words_with ws p k = cond (fits_byte k) (set ws p (packed k)) ws

-- The words are those of a run of records: at every place the levels fit a byte, and the word there is theirs. There are at most 512
-- places, and 512 words.
pub record PackedRun (ws : List ℕ) (rs : List IndexRecord) : Type 0 where
  pub few : length rs ≤ 512
  pub room : length ws ≡ 512
  pub fit : AllFitByte rs
  pub word : (p : ℕ) → p < length rs → get_or ws p 0 ≡ packed (get_or rs p blank).levels

-- The same of the words that are held; where none are, it says nothing.
abbrev pub PackedWords : Option (List ℕ) → List IndexRecord → Type 0
PackedWords w rs = IfSome w (λ ws. PackedRun ws rs)

-- The first place with this word, places counted from p.
unfoldable pub word_from : ℕ → List ℕ → ℕ → Option ℕ
word_from p [] w = None
word_from p (v ∷ vs) w = cond (eqb v w) (Some p) (word_from (p + 1) vs w)
