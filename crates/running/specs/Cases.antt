-- What given files print ("Job file and report", "Boundary cases"), byte for byte. The texts are those of the program that was written from the
-- scope document and the requests alone (tests/reference), so that a definition changed together with the code would show here.
use Rattle.std.specs.Prelude.{◌≡◌, List, [], ◌∷◌, ◌++◌, map, ℕ, ◌*◌, ℤ, pos, negsuc, length, set, take, replicate}
use Prim.Native.Char.{code}
use Prim.Native.String as text
use Prim.Native.String.{String}
use Rattle.std.proofs.lemmas.List.Edits.{sets}
use Rattle.jobfile.specs.File.{FileEntry, file_of, entry_of}
use Rattle.reporting.specs.Text.{report_text, refusal_text, capped}
use Rattle.running.specs.Report.{text_of}

-- The bytes of a text, a letter's being its code; `\n` is the line feed.
unfoldable pub bytes_of : String → List ℕ
bytes_of text.[] = []
bytes_of (text.◌∷◌ c s) = code c ∷ bytes_of s

-- ---- files

-- The file with 2 axes, budget 64, threshold 40 and entries (indicator: readings) 100: 4160; 50: 64, 16448; 0: 4096, 4224; 10: 1088, 9280.
-- The header, its four entries, their readings.
unfoldable pub example_file : List ℕ
example_file =
    2 ∷ 0 ∷ 0 ∷ 0 ∷ 64 ∷ 0 ∷ 0 ∷ 0 ∷ 40 ∷ 0 ∷ 0 ∷ 0 ∷ 0 ∷ 0 ∷ 0 ∷ 0 ∷ 4 ∷ 0 ∷ 0 ∷ 0 ∷ 24 ∷ 0 ∷ 0 ∷ 0
    ∷ 100 ∷ 0 ∷ 0 ∷ 0 ∷ 1 ∷ 0 ∷ 0 ∷ 0 ∷ 72 ∷ 0 ∷ 0 ∷ 0
    ∷ 50 ∷ 0 ∷ 0 ∷ 0 ∷ 2 ∷ 0 ∷ 0 ∷ 0 ∷ 76 ∷ 0 ∷ 0 ∷ 0
    ∷ 0 ∷ 0 ∷ 0 ∷ 0 ∷ 2 ∷ 0 ∷ 0 ∷ 0 ∷ 84 ∷ 0 ∷ 0 ∷ 0
    ∷ 10 ∷ 0 ∷ 0 ∷ 0 ∷ 2 ∷ 0 ∷ 0 ∷ 0 ∷ 92 ∷ 0 ∷ 0 ∷ 0
    ∷ 64 ∷ 16 ∷ 0 ∷ 0
    ∷ 64 ∷ 0 ∷ 0 ∷ 0 ∷ 64 ∷ 64 ∷ 0 ∷ 0
    ∷ 0 ∷ 16 ∷ 0 ∷ 0 ∷ 128 ∷ 16 ∷ 0 ∷ 0
    ∷ 64 ∷ 4 ∷ 0 ∷ 0 ∷ 64 ∷ 36 ∷ 0 ∷ 0
    ∷ []

-- 4 axes, budget 8,192, threshold 40 and entries 100: −3; 9: −70000, 66051; 4294967295: −1, −2; 30: 5, −6; 67305985: −1048576, 300. They run
-- out when (1,3,1,1) is wanted.
unfoldable pub negative_file : List ℕ
negative_file =
    4 ∷ 0 ∷ 0 ∷ 0 ∷ 0 ∷ 32 ∷ 0 ∷ 0 ∷ 40 ∷ 0 ∷ 0 ∷ 0 ∷ 0 ∷ 0 ∷ 0 ∷ 0 ∷ 5 ∷ 0 ∷ 0 ∷ 0 ∷ 24 ∷ 0 ∷ 0 ∷ 0
    ∷ 100 ∷ 0 ∷ 0 ∷ 0 ∷ 1 ∷ 0 ∷ 0 ∷ 0 ∷ 84 ∷ 0 ∷ 0 ∷ 0
    ∷ 9 ∷ 0 ∷ 0 ∷ 0 ∷ 2 ∷ 0 ∷ 0 ∷ 0 ∷ 88 ∷ 0 ∷ 0 ∷ 0
    ∷ 255 ∷ 255 ∷ 255 ∷ 255 ∷ 2 ∷ 0 ∷ 0 ∷ 0 ∷ 96 ∷ 0 ∷ 0 ∷ 0
    ∷ 30 ∷ 0 ∷ 0 ∷ 0 ∷ 2 ∷ 0 ∷ 0 ∷ 0 ∷ 104 ∷ 0 ∷ 0 ∷ 0
    ∷ 1 ∷ 2 ∷ 3 ∷ 4 ∷ 2 ∷ 0 ∷ 0 ∷ 0 ∷ 112 ∷ 0 ∷ 0 ∷ 0
    ∷ 253 ∷ 255 ∷ 255 ∷ 255
    ∷ 144 ∷ 238 ∷ 254 ∷ 255 ∷ 3 ∷ 2 ∷ 1 ∷ 0
    ∷ 255 ∷ 255 ∷ 255 ∷ 255 ∷ 254 ∷ 255 ∷ 255 ∷ 255
    ∷ 5 ∷ 0 ∷ 0 ∷ 0 ∷ 250 ∷ 255 ∷ 255 ∷ 255
    ∷ 0 ∷ 0 ∷ 240 ∷ 255 ∷ 44 ∷ 1 ∷ 0 ∷ 0
    ∷ []

-- 1 axis, budget 129, threshold 0 and ten entries, the readings all 0: a block for each of the levels 1 to 8, and two more.
unfoldable pub ceiling_file : List ℕ
ceiling_file =
    (1 ∷ 0 ∷ 0 ∷ 0 ∷ 129 ∷ 0 ∷ 0 ∷ 0 ∷ 0 ∷ 0 ∷ 0 ∷ 0 ∷ 0 ∷ 0 ∷ 0 ∷ 0 ∷ 10 ∷ 0 ∷ 0 ∷ 0 ∷ 24 ∷ 0 ∷ 0 ∷ 0
    ∷ 8 ∷ 0 ∷ 0 ∷ 0 ∷ 1 ∷ 0 ∷ 0 ∷ 0 ∷ 144 ∷ 0 ∷ 0 ∷ 0
    ∷ 7 ∷ 0 ∷ 0 ∷ 0 ∷ 2 ∷ 0 ∷ 0 ∷ 0 ∷ 148 ∷ 0 ∷ 0 ∷ 0
    ∷ 6 ∷ 0 ∷ 0 ∷ 0 ∷ 2 ∷ 0 ∷ 0 ∷ 0 ∷ 156 ∷ 0 ∷ 0 ∷ 0
    ∷ 5 ∷ 0 ∷ 0 ∷ 0 ∷ 4 ∷ 0 ∷ 0 ∷ 0 ∷ 164 ∷ 0 ∷ 0 ∷ 0
    ∷ 4 ∷ 0 ∷ 0 ∷ 0 ∷ 8 ∷ 0 ∷ 0 ∷ 0 ∷ 180 ∷ 0 ∷ 0 ∷ 0
    ∷ 3 ∷ 0 ∷ 0 ∷ 0 ∷ 16 ∷ 0 ∷ 0 ∷ 0 ∷ 212 ∷ 0 ∷ 0 ∷ 0
    ∷ 2 ∷ 0 ∷ 0 ∷ 0 ∷ 32 ∷ 0 ∷ 0 ∷ 0 ∷ 20 ∷ 1 ∷ 0 ∷ 0
    ∷ 1 ∷ 0 ∷ 0 ∷ 0 ∷ 64 ∷ 0 ∷ 0 ∷ 0 ∷ 148 ∷ 1 ∷ 0 ∷ 0
    ∷ 0 ∷ 0 ∷ 0 ∷ 0 ∷ 1 ∷ 0 ∷ 0 ∷ 0 ∷ 148 ∷ 2 ∷ 0 ∷ 0
    ∷ 0 ∷ 0 ∷ 0 ∷ 0 ∷ 1 ∷ 0 ∷ 0 ∷ 0 ∷ 152 ∷ 2 ∷ 0 ∷ 0
    ∷ [])
    ++ replicate (4 * 131) 0

-- ---- what they print

abbrev pub says : ℕ → List ℤ → FileEntry
says indicator readings = record { indicator = indicator; readings = readings }

pub record FileCases : Type 0 where
  -- ---- numbers

  -- little-endian: axes, budget (4 bytes each), threshold (8)
  pub header : file_of (1 ∷ 2 ∷ 3 ∷ 4 ∷ 5 ∷ 6 ∷ 7 ∷ 8 ∷ 9 ∷ 10 ∷ 11 ∷ 12 ∷ 13 ∷ 14 ∷ 15 ∷ 16 ∷ []) ≡ record { axes = 67305985; budget = 134678021; threshold = 1157159078456920585 }
  -- entries: indicator, reading count, offset of its first reading
  pub entries : map (entry_of example_file) (0 ∷ 1 ∷ 2 ∷ 3 ∷ [])
      ≡ says 100 (pos 4160 ∷ []) ∷ says 50 (pos 64 ∷ pos 16448 ∷ []) ∷ says 0 (pos 4096 ∷ pos 4224 ∷ []) ∷ says 10 (pos 1088 ∷ pos 9280 ∷ []) ∷ []
  -- readings: two's complement
  pub signed : map (entry_of negative_file) (1 ∷ 4 ∷ []) ≡ says 9 (negsuc 69999 ∷ pos 66051 ∷ []) ∷ says 67305985 (negsuc 1048575 ∷ pos 300 ∷ []) ∷ []
  -- ---- reports

  -- the file has 100 bytes and prints
  pub size : length example_file ≡ 100
  pub example : text_of example_file ≡ bytes_of "axes 2\nold 2\nactive 2\nwanted 0\nreserved 7\npending 10\ncarried 0\nceiling 0\nscaled 5972688896\nunused 0\nend met\n"
  -- short: with threshold 9 the next block is wanted and the entries are exhausted
  pub short : text_of (set example_file 8 9) ≡ bytes_of "axes 2\nold 3\nactive 1\nwanted 1\nreserved 11\npending 0\ncarried 0\nceiling 0\nscaled 5972688896\nunused 0\nend short\n"
  -- a mean below 0, and figures of which no two but 0 are the same
  pub negative : text_of negative_file ≡ bytes_of "axes 4\nold 2\nactive 3\nwanted 1\nreserved 11\npending 67306024\ncarried 0\nceiling 0\nscaled -275832373248\nunused 0\nend short\n"
  -- a threshold of more than 32 bits, 2^32 + 40
  pub wide_threshold : text_of (set example_file 12 1) ≡ bytes_of "axes 2\nold 0\nactive 1\nwanted 0\nreserved 1\npending 100\ncarried 0\nceiling 0\nscaled 4362076160\nunused 3\nend met\n"
  -- two indicators of 4294967295, and a budget of 5 that ends the run: a pending error of more than 32 bits
  pub large_pending : text_of (sets (sets (set example_file 4 5) 36 (255 ∷ 255 ∷ 255 ∷ 255 ∷ [])) 48 (255 ∷ 255 ∷ 255 ∷ 255 ∷ []))
      ≡ bytes_of "axes 2\nold 1\nactive 2\nwanted 0\nreserved 5\npending 8589934590\ncarried 0\nceiling 0\nscaled 6509559808\nunused 1\nend spent\n"
  -- figures that are all different, both errors of more than 32 bits
  pub lines : report_text (record { axes = 1; old = 2; active = 3; wanted = 4; reserved = 5; pending = 8589934590; carried = 25769803770; ceiling = 6; scaled = negsuc 6; unused = 8; ending = capped })
      ≡ bytes_of "axes 1\nold 2\nactive 3\nwanted 4\nreserved 5\npending 8589934590\ncarried 25769803770\nceiling 6\nscaled -7\nunused 8\nend capped\n"
  -- ---- boundary cases

  -- before the first delivery the scaled mean is 0: the header alone, with no entries
  pub mean_zero : text_of (take 24 (set example_file 16 0)) ≡ bytes_of "axes 2\nold 0\nactive 0\nwanted 1\nreserved 1\npending 0\ncarried 0\nceiling 0\nscaled 0\nunused 0\nend short\n"
  -- threshold equal to the pending error, nothing carried: met; one below it goes on
  pub threshold_equal : text_of (set example_file 8 100) ≡ bytes_of "axes 2\nold 0\nactive 1\nwanted 0\nreserved 1\npending 100\ncarried 0\nceiling 0\nscaled 4362076160\nunused 3\nend met\n"
  pub threshold_below : text_of (set example_file 8 99) ≡ bytes_of "axes 2\nold 1\nactive 2\nwanted 0\nreserved 5\npending 50\ncarried 0\nceiling 0\nscaled 6509559808\nunused 1\nend met\n"
  -- budget 4, d 2, pending error above the threshold: the first promotion is spent; budget 5: it isn't, but the second is
  pub budget_four : text_of (set example_file 4 4) ≡ bytes_of "axes 2\nold 0\nactive 1\nwanted 0\nreserved 1\npending 100\ncarried 0\nceiling 0\nscaled 4362076160\nunused 3\nend spent\n"
  pub budget_five : text_of (set example_file 4 5) ≡ bytes_of "axes 2\nold 1\nactive 2\nwanted 0\nreserved 5\npending 50\ncarried 0\nceiling 0\nscaled 6509559808\nunused 1\nend spent\n"
  -- ---- refusals: the cause's number, and the byte that it names

  -- empty file
  pub empty : text_of [] ≡ bytes_of "refused 10 at 0\n"
  -- 9 axes or none, also with a budget of 0; a budget of 0, or of 8,256
  pub nine_axes : text_of (set (set example_file 0 9) 4 0) ≡ bytes_of "refused 1 at 0\n"
  pub no_axes : text_of (set example_file 0 0) ≡ bytes_of "refused 1 at 0\n"
  pub no_budget : text_of (set example_file 4 0) ≡ bytes_of "refused 2 at 4\n"
  pub large_budget : text_of (set example_file 5 32) ≡ bytes_of "refused 2 at 4\n"
  -- the count field of the last entry: with 1 axis and an indicator of 50 before it, level 4 is wanted, a block of 4 readings
  pub other_count : text_of (set (set example_file 0 1) 48 50) ≡ bytes_of "refused 7 at 64\n"
  -- the second entry's second reading, 16448 + 2^20
  pub out_of_range : text_of (set example_file 82 16) ≡ bytes_of "refused 8 at 80\n"
  -- the largest byte that is ever named: a byte too many after the longest file of the right form
  pub refusal_line : refusal_text 13 38936 ≡ bytes_of "refused 13 at 38936\n"
  -- 10, the header: 513 entries, a table offset of 25, an end within it, also before one of these two fields
  pub many_entries : text_of (set (set example_file 16 1) 17 2) ≡ bytes_of "refused 10 at 16\n"
  pub table_offset_lem : text_of (set example_file 20 25) ≡ bytes_of "refused 10 at 20\n"
  pub header_cut : text_of (take 23 example_file) ≡ bytes_of "refused 10 at 23\n"
  pub before_entries : text_of (take 16 example_file) ≡ bytes_of "refused 10 at 16\n"
  pub before_offset : text_of (take 20 example_file) ≡ bytes_of "refused 10 at 20\n"
  -- 12, the entry table: the second entry's count of 0, of 8,193, and of 8,191, with which the third passes 8,192 in all; its offset of 75 or 77; its
  -- count of 1, which the next offset shows; an entry count of 3, which the first offset shows; an end before or within the table
  pub no_readings : text_of (set example_file 40 0) ≡ bytes_of "refused 12 at 40\n"
  pub many_readings : text_of (sets example_file 40 (1 ∷ 32 ∷ [])) ≡ bytes_of "refused 12 at 40\n"
  pub total : text_of (sets example_file 40 (255 ∷ 31 ∷ [])) ≡ bytes_of "refused 12 at 52\n"
  pub overlap : text_of (set example_file 44 75) ≡ bytes_of "refused 12 at 44\n"
  pub gap : text_of (set example_file 44 77) ≡ bytes_of "refused 12 at 44\n"
  pub wrong_count : text_of (set example_file 40 1) ≡ bytes_of "refused 12 at 56\n"
  pub few_entries : text_of (set example_file 16 3) ≡ bytes_of "refused 12 at 32\n"
  pub no_table : text_of (take 24 example_file) ≡ bytes_of "refused 12 at 24\n"
  pub table_cut : text_of (take 71 example_file) ≡ bytes_of "refused 12 at 71\n"
  -- 13, the readings: an end before or within them, and the first byte too many, also after the header of a file with no entries, with an entry
  -- count of 0 before a table, and with a last count of 1
  pub no_reading : text_of (take 72 example_file) ≡ bytes_of "refused 13 at 72\n"
  pub early_end : text_of (take 99 example_file) ≡ bytes_of "refused 13 at 99\n"
  pub too_many : text_of (example_file ++ 0 ∷ []) ≡ bytes_of "refused 13 at 100\n"
  pub after_header : text_of (take 25 (set example_file 16 0)) ≡ bytes_of "refused 13 at 24\n"
  pub no_entries : text_of (set example_file 16 0) ≡ bytes_of "refused 13 at 24\n"
  pub last_count : text_of (set example_file 64 1) ≡ bytes_of "refused 13 at 96\n"
  -- each of the three before all else: with 9 axes and a table offset of 25, a second count of 0 or a byte too many; a byte too many and a
  -- reading out of range
  pub header_first : text_of (set (set example_file 0 9) 20 25) ≡ bytes_of "refused 10 at 20\n"
  pub table_first : text_of (set (set example_file 0 9) 40 0) ≡ bytes_of "refused 12 at 40\n"
  pub readings_first : text_of (set example_file 0 9 ++ 0 ∷ []) ≡ bytes_of "refused 13 at 100\n"
  pub before_deliveries : text_of (set example_file 82 16 ++ 0 ∷ []) ≡ bytes_of "refused 13 at 100\n"

-- A job that reaches a ceiling.
pub record CeilingFileCases : Type 0 where
  -- with indicator 9 for level 8: it is old, and its forward neighbour passes a ceiling, so that the 9 is carried
  pub ceiling : text_of (set ceiling_file 108 9) ≡ bytes_of "axes 1\nold 8\nactive 0\nwanted 0\nreserved 129\npending 0\ncarried 9\nceiling 1\nscaled 0\nunused 2\nend capped\n"
  -- with threshold 1 level 8 stays active: its indicator, 1, is pending and not carried
  pub ceiling_active : text_of (set ceiling_file 8 1) ≡ bytes_of "axes 1\nold 7\nactive 1\nwanted 0\nreserved 129\npending 1\ncarried 0\nceiling 0\nscaled 0\nunused 2\nend met\n"
