-- Reports of doubles in cases worked out by hand. A finite double is written ±m · 2^e with m odd, or 0 · 2^0.
use Rattle.std.specs.Prelude.{◌≡◌, true, false, List, [], ◌∷◌, map, ℕ, ◌*◌, ◌-◌, ℤ, pos, negsuc, Float}
use Rattle.std.specs.Float.{fin}
use Rattle.doubles.specs.declared.Report.{Report}
use Rattle.area.specs.Settings.{settings_of}
use Rattle.area.specs.Log.{Log}
use Rattle.machine.specs.Steps.{start_log}
use Rattle.counting.specs.Doubles.{doubles_of, plus_zero}
use Rattle.calls.specs.Replies.{doubled}
use Rattle.calls.specs.Table.{Call, deliver, promote, doubles, Answer, answer}
use Rattle.history.specs.LentCalls.{Part, lengths_lent}
use Rattle.history.specs.Logged.{log_after, answer_by}
use Rattle.history.specs.OnExports as exports
use Rattle.history.specs.OnExports.{LentExport, ExportAnswer, export_answers_by}
use Rattle.history.specs.Excluded.{whole, whole_export, file_calls}

-- The log after these calls, and what doubles answers then, in 512 records and 64 readings.
unfoldable pub log_then : Log → List Call → Log
log_then l cs = log_after l (map whole cs)

unfoldable pub doubles_then : Log → List Call → Answer
doubles_then l cs = answer_by (lengths_lent (whole doubles).part) (log_then l cs) doubles

-- Mean, pending error and largest delivered difference.
abbrev report : (mean pending largest : Float) → Report
report m p d = record { mean = m; pending = p; largest = d }

-- One axis: the root's reading, and then those of (2) with their indicator.
abbrev two_blocks : (root left right : ℤ) (indicator : ℕ) → List Call
two_blocks r a b i = deliver (r ∷ []) 1 ∷ promote 0 ∷ deliver (a ∷ b ∷ []) i ∷ []

-- Exported doubles, lent the bits of three doubles and a part of the storage; and what an exported call returned and left in its words.
abbrev lent_doubles : List ℕ → Part → LentExport
lent_doubles given x = record { call = exports.doubles given; part = x }

abbrev returned : ℕ → List ℕ → ExportAnswer
returned n words = record { number = n; words = words; buffer = [] }

pub record DoublesCases : Type 0 where
  -- the scope document's file: 5,696.0, 10.0 and, of the root, 4,160.0
  pub file : doubles_then (start_log (settings_of 2 40 64)) file_calls ≡ answer (doubled (report (fin false 89 (pos 6)) (fin false 5 (pos 1)) (fin false 65 (pos 6))))
  -- with nothing delivered all three are +0
  pub nothing : doubles_then (start_log (settings_of 3 0 64)) [] ≡ answer (doubled (report plus_zero plus_zero plus_zero))
  -- differences of 4 and −4, whose sum is +0: the lower place has the largest, +4.0
  pub equal_sizes : doubles_then (start_log (settings_of 1 0 64)) (two_blocks (pos 4) (negsuc 3) (negsuc 3) 0)
      ≡ answer (doubled (report plus_zero plus_zero (fin false 1 (pos 2))))
  -- a negative one: −1.75, 7.0 and −1.75
  pub negative : doubles_then (start_log (settings_of 1 0 64)) (two_blocks (pos 0) (negsuc 2) (negsuc 3) 7)
      ≡ answer (doubled (report (fin true 7 (negsuc 1)) (fin false 7 (pos 0)) (fin true 7 (negsuc 1))))
  -- the same with the recorded mean altered to 12,345: 12,345 · 2^−20, and the rest as before
  pub altered : doubles_of (record { log = log_then (start_log (settings_of 1 0 64)) (two_blocks (pos 0) (negsuc 2) (negsuc 3) 7); mean = pos 12345 })
      ≡ report (fin false 12345 (negsuc 19)) (fin false 7 (pos 0)) (fin true 7 (negsuc 1))
  -- two axes, the root and (2,1) delivered and (1,2) wanted: 1.75, 5.0 and, of the root, 3.0
  pub while_wanted : doubles_then (start_log (settings_of 2 0 64)) (deliver (pos 3 ∷ []) 7 ∷ promote 0 ∷ deliver (pos 1 ∷ pos 0 ∷ []) 5 ∷ [])
      ≡ answer (doubled (report (fin false 7 (negsuc 1)) (fin false 5 (pos 0)) (fin false 3 (pos 0))))
  -- refused by 3, in storage that is too short by one cell or by one reading of a budget of 64, the exported call leaves the bits that it is lent,
  -- whatever they are; else it writes all three: −3.0, 1.0 and −3.0, each a sign, eleven digits of exponent and 52 of fraction
  pub lent_doubles_lem : (given : List ℕ) → export_answers_by (start_log (settings_of 1 0 64))
      (whole_export (exports.deliver (negsuc 2 ∷ []) 1)
      ∷ lent_doubles given (record { cells = 512 * 27 - 1; readings = 64 })
      ∷ lent_doubles given (record { cells = 512 * 27; readings = 63 })
      ∷ lent_doubles given (record { cells = 512 * 27; readings = 64 })
      ∷ [])
      ≡ returned 0 [] ∷ returned 3 given ∷ returned 3 given ∷ returned 0 (13837309855095848960 ∷ 4607182418800017408 ∷ 13837309855095848960 ∷ []) ∷ []
