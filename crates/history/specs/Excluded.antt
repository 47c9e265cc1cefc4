-- What the statements shut out ("Versions that count for nothing", "Plausible figures that are wrong"), and the scope document's file as a
-- list of calls.
use Rattle.std.specs.Prelude.{◌≡◌, true, false, List, [], ◌∷◌, map, ℕ, ◌*◌, ◌-◌, ◌^◌, ◌<◌, ◌≤◌, ℤ, pos, negsuc, length}
use Rattle.rule.specs.Weights.{difference_weight}
use Rattle.grid.specs.Index.{root, capped_axes}
use Rattle.grid.specs.Block.{block_size}
use Rattle.grid.specs.Coefficient.{coefficient}
use Rattle.grid.specs.Boundary.{pair}
use Rattle.area.specs.declared.Settings.{Settings}
use Rattle.area.specs.Settings.{settings_of, SettingsFit, reading_count, least_store}
use Rattle.area.specs.Entry.{Entry, delivered_of, reserved_by}
use Rattle.area.specs.Log.{Log, with_entries}
use Rattle.area.specs.Encoding.{Area, entries_of, machine_of}
use Rattle.area.specs.Facts.{bare}
use Rattle.machine.specs.Log.{any_wanted, wanted_index, Active}
use Rattle.machine.specs.Choose as choice
use Rattle.machine.specs.Promote as refining
use Rattle.machine.specs.Admitted.{AdmittedFacts}
use Rattle.machine.specs.Steps.{start_log, deliver_log}
use Rattle.machine.specs.Causes.{Lengths, in_range}
use Rattle.machine.specs.Counts.{counts_of}
use Rattle.machine.specs.Facts.{ChooseFacts}
use Rattle.machine.specs.Means.{cross_of}
use Rattle.counting.specs.Doubles.{doubles_of}
use Rattle.writing.specs.ValidArea.{ValidArea}
use Rattle.calls.specs.Replies.{refused, accepted, wrote, chosen, promotion, counts, doubled, total, verdict}
use Rattle.calls.specs.Table.{Call, start, point, points, deliver, choose, promote, result, doubles, cross_total, check, Answer, answer}
use Rattle.calls.specs.Calls.{call_on}
use Rattle.calls.specs.Points.{WrotePoints}
use Rattle.history.specs.LentCalls.{LentCall}
use Rattle.history.specs.Logged.{state_of, refusal_by, answers_by}
use Rattle.wihupya.specs.Exports.{number_of}
use Rattle.history.specs.OnExports as exports
use Rattle.history.specs.OnExports.{ExportCall, LentExport, export_answers_by}

-- Entries without readings.
abbrev entry : List ℕ → ℕ → Entry
entry k s = record { levels = k; state = s; indicator = 0; readings = [] }

abbrev read : List ℕ → ℕ → List ℤ → Entry
read k s rs = record { levels = k; state = s; indicator = 0; readings = rs }

-- Three old, two active, one wanted.
abbrev mixed : Log
mixed = record { settings = settings_of 2 0 64; entries = entry (pair 1 1) 2 ∷ entry (pair 2 1) 2 ∷ entry (pair 1 2) 2 ∷ entry (pair 3 1) 1 ∷ entry (pair 2 2) 1 ∷ entry (pair 1 3) 0 ∷ [] }

abbrev active : List ℕ → ℕ → Entry
active k i = record { levels = k; state = 1; indicator = i; readings = [] }

-- Two old and two active: (1,2) would admit (2,2) and (1,3).
abbrev four_held : Log
four_held = record { settings = settings_of 2 0 64; entries = entry (pair 1 1) 2 ∷ entry (pair 2 1) 2 ∷ active (pair 1 2) 1 ∷ active (pair 3 1) 1 ∷ [] }

pub record Excluded : Type 0 where
  -- "refuses all starts or deliveries": no cause but the table's
  pub starts : (a : Area) (g : Settings) → SettingsFit g → 512 ≤ length a.run.records → least_store g ≤ length a.store
      → (call_on a (start g)).answer ≡ answer accepted
  pub accepted_deliveries : (a : Area) (rs : List ℤ) (i : ℕ) → ValidArea a → any_wanted (entries_of a) ≡ true
      → length rs ≡ reading_count a.job.settings (wanted_index (entries_of a)) → in_range rs ≡ true → (call_on a (deliver rs i)).answer ≡ answer accepted
  pub deliveries : (z : Lengths) (l : Log) (rs : List ℤ) (i : ℕ) → 512 ≤ z.records → least_store l.settings ≤ z.readings → any_wanted l.entries ≡ true
      → length rs ≡ reading_count l.settings (wanted_index l.entries) → in_range rs ≡ true → refusal_by z l (deliver rs i) ≡ 0
  -- of choose and promote by the log: with a block wanted both are refused by 6, whatever the place; with none wanted choose is accepted, and promote at
  -- the place of an active index, at any other it is refused by 11
  pub while_wanted : (z : Lengths) (l : Log) (p : ℕ) → 512 ≤ z.records → least_store l.settings ≤ z.readings → any_wanted l.entries ≡ true
      → (refusal_by z l choose ≡ 6) × (refusal_by z l (promote p) ≡ 6)
  pub choices : (z : Lengths) (l : Log) → 512 ≤ z.records → least_store l.settings ≤ z.readings → any_wanted l.entries ≡ false → refusal_by z l choose ≡ 0
  pub promotions : (z : Lengths) (l : Log) (p : ℕ) → 512 ≤ z.records → least_store l.settings ≤ z.readings → any_wanted l.entries ≡ false
      → Active l.entries p → refusal_by z l (promote p) ≡ 0
  pub no_place : (z : Lengths) (l : Log) (p : ℕ) → 512 ≤ z.records → least_store l.settings ≤ z.readings → any_wanted l.entries ≡ false
      → (Active l.entries p → ⊥) → refusal_by z l (promote p) ≡ 11
  -- nor has any other call a cause but the table's: with a block wanted point and points are accepted, and with none wanted choose, and promote
  -- of an active place, which then answer the rule's choice and outcome
  pub accepted_point : (a : Area) (n : ℕ) (buffer : List ℕ) → ValidArea a → any_wanted (entries_of a) ≡ true → n < block_size (wanted_index (entries_of a))
      → a.job.settings.axes ≤ length buffer → (call_on a (point n buffer)).answer.reply ≡ accepted
  pub accepted_points : (a : Area) (n : ℕ) (buffer : List ℕ) → ValidArea a → any_wanted (entries_of a) ≡ true → n < block_size (wanted_index (entries_of a))
      → a.job.settings.axes ≤ length buffer → (written : ℕ) × WrotePoints a n buffer written
  pub accepted_choice : (a : Area) → ValidArea a → any_wanted (entries_of a) ≡ false → (call_on a choose).answer ≡ answer (chosen (choice.choose (machine_of a).log))
  pub accepted_promotion : (a : Area) (p : ℕ) → ValidArea a → any_wanted (entries_of a) ≡ false → Active (entries_of a) p
      → (call_on a (promote p)).answer ≡ answer (promotion (refining.promote_at (machine_of a).log p).outcome)
  pub accepted_result : (a : Area) → ValidArea a → (call_on a result).answer ≡ answer (counts (counts_of (machine_of a)))
  pub accepted_doubles : (a : Area) → ValidArea a → (call_on a doubles).answer ≡ answer (doubled (doubles_of (machine_of a)))
  pub accepted_cross : (a : Area) → ValidArea a → (call_on a cross_total).answer ≡ answer (total (cross_of (entries_of a)))
  -- "reports one fixed mean": the root's reading times 2^20 after its delivery
  pub means : (cross_of (deliver_log (start_log (settings_of 3 0 9)) (pos 1 ∷ []) 7).entries ≡ pos (2 ^ 20)) × (cross_of (deliver_log (start_log (settings_of 3 0 9)) (pos 2 ∷ []) 7).entries ≡ pos (2 * 2 ^ 20))
  -- "acknowledges calls, area untouched": the log changes (`LogFacts`), and the held records are the log's entries (`Found.entries`)
  pub started : (g : Settings) → (start_log g).entries ≡ entry root 0 ∷ []
  pub delivered : (g : Settings) (i : ℕ) (rs : List ℤ) → (deliver_log (start_log g) rs i).entries ≡ record { levels = root; state = 1; indicator = i; readings = rs } ∷ []
  pub refines : (l : Log) (p : ℕ) → (refining.promote_at l p).outcome ≡ refining.promoted → (refining.promote_at l p).log ≡ with_entries l (refining.refine l.settings.axes l.entries p)
  -- "honest for the root, then only marks places": later readings count
  pub later_means : (cross_of (read (pair 1 1) 2 (pos 0 ∷ []) ∷ read (pair 2 1) 1 (pos 1 ∷ pos 0 ∷ []) ∷ entry (pair 1 2) 0 ∷ []) ≡ pos (2 ^ 18))
      × (cross_of (read (pair 1 1) 2 (pos 0 ∷ []) ∷ read (pair 2 1) 1 (pos 1 ∷ pos 2 ∷ []) ∷ entry (pair 1 2) 0 ∷ []) ≡ pos (3 * 2 ^ 18))
  -- "invents reserved or ceiling": both are counted from the held, and so is the carried error
  pub reserved_counted : reserved_by (entry (pair 1 1) 2 ∷ entry (pair 3 4) 0 ∷ []) ≡ 9
  pub ceiling_counted : (counts_of (state_of (record { settings = settings_of 2 0 64; entries = entry (pair 8 6) 2 ∷ entry (pair 8 5) 2 ∷ entry (pair 8 6) 1 ∷ [] }))).ceiling ≡ 3
  pub carried_counted : (counts_of (state_of (record { settings = settings_of 2 0 64; entries = bare (pair 8 6) 2 5 ∷ bare (pair 8 5) 2 3 ∷ bare (pair 7 6) 2 9 ∷ bare (pair 8 4) 1 7 ∷ [] }))).carried ≡ 8
  -- and so are old, active and wanted
  pub states_counted : ((counts_of (state_of mixed)).old ≡ 3) × ((counts_of (state_of mixed)).active ≡ 2) × ((counts_of (state_of mixed)).wanted ≡ 1)
  -- "says met or spent from the start": choose is met exactly if the pending and the carried error together are at most the threshold, capped
  -- exactly if the pending error is and together they are not, and a place otherwise
  pub chooses : ChooseFacts
  -- promote is spent exactly if what the place admits would bring the held above 512 or the reserved above the budget, and promoted otherwise,
  -- whatever threshold and indicators
  pub promotes : AdmittedFacts
  -- with four held, and six within 512 and the budget, it is promoted
  pub four_held_lem : (refining.promote_at four_held 2).outcome ≡ refining.promoted
  -- (2,2) is not admitted when only (2,1) is old, and is when (1,2) is old too
  pub one_old : refining.admits 2 (entry (pair 1 1) 2 ∷ entry (pair 2 1) 2 ∷ entry (pair 1 2) 1 ∷ []) (pair 2 1) 1 ≡ false
  pub both_old : refining.admits 2 (entry (pair 1 1) 2 ∷ entry (pair 2 1) 2 ∷ entry (pair 1 2) 2 ∷ []) (pair 2 1) 1 ≡ true
  -- (2,1) is admitted though there is no (2,0)
  pub level_one : refining.admits 2 (entry (pair 1 1) 2 ∷ []) (pair 1 1) 0 ≡ true
  -- the centre's weight in the difference of level 2 is −2
  pub centre : difference_weight 2 1 ≡ negsuc 1
  -- a wanted index is not in the coefficients: (1,2) is wanted, and with it the root's would be −1
  pub wanted_out : map (coefficient (delivered_of (entry (pair 1 1) 2 ∷ entry (pair 2 1) 1 ∷ entry (pair 1 2) 0 ∷ []))) (pair 1 1 ∷ pair 2 1 ∷ []) ≡ pos 0 ∷ pos 1 ∷ []

-- The file with 2 axes, budget 64 and threshold 40, as calls: each entry delivered while a block is wanted, otherwise choose, and promote of the
-- place that it answers. In between some points of the wanted blocks, (2,1) and then (3,1), and a first result.
unfoldable pub file_calls : List Call
file_calls =
    deliver (pos 4160 ∷ []) 100
    ∷ result
    ∷ choose
    ∷ promote 0
    ∷ point 0 (0 ∷ 0 ∷ [])
    ∷ point 1 (0 ∷ 0 ∷ [])
    ∷ deliver (pos 64 ∷ pos 16448 ∷ []) 50
    ∷ deliver (pos 4096 ∷ pos 4224 ∷ []) 0
    ∷ choose
    ∷ promote 1
    ∷ point 0 (0 ∷ 0 ∷ [])
    ∷ deliver (pos 1088 ∷ pos 9280 ∷ []) 10
    ∷ choose
    ∷ result
    ∷ cross_total
    ∷ check
    ∷ []

-- What calls answer after a start, in 512 records and 64 readings.
abbrev pub whole : Call → LentCall
whole c = record { call = c; part = record { cells = 512 * 27; readings = 64 } }

unfoldable pub answers_after : Log → List Call → List Answer
answers_after l cs = answers_by l (map whole cs)

-- A call in storage that is too short by one cell, and by one reading of a budget of 64.
abbrev few_cells : Call → LentCall
few_cells c = record { call = c; part = record { cells = 512 * 27 - 1; readings = 64 } }

abbrev few_readings : Call → LentCall
few_readings c = record { call = c; part = record { cells = 512 * 27; readings = 63 } }

-- An exported call in 512 records and 64 readings.
abbrev pub whole_export : ExportCall → LentExport
whole_export c = record { call = c; part = record { cells = 512 * 27; readings = 64 } }

-- What it returned, its own words as they are left, and its buffer.
abbrev returned : ℕ → List ℕ → List ℕ → exports.ExportAnswer
returned n words buffer = record { number = n; words = words; buffer = buffer }

-- The file as exported calls, with a result and points after the first promotion. The words for the answers are lent as 9.
unfoldable pub file_exports : List ExportCall
file_exports =
    exports.deliver (pos 4160 ∷ []) 100
    ∷ exports.choose (9 ∷ 9 ∷ [])
    ∷ exports.promote 0 (9 ∷ [])
    ∷ exports.result (9 ∷ 9 ∷ 9 ∷ 9 ∷ 9 ∷ 9 ∷ 9 ∷ 9 ∷ 9 ∷ 9 ∷ 9 ∷ [])
    ∷ exports.points 0 (9 ∷ 9 ∷ []) (9 ∷ 9 ∷ 9 ∷ [])
    ∷ exports.deliver (pos 64 ∷ pos 16448 ∷ []) 50
    ∷ exports.deliver (pos 4096 ∷ pos 4224 ∷ []) 0
    ∷ exports.choose (9 ∷ 9 ∷ [])
    ∷ exports.promote 1 (9 ∷ [])
    ∷ exports.deliver (pos 1088 ∷ pos 9280 ∷ []) 10
    ∷ exports.choose (9 ∷ 9 ∷ [])
    ∷ exports.result (9 ∷ 9 ∷ 9 ∷ 9 ∷ 9 ∷ 9 ∷ 9 ∷ 9 ∷ 9 ∷ 9 ∷ 9 ∷ [])
    ∷ exports.cross_total (9 ∷ 9 ∷ [])
    ∷ exports.check
    ∷ []

-- Boundary cases about calls.
pub record CallCases : Type 0 where
  -- before the first delivery the scaled mean is 0
  pub mean_zero : answers_after (start_log (settings_of 2 0 64)) (result ∷ cross_total ∷ [])
      ≡ answer (counts (record { old = 0; active = 0; wanted = 1; reserved = 1; pending = 0; carried = 0; mean = pos 0; ceiling = 0 })) ∷ answer (total (pos 0)) ∷ []
  -- threshold equal to the pending error, nothing carried: met, and a promotion is promoted all the same
  pub threshold_equal : answers_after (start_log (settings_of 2 7 64)) (deliver (pos 3 ∷ []) 7 ∷ choose ∷ promote 0 ∷ [])
      ≡ answer accepted ∷ answer (chosen choice.met) ∷ answer (promotion refining.promoted) ∷ []
  -- budget 4, d 2, pending error above the threshold: the first promotion is spent; budget 5: it isn't
  pub budget_four : answers_after (start_log (settings_of 2 0 4)) (deliver (pos 3 ∷ []) 7 ∷ choose ∷ promote 0 ∷ choose ∷ [])
      ≡ answer accepted ∷ answer (chosen (choice.place 0)) ∷ answer (promotion refining.spent) ∷ answer (chosen (choice.place 0)) ∷ []
  pub budget_five : answers_after (start_log (settings_of 2 0 5)) (deliver (pos 3 ∷ []) 7 ∷ promote 0 ∷ []) ≡ answer accepted ∷ answer (promotion refining.promoted) ∷ []
  -- budget 4, d 2, indicator 0: met, and the promotion is spent
  pub met_and_spent : answers_after (start_log (settings_of 2 0 4)) (deliver (pos 3 ∷ []) 0 ∷ choose ∷ promote 0 ∷ []) ≡ answer accepted ∷ answer (chosen choice.met) ∷ answer (promotion refining.spent) ∷ []
  -- right after start choose and promote are refused by 6, whatever the place
  pub root_wanted : answers_after (start_log (settings_of 2 40 64)) (choose ∷ promote 0 ∷ promote (2 ^ 64 - 1) ∷ []) ≡ answer (refused 6) ∷ answer (refused 6) ∷ answer (refused 6) ∷ []
  -- a place that is none of an active index: the number held, 512, 2^32, 2^64 − 1, and later an old one. The last held place is one, here (1,2),
  -- which is promoted though choose answers place 1, the lower of two equals; and with it (1,3) is held
  pub any_place : answers_after (start_log (settings_of 2 40 64))
      (deliver (pos 3 ∷ []) 40 ∷ choose ∷ promote 1 ∷ promote 512 ∷ promote (2 ^ 32) ∷ promote (2 ^ 64 - 1) ∷ promote 0
      ∷ deliver (pos 1 ∷ pos 2 ∷ []) 30 ∷ deliver (pos 1 ∷ pos 2 ∷ []) 30 ∷ choose ∷ promote 0 ∷ promote 2 ∷ point 0 (9 ∷ 9 ∷ []) ∷ [])
      ≡ answer accepted ∷ answer (chosen choice.met) ∷ answer (refused 11) ∷ answer (refused 11) ∷ answer (refused 11) ∷ answer (refused 11) ∷ answer (promotion refining.promoted)
      ∷ answer accepted ∷ answer accepted ∷ answer (chosen (choice.place 1)) ∷ answer (refused 11) ∷ answer (promotion refining.promoted) ∷ record { reply = accepted; buffer = 64 ∷ 32 ∷ [] } ∷ []
  -- calls in between that leave the log, and refusals: 7, 8, 9, 6, a part too short for 3, 5, and a later start
  pub between : answers_by (start_log (settings_of 2 0 64))
      (whole (point 0 (1 ∷ 2 ∷ 3 ∷ [])) ∷ whole (deliver [] 7) ∷ whole (deliver (pos 1048577 ∷ []) 7) ∷ whole (point 1 (1 ∷ 2 ∷ [])) ∷ whole (promote 0)
      ∷ record { call = result; part = record { cells = 512 * 27 - 1; readings = 64 } } ∷ whole (deliver (pos 3 ∷ []) 7) ∷ whole (deliver (pos 3 ∷ []) 7)
      ∷ whole check ∷ whole (start (settings_of 9 0 64)) ∷ whole cross_total ∷ whole (start (settings_of 1 5 6)) ∷ whole cross_total ∷ [])
      ≡ record { reply = accepted; buffer = 64 ∷ 64 ∷ 3 ∷ [] } ∷ answer (refused 7) ∷ answer (refused 8) ∷ record { reply = refused 9; buffer = 1 ∷ 2 ∷ [] } ∷ answer (refused 6)
      ∷ answer (refused 3) ∷ answer accepted ∷ answer (refused 5)
      ∷ answer (verdict true) ∷ answer (refused 1) ∷ answer (total (pos (3 * 2 ^ 20))) ∷ answer accepted ∷ answer (total (pos 0)) ∷ []
  -- where two causes apply at once, or three, the first in the table's order is returned: of start 1 before 2 and 3, and 2 before 3
  pub start_order : answers_by (start_log (settings_of 2 0 64))
      (few_cells (start (settings_of 9 0 64)) ∷ whole (start (settings_of 9 0 0)) ∷ few_cells (start (settings_of 9 0 0)) ∷ few_cells (start (settings_of 2 0 0)) ∷ [])
      ≡ answer (refused 1) ∷ answer (refused 1) ∷ answer (refused 1) ∷ answer (refused 2) ∷ []
  -- with the root wanted: of deliver 7 before 8, and 3 before both; of choose 3 before 6; of promote 3 before 6 and 11, and 6 before 11; of point
  -- 3 before 9, for storage and for the buffer
  pub wanted_order : answers_by (start_log (settings_of 2 0 64))
      (whole (deliver (pos 1048577 ∷ pos 0 ∷ []) 7) ∷ few_cells (deliver (pos 1048577 ∷ pos 0 ∷ []) 7) ∷ few_readings (deliver [] 7) ∷ few_cells choose ∷ few_readings (promote 0) ∷ few_cells (promote 9)
      ∷ whole (promote 9) ∷ few_readings (point 1 (1 ∷ 2 ∷ [])) ∷ whole (point 1 (1 ∷ [])) ∷ [])
      ≡ answer (refused 7) ∷ answer (refused 3) ∷ answer (refused 3) ∷ answer (refused 3) ∷ answer (refused 3) ∷ answer (refused 3) ∷ answer (refused 6)
      ∷ record { reply = refused 3; buffer = 1 ∷ 2 ∷ [] } ∷ record { reply = refused 3; buffer = 1 ∷ [] } ∷ []
  -- with nothing wanted: of point 5 before 9, and 3 before both; of deliver 5 before 7 and 8, and 3 before all; of promote 3 before 11
  pub delivered_order : answers_by (start_log (settings_of 2 0 64))
      (whole (deliver (pos 3 ∷ []) 7) ∷ whole (point 1 (1 ∷ 2 ∷ [])) ∷ whole (point 1 (1 ∷ [])) ∷ few_cells (point 1 (1 ∷ 2 ∷ [])) ∷ whole (points 1 (1 ∷ 2 ∷ []))
      ∷ whole (deliver (pos 1048577 ∷ pos 0 ∷ []) 7) ∷ few_cells (deliver (pos 1048577 ∷ pos 0 ∷ []) 7) ∷ few_cells (promote 9) ∷ [])
      ≡ answer accepted ∷ record { reply = refused 5; buffer = 1 ∷ 2 ∷ [] } ∷ record { reply = refused 3; buffer = 1 ∷ [] } ∷ record { reply = refused 3; buffer = 1 ∷ 2 ∷ [] }
      ∷ record { reply = refused 5; buffer = 1 ∷ 2 ∷ [] } ∷ answer (refused 5) ∷ answer (refused 3) ∷ answer (refused 3) ∷ []
  -- points: of a block of two, one with room for one and a part, both, the last alone; past the block 9, a buffer under d 3
  pub many_points : answers_after (start_log (settings_of 2 0 64))
      (deliver (pos 3 ∷ []) 7 ∷ promote 0 ∷ points 0 (9 ∷ 9 ∷ 9 ∷ []) ∷ points 0 (9 ∷ 9 ∷ 9 ∷ 9 ∷ 9 ∷ []) ∷ points 1 (9 ∷ 9 ∷ 9 ∷ 9 ∷ 9 ∷ []) ∷ points 2 (9 ∷ 9 ∷ []) ∷ points 0 (9 ∷ []) ∷ [])
      ≡ answer accepted ∷ answer (promotion refining.promoted) ∷ record { reply = wrote 1 2; buffer = 0 ∷ 64 ∷ 9 ∷ [] } ∷ record { reply = wrote 2 2; buffer = 0 ∷ 64 ∷ 128 ∷ 64 ∷ 9 ∷ [] }
      ∷ record { reply = wrote 1 2; buffer = 128 ∷ 64 ∷ 9 ∷ 9 ∷ 9 ∷ [] } ∷ record { reply = refused 9; buffer = 9 ∷ 9 ∷ [] } ∷ record { reply = refused 3; buffer = 9 ∷ [] } ∷ []
  -- the file: its report's figures
  pub file : answers_after (start_log (settings_of 2 40 64)) file_calls
      ≡ answer accepted
      ∷ answer (counts (record { old = 0; active = 1; wanted = 0; reserved = 1; pending = 100; carried = 0; mean = pos 4362076160; ceiling = 0 }))
      ∷ answer (chosen (choice.place 0))
      ∷ answer (promotion refining.promoted)
      ∷ record { reply = accepted; buffer = 0 ∷ 64 ∷ [] }
      ∷ record { reply = accepted; buffer = 128 ∷ 64 ∷ [] }
      ∷ answer accepted
      ∷ answer accepted
      ∷ answer (chosen (choice.place 1))
      ∷ answer (promotion refining.promoted)
      ∷ record { reply = accepted; buffer = 32 ∷ 64 ∷ [] }
      ∷ answer accepted
      ∷ answer (chosen choice.met)
      ∷ answer (counts (record { old = 2; active = 2; wanted = 0; reserved = 7; pending = 10; carried = 0; mean = pos 5972688896; ceiling = 0 }))
      ∷ answer (total (pos 5972688896))
      ∷ answer (verdict true)
      ∷ []
  -- the file through the exported calls: what they return, and their words. Choose's are 4 and the place, or 0 met and 0; the outcome's word is 2
  -- promoted; result's are pending error and mean, low word first, old, active, wanted, reserved and ceiling, and the carried error, low word first; points' are written and
  -- size; cross total's its low word first
  pub file_words : export_answers_by (start_log (settings_of 2 40 64)) (map whole_export file_exports)
      ≡ returned 0 [] []
      ∷ returned 0 (4 ∷ 0 ∷ []) []
      ∷ returned 0 (2 ∷ []) []
      ∷ returned 0 (0 ∷ 0 ∷ 67108864 ∷ 1 ∷ 1 ∷ 0 ∷ 2 ∷ 5 ∷ 0 ∷ 0 ∷ 0 ∷ []) []
      ∷ returned 0 (1 ∷ 2 ∷ []) (0 ∷ 64 ∷ 9 ∷ [])
      ∷ returned 0 [] []
      ∷ returned 0 [] []
      ∷ returned 0 (4 ∷ 1 ∷ []) []
      ∷ returned 0 (2 ∷ []) []
      ∷ returned 0 [] []
      ∷ returned 0 (0 ∷ 0 ∷ []) []
      ∷ returned 0 (10 ∷ 0 ∷ 1677721600 ∷ 1 ∷ 2 ∷ 2 ∷ 0 ∷ 7 ∷ 0 ∷ 0 ∷ 0 ∷ []) []
      ∷ returned 0 (1677721600 ∷ 1 ∷ []) []
      ∷ returned 1 [] []
      ∷ []
  -- spent is 1, and a refusal, here 6 and 11, leaves choose's words and the outcome's; a negative mean is in two's complement
  pub other_words : export_answers_by (start_log (settings_of 2 0 4))
      (whole_export (exports.choose (9 ∷ 9 ∷ [])) ∷ whole_export (exports.promote 0 (9 ∷ [])) ∷ whole_export (exports.deliver (negsuc 0 ∷ []) 7)
      ∷ whole_export (exports.promote 1 (9 ∷ [])) ∷ whole_export (exports.promote 0 (9 ∷ [])) ∷ whole_export (exports.cross_total (9 ∷ 9 ∷ [])) ∷ [])
      ≡ returned 6 (9 ∷ 9 ∷ []) [] ∷ returned 6 (9 ∷ []) [] ∷ returned 0 [] [] ∷ returned 11 (9 ∷ []) [] ∷ returned 0 (1 ∷ []) [] ∷ returned 0 (4293918720 ∷ 4294967295 ∷ []) [] ∷ []
  -- a pending error of more than 32 bits, in both its words
  pub large_pending : export_answers_by (start_log (settings_of 2 0 64))
      (whole_export (exports.deliver (pos 0 ∷ []) 1) ∷ whole_export (exports.promote 0 (9 ∷ [])) ∷ whole_export (exports.deliver (pos 0 ∷ pos 0 ∷ []) 4294967295)
      ∷ whole_export (exports.deliver (pos 0 ∷ pos 0 ∷ []) 4294967295) ∷ whole_export (exports.result []) ∷ [])
      ≡ returned 0 [] [] ∷ returned 0 (2 ∷ []) [] ∷ returned 0 [] [] ∷ returned 0 [] [] ∷ returned 0 (4294967294 ∷ 1 ∷ 0 ∷ 0 ∷ 1 ∷ 2 ∷ 0 ∷ 5 ∷ 0 ∷ 0 ∷ 0 ∷ []) [] ∷ []
  -- level 8 is old with indicator 10: capped, which is 3, under threshold 9, and met under 10. With (8,1) old with indicator 6 and (1,2) active
  -- with 5: capped under threshold 10, met under 11. No list of calls gives these logs; the rows show what the definitions say of them
  pub capped_word : export_answers_by (record { settings = settings_of 1 9 64; entries = bare (pair 8 1) 2 10 ∷ [] }) (whole_export (exports.choose (9 ∷ 9 ∷ [])) ∷ []) ≡ returned 0 (3 ∷ 0 ∷ []) [] ∷ []
  pub met_carried : export_answers_by (record { settings = settings_of 1 10 64; entries = bare (pair 8 1) 2 10 ∷ [] }) (whole_export (exports.choose (9 ∷ 9 ∷ [])) ∷ []) ≡ returned 0 (0 ∷ 0 ∷ []) [] ∷ []
  pub capped_together : export_answers_by (record { settings = settings_of 2 10 64; entries = bare (pair 8 1) 2 6 ∷ bare (pair 1 2) 1 5 ∷ [] }) (whole_export (exports.choose (9 ∷ 9 ∷ [])) ∷ []) ≡ returned 0 (3 ∷ 0 ∷ []) [] ∷ []
  pub met_together : export_answers_by (record { settings = settings_of 2 11 64; entries = bare (pair 8 1) 2 6 ∷ bare (pair 1 2) 1 5 ∷ [] }) (whole_export (exports.choose (9 ∷ 9 ∷ [])) ∷ []) ≡ returned 0 (0 ∷ 0 ∷ []) [] ∷ []
  -- a carried error of more than 32 bits, in both its words, which are the last two
  pub large_carried : export_answers_by (record { settings = settings_of 2 0 64; entries = bare (pair 8 1) 2 4294967295 ∷ bare (pair 1 8) 2 4294967295 ∷ [] })
      (whole_export (exports.result []) ∷ []) ≡ returned 0 (0 ∷ 0 ∷ 0 ∷ 0 ∷ 2 ∷ 0 ∷ 0 ∷ 128 ∷ 2 ∷ 4294967294 ∷ 1 ∷ []) [] ∷ []
  -- an exported call returns the number of the cause itself
  pub number_returned : (n : ℕ) → number_of (refused n) ≡ n
  -- along how many of three axes the forward neighbour passes a ceiling: (5,5,5) has an excess of 12, (8,1,1) a level of 8, (1,1,1) is the root
  pub ceiling_axes : (capped_axes 3 (5 ∷ 5 ∷ 5 ∷ []) ≡ 3) × (capped_axes 3 (8 ∷ 1 ∷ 1 ∷ []) ≡ 1) × (capped_axes 3 (1 ∷ 1 ∷ 1 ∷ []) ≡ 0)
