-- The program is a list of calls: the execution of a job file of the right form that start accepts is a list of the third demand, its log is
-- the one that is printed from, and where it prints `end met` or `end capped` the loop of Fig. 1 has ended with the result that is printed as
-- `scaled`; where it prints `end spent` the loop's next turn would pass the limits, and where `end short` a block is wanted still.
use Rattle.std.specs.Prelude.{◌≡◌, ◌⊎◌, true, false, List, [], ◌∷◌, ◌++◌, ℕ, suc, ◌+◌, ◌-◌, ◌<◌, ◌≤◌, ◌+ℤ◌}
use Rattle.sums.specs.Sums.{sum_of}
use Rattle.area.specs.Log.{Log, Machine}
use Rattle.machine.specs.Log.{any_wanted}
use Rattle.machine.specs.Choose as choice
use Rattle.machine.specs.Promote as refining
use Rattle.machine.specs.Steps.{start_log}
use Rattle.machine.specs.Counts.{count_of}
use Rattle.machine.specs.Admitted.{total_of}
use Rattle.calls.specs.Replies.{refused, accepted, chosen, promotion}
use Rattle.calls.specs.Table.{Call, Answer, answer}
use Rattle.published.specs.Figure.{Problem, increment, loop_condition, turns}
use Rattle.published.specs.Turns.{wanted_of, SettingsMatch, ReadingValued, Supplied, SuppliedSoFar, ExceedsLimits}
use Rattle.history.specs.Logged.{state_of, log_after, answer_by, answers_by}
use Rattle.history.specs.Storage.{Storage, Lent}
use Rattle.history.specs.Promotions.{AllChosen}
use Rattle.history.specs.Found.{Demand}
use Rattle.history.specs.Source.{MeanFollows, Follows, FollowsSoFar, StepsFollow, RuleFollows, lend_all, Taken}
use Rattle.jobfile.specs.Form.{formed, form_of, entry_count, entry_byte}
use Rattle.reporting.specs.Text.{line, end_word, Ending, met, capped, spent, short, ending_word, report_text, refusal_text}
use Rattle.running.specs.Execution.{Result, refused_at, ended, unfinished, delivery_byte, start_byte, start_cause, result_of, file_settings}
use Rattle.running.specs.Report.{report_values_of, text_of}
use Rattle.running.specs.Facts.{ByDelivery, NamesReading}
use Rattle.program_calls.specs.Calls.{own_part, own_lent, lent, start_call, entry_call, InTurn, later_calls, program_log, program_promotions, deliveries_from}

-- ---- the answers

-- Every answer is *accepted*, a place or *promoted*.
abbrev pub AllTaken : List Answer → Type 0
AllTaken [] = Unit {0}
AllTaken (y ∷ ys) = Taken y × AllTaken ys

-- The last answer is y, and all before it are such.
pub record LastAnswer (y : Answer) (ys : List Answer) : Type 0 where
  pub before : List Answer
  pub all : ys ≡ before ++ y ∷ []
  pub taken : AllTaken before

-- ---- the calls xs, made from the log l on with i entries delivered

-- How the answers ys end, by the ending, with the state m and so many entries used. *Met* and *capped* are the last answer, with nothing wanted,
-- and what choose answers at that state; so is *spent*, which is what promote then answers at the place that choose answers. *Short* is no answer: a
-- block is wanted, and no entry is left.
abbrev pub EndingAnswers : List ℕ → Ending → Machine → (used : ℕ) → List Answer → Type 0
EndingAnswers c met m used ys = LastAnswer (answer (chosen choice.met)) ys × (any_wanted m.log.entries ≡ false) × (choice.choose m.log ≡ choice.met)
EndingAnswers c capped m used ys = LastAnswer (answer (chosen choice.capped)) ys × (any_wanted m.log.entries ≡ false) × (choice.choose m.log ≡ choice.capped)
EndingAnswers c spent m used ys =
    LastAnswer (answer (promotion refining.spent)) ys × (any_wanted m.log.entries ≡ false)
    × ((p : ℕ) × (choice.choose m.log ≡ choice.place p) × ((refining.promote_at m.log p).outcome ≡ refining.spent))
EndingAnswers c short m used ys = AllTaken ys × (any_wanted m.log.entries ≡ true) × (entry_count c ≤ used)

-- They end, with the state m and so many entries used.
pub record EndsBy (c : List ℕ) (l : Log) (i : ℕ) (xs : List Call) (e : Ending) (m : Machine) (used : ℕ) : Type 0 where
  -- the state is the one that the log after the calls stands for: its log is that log, its mean the combination sum
  pub state : m ≡ state_of (log_after l (lend_all own_part xs))
  -- with the file's settings
  pub settings : m.log.settings ≡ file_settings c
  pub answers : EndingAnswers c e m used (answers_by l (lend_all own_part xs))
  -- every entry used was delivered by one of the calls
  pub entries : used ≡ deliveries_from i xs

-- The last of them is refused.
pub record RefusedBy (c : List ℕ) (l : Log) (i : ℕ) (xs : List Call) (number byte : ℕ) : Type 0 where
  -- by 7 or 8
  pub cause : ByDelivery number
  -- which is what the call answers
  pub answers : LastAnswer (answer (refused number)) (answers_by l (lend_all own_part xs))
  -- it is the delivery of this entry, whose count field or reading the byte names
  pub entry : ℕ
  pub there : entry < entry_count c
  pub last : deliveries_from i xs ≡ suc entry
  pub before : List Call
  pub delivery : xs ≡ before ++ entry_call c entry ∷ []
  pub named : byte ≡ delivery_byte c entry number
  -- 7 the count field
  pub count_field : number ≡ 7 → byte ≡ entry_byte entry + 4
  -- 8 the first reading of this entry that is out of range
  pub reading : number ≡ 8 → NamesReading c entry byte

-- What the execution comes to, as what the calls come to. That it is never unfinished is `ExecutionFacts.ends` (crate `running`).
abbrev pub ResultBy : List ℕ → Log → (i : ℕ) → List Call → Result → Type 0
ResultBy c l i xs (refused_at number byte) = RefusedBy c l i xs number byte
ResultBy c l i xs (ended e m used) = EndsBy c l i xs e m used
ResultBy c l i xs unfinished = Unit {0}

-- ---- beside Fig. 1

-- The loop of Fig. 1 has ended with the state m: n is the number of its turns, e whether it is called met or capped.
pub record LoopEnded (P : Problem) (c : List ℕ) (e : Ending) (m : Machine) (used n : ℕ) : Type 0 where
  -- Fig. 1 has the log's state
  pub follows : Follows P (program_log c) (turns P n)
  -- its test held before each turn, and fails after them
  pub went_on : (k : ℕ) → k < n → loop_condition P (turns P k) ≡ true
  pub over : loop_condition P (turns P n) ≡ false
  -- what is printed as `scaled` is its r, as `pending` its η, and as `carried` its variable of that name
  pub scaled : (report_values_of e m (entry_count c - used)).scaled ≡ (turns P n).result
  pub pending : (report_values_of e m (entry_count c - used)).pending ≡ (turns P n).estimate
  pub carried : (report_values_of e m (entry_count c - used)).carried ≡ (turns P n).carried

-- After n turns η and carried together are at most TOL.
abbrev pub WithinTolerance : Problem → ℕ → Type 0
WithinTolerance P n = (turns P n).estimate + (turns P n).carried ≤ P.tolerance

-- The run is *spent* at the state m: n turns are made, and after the next one 𝒪 and 𝒜 would be past the limits.
pub record LoopSpent (P : Problem) (c : List ℕ) (m : Machine) (used n : ℕ) : Type 0 where
  -- Fig. 1 has the log's state
  pub follows : Follows P (program_log c) (turns P n)
  -- its test held before each turn, and holds after them still
  pub went_on : (k : ℕ) → k < n → loop_condition P (turns P k) ≡ true
  pub not_over : loop_condition P (turns P n) ≡ true
  pub exceeds : ExceedsLimits (file_settings c).budget (turns P (suc n))
  -- and what is printed as `scaled` is its r so far
  pub scaled : (report_values_of spent m (entry_count c - used)).scaled ≡ (turns P n).result
  -- as `pending` its η, and as `carried` its variable of that name
  pub pending : (report_values_of spent m (entry_count c - used)).pending ≡ (turns P n).estimate
  pub carried : (report_values_of spent m (entry_count c - used)).carried ≡ (turns P n).carried

-- The run is *short* at the state m: n turns are begun, and of the last, or of the lines before the loop, a block is wanted still.
pub record LoopShort (P : Problem) (c : List ℕ) (m : Machine) (used n : ℕ) : Type 0 where
  -- Fig. 1 has the log's state but for what is wanted
  pub follows : FollowsSoFar P (program_log c) (turns P n)
  -- its test held before each turn
  pub went_on : (k : ℕ) → k < n → loop_condition P (turns P k) ≡ true
  -- and what is printed as `scaled` is its r without the increments of the wanted
  pub scaled : (report_values_of short m (entry_count c - used)).scaled +ℤ sum_of (wanted_of (program_log c).entries) (increment P) ≡ (turns P n).result
  -- as `pending` its η without the indicators of the wanted, and as `carried` its variable of that name
  pub pending : (report_values_of short m (entry_count c - used)).pending + total_of P.indicator (wanted_of (program_log c).entries) ≡ (turns P n).estimate
  pub carried : (report_values_of short m (entry_count c - used)).carried ≡ (turns P n).carried

-- ---- the program

-- There is a problem that gives the file's readings and indicators.
abbrev pub Posed : List ℕ → Type 0
Posed c = (P : Problem) × SettingsMatch (file_settings c) P × ReadingValued P × Supplied P (program_log c).entries

-- Of a file of the right form that start accepts:
pub record ProgramIsCalls (c : List ℕ) : Type 0 where
  -- start is accepted, whatever the log was
  pub starts : (l : Log) → answer_by own_lent l (start_call c) ≡ answer accepted
  -- the start and the later calls are a list of the third demand, in any storage of that size
  pub demand : (w : Storage) → Lent w own_part → Demand w (lent (start_call c)) (lend_all own_part (later_calls c)) (file_settings c)
  -- after them the log follows Fig. 1, led by the indices made old
  pub means : MeanFollows (program_log c)
  pub steps : StepsFollow (program_log c) (program_promotions c)
  -- choose and promote come in turn
  pub in_turn : InTurn (start_log (file_settings c)) (later_calls c)
  -- so each promoted place is the one that choose answers, and it is Fig. 1 itself
  pub places : AllChosen (start_log (file_settings c)) (lend_all own_part (later_calls c))
  pub rule : RuleFollows (program_log c) (program_promotions c)
  -- what the execution comes to is what the calls come to
  pub result : ResultBy c (start_log (file_settings c)) 0 (later_calls c) (result_of c)
  -- so where it ends, it is printed from the state that the calls' log stands for
  pub ends : (e : Ending) (m : Machine) (used : ℕ) → result_of c ≡ ended e m used → EndsBy c (start_log (file_settings c)) 0 (later_calls c) e m used
  pub printed : (e : Ending) (m : Machine) (used : ℕ) → result_of c ≡ ended e m used → (m ≡ state_of (program_log c)) × (text_of c ≡ report_text (report_values_of e (state_of (program_log c)) (entry_count c - used)))
  -- and where it is refused, the last call is refused by that number
  pub refuses : (number byte : ℕ) → result_of c ≡ refused_at number byte → RefusedBy c (start_log (file_settings c)) 0 (later_calls c) number byte × (text_of c ≡ refusal_text number byte)
  -- where it prints `end met` or `end capped` the loop of Fig. 1 has ended, for every problem that gives the file's readings and indicators;
  -- there is one
  pub loop_ended : (e : Ending) (m : Machine) (used : ℕ) → (e ≡ met) ⊎ (e ≡ capped) → result_of c ≡ ended e m used → (P : Problem) → SettingsMatch (file_settings c) P
      → Supplied P (program_log c).entries → LoopEnded P c e m used (count_of 2 (program_log c).entries)
  pub problem : (e : Ending) (m : Machine) (used : ℕ) → (e ≡ met) ⊎ (e ≡ capped) → result_of c ≡ ended e m used → Posed c

-- Of every list of bytes whose text has the word of e in its last line: it is a file of the right form that start accepts, and its execution
-- ends so, with a state and so many entries used.
pub record PrintedEnd (c : List ℕ) (e : Ending) : Type 0 where
  pub right : form_of c ≡ formed
  pub starts : start_cause c ≡ 0
  pub state : Machine
  pub used : ℕ
  pub result : result_of c ≡ ended e state used

-- Where the last line is `end met`:
pub record EndMet (c : List ℕ) : Type 0 where
  pub printed : PrintedEnd c met
  -- the loop of Fig. 1 has ended, `scaled` is its r, and η and carried together are at most TOL, for every problem that gives the file's
  -- readings and indicators; there is one
  pub loop : (P : Problem) → SettingsMatch (file_settings c) P → Supplied P (program_log c).entries
      → LoopEnded P c met printed.state printed.used (count_of 2 (program_log c).entries) × WithinTolerance P (count_of 2 (program_log c).entries)
  pub problem : Posed c

-- Where it is `end capped`:
pub record EndCapped (c : List ℕ) : Type 0 where
  pub printed : PrintedEnd c capped
  -- the loop of Fig. 1 has ended, `scaled` is its r, and η and carried together are above TOL
  pub loop : (P : Problem) → SettingsMatch (file_settings c) P → Supplied P (program_log c).entries
      → LoopEnded P c capped printed.state printed.used (count_of 2 (program_log c).entries) × (WithinTolerance P (count_of 2 (program_log c).entries) → ⊥)
  pub problem : Posed c

-- Where it is `end spent`:
pub record EndSpent (c : List ℕ) : Type 0 where
  pub printed : PrintedEnd c spent
  -- the loop of Fig. 1 has not ended, and its next turn would pass the limits
  pub loop : (P : Problem) → SettingsMatch (file_settings c) P → Supplied P (program_log c).entries
      → LoopSpent P c printed.state printed.used (count_of 2 (program_log c).entries)
  pub problem : Posed c

-- Where it is `end short`:
pub record EndShort (c : List ℕ) : Type 0 where
  pub printed : PrintedEnd c short
  -- entries exhausted, block wanted
  pub exhausted : printed.used ≡ entry_count c
  pub wanted : any_wanted (program_log c).entries ≡ true
  -- the log follows Fig. 1 but for what is wanted, for every problem that gives the readings and indicators delivered; there is one
  pub loop : (P : Problem) → SettingsMatch (file_settings c) P → SuppliedSoFar P (program_log c).entries
      → LoopShort P c printed.state printed.used (count_of 2 (program_log c).entries)
  pub problem : (P : Problem) × SettingsMatch (file_settings c) P × ReadingValued P × SuppliedSoFar P (program_log c).entries

pub record ProgramFacts : Type 0 where
  pub calls : (c : List ℕ) → form_of c ≡ formed → start_cause c ≡ 0 → ProgramIsCalls c
  -- a file that start refuses: that is its only call, and it is refused by the number that is printed
  pub start_refused : (c : List ℕ) → form_of c ≡ formed → (start_cause c ≡ 0 → ⊥) → (l : Log)
      → (answer_by own_lent l (start_call c) ≡ answer (refused (start_cause c))) × (text_of c ≡ refusal_text (start_cause c) (start_byte (start_cause c)))
  -- where it prints `end met`, `end capped`, `end spent` and `end short`
  pub end_met : (c before : List ℕ) → text_of c ≡ before ++ line end_word (ending_word met) → EndMet c
  pub end_capped : (c before : List ℕ) → text_of c ≡ before ++ line end_word (ending_word capped) → EndCapped c
  pub end_spent : (c before : List ℕ) → text_of c ≡ before ++ line end_word (ending_word spent) → EndSpent c
  pub end_short : (c before : List ℕ) → text_of c ≡ before ++ line end_word (ending_word short) → EndShort c
