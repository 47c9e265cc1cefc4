-- What a run comes to, for every list of bytes; that it ends by itself, the limit on its steps being never what ends it; and that 512 bytes
-- suffice for its text.
use Rattle.std.specs.Prelude.{◌≡◌, ◌⊎◌, false, List, ◌++◌, ℕ, ◌+◌, ◌*◌, ◌-◌, ◌<◌, ◌≤◌, ℤ, pos, length, get_or, take, drop, Ok}
use Rattle.grid.specs.Terms.{IsReading}
use Rattle.area.specs.Log.{Machine}
use Rattle.encoding.specs.Entries.{SoundMachine}
use Rattle.machine.specs.Means.{mean_of, cross_of}
use Rattle.machine.specs.Causes.{in_range}
use Rattle.jobfile.specs.Bytes.{four, signed_four}
use Rattle.jobfile.specs.Form.{Fault, formed, broken, form_of, entry_count, entry_byte}
use Rattle.jobfile.specs.File.{entry_of}
use Rattle.reporting.specs.Text.{Ending, ReportValues, report_text, refusal_text}
use Rattle.running.specs.Execution.{Result, refused_at, ended, unfinished, first_out_of_range, delivery_byte, result_of}
use Rattle.running.specs.Report.{report_values_of, text_of}
use Rattle.running.specs.Code.{too_short, report, refusal, answer_in, run_on}

-- The numbers by which start and a delivery can refuse a file.
abbrev pub ByStart : ℕ → Type 0
ByStart n = (n ≡ 1) ⊎ (n ≡ 2)

abbrev pub ByDelivery : ℕ → Type 0
ByDelivery n = (n ≡ 7) ⊎ (n ≡ 8)

-- A state that a run reaches: the clauses of soundness hold, and the mean that is printed as `scaled` is the sum of the delivered indices'
-- differences, and the combination sum.
pub record RunInvariant (m : Machine) : Type 0 where
  pub sound : SoundMachine m
  pub differences : m.mean ≡ mean_of m.log.entries
  pub combination : m.mean ≡ cross_of m.log.entries

-- What a file of the right form comes to; n is the number of its entries.
abbrev pub AllowedResult : (n : ℕ) → Result → Type 0
AllowedResult n (refused_at number byte) = ByStart number ⊎ ByDelivery number
AllowedResult n (ended e m used) = RunInvariant m × (used ≤ n)
AllowedResult n unfinished = ⊥

-- ---- the byte that a refusal names

-- Number n, from 0, of these readings is out of range, and the first that is.
pub record FirstOut (rs : List ℤ) (n : ℕ) : Type 0 where
  pub there : n < length rs
  pub out : IsReading (get_or rs n (pos 0)) → ⊥
  pub before : (k : ℕ) → k < n → IsReading (get_or rs k (pos 0))

-- 8 names the reading: at this byte stands a reading of entry i that is out of range, the first that is.
pub record NamesReading (c : List ℕ) (i byte : ℕ) : Type 0 where
  -- its number among the entry's readings, from 0
  pub number : ℕ
  pub there : number < four c (entry_byte i + 4)
  pub named : byte ≡ four c (entry_byte i + 8) + 4 * number
  pub out : IsReading (signed_four c byte) → ⊥
  pub before : (k : ℕ) → k < number → IsReading (signed_four c (four c (entry_byte i + 8) + 4 * k))

abbrev pub AxesFit : List ℕ → Type 0
AxesFit c = (1 ≤ four c 0) × (four c 0 ≤ 8)

abbrev pub BudgetFits : List ℕ → Type 0
BudgetFits c = (1 ≤ four c 4) × (four c 4 ≤ 8192)

pub record ExecutionFacts : Type 0 where
  -- a broken form is refused by the number of its fault, 10, 12 or 13 by the part of the file (`FormFacts.by_byte`, crate `jobfile`), at the byte
  -- that the fault names, before all else
  pub malformed : (c : List ℕ) (f : Fault) → form_of c ≡ broken f → result_of c ≡ refused_at f.number f.byte
  -- these numbers come of nothing else: a file of the right form is refused by 1, 2, 7 or 8, or it ends
  pub well_formed : (c : List ℕ) → form_of c ≡ formed → AllowedResult (entry_count c) (result_of c)
  -- numbers 1 and 2 name bytes 0 and 4
  pub axes_refused : (c : List ℕ) → form_of c ≡ formed → (AxesFit c → ⊥) → result_of c ≡ refused_at 1 0
  pub budget_refused : (c : List ℕ) → form_of c ≡ formed → AxesFit c → (BudgetFits c → ⊥) → result_of c ≡ refused_at 2 4
  -- 7 names the entry's count field, 8 the reading; that the entry is the one refused is `RefusedBy` (crate `program_calls`)
  pub count_byte : (c : List ℕ) (i : ℕ) → delivery_byte c i 7 ≡ entry_byte i + 4
  pub reading_byte : (c : List ℕ) (i : ℕ) → in_range (entry_of c i).readings ≡ false → NamesReading c i (delivery_byte c i 8)
  pub named_reading : (rs : List ℤ) (k : ℕ) → k < length rs → (IsReading (get_or rs k (pos 0)) → ⊥) → FirstOut rs (first_out_of_range rs)
  -- the first 38,937 bytes decide what is printed, a refusal's number and byte included: a program need not read more
  pub decided : (c : List ℕ) → 38937 ≤ length c → text_of (take 38937 c) ≡ text_of c
  pub ends : (c : List ℕ) → result_of c ≡ unfinished → ⊥
  pub room : (c : List ℕ) → length (text_of c) ≤ 512
  -- so what an answer counts are bytes of the buffer
  pub within : (c buffer : List ℕ) (n : ℕ) → answer_in c (Ok n) ≡ (run_on c buffer).answer → n ≤ length buffer
  -- too short has no number and leaves the buffer
  pub short_buffer : (c buffer : List ℕ) → length buffer < 512 → run_on c buffer ≡ record { answer = too_short; buffer = buffer }
  -- a refusal is written with its number and byte, and a report with its figures, each at the front of the buffer, whose later bytes stay
  pub refusal_written : (c buffer : List ℕ) (number byte : ℕ) → 512 ≤ length buffer → result_of c ≡ refused_at number byte
      → run_on c buffer ≡ record { answer = refusal number byte (length (refusal_text number byte)); buffer = refusal_text number byte ++ drop (length (refusal_text number byte)) buffer }
  pub report_written : (c buffer : List ℕ) (e : Ending) (m : Machine) (used : ℕ) (f : ReportValues) → 512 ≤ length buffer → result_of c ≡ ended e m used → f ≡ report_values_of e m (entry_count c - used)
      → run_on c buffer ≡ record { answer = report f (length (report_text f)); buffer = report_text f ++ drop (length (report_text f)) buffer }
