-- What a call answers, and the scope document's number and values for each result of the code.
use Rattle.std.specs.Prelude.{Bool, ⊤, ℕ, ℤ, Result, Ok, Err, length}
use Rattle.doubles.specs.declared.Report.{Report}
use Rattle.area.specs.Encoding.{Area}
use Rattle.machine.specs.Choose as choice
use Rattle.machine.specs.Promote.{Outcome}
use Rattle.machine.specs.Causes.{Lengths}
use Rattle.machine.specs.Counts.{Counts}
use Rattle.delivery.specs.declared.PointCounts.{PointCounts}
use Rattle.promotion.specs.declared.Choice as selecting
use Rattle.promotion.specs.declared.Outcome as refining
use Rattle.promotion.specs.Outcomes.{choice_of, outcome_of}
use Rattle.counting.specs.declared.Counts as counting
use Rattle.counting.specs.Answer.{counts_in}
use Rattle.calls.specs.declared.cause.Cause.{Cause}
use Rattle.calls.specs.Cause.{number_of_cause}

-- A refusal has the number of its cause. Start, point and deliver are otherwise accepted; points says how many it wrote and how many the block
-- has; choose has its choice, promote its outcome, result its counts, doubles its report, cross total its total; check says yes or no.
pub data Reply : Type 0 where
  refused : ℕ → Reply
  accepted : Reply
  wrote : (written size : ℕ) → Reply
  chosen : choice.Choice → Reply
  promotion : Outcome → Reply
  counts : Counts → Reply
  doubled : Report → Reply
  total : ℤ → Reply
  verdict : Bool → Reply

-- The answer of a call that gives a value unless it is refused.
abbrev pub reply_by : {A : Type 0} → (A → Reply) → Result A Cause → Reply
reply_by f (Ok x) = f x
reply_by f (Err c) = refused (number_of_cause c)

-- Of start, point and deliver.
abbrev pub reply_of : Result ⊤ Cause → Reply
reply_of = reply_by (λ u. accepted)

abbrev pub reply_of_points : Result PointCounts Cause → Reply
reply_of_points = reply_by (λ (c : PointCounts). wrote c.written c.size)

abbrev pub reply_of_choose : Result selecting.Choice Cause → Reply
reply_of_choose = reply_by (λ c. chosen (choice_of c))

abbrev pub reply_of_promote : Result refining.Outcome Cause → Reply
reply_of_promote = reply_by (λ o. promotion (outcome_of o))

abbrev pub reply_of_result : Result counting.Counts Cause → Reply
reply_of_result = reply_by (λ c. counts (counts_in c))

abbrev pub reply_of_doubles : Result Report Cause → Reply
reply_of_doubles = reply_by doubled

abbrev pub reply_of_total : Result ℤ Cause → Reply
reply_of_total = reply_by total

-- The lengths of the storage that an area lies in.
abbrev pub lengths_of : Area → Lengths
lengths_of a = record { records = length a.run.records; readings = length a.store }
