-- A call on an area: its row of the table (Table.antt) at the lengths of the storage, whether the area is sound by the clauses (crate
-- `soundness`, specs/Clauses.antt), and the state that the area holds. A refused call changes nothing; an accepted one leaves the area
-- itself or the next state written into it.
use Rattle.std.specs.Prelude.{cond, List, ℕ, eqb, ℤ}
use Rattle.area.specs.declared.JobRecord.{JobRecord}
use Rattle.area.specs.Encoding.{Area, area_of, machine_of, written}
use Rattle.soundness.specs.Clauses.{is_sound}
use Rattle.machine.specs.Causes.{first_cause, point_causes, deliver_causes, choose_causes, promote_causes, result_causes}
use Rattle.calls.specs.Replies.{Reply, lengths_of}
use Rattle.calls.specs.Table.{Call, Effect, unchanged, becomes, Answer, answer, row, effect_of, refusal, answer_of}

-- What a call leaves: its answer, with the buffer, and the area.
pub record CallResult : Type 0 where
  pub answer : Answer
  pub area : Area

-- The area after an accepted call.
unfoldable pub area_after : Area → Effect → Area
area_after a unchanged = a
area_after a (becomes m) = written a m

-- Why a call is refused: the number of the first cause that applies, 0 if none does.
abbrev pub refusal_on : Area → Call → ℕ
refusal_on a c = refusal (lengths_of a) (is_sound a) (machine_of a).log c

unfoldable pub call_on : Area → Call → CallResult
call_on a c =
    record {
      answer = answer_of (lengths_of a) (is_sound a) (machine_of a) c;
      area = cond (eqb (refusal_on a c) 0) (area_after a (effect_of (machine_of a) (row c))) a;
    }

-- What start, deliver and promote leave: the answer, and the area in the job record, the cells and the store.
abbrev pub call_result_of : Reply → JobRecord → List ℕ → List ℤ → CallResult
call_result_of r j c s = record { answer = answer r; area = area_of j c s }

-- ---- for the functions that look for a cause: the same numbers, from what each function is handed

abbrev pub point_cause : Area → (n room : ℕ) → ℕ
point_cause a n w = first_cause (point_causes (lengths_of a) (is_sound a) (machine_of a).log n w)

abbrev pub deliver_cause : Area → List ℤ → ℕ
deliver_cause a rs = first_cause (deliver_causes (lengths_of a) (is_sound a) (machine_of a).log rs)

abbrev pub choose_cause : Area → ℕ
choose_cause a = first_cause (choose_causes (lengths_of a) (is_sound a) (machine_of a).log)

abbrev pub promote_cause : Area → (p : ℕ) → ℕ
promote_cause a p = first_cause (promote_causes (lengths_of a) (is_sound a) (machine_of a).log p)

-- Result, doubles and cross total ask for storage and area alone.
abbrev pub area_cause : Area → ℕ
area_cause a = first_cause (result_causes (lengths_of a) (is_sound a) (machine_of a).log)
