-- The *log* after a list of calls, and what each call answers by it ("The third demand's list"). Everything here is worked from the calls'
-- arguments, the lengths of what is lent, and the log; the area does not occur. What a call does is its row of the table (crate `calls`,
-- specs/Table.antt) at the log.
use Rattle.std.specs.Prelude.{◌≡◌, true, List, [], ◌∷◌, ℕ, ℤ}
use Rattle.area.specs.declared.Settings.{Settings}
use Rattle.area.specs.Log.{Log, Machine, with_entries}
use Rattle.machine.specs.Promote as refining
use Rattle.machine.specs.Steps.{start_log, deliver_log}
use Rattle.machine.specs.Causes.{Lengths}
use Rattle.machine.specs.Means.{cross_of}
use Rattle.calls.specs.Table.{Call, start, point, points, deliver, choose, promote, result, doubles, cross_total, check, Answer, refusal, answer_of, state_after}
use Rattle.history.specs.LentCalls.{LentCall, lengths_lent}

-- The state that a log stands for. The mean is the combination sum over the delivered entries, from their readings; so result and cross
-- total give the same.
unfoldable pub state_of : Log → Machine
state_of l = record { log = l; mean = cross_of l.entries }

-- The number of the first cause that refuses a call, 0 if none does. Where the table asks whether the area is sound, the log says yes, so
-- cause 4 never comes; that the calls answer so is claimed in Found.antt.
abbrev pub refusal_by : Lengths → Log → Call → ℕ
refusal_by z l c = refusal z true l c

-- ---- the log

-- The log of the state after the call. What that is, call by call, is `LogFacts`.
unfoldable pub log_step : Log → LentCall → Log
log_step l x = (state_after (lengths_lent x.part) true (state_of l) x.call).log

unfoldable pub log_after : Log → List LentCall → Log
log_after l [] = l
log_after l (x ∷ xs) = log_after (log_step l x) xs

-- ---- the answers

-- Check says no to short storage alone.
unfoldable pub answer_by : Lengths → Log → Call → Answer
answer_by z l c = answer_of z true (state_of l) c

unfoldable pub answers_by : Log → List LentCall → List Answer
answers_by l [] = []
answers_by l (x ∷ xs) = answer_by (lengths_lent x.part) l x.call ∷ answers_by (log_step l x) xs

-- ---- the log's step, call by call

abbrev pub AcceptedBy : Log → LentCall → Type 0
AcceptedBy l x = refusal_by (lengths_lent x.part) l x.call ≡ 0

pub record LogFacts : Type 0 where
  -- an accepted start leaves in it the settings and the root alone, wanted
  pub accepted_start : (l : Log) (x : LentCall) (g : Settings) → x.call ≡ start g → AcceptedBy l x → log_step l x ≡ start_log g
  -- an accepted deliver makes the first wanted entry active, with its readings and indicator
  pub accepted_deliver : (l : Log) (x : LentCall) (rs : List ℤ) (i : ℕ) → x.call ≡ deliver rs i → AcceptedBy l x → log_step l x ≡ deliver_log l rs i
  -- a promote that is *promoted* makes the entry at its place old and appends the admitted, wanted; one that is spent leaves it
  pub accepted_promote : (l : Log) (x : LentCall) (p : ℕ) → x.call ≡ promote p → AcceptedBy l x → (refining.promote_at l p).outcome ≡ refining.promoted
      → log_step l x ≡ with_entries l (refining.refine l.settings.axes l.entries p)
  pub idle_promote : (l : Log) (x : LentCall) (p : ℕ) → x.call ≡ promote p → ((refining.promote_at l p).outcome ≡ refining.promoted → ⊥) → log_step l x ≡ l
  -- any call besides, and any refused one, leaves it
  pub after_choose : (l : Log) (x : LentCall) → x.call ≡ choose → log_step l x ≡ l
  pub after_point : (l : Log) (x : LentCall) (n : ℕ) (buffer : List ℕ) → x.call ≡ point n buffer → log_step l x ≡ l
  pub after_points : (l : Log) (x : LentCall) (n : ℕ) (buffer : List ℕ) → x.call ≡ points n buffer → log_step l x ≡ l
  pub after_result : (l : Log) (x : LentCall) → x.call ≡ result → log_step l x ≡ l
  pub after_doubles : (l : Log) (x : LentCall) → x.call ≡ doubles → log_step l x ≡ l
  pub after_cross : (l : Log) (x : LentCall) → x.call ≡ cross_total → log_step l x ≡ l
  pub after_check : (l : Log) (x : LentCall) → x.call ≡ check → log_step l x ≡ l
  pub after_refusal : (l : Log) (x : LentCall) → (AcceptedBy l x → ⊥) → log_step l x ≡ l
