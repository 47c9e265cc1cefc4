-- The log's step, call by call.
-- The idea: read the row off.
-- Assumes nothing.
use mathlib.Core.Path.{◌≡◌, refl, ap, sym, ◌∙◌, subst}
use mathlib.Core.Bool.{Bool, true, false, cond}
use borrow.Author.Tests.{eqb-true, eqb-false, ne_eqb}
use Prim.Native.Nat.{ℕ}
use lib.Dec.{eqb}
use Rattle.area.specs.Log.{Log, Machine}
use Rattle.machine.specs.Promote as refining
use Rattle.machine.specs.Steps as steps
use Rattle.calls.specs.Table.{Call, start, point, points, deliver, choose, promote, result, doubles, cross_total, check, unchanged, row, effect_of, refusal, changed, state_after}
use Rattle.machine.proofs.Answers.{promoted_log, same_log}
use Rattle.calls.proofs.Rows.{promote_effect}
use Rattle.history.specs.LentCalls.{LentCall, lengths_lent}
use Rattle.history.specs.Logged.{state_of, refusal_by, log_step, AcceptedBy, LogFacts}

-- the step of a call that is known
step_of : (l : Log) (x : LentCall) (c : Call) → x.call ≡ c → log_step l x ≡ (state_after (lengths_lent x.part) true (state_of l) c).log
unfolding log_step
step_of l x c is = ap (λ (d : Call). (state_after (lengths_lent x.part) true (state_of l) d).log) is

accepted_step : (l : Log) (x : LentCall) (c : Call) → x.call ≡ c → AcceptedBy l x → log_step l x ≡ (changed (state_of l) (effect_of (state_of l) (row c))).log
unfolding state_after state_of
accepted_step l x c is none = step_of l x c is ∙ rw (ap (refusal_by (lengths_lent x.part) l) (sym is) ∙ none) refl

-- whether it is refused or not, a state that does not change stays
same : (t : Bool) (m : Machine) → (cond t m m).log ≡ m.log
same true m = refl
same false m = refl

looks_only : (l : Log) (x : LentCall) (c : Call) → x.call ≡ c → effect_of (state_of l) (row c) ≡ unchanged → log_step l x ≡ l
unfolding state_after changed state_of
looks_only l x c is e = step_of l x c is ∙ rw e (same (eqb (refusal (lengths_lent x.part) true l c) 0) (state_of l))

refused_step : (l : Log) (x : LentCall) → (AcceptedBy l x → ⊥) → log_step l x ≡ l
unfolding log_step state_after state_of
refused_step l x f = ap (λ (t : Bool). (cond t (changed (state_of l) (effect_of (state_of l) (row x.call))) (state_of l)).log) (ne_eqb (refusal_by (lengths_lent x.part) l x.call) 0 f)

pub promote_accepted : (l : Log) (x : LentCall) (p : ℕ) → x.call ≡ promote p → AcceptedBy l x → log_step l x ≡ (refining.promote_at l p).log
promote_accepted l x p is none = accepted_step l x (promote p) is none ∙ ap (λ (m : Machine). m.log) (promote_effect (state_of l) p) ∙ unfold steps.promote_step state_of in refl

-- what holds before a call, and after it where it is accepted, holds after it
pub either_way : (P : Log → Type 0) (l : Log) (x : LentCall) → P l → (AcceptedBy l x → P (log_step l x)) → P (log_step l x)
either_way P l x before after = split (eqb (refusal_by (lengths_lent x.part) l x.call) 0) refl
  where
    split : (t : Bool) → eqb (refusal_by (lengths_lent x.part) l x.call) 0 ≡ t → P (log_step l x)
    split true e = after (eqb-true (refusal_by (lengths_lent x.part) l x.call) 0 e)
    split false e = subst P (sym (refused_step l x (eqb-false (refusal_by (lengths_lent x.part) l x.call) 0 e))) before

promote_idle : (l : Log) (x : LentCall) (p : ℕ) → x.call ≡ promote p → ((refining.promote_at l p).outcome ≡ refining.promoted → ⊥) → log_step l x ≡ l
promote_idle l x p is n = either_way (λ (m : Log). m ≡ l) l x refl (λ none. promote_accepted l x p is none ∙ same_log l.settings.budget l p n)

pub log_facts : LogFacts
log_facts =
    record {
      accepted_start = λ l x g is none. accepted_step l x (start g) is none ∙ unfold effect_of row changed steps.started in refl;
      accepted_deliver = λ l x rs i is none. accepted_step l x (deliver rs i) is none ∙ unfold effect_of row changed steps.deliver state_of in refl;
      accepted_promote = λ l x p is none e. promote_accepted l x p is none ∙ promoted_log l.settings.budget l p e;
      idle_promote = promote_idle;
      after_choose = λ l x is. looks_only l x choose is (unfold effect_of row in refl);
      after_point = λ l x n buffer is. looks_only l x (point n buffer) is (unfold effect_of row in refl);
      after_points = λ l x n buffer is. looks_only l x (points n buffer) is (unfold effect_of row in refl);
      after_result = λ l x is. looks_only l x result is (unfold effect_of row in refl);
      after_doubles = λ l x is. looks_only l x doubles is (unfold effect_of row in refl);
      after_cross = λ l x is. looks_only l x cross_total is (unfold effect_of row in refl);
      after_check = λ l x is. looks_only l x check is (unfold effect_of row in refl);
      after_refusal = refused_step;
    }
