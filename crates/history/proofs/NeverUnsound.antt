-- Cause 4 never comes from the log.
-- The idea: its test is the one that never refuses, and no other cause has its number.
-- Assumes nothing.
use mathlib.Core.Path.{◌≡◌, refl, ap, sym, ◌∙◌}
use mathlib.Core.Logic.{◌⊎◌, inl, inr}
use mathlib.Core.Bool.{Bool, true, false, not, cond, ◌&&◌}
use mathlib.Core.List.Memᴰ
use mathlib.Core.List.{List, [], ◌∷◌, Memᴰ}
use Prim.Native.Nat.{ℕ}
use native.Mathlib.Omega.{arith}
use borrow.Author.Tests.{eqb-false}
use lib.Dec.{eqb}
use Rattle.area.specs.Log.{Log}
use Rattle.machine.specs.Causes.{Lengths, Cause, first_cause, start_causes}
use Rattle.calls.specs.Replies.{refused}
use Rattle.calls.specs.Table.{Call, start, point, points, deliver, choose, promote, result, doubles, cross_total, check, Answer, row, causes_of, passes_check, accepted_answer, refused_answer, refusal, answer_of}
use Rattle.calls.proofs.Numbers.{accepted_reply}
use Rattle.calls.proofs.CauseCases.{refused_reply}
use Rattle.history.specs.LentCalls.{LentCall, lengths_lent}
use Rattle.history.specs.Logged.{state_of, log_step, answer_by, answers_by}

-- every row with the number 4 has a test that does not refuse
apart : List Cause → Bool
apart [] = true
apart (c ∷ cs) = cond (eqb c.number 4) (not c.test) true && apart cs

spared : (cs : List Cause) → apart cs ≡ true → first_cause cs ≡ 4 → ⊥
unfolding apart first_cause
spared [] h e = omega (arith, e)
spared (c ∷ cs) h e = step c.test (eqb c.number 4) refl (spared cs) h e
  where
    step : (t u : Bool) → eqb c.number 4 ≡ u → (apart cs ≡ true → first_cause cs ≡ 4 → ⊥) → (cond u (not t) true && apart cs) ≡ true → cond t c.number (first_cause cs) ≡ 4 → ⊥
    step true true n later f g = let y : ◌≡◌ {A = ℕ} 0 1 = cc in omega arith
    step true false n later f g = eqb-false c.number 4 n g
    step false true n later f g = later f g
    step false false n later f g = later f g

-- no own cause of a row has the number 4, and where the area is sound the row's test for 4 does not refuse
not-four : (z : Lengths) (l : Log) (c : Call) → refusal z true l c ≡ 4 → ⊥
unfolding apart refusal causes_of row start_causes
not-four z l (start g) = spared (start_causes z g) refl
not-four z l (point n buffer) = spared (causes_of z true l (row (point n buffer))) refl
not-four z l (points n buffer) = spared (causes_of z true l (row (points n buffer))) refl
not-four z l (deliver rs i) = spared (causes_of z true l (row (deliver rs i))) refl
not-four z l choose = spared (causes_of z true l (row choose)) refl
not-four z l (promote p) = spared (causes_of z true l (row (promote p))) refl
not-four z l result = spared (causes_of z true l (row result)) refl
not-four z l doubles = spared (causes_of z true l (row doubles)) refl
not-four z l cross_total = spared (causes_of z true l (row cross_total)) refl
not-four z l check = spared (causes_of z true l (row check)) refl

pub one : (z : Lengths) (l : Log) (c : Call) → (answer_by z l c).reply ≡ refused 4 → ⊥
unfolding answer_by answer_of state_of
one z l c = step (eqb (refusal z true l c) 0)
  where
    step : (t : Bool) → (cond t (accepted_answer (passes_check z true l) (state_of l) (row c)) (refused_answer (refusal z true l c) (row c))).reply ≡ refused 4 → ⊥
    step true e = accepted_reply (passes_check z true l) (state_of l) c 4 e
    step false e = let same : refused (refusal z true l c) ≡ refused 4 = sym (refused_reply (refusal z true l c) (row c)) ∙ e in let number : refusal z true l c ≡ 4 = cc in not-four z l c number

pub never_four : (l : Log) (xs : List LentCall) (y : Answer) → Memᴰ y (answers_by l xs) → y.reply ≡ refused 4 → ⊥
unfolding answers_by
never_four l [] y m e = Memᴰ.not-nil m
never_four l (x ∷ xs) y m e = step (Memᴰ.cases_cons m) (λ r. never_four (log_step l x) xs y r e)
  where
    step : (y ≡ answer_by (lengths_lent x.part) l x.call) ⊎ Memᴰ y (answers_by (log_step l x) xs) → (Memᴰ y (answers_by (log_step l x) xs) → ⊥) → ⊥
    step (inl f) later = one (lengths_lent x.part) l x.call (sym (ap (λ (v : Answer). v.reply) f) ∙ e)
    step (inr r) later = later r
