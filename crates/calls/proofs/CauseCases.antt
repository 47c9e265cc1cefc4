-- A call goes one of two ways: by no cause, and then it is its row's step, or by a cause, and then nothing changes.
-- The idea: split the test that the definition asks, with the answer kept.
-- Assumes nothing.
use mathlib.Core.Path.{◌≡◌, refl, sym}
use mathlib.Core.Bool.{Bool, true, false, cond}
use Prim.Native.Nat.{ℕ}
use borrow.Author.Tests.{eqb-true, eqb-false, eq-eqb, ne_eqb}
use lib.Dec.{eqb}
use Rattle.area.specs.Encoding.{Area, machine_of}
use Rattle.soundness.specs.Clauses.{is_sound}
use Rattle.calls.specs.Replies.{refused, lengths_of}
use Rattle.calls.specs.Table.{Call, Row, any_area, on_job, row, effect_of, passes_check, accepted_answer, refused_answer, answer_of}
use Rattle.calls.specs.Calls.{CallResult, area_after, refusal_on, call_on}

module _ (a : Area) (c : Call) where
  -- what the call leaves if no cause refuses it, and if cause n does
  abbrev pub accepted_call : CallResult
  accepted_call =
      record {
        answer = accepted_answer (passes_check (lengths_of a) (is_sound a) (machine_of a).log) (machine_of a) (row c);
        area = area_after a (effect_of (machine_of a) (row c));
      }

  abbrev pub refused_call : ℕ → CallResult
  refused_call n = record { answer = refused_answer n (row c); area = a }

  pub either : call_on a c ≡ cond (eqb (refusal_on a c) 0) accepted_call (refused_call (refusal_on a c))
  unfolding call_on answer_of
  either = step (eqb (refusal_on a c) 0)
    where
      step : (t : Bool)
          → ◌≡◌ {A = CallResult} (record { answer = cond t accepted_call.answer (refused_answer (refusal_on a c) (row c)); area = cond t (area_after a (effect_of (machine_of a) (row c))) a })
          (cond t accepted_call (refused_call (refusal_on a c)))
      step true = refl
      step false = refl

  -- with the cause known
  pub call_accepts : (n : ℕ) → n ≡ refusal_on a c → n ≡ 0 → accepted_call ≡ call_on a c
  call_accepts n is e = rw (either, sym is, eq-eqb n 0 e) refl

  pub call_refuses : (n : ℕ) → n ≡ refusal_on a c → (n ≡ 0 → ⊥) → refused_call n ≡ call_on a c
  call_refuses n is f = rw (either, sym is, ne_eqb n 0 f) refl

  -- to show something of what it leaves, show it of both
  pub call_ways : (P : CallResult → Type 0) → (refusal_on a c ≡ 0 → P accepted_call) → ((refusal_on a c ≡ 0 → ⊥) → P (refused_call (refusal_on a c))) → P (call_on a c)
  call_ways P f g = rw either (step (eqb (refusal_on a c) 0) refl)
    where
      step : (t : Bool) → eqb (refusal_on a c) 0 ≡ t → P (cond t accepted_call (refused_call (refusal_on a c)))
      step true e = f (eqb-true (refusal_on a c) 0 e)
      step false e = g (eqb-false (refusal_on a c) 0 e)

-- a refused call says so
pub refused_reply : (n : ℕ) (r : Row) → (refused_answer n r).reply ≡ refused n
unfolding refused_answer
refused_reply n (any_area r) = refl
refused_reply n (on_job r) = refl
