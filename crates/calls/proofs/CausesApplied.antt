-- A call is refused by the number of the first of its causes that applies, and by none where none applies.
-- The idea: the law of the first cause, at the causes of the call's row; none of their numbers is 0.
-- Assumes nothing.
use mathlib.Core.Path.{◌≡◌, refl, ap, sym, ◌∙◌, subst}
use mathlib.Core.Bool.{true, false}
use mathlib.Core.List.Memᴰ
use mathlib.Core.List.{Memᴰ}
use Prim.Native.Nat.{ℕ}
use Rattle.area.specs.Encoding.{Area, machine_of}
use Rattle.soundness.specs.Clauses.{is_sound}
use Rattle.machine.specs.Causes.{Cause, cause}
use Rattle.machine.specs.Facts.{FirstToApply}
use Rattle.machine.proofs.FirstCause.{cause-facts}
use Rattle.calls.specs.Replies.{refused, lengths_of}
use Rattle.calls.specs.Table.{Call, row, passes_check, refused_answer, refusal}
use Rattle.calls.specs.Calls.{CallResult, refusal_on, call_on}
use Rattle.calls.specs.Facts.{causes_on, NotRefused}
use Rattle.calls.proofs.Numbers.{never_zero, accepted_reply}
use Rattle.calls.proofs.CauseCases.{refused_reply, call_refuses, call_ways}

module _ (a : Area) (c : Call) where
  pub same_number : (n : ℕ) → (refused_answer (refusal_on a c) (row c)).reply ≡ refused n → refusal_on a c ≡ n
  same_number n e = let k : refused (refusal_on a c) ≡ refused n = sym (refused_reply (refusal_on a c) (row c)) ∙ e in cc

  -- a call that answers no refusal has no cause
  pub no_cause : NotRefused a c → refusal_on a c ≡ 0
  no_cause f = call_ways a c (λ (x : CallResult). ((n : ℕ) → x.answer.reply ≡ refused n → ⊥) → refusal_on a c ≡ 0) (λ none g. none)
      (λ some g. absurd (g (refusal_on a c) (refused_reply (refusal_on a c) (row c)))) f

  -- the number of a refusal is that of the first cause, and is not 0
  refused_number : (n : ℕ) → (call_on a c).answer.reply ≡ refused n → (refusal_on a c ≡ n) × (n ≡ 0 → ⊥)
  refused_number n =
      call_ways a c (λ (x : CallResult). x.answer.reply ≡ refused n → (refusal_on a c ≡ n) × (n ≡ 0 → ⊥))
      (λ none e. absurd (accepted_reply (passes_check (lengths_of a) (is_sound a) (machine_of a).log) (machine_of a) c n e))
      (λ some e. let same : refusal_on a c ≡ n = same_number n e in (same, λ z. some (same ∙ z)))

  -- so a call without a cause answers none
  pub no_refusal : refusal_on a c ≡ 0 → NotRefused a c
  no_refusal none n e = let s = refused_number n e in s.1 (sym s.0 ∙ none)

  pub refused_there : (n : ℕ) → refusal_on a c ≡ n → (n ≡ 0 → ⊥) → (call_on a c).answer.reply ≡ refused n
  refused_there n e f = ap (λ (x : CallResult). x.answer.reply) (sym (call_refuses a c n (sym e) f)) ∙ refused_reply n (row c)

  -- ---- with the causes of the row

  pub own_case : (n : ℕ) → (call_on a c).answer.reply ≡ refused n → FirstToApply (causes_on a c) n
  unfolding refusal
  own_case n e = let s = refused_number n e in cause-facts.own_case (causes_on a c) n s.0 s.1

  never : (x : Cause) → Memᴰ x (causes_on a c) → x.number ≡ 0 → ⊥
  never = never_zero (lengths_of a) (is_sound a) (machine_of a).log c

  pub no_other : (n : ℕ) → FirstToApply (causes_on a c) n → (call_on a c).answer.reply ≡ refused n
  unfolding refusal
  no_other n s = refused_there n (cause-facts.no_other (causes_on a c) n s) (never (cause true n) there)
    where
      there : Memᴰ (cause true n) (causes_on a c)
      there = subst (Memᴰ (cause true n)) (sym s.split) (Memᴰ.append_right s.before (Memᴰ.head refl))

  pub none_applies : NotRefused a c → (x : Cause) → Memᴰ x (causes_on a c) → x.test ≡ false
  unfolding refusal
  none_applies f = cause-facts.none_applies (causes_on a c) never (no_cause f)

  pub not_refused : ((x : Cause) → Memᴰ x (causes_on a c) → x.test ≡ false) → NotRefused a c
  unfolding refusal
  not_refused f n e = let s = refused_number n e in s.1 (sym s.0 ∙ cause-facts.zero (causes_on a c) f)
