-- What an exported call leaves in the words of the job record, where these are written only if it was not refused; and that a number other than 0 is a refusal's.
-- The idea: a call that is refused leaves the job record, and so its words.
-- Assumes nothing.
use mathlib.Core.Path.{◌≡◌, refl, ap, sym, ◌∙◌}
use mathlib.Core.Bool.{cond}
use mathlib.Core.List.{List}
use Prim.Native.Nat.{ℕ}
use lib.IntN.{ℤ}
use Rattle.std.specs.Prelude.{Result, Ok, Err, is_ok, MatchResult}
use Rattle.area.specs.declared.JobRecord.{JobRecord}
use Rattle.area.specs.Records.{run_of}
use Rattle.area.specs.Encoding.{Area, area_of}
use Rattle.calls.specs.declared.cause.Cause.{Cause}
use Rattle.calls.specs.Cause.{cause_of, number_of_cause}
use Rattle.calls.specs.Replies.{Reply, refused, accepted, wrote, chosen, promotion, counts, doubled, total, verdict, reply_by}
use Rattle.calls.specs.Table.{Call}
use Rattle.calls.specs.Calls.{CallResult, call_on, call_result_of}
use Rattle.calls.proofs.Facts.{call_facts}
use Rattle.wihupya.specs.Words.{job_of, words_of}
use Rattle.wihupya.specs.Exports.{number_of, exported, answer_words}

-- the number of an answer
pub cause_number : {A : Type 0} (f : A → Reply) (r : Result A Cause) → ((x : A) → number_of (f x) ≡ 0) → cause_of r ≡ number_of (reply_by f r)
unfolding number_of
cause_number f (Ok x) zero = sym (zero x)
cause_number f (Err d) zero = refl

-- what is left in the words that are lent for an answer
pub answer_left : {A : Type 0} (f : A → Reply) (r : Result A Cause) (reply : Reply) (number : ℕ) (lent lent' : List ℕ)
    → ((x : A) → number_of (f x) ≡ 0) → reply_by f r ≡ reply → number ≡ cause_of r → MatchResult r (λ x. lent' ≡ answer_words (f x) lent) (λ e. lent' ≡ lent)
    → (number ≡ number_of reply) × (lent' ≡ answer_words reply lent)
unfolding answer_words
answer_left f (Ok x) reply number lent lent' zero is number_is left = (number_is ∙ cause_number f (Ok x) zero ∙ ap number_of is, left ∙ ap (λ (y : Reply). answer_words y lent) is)
answer_left f (Err d) reply number lent lent' zero is number_is left = (number_is ∙ cause_number f (Err d) zero ∙ ap number_of is, left ∙ ap (λ (y : Reply). answer_words y lent) is)

pub words_left : {A : Type 0} (f : A → Reply) (w cells : List ℕ) (store : List ℤ) (c : Call) (r : Result A Cause) (j : JobRecord) (cells' : List ℕ) (store' : List ℤ) (w' : List ℕ) (number : ℕ)
    → ((x : A) → number_of (f x) ≡ 0) → words_of (job_of w) ≡ w → call_result_of (reply_by f r) j cells' store' ≡ call_on (area_of (job_of w) cells store) c
    → w' ≡ cond (is_ok r) (words_of j) w → number ≡ cause_of r
    → record { number = number; job = w'; run = run_of cells'; store = store' } ≡ exported (call_on (area_of (job_of w) cells store) c)
unfolding exported number_of
words_left f w cells store c (Ok x) j cells' store' w' number zero round is w-is number_is =
    (λ i. record { number = (number_is ∙ sym (zero x)) i; job = w-is i; run = run_of cells'; store = store' }) ∙ ap exported is
words_left f w cells store c (Err d) j cells' store' w' number zero round is w-is number_is =
    let a : Area = area_of (job_of w) cells store in
    let keeps = call_facts.refused_keeps a c (number_of_cause d) (sym (ap (λ (y : CallResult). y.answer.reply) is)) in
    let kept : w ≡ words_of j = sym (ap words_of (ap (λ (y : CallResult). y.area.job) is ∙ ap (λ (b : Area). b.job) keeps.0) ∙ round) in
    (λ i. record { number = number_is i; job = (w-is ∙ kept) i; run = run_of cells'; store = store' }) ∙ ap exported is

pub refused_number : (r : Reply) → (number_of r ≡ 0 → ⊥) → r ≡ refused (number_of r)
unfolding number_of
refused_number (refused n) f = refl
refused_number accepted f = absurd (f refl)
refused_number (wrote n size) f = absurd (f refl)
refused_number (chosen c) f = absurd (f refl)
refused_number (promotion o) f = absurd (f refl)
refused_number (counts c) f = absurd (f refl)
refused_number (doubled r) f = absurd (f refl)
refused_number (total x) f = absurd (f refl)
refused_number (verdict b) f = absurd (f refl)
