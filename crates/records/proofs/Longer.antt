-- Each call on an area with more records answers as on the area without them, and leaves them behind what it leaves there.
-- The idea: with a count of at most 512 the log, the causes and what is written are the same; above it a call on a job is refused by 3 or 4,
-- and start and check do not look at what is held.
-- Assumes nothing.
use mathlib.Core.Path.{◌≡◌, refl, ap, sym, ◌∙◌}
use mathlib.Core.Logic.{inl, inr}
use mathlib.Core.Bool.{Bool, true, false, cond}
use mathlib.Core.List.{List}
use Prim.Native.Nat.{ℕ, ◌<◌, ◌≤◌}
use native.Mathlib.Omega.{arith}
use borrow.Author.Tests.{le-leb, leb-true}
use lib.Dec.{leb, eqb}
use lib.ListN.{length, length-append, length-set}
use Rattle.area.specs.declared.Settings.{Settings}
use Rattle.area.specs.declared.IndexRecord.{IndexRecord}
use Rattle.area.specs.Entry.{Entry}
use Rattle.area.specs.Log.{Log, Machine}
use Rattle.area.specs.Encoding.{Area, machine_of}
use Rattle.soundness.specs.Clauses.{is_sound, checked}
use Rattle.encoding.specs.Entries.{entry_at}
use Rattle.machine.specs.Log.{first_wanted}
use Rattle.machine.specs.Promote as refining
use Rattle.machine.proofs.Answers.{either_log}
use Rattle.machine.specs.Steps as steps
use Rattle.machine.specs.Causes.{Lengths, first_cause, short, start_causes}
use Rattle.calls.specs.Replies.{verdict, lengths_of}
use Rattle.calls.specs.Table.{Call, start, point, points, deliver, choose, promote, result, doubles, cross_total, check, Effect, unchanged, becomes, promotion_effect, JobRow, on_job, answer, row, causes_of, effect_of, passes_check, accepted_answer, refusal}
use Rattle.calls.specs.Calls.{CallResult, area_after, refusal_on, call_on}
use Rattle.calls.proofs.CauseCases.{accepted_call, refused_call, either, call_refuses}
use Rattle.calls.proofs.ResultValues.{check_answer}
use Rattle.records.specs.Facts.{longer, call_result_longer}
use Rattle.std.proofs.lemmas.Bool.{cases_lt}
use Rattle.records.proofs.Fronts.{many_unsound, short_same, machine_same, sound_few, entries_few, sound_same, written-longer}

-- ---- a count above 512: refused by 3 or 4

abbrev three_four : Bool → ℕ
three_four t = cond t 3 4

refuses : (t : Bool) → three_four t ≡ 0 → ⊥
refuses true e = omega (arith, e)
refuses false e = omega (arith, e)

module _ (a : Area) (many : 512 < a.job.held) (c : Call) (r : JobRow) (is : row c ≡ on_job r) where
  abbrev number : ℕ
  number = three_four (cond (r.buffer_short a.job.settings) true (short (lengths_of a) a.job.settings))

  number_is : number ≡ refusal_on a c
  unfolding refusal causes_of first_cause machine_of
  number_is = rw (is, many_unsound a many) refl

  many_refused : call_on a c ≡ refused_call a c number
  many_refused = sym (call_refuses a c number number_is (refuses (cond (r.buffer_short a.job.settings) true (short (lengths_of a) a.job.settings))))

-- ---- a state that a call comes to has at most 512 entries

within_limit : (b : ℕ) (es : List Entry) → refining.fits b es ≡ true → length es ≤ 512
unfolding refining.fits
within_limit b es e = go (leb (length es) 512) refl
  where
    go : (t : Bool) → leb (length es) 512 ≡ t → length es ≤ 512
    go true q = leb-true (length es) 512 q
    go false q = let z : ◌≡◌ {A = Bool} false true = rw q at e in cc

promote_few : (l : Log) (p : ℕ) → length l.entries ≤ 512 → length (refining.promote_at l p).log.entries ≤ 512
promote_few l p h =
    either_log l.settings.budget l p (λ (o : Log). length o.entries ≤ 512) (within_limit l.settings.budget (refining.refine l.settings.axes l.entries p)) h

abbrev Few : Effect → Type 0
Few unchanged = Unit {0}
Few (becomes n) = length n.log.entries ≤ 512

outcome_few : (m : Machine) (p : ℕ) → length m.log.entries ≤ 512 → (o : refining.Outcome) → Few (promotion_effect o (steps.promote_step m p))
unfolding promotion_effect steps.promote_step
outcome_few m p h refining.spent = tt
outcome_few m p h refining.promoted = promote_few m.log p h

effect_few : (m : Machine) → length m.log.entries ≤ 512 → (c : Call) → Few (effect_of m (row c))
unfolding effect_of row
effect_few m h (start g) = unfold steps.started in omega arith
effect_few m h (point n buffer) = tt
effect_few m h (points n buffer) = tt
effect_few m h (deliver rs i) =
    unfold steps.deliver steps.deliver_at in
    omega (arith, h, length-set m.log.entries (first_wanted m.log.entries) (steps.delivered (entry_at m.log.entries (first_wanted m.log.entries)) rs i))
effect_few m h choose = tt
effect_few m h (promote p) = outcome_few m p h (refining.promote_at m.log p).outcome
effect_few m h result = tt
effect_few m h doubles = tt
effect_few m h cross_total = tt
effect_few m h check = tt

-- ---- with more records

module _ (a : Area) (more : List IndexRecord) (room : 512 ≤ length a.run.records) where
  abbrev a⁺ : Area
  a⁺ = longer a more

  abbrev z : Lengths
  z = lengths_of a

  abbrev z⁺ : Lengths
  z⁺ = lengths_of a⁺

  after_longer : (e : Effect) → Few e → area_after a⁺ e ≡ longer (area_after a e) more
  unfolding area_after
  after_longer unchanged h = refl
  after_longer (becomes n) h = written-longer a more room n h

  -- refused or not
  either_longer : (c : Call) (n : ℕ) (x y : CallResult) → y ≡ call_result_longer x more → cond (eqb n 0) y (refused_call a⁺ c n) ≡ call_result_longer (cond (eqb n 0) x (refused_call a c n)) more
  either_longer c n x y e = go (eqb n 0)
    where
      go : (t : Bool) → cond t y (refused_call a⁺ c n) ≡ call_result_longer (cond t x (refused_call a c n)) more
      go true = e
      go false = refl

  -- ---- start and check

  start_cause_lem : (g : Settings) → refusal_on a⁺ (start g) ≡ refusal_on a (start g)
  unfolding refusal causes_of row start_causes
  start_cause_lem g = rw (short_same a more room g)

  start_taken : (g : Settings) → accepted_call a⁺ (start g) ≡ call_result_longer (accepted_call a (start g)) more
  unfolding accepted_answer effect_of row
  start_taken g = ap {B = CallResult} (λ (x : Area). record { answer = (accepted_call a (start g)).answer; area = x }) (after_longer (effect_of (machine_of a) (row (start g))) (unfold steps.started in omega arith))

  start_longer : (g : Settings) → call_on a⁺ (start g) ≡ call_result_longer (call_on a (start g)) more
  start_longer g =
      either a⁺ (start g)
      ∙ ap (λ n. cond (eqb n 0) (accepted_call a⁺ (start g)) (refused_call a⁺ (start g) n)) (start_cause_lem g)
      ∙ either_longer (start g) (refusal_on a (start g)) (accepted_call a (start g)) (accepted_call a⁺ (start g)) (start_taken g)
      ∙ ap (λ (x : CallResult). call_result_longer x more) (sym (either a (start g)))

  pub checked-longer : checked a⁺ ≡ checked a
  unfolding checked
  checked-longer =
      let h : 512 ≤ length a⁺.run.records = omega (arith, room, length-append a.run.records more) in
      rw (le-leb 512 (length a⁺.run.records) h, le-leb 512 (length a.run.records) room, sound_same a more room)

  check_longer : call_on a⁺ check ≡ call_result_longer (call_on a check) more
  check_longer =
      check_answer a⁺
      ∙ ap {B = CallResult} (λ (t : Bool). record { answer = answer (verdict t); area = a⁺ }) checked-longer
      ∙ ap (λ (x : CallResult). call_result_longer x more) (sym (check_answer a))

  -- ---- a call on a job

  module _ (c : Call) (r : JobRow) (is : row c ≡ on_job r) where
    many_longer : 512 < a.job.held → call_on a⁺ c ≡ call_result_longer (call_on a c) more
    many_longer h =
        many_refused a⁺ h c r is
        ∙ ap {B = CallResult} (λ t. refused_call a⁺ c (three_four (cond (r.buffer_short a.job.settings) true t))) (short_same a more room a.job.settings)
        ∙ ap (λ (x : CallResult). call_result_longer x more) (sym (many_refused a h c r is))

    module _ (h : a.job.held ≤ 512) where
      few : length (machine_of a).log.entries ≤ 512
      unfolding machine_of
      few = entries_few a more room h

      same_cause : refusal_on a⁺ c ≡ refusal_on a c
      unfolding refusal causes_of
      same_cause = rw (machine_same a more room h, sound_few a more room h, is, short_same a more room (machine_of a).log.settings) refl

      same_answer : accepted_answer (passes_check z⁺ (is_sound a⁺) (machine_of a⁺).log) (machine_of a⁺) (row c) ≡ accepted_answer (passes_check z (is_sound a) (machine_of a).log) (machine_of a) (row c)
      unfolding accepted_answer
      same_answer = rw (is, machine_same a more room h) refl

      next : accepted_call a⁺ c ≡ call_result_longer (accepted_call a c) more
      next =
          (λ i. record { answer = same_answer i; area = area_after a⁺ (effect_of (machine_same a more room h i) (row c)) })
          ∙ ap {B = CallResult} (λ (x : Area). record { answer = (accepted_call a c).answer; area = x }) (after_longer (effect_of (machine_of a) (row c)) (effect_few (machine_of a) few c))

      few_longer : call_on a⁺ c ≡ call_result_longer (call_on a c) more
      few_longer =
          either a⁺ c
          ∙ ap (λ n. cond (eqb n 0) (accepted_call a⁺ c) (refused_call a⁺ c n)) same_cause
          ∙ either_longer c (refusal_on a c) (accepted_call a c) (accepted_call a⁺ c) next
          ∙ ap (λ (x : CallResult). call_result_longer x more) (sym (either a c))

    job_longer : call_on a⁺ c ≡ call_result_longer (call_on a c) more
    job_longer = elim (cases_lt 512 a.job.held) [ inl h ↦ many_longer h | inr h ↦ few_longer h ]

  pub call-longer : (c : Call) → call_on a⁺ c ≡ call_result_longer (call_on a c) more
  unfolding row
  call-longer (start g) = start_longer g
  call-longer (point n buffer) = job_longer (point n buffer) _ refl
  call-longer (points n buffer) = job_longer (points n buffer) _ refl
  call-longer (deliver rs i) = job_longer (deliver rs i) _ refl
  call-longer choose = job_longer choose _ refl
  call-longer (promote p) = job_longer (promote p) _ refl
  call-longer result = job_longer result _ refl
  call-longer doubles = job_longer doubles _ refl
  call-longer cross_total = job_longer cross_total _ refl
  call-longer check = check_longer
