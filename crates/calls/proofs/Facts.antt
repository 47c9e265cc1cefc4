-- What holds of every call.
-- The idea: a call goes one of two ways; by a cause nothing changes, and by none it is its row's step, which keeps the clauses.
-- Assumes nothing.
use mathlib.Core.Path.{◌≡◌, refl, ap, sym, ◌∙◌, subst}
use mathlib.Core.Logic.{◌⊎◌, inl, inr}
use mathlib.Core.List.{List, [], Memᴰ}
use Prim.Native.Nat.{ℕ, ◌+◌, ◌<◌, ◌≤◌}
use native.Mathlib.Omega.{arith}
use native.Mathlib.Decide.{dec_lt}
use lib.IntN.{ℤ, pos}
use lib.ListN.{length, get_or, take}
use Rattle.area.specs.declared.Settings.{Settings}
use Rattle.area.specs.Encoding.{Area, held_of, entries_of, machine_of}
use Rattle.quadrature.specs.Readings.{record_at}
use Rattle.soundness.specs.Clauses.{is_sound}
use Rattle.encoding.specs.Encodes.{WellFormed}
use Rattle.grid.specs.Block.{block}
use Rattle.machine.specs.Log.{first_wanted, wanted_index}
use Rattle.machine.specs.Promote.{promoted}
use Rattle.machine.specs.Steps.{started}
use Rattle.machine.specs.Causes.{first_cause, start_causes, point_causes, deliver_causes, promote_causes}
use Rattle.machine.specs.Areas.{start_on, deliver_on, promote_on}
use Rattle.writing.specs.ValidArea.{ValidArea}
use Rattle.calls.specs.Replies.{refused, accepted, promotion, lengths_of}
use Rattle.calls.specs.Table.{Call, Answer, changed, unchanged, start, point, points, deliver, choose, promote, result, doubles, cross_total, check, answer, row, causes_of, effect_of, passes_check, accepted_answer, refused_answer, refusal, state_after}
use Rattle.calls.specs.Calls.{CallResult, area_after, refusal_on, call_on}
use Rattle.calls.specs.Facts.{PastUnchanged, numbers_of, InBlock, NotRefused, CallFacts}
use Rattle.calls.proofs.Buffers.{laid_first, laid_length, laid_later}
use Rattle.calls.proofs.Numbers.{row_numbers, cause_number, accepted_reply}
use Rattle.calls.proofs.CauseCases.{call_accepts, call_ways}
use Rattle.calls.proofs.CausesApplied.{same_number, no_cause, own_case, no_other, none_applies, not_refused}
use Rattle.calls.proofs.Rows.{promote_effect, point_accepts, start_accepts, start_refuses, promote_accepts}
use Rattle.calls.proofs.Outcomes.{idle_area}
use Rattle.calls.proofs.Next.{IsJob, Next, next_start, next_valid, allowed_there, valid_before, after_valid, after_state, after_lengths, after_past}
use Rattle.calls.proofs.ResultValues.{met_recorded, capped_recorded, place_recorded, place_active, cross_mean, result_recorded, check_answer}
use Rattle.calls.proofs.StepEffects.{started-store, started_same, delivered_outside, delivered-stored, promoted_store}
use Rattle.calls.proofs.Written.{written_state}

-- ---- refused or not

module _ (a : Area) (c : Call) where
  refused_keeps : (n : ℕ) → (call_on a c).answer.reply ≡ refused n → ((call_on a c).area ≡ a) × ((call_on a c).answer ≡ refused_answer n (row c)) × Memᴰ n (numbers_of c)
  refused_keeps n =
      call_ways a c (λ (x : CallResult). x.answer.reply ≡ refused n → (x.area ≡ a) × (x.answer ≡ refused_answer n (row c)) × Memᴰ n (numbers_of c))
      (λ none e. absurd (accepted_reply (passes_check (lengths_of a) (is_sound a) (machine_of a).log) (machine_of a) c n e))
      (λ some e. let same : refusal_on a c ≡ n = same_number a c n e in
      (refl, ap (λ k. refused_answer k (row c)) same, subst (λ k. Memᴰ k (numbers_of c)) same (cause_number (lengths_of a) (is_sound a) (machine_of a).log c some)))

  past : PastUnchanged a (call_on a c).area
  past = call_ways a c (λ (x : CallResult). PastUnchanged a x.area) (λ none. after_past a (effect_of (machine_of a) (row c))) (λ some. record { records = refl; rest = refl })

  module _ (well_formed : WellFormed (held_of a)) where
    lengths : lengths_of (call_on a c).area ≡ lengths_of a
    lengths = call_ways a c (λ (x : CallResult). lengths_of x.area ≡ lengths_of a) (λ none. after_lengths a (effect_of (machine_of a) (row c)) (allowed_there a well_formed c none)) (λ some. refl)

    state : NotRefused a c → machine_of (call_on a c).area ≡ state_after (lengths_of a) (is_sound a) (machine_of a) c
    unfolding state_after call_on
    state f =
        let none = no_cause a c f in
        rw none (after_state a (effect_of (machine_of a) (row c)) (allowed_there a well_formed c none))

-- ---- the states of deliver and promote

not_refused_state : (a : Area) (c : Call) → WellFormed (held_of a) → NotRefused a c → machine_of (call_on a c).area ≡ changed (machine_of a) (effect_of (machine_of a) (row c))
unfolding state_after
not_refused_state a c well_formed f = state a c well_formed f ∙ rw (no_cause a c f) refl

-- ---- an accepted start

accepted_not : (n : ℕ) → accepted ≡ refused n → ⊥
accepted_not n e = let z : ◌≡◌ {A = ℕ} 0 1 = cc in omega arith

module _ (a : Area) (g : Settings) where
  start_none : (call_on a (start g)).answer.reply ≡ accepted → refusal_on a (start g) ≡ 0
  start_none e = no_cause a (start g) (λ n f. accepted_not n (sym e ∙ f))

  is_start : refusal_on a (start g) ≡ 0 → call_on a (start g) ≡ record { answer = answer accepted; area = start_on a g }
  unfolding refusal causes_of row
  is_start none = sym (start_accepts a g (first_cause (start_causes (lengths_of a) g)) refl none)

  next_there : refusal_on a (start g) ≡ 0 → Next (lengths_of a) (started g)
  unfolding refusal causes_of row
  next_there none = next_start (lengths_of a) g none

  start_leaves_valid : (call_on a (start g)).answer.reply ≡ accepted → ValidArea (call_on a (start g)).area
  unfolding start_on
  start_leaves_valid e = rw (is_start (start_none e)) (next_valid a (started g) (next_there (start_none e)))

  start_state : (call_on a (start g)).answer.reply ≡ accepted → machine_of (call_on a (start g)).area ≡ started g
  unfolding start_on
  start_state e = rw (is_start (start_none e)) (written_state a (started g) (next_there (start_none e)).sound)

  start_lengths : lengths_of (call_on a (start g)).area ≡ lengths_of a
  unfolding effect_of row
  start_lengths = call_ways a (start g) (λ (x : CallResult). lengths_of x.area ≡ lengths_of a) (λ none. after_lengths a (effect_of (machine_of a) (row (start g))) (next_there none)) (λ some. refl)

  start_store : (call_on a (start g)).area.store ≡ a.store
  unfolding effect_of row area_after start_on
  start_store = call_ways a (start g) (λ (x : CallResult). x.area.store ≡ a.store) (λ none. started-store a g) (λ some. refl)

module _ (a b : Area) (g : Settings) (same : lengths_of a ≡ lengths_of b) where
  abbrev cause : ℕ
  cause = first_cause (start_causes (lengths_of a) g)

  one-cause : cause ≡ first_cause (start_causes (lengths_of b) g)
  one-cause = ap (λ z. first_cause (start_causes z g)) same

  start_answer : (call_on a (start g)).answer ≡ (call_on b (start g)).answer
  unfolding refusal causes_of row accepted_answer refused_answer
  start_answer =
      call_ways a (start g) (λ (x : CallResult). x.answer ≡ (call_on b (start g)).answer) (λ none. ap (λ (x : CallResult). x.answer) (start_accepts b g cause one-cause none))
      (λ some. ap (λ (x : CallResult). x.answer) (start_refuses b g cause one-cause some))

  start_job : (call_on a (start g)).answer.reply ≡ accepted
      → ((call_on a (start g)).area.job ≡ (call_on b (start g)).area.job)
      × (record_at (call_on a (start g)).area.run.records 0 ≡ record_at (call_on b (start g)).area.run.records 0)
  unfolding refusal causes_of row
  start_job e = rw (← start_accepts a g cause refl (start_none a g e), ← start_accepts b g cause one-cause (start_none a g e)) (started_same a b g)

-- ---- every accepted call but check

module _ (a : Area) (well_formed : WellFormed (held_of a)) where
  job_leaves_valid : (c : Call) → IsJob (row c) → refusal_on a c ≡ 0 → ValidArea (area_after a (effect_of (machine_of a) (row c)))
  job_leaves_valid c j none = after_valid a (effect_of (machine_of a) (row c)) (valid_before a well_formed c j none) (allowed_there a well_formed c none)

  by_call : (c : Call) → refusal_on a c ≡ 0 → (c ≡ check → ⊥) → ValidArea (area_after a (effect_of (machine_of a) (row c)))
  by_call (start g) none h = unfold effect_of row area_after in next_valid a (started g) (next_there a g none)
  by_call (point n buffer) none h = job_leaves_valid (point n buffer) (unfold row in tt) none
  by_call (points n buffer) none h = job_leaves_valid (points n buffer) (unfold row in tt) none
  by_call (deliver rs i) none h = job_leaves_valid (deliver rs i) (unfold row in tt) none
  by_call choose none h = job_leaves_valid choose (unfold row in tt) none
  by_call (promote p) none h = job_leaves_valid (promote p) (unfold row in tt) none
  by_call result none h = job_leaves_valid result (unfold row in tt) none
  by_call doubles none h = job_leaves_valid doubles (unfold row in tt) none
  by_call cross_total none h = job_leaves_valid cross_total (unfold row in tt) none
  by_call check none h = absurd (h refl)

leaves_valid : (a : Area) (c : Call) → WellFormed (held_of a) → NotRefused a c → (c ≡ check → ⊥) → ValidArea (call_on a c).area
unfolding call_on
leaves_valid a c well_formed f other = rw (no_cause a c f) (by_call a well_formed c (no_cause a c f) other)

-- ---- point

module _ (a : Area) (m : ℕ) where
  point_written_lem : (buffer : List ℕ) → NotRefused a (point m buffer)
      → take a.job.settings.axes (call_on a (point m buffer)).answer.buffer ≡ take a.job.settings.axes (get_or (block (wanted_index (entries_of a))) m [])
  unfolding refusal causes_of row point_causes
  point_written_lem buffer f =
      let none = no_cause a (point m buffer) f in
      ap (λ (x : Answer). take a.job.settings.axes x.buffer) (sym (point_accepts a m buffer (refusal_on a (point m buffer)) refl none)) ∙ laid_first a m buffer none

  point_length : (buffer : List ℕ) → length (call_on a (point m buffer)).answer.buffer ≡ length buffer
  unfolding refusal causes_of row accepted_answer refused_answer point_causes machine_of
  point_length buffer = call_ways a (point m buffer) (λ (x : CallResult). length x.answer.buffer ≡ length buffer) (laid_length a m buffer) (λ some. refl)

  point_later : (i : ℕ) (buffer : List ℕ) → a.job.settings.axes ≤ i → get_or (call_on a (point m buffer)).answer.buffer i 0 ≡ get_or buffer i 0
  unfolding refusal causes_of row accepted_answer refused_answer point_causes machine_of
  point_later i buffer h =
      call_ways a (point m buffer) (λ (x : CallResult). get_or x.answer.buffer i 0 ≡ get_or buffer i 0) (λ none. laid_later a m buffer none i h) (λ some. refl)

-- ---- deliver

module _ (a : Area) (rs : List ℤ) (i : ℕ) (well_formed : WellFormed (held_of a)) where
  abbrev first : ℕ
  first = (record_at (held_of a) (first_wanted (entries_of a))).first

  deliver_store : (n : ℕ) → (n < first) ⊎ (first + length rs ≤ n) → get_or (call_on a (deliver rs i)).area.store n (pos 0) ≡ get_or a.store n (pos 0)
  unfolding refusal causes_of effect_of row area_after deliver_causes deliver_on
  deliver_store n out =
      call_ways a (deliver rs i) (λ (x : CallResult). get_or x.area.store n (pos 0) ≡ get_or a.store n (pos 0)) (λ none. delivered_outside a well_formed rs i none n out) (λ some. refl)

  deliver_stored : (n : ℕ) → (call_on a (deliver rs i)).answer.reply ≡ accepted → n < length rs
      → get_or (call_on a (deliver rs i)).area.store (first + n) (pos 0) ≡ get_or rs n (pos 0)
  unfolding refusal causes_of effect_of row area_after refused_answer deliver_causes deliver_on
  deliver_stored n e h =
      call_ways a (deliver rs i) (λ (x : CallResult). x.answer.reply ≡ accepted → get_or x.area.store (first + n) (pos 0) ≡ get_or rs n (pos 0))
      (λ none f. delivered-stored a well_formed rs i none n h) (λ some f. absurd (accepted_not _ (sym f))) e

-- ---- promote

module _ (a : Area) (p : ℕ) where
  is_promote : refusal_on a (promote p) ≡ 0 → call_on a (promote p) ≡ record { answer = answer (promotion (promote_on a p).outcome); area = (promote_on a p).area }
  unfolding refusal causes_of row promote_causes
  is_promote none = sym (promote_accepts a p (first_cause (promote_causes (lengths_of a) (is_sound a) (machine_of a).log p)) refl none)

  promote_ways : (P : CallResult → Type 0) → (refusal_on a (promote p) ≡ 0 → P (record { answer = answer (promotion (promote_on a p).outcome); area = (promote_on a p).area }))
      → ((refusal_on a (promote p) ≡ 0 → ⊥) → P (record { answer = answer (refused (refusal_on a (promote p))); area = a })) → P (call_on a (promote p))
  unfolding refused_answer row
  promote_ways P f g = call_ways a (promote p) P (λ none. subst P (sym (call_accepts_promote none)) (f none)) g
    where
      call_accepts_promote : refusal_on a (promote p) ≡ 0
          → ◌≡◌ {A = CallResult} (record { answer = accepted_answer (passes_check (lengths_of a) (is_sound a) (machine_of a).log) (machine_of a) (row (promote p)); area = area_after a (effect_of (machine_of a) (row (promote p))) })
          (record { answer = answer (promotion (promote_on a p).outcome); area = (promote_on a p).area })
      call_accepts_promote none = call_accepts a (promote p) (refusal_on a (promote p)) refl none ∙ is_promote none

  promote_store : WellFormed (held_of a) → (call_on a (promote p)).area.store ≡ a.store
  unfolding refusal causes_of row promote_causes
  promote_store well_formed = promote_ways (λ (x : CallResult). x.area.store ≡ a.store) (λ none. promoted_store a well_formed p none) (λ some. refl)

  promote_unchanged : ((call_on a (promote p)).answer.reply ≡ promotion promoted → ⊥) → (call_on a (promote p)).area ≡ a
  promote_unchanged =
      promote_ways (λ (x : CallResult). (x.answer.reply ≡ promotion promoted → ⊥) → x.area ≡ a) (λ none n. idle_area a p (λ e. n (ap promotion e))) (λ some n. refl)

-- ---- the store, whatever the call

-- a call that only looks leaves the area
pub looks_only : (a : Area) (c : Call) → effect_of (machine_of a) (row c) ≡ unchanged → (call_on a c).area ≡ a
unfolding area_after
looks_only a c e = call_ways a c (λ (x : CallResult). x.area ≡ a) (λ none. ap (area_after a) e) (λ some. refl)

module _ (a : Area) (n : ℕ) (well_formed : WellFormed (held_of a)) where
  abbrev Same : Call → Type 0
  Same c = get_or (call_on a c).area.store n (pos 0) ≡ get_or a.store n (pos 0)

  looked : (c : Call) → effect_of (machine_of a) (row c) ≡ unchanged → Same c
  looked c e = ap (λ (b : Area). get_or b.store n (pos 0)) (looks_only a c e)

  store : (c : Call) → (InBlock a c n → ⊥) → Same c
  unfolding effect_of row
  store (start g) f = ap (λ (s : List ℤ). get_or s n (pos 0)) (start_store a g)
  store (point k buffer) f = looked (point k buffer) refl
  store (points k buffer) f = looked (points k buffer) refl
  store (deliver rs i) f = deliver_store a rs i well_formed n (outside (dec_lt n (first a rs i well_formed)) (dec_lt n (first a rs i well_formed + length rs)))
    where
      outside : Dec (n < first a rs i well_formed) → Dec (n < first a rs i well_formed + length rs) → (n < first a rs i well_formed) ⊎ (first a rs i well_formed + length rs ≤ n)
      outside (yes h) k = inl h
      outside (no h) (yes k) = absurd (f (omega arith, k))
      outside (no h) (no k) = inr (omega arith)
  store choose f = looked choose refl
  store (promote p) f = ap (λ (s : List ℤ). get_or s n (pos 0)) (promote_store a p well_formed)
  store result f = looked result refl
  store doubles f = looked doubles refl
  store cross_total f = looked cross_total refl
  store check f = looked check refl

pub call_facts : CallFacts
call_facts =
    record {
      refused_keeps = refused_keeps;
      numbers = λ a c. row_numbers (lengths_of a) (is_sound a) (machine_of a).log c;
      own_case = own_case;
      no_other = no_other;
      none_applies = none_applies;
      not_refused = not_refused;
      start_leaves_valid = start_leaves_valid;
      start_state = start_state;
      leaves_valid = leaves_valid;
      state = state;
      deliver_state = λ a rs i well_formed f. not_refused_state a (deliver rs i) well_formed f ∙ unfold effect_of row changed in refl;
      promote_state = λ a p well_formed f. not_refused_state a (promote p) well_formed f ∙ promote_effect (machine_of a) p;
      start_lengths = start_lengths;
      lengths = lengths;
      past = past;
      store = λ a c n well_formed. store a n well_formed c;
      start_store = start_store;
      promote_store = promote_store;
      deliver_store = λ a rs i n well_formed. deliver_store a rs i well_formed n;
      deliver_stored = λ a rs i n well_formed. deliver_stored a rs i well_formed n;
      choose_unchanged = λ a. looks_only a choose (unfold effect_of row in refl);
      promote_unchanged = promote_unchanged;
      point_written_lem = point_written_lem;
      point_length = point_length;
      point_later = λ a n i buffer. point_later a n i buffer;
      result_recorded = result_recorded;
      met_recorded = met_recorded;
      capped_recorded = capped_recorded;
      place_recorded = place_recorded;
      place_active = place_active;
      cross_mean = cross_mean;
      check_answer = check_answer;
      start_answer = start_answer;
      start_job = start_job;
    }
