-- What an accepted call leaves: a valid area that holds the next state, in storage as long as before.
-- The idea: an accepted step keeps the clauses on the state, which is shown call by call; the rest is said once of any state that is written.
-- Assumes nothing.
use mathlib.Core.Path.{◌≡◌, refl, sym, subst}
use mathlib.Core.Bool.{Bool}
use mathlib.Core.List.{List}
use Prim.Native.Nat.{ℕ, ◌≤◌}
use lib.IntN.{ℤ}
use Rattle.area.specs.declared.Settings.{Settings}
use Rattle.area.specs.Settings.{least_store}
use Rattle.area.specs.Log.{Log, Machine}
use Rattle.area.specs.Encoding.{Area, held_of, machine_of, written}
use Rattle.soundness.specs.Clauses.{is_sound}
use Rattle.encoding.specs.Encodes.{WellFormed}
use Rattle.encoding.specs.Entries.{SoundMachine}
use Rattle.machine.specs.Promote as refining
use Rattle.machine.specs.Steps as steps
use Rattle.machine.specs.Causes.{Lengths, first_cause, short, start_causes, deliver_causes, promote_causes, result_causes}
use Rattle.machine.proofs.Answers.{promoted_settings}
use Rattle.machine.proofs.Facts.{step_facts}
use Rattle.writing.specs.ValidArea.{ValidArea}
use Rattle.writing.proofs.After.{machine_sound}
use Rattle.calls.specs.Replies.{lengths_of}
use Rattle.calls.specs.Table.{Call, start, point, points, deliver, choose, promote, result, doubles, cross_total, check, Effect, unchanged, becomes, promotion_effect, row, causes_of, effect_of, refusal, changed, Row, any_area, on_job}
use Rattle.calls.specs.Calls.{area_after, refusal_on}
use Rattle.calls.specs.Facts.{PastUnchanged}
use Rattle.calls.proofs.Accepted.{missed, neither, startable, first_two, long_enough, promotable, deliverable}
use Rattle.calls.proofs.Ranges.{readings_range}
use Rattle.calls.proofs.Validity.{sound_there, long_there}
use Rattle.calls.proofs.Written.{written_past, written_valid, written_state, written_lengths}

-- ---- a call on a job: storage and area did not refuse it

abbrev pub IsJob : Row → Type 0
IsJob (any_area r) = ⊥
IsJob (on_job r) = Unit {0}

pub job_clear : (z : Lengths) (sound : Bool) (l : Log) (r : Row) → IsJob r → first_cause (causes_of z sound l r) ≡ 0 → first_cause (result_causes z sound l) ≡ 0
unfolding causes_of
job_clear z sound l (any_area r) j e = absurd j
job_clear z sound l (on_job r) j e =
    let one = missed _ 2 _ e in
    let two = missed _ 3 _ one.later in
    first_two z sound l (r.causes l) (neither (r.buffer_short l.settings) (short z l.settings) one.here).1 two.here

-- ---- the next state

-- A state that satisfies the clauses and fits storage of these lengths.
pub record Next (z : Lengths) (m : Machine) : Type 0 where
  pub sound : SoundMachine m
  pub records : 512 ≤ z.records
  pub readings : least_store m.log.settings ≤ z.readings

-- What a call does to the state is such a state, or nothing.
abbrev pub Allowed : Lengths → Effect → Type 0
Allowed z unchanged = Unit {0}
Allowed z (becomes m) = Next z m

pub next_start : (z : Lengths) (g : Settings) → first_cause (start_causes z g) ≡ 0 → Next z (steps.started g)
unfolding steps.started
next_start z g none =
    let s = startable z g none in
    record { sound = step_facts.start g s.settings; records = s.records; readings = s.readings }

-- The steps keep the clauses of a state that satisfies them; it is asked to only where storage and area do not refuse.
module _ (z : Lengths) (sound : Bool) (m : Machine) (known : first_cause (result_causes z sound m.log) ≡ 0 → SoundMachine m) where
  next_deliver : (rs : List ℤ) (i : ℕ) → first_cause (deliver_causes z sound m.log rs) ≡ 0 → Next z (steps.deliver m rs i)
  unfolding steps.deliver
  next_deliver rs i none =
      let d = deliverable z sound m.log rs none in
      let long = long_enough z sound m.log d.clear in
      record { sound = step_facts.deliver m rs i (known d.clear) d.wanted d.whole (readings_range rs d.range); records = long.0; readings = long.1 }

  next_promote : (p : ℕ) → first_cause (promote_causes z sound m.log p) ≡ 0 → Next z (steps.promote_step m p)
  unfolding steps.promote_step
  next_promote p none =
      let t = promotable z sound m.log p none in
      let long = long_enough z sound m.log t.clear in
      record {
        sound = step_facts.promote m p (known t.clear) t.active;
        records = long.0;
        readings = subst (λ g. least_store g ≤ z.readings) (sym (promoted_settings m.log.settings.budget m.log p)) long.1;
      }

  by_outcome_lem : (o : refining.Outcome) (n : Machine) → Next z n → Allowed z (promotion_effect o n)
  unfolding promotion_effect
  by_outcome_lem refining.spent n x = tt
  by_outcome_lem refining.promoted n x = x

  pub allowed : (c : Call) → refusal z sound m.log c ≡ 0 → Allowed z (effect_of m (row c))
  unfolding refusal causes_of effect_of row deliver_causes promote_causes
  allowed (start g) none = next_start z g none
  allowed (point n buffer) none = tt
  allowed (points n buffer) none = tt
  allowed (deliver rs i) none = next_deliver rs i none
  allowed choose none = tt
  allowed (promote p) none = by_outcome_lem (refining.promote_at m.log p).outcome (steps.promote_step m p) (next_promote p none)
  allowed result none = tt
  allowed doubles none = tt
  allowed cross_total none = tt
  allowed check none = tt

-- ---- on an area whose held records are well-formed

module _ (a : Area) (well_formed : WellFormed (held_of a)) where
  abbrev m : Machine
  m = machine_of a

  pub valid : first_cause (result_causes (lengths_of a) (is_sound a) m.log) ≡ 0 → ValidArea a
  valid none = record { sound = sound_there a none; lent = long_there a none; well_formed = well_formed }

  pub allowed_there : (c : Call) → refusal_on a c ≡ 0 → Allowed (lengths_of a) (effect_of m (row c))
  allowed_there c none = allowed (lengths_of a) (is_sound a) m (λ e. machine_sound a (valid e)) c none

  -- a call on a job finds the area valid
  pub valid_before : (c : Call) → IsJob (row c) → refusal_on a c ≡ 0 → ValidArea a
  unfolding refusal
  valid_before c j none = valid (job_clear (lengths_of a) (is_sound a) m.log (row c) j none)

-- ---- the area that is left, whatever the call

pub next_valid : (a : Area) (n : Machine) → Next (lengths_of a) n → ValidArea (written a n)
next_valid a n x = written_valid a n x.sound x.records x.readings

module _ (a : Area) where
  pub after_valid : (e : Effect) → ValidArea a → Allowed (lengths_of a) e → ValidArea (area_after a e)
  unfolding area_after
  after_valid unchanged s x = s
  after_valid (becomes n) s x = next_valid a n x

  pub after_state : (e : Effect) → Allowed (lengths_of a) e → machine_of (area_after a e) ≡ changed (machine_of a) e
  unfolding area_after changed
  after_state unchanged x = refl
  after_state (becomes n) x = written_state a n x.sound

  pub after_lengths : (e : Effect) → Allowed (lengths_of a) e → lengths_of (area_after a e) ≡ lengths_of a
  unfolding area_after
  after_lengths unchanged x = refl
  after_lengths (becomes n) x = written_lengths a n x.sound x.records x.readings

  pub after_past : (e : Effect) → PastUnchanged a (area_after a e)
  unfolding area_after
  after_past unchanged = record { records = refl; rest = refl }
  after_past (becomes n) = written_past a n
