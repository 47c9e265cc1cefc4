-- When promote is spent, after every list of calls.
-- The idea: the state stays sound, so every entry has a level for each axis, and what an active place admits is not held.
-- Assumes nothing.
use mathlib.Core.Path.{◌≡◌, ap, ◌∙◌, subst}
use mathlib.Core.Logic.{inl, inr}
use mathlib.Core.Bool.{true}
use mathlib.Core.List.Memᴰ
use mathlib.Core.List.{List, []}
use Prim.Native.Nat.{ℕ, ◌<◌, ◌≤◌}
use native.Mathlib.Decide.{dec_lt}
use native.Mathlib.Omega.{arith}
use lib.ListN.{length}
use Rattle.area.specs.Settings.{least_store}
use Rattle.area.specs.Log.{Log, Machine}
use Rattle.encoding.specs.Entries.{SoundMachine}
use Rattle.machine.specs.Log.{first_wanted, any_wanted, Active}
use Rattle.machine.specs.Promote as refining
use Rattle.machine.specs.Admitted.{Admitted, ListsAdmitted, total_of, Exceeds}
use Rattle.machine.specs.Steps as steps
use Rattle.machine.specs.Causes.{Lengths}
use Rattle.machine.proofs.Wanted.{reads_wanted}
use Rattle.machine.proofs.Answers.{spent_not}
use Rattle.machine.proofs.Spent.{sound_place, admitted_facts}
use Rattle.calls.specs.Replies.{promotion}
use Rattle.calls.specs.Table.{promote, answer}
use Rattle.calls.proofs.Tests as tests
use Rattle.history.specs.Logged.{answer_by}
use Rattle.history.specs.Spent.{Admissions, SpentExactly}
use Rattle.history.proofs.Lists.{machine_after}
use Rattle.history.proofs.Demand.{log_there, state_fine}
use Rattle.history.proofs.Accepts.{promote_answer}
use Rattle.history.proofs.Promotions.{answered, accepted_active}

module _ (m : Machine) (v : SoundMachine m) where
  abbrev l : Log
  l = m.log

  free : (any_wanted m.log.entries ≡ true → ⊥) → length m.log.entries ≤ first_wanted m.log.entries
  free none = step (dec_lt (first_wanted m.log.entries) (length m.log.entries))
    where
      step : Dec (first_wanted m.log.entries < length m.log.entries) → length m.log.entries ≤ first_wanted m.log.entries
      step (yes h) = absurd (none ((reads_wanted m.log.entries).back h))
      step (no h) = omega arith

  answers : {o : refining.Outcome} (z : Lengths) (p : ℕ) → 512 ≤ z.records → least_store l.settings ≤ z.readings → (any_wanted l.entries ≡ true → ⊥) → Active l.entries p
      → (refining.promote_at l p).outcome ≡ o → answer_by z l (promote p) ≡ answer (promotion o)
  answers z p h k none a e = promote_answer z l (tests.enough z l.settings h k) (free none) p a ∙ ap (λ o. answer (promotion o)) e

  spent_answer : (z : Lengths) (p : ℕ) (ks : List (List ℕ)) → ListsAdmitted l p ks → answer_by z l (promote p) ≡ answer (promotion refining.spent) → Active l.entries p × Exceeds l ks
  spent_answer z p ks these e =
      let y = answered z l p refining.spent e in
      let a = accepted_active z l p y.0 in
      (a, admitted_facts.spent_only l p ks (sound_place m p v a.place) these y.1)

  promoted_answer : (z : Lengths) (p : ℕ) (ks : List (List ℕ)) → ListsAdmitted l p ks → answer_by z l (promote p) ≡ answer (promotion refining.promoted) → Active l.entries p × (Exceeds l ks → ⊥)
  promoted_answer z p ks these e =
      let y = answered z l p refining.promoted e in
      let a = accepted_active z l p y.0 in
      (a, λ x. spent_not (admitted_facts.spent l p ks (sound_place m p v a.place) these x) y.1)

  -- held and reserved as they are pass no limit
  stays_within : Exceeds l [] → ⊥
  unfolding total_of
  stays_within (inl h) = omega (arith, h, v.count.1)
  stays_within (inr h) = omega (arith, h, v.within_budget)

  none_admitted : (p : ℕ) → Active l.entries p → ((k : List ℕ) → Admitted l.settings.axes l.entries p k → ⊥) → (refining.promote_at l p).outcome ≡ refining.promoted
  none_admitted p a n =
      admitted_facts.promoted l p [] (sound_place m p v a.place) (record { each = λ k h. absurd (Memᴰ.not-nil h); all = λ k h. absurd (n k h); once = tt }) stays_within

  pub admissions : Admissions m.log
  admissions =
      record {
        listed = λ q a. admitted_facts.listed l q (sound_place m q v a.place);
        appends = λ q a. admitted_facts.appends l q (sound_place m q v a.place);
        none_held = λ q k. admitted_facts.none_held m q k v;
        spent = λ z p ks h k none a these x. answers z p h k none a (admitted_facts.spent l p ks (sound_place m p v a.place) these x);
        spent_only = spent_answer;
        promoted = λ z p ks h k none a these n. answers z p h k none a (admitted_facts.promoted l p ks (sound_place m p v a.place) these n);
        promoted_only = promoted_answer;
        none_admitted = λ z p h k none a n. answers z p h k none a (none_admitted p a n);
      }

pub spent_exactly : SpentExactly
spent_exactly w first later g lent is taken =
    subst Admissions (log_there w first later g lent is taken)
    (admissions (machine_after (steps.started g) later) (state_fine w first later g lent is taken).sound)
