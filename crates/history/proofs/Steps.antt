-- One call: storage that holds the log's state is answered as the log says, and holds the log's next state.
-- The idea: what is lent is too short, and then nothing happens, or it holds the state and is sound; start looks at nothing old.
-- Assumes nothing.
use mathlib.Core.Path.{◌≡◌, refl, ap, sym, ◌∙◌, subst}
use mathlib.Core.Bool.{Bool, true, false, cond, ◌&&◌}
use Prim.Native.Nat.{ℕ, ◌/◌, ◌≤◌}
use native.Mathlib.Omega.{arith}
use borrow.Author.Tests.{eqb-true, not-false}
use lib.Dec.{leb, eqb}
use lib.ListN.{take}
use lib.Seq.{length-take-le}
use Rattle.area.specs.declared.Settings.{Settings}
use Rattle.area.specs.declared.JobRecord.{JobRecord}
use Rattle.area.specs.Settings.{least_store}
use Rattle.area.specs.Encoding.{Area, job_with, machine_of, written}
use Rattle.area.proofs.Records.{length-records_of}
use Rattle.soundness.specs.Sound.{Sound}
use Rattle.soundness.specs.Clauses.{is_sound}
use Rattle.soundness.proofs.Clauses.{clause_facts}
use Rattle.soundness.proofs.Exactly.{reads_and, reads_le}
use Rattle.area.specs.Log.{Machine}
use Rattle.machine.specs.Steps as steps
use Rattle.machine.specs.Causes.{Lengths, first_cause, short, start_causes}
use Rattle.machine.specs.Means.{mean_of}
use Rattle.machine.proofs.Means.{mean_facts}
use Rattle.writing.proofs.After.{written_sound}
use Rattle.calls.specs.Replies.{lengths_of}
use Rattle.calls.specs.Table.{Call, start, Effect, unchanged, becomes, Row, row, causes_of, effect_of, refusal, answer_of, changed, state_after}
use Rattle.calls.specs.Calls.{area_after, call_on}
use Rattle.calls.proofs.Next.{Next, Allowed, next_start}
use Rattle.calls.proofs.Written.{written_state}
use Rattle.history.specs.LentCalls.{Part, LentCall, lengths_lent}
use Rattle.history.specs.Logged.{answer_by}
use Rattle.history.specs.Storage.{Storage, area_lent, Lent, returned, call_in, storage_step}
use Rattle.history.proofs.Holding.{Holds, Kept, Enough, still, area_holds, returned_holds}
use Rattle.history.proofs.Moves.{machine_step, MachineInvariant, from_log, allowed_here, moved_fine}
use Rattle.history.proofs.Shorts.{row_answer, row_area, short-answer, short_area}

-- not too short is long enough
pub long_enough : (z : Lengths) (g : Settings) → short z g ≡ false → (512 ≤ z.records) × (least_store g ≤ z.readings)
unfolding short
long_enough z g e =
    (reads_and _ _ (reads_le 512 z.records) (reads_le (least_store g) z.readings)).sure (not-false (leb 512 z.records && leb (least_store g) z.readings) e)

module _ (w : Storage) (x : Part) (lent : Lent w x) where
  abbrev a : Area
  a = area_lent w x

  abbrev z : Lengths
  z = lengths_lent x

  pub lengths : lengths_of a ≡ z
  unfolding area_lent
  lengths i =
      record {
        records = (length-records_of (take x.cells w.cells) ∙ ap (λ n. n / 27) (length-take-le x.cells w.cells lent.cells)) i;
        readings = length-take-le x.readings w.store lent.readings i;
      }

  pub enough : (g : Settings) → short z g ≡ false → Enough w x g
  enough g e = let long = long_enough z g e in record { lent = lent; cells = omega (arith, long.0); readings = long.1 }

  -- ---- the state that a call comes to, written into what is lent unless the call is refused

  -- A state that fits what is lent, with its mean worked from its readings.
  abbrev Ready : Effect → Type 0
  Ready unchanged = Unit {0}
  Ready (becomes n) = Next z n × (n.mean ≡ mean_of n.log.entries)

  put_back : (m : Machine) (e : Effect) (t : Bool) → Holds w m → (t ≡ true → Ready e) → Kept w (returned w x (cond t (area_after a e) a)) (cond t (changed m e) m)
  unfolding area_after changed
  put_back m unchanged true h f = still w x m h
  put_back m (becomes n) true h f =
      let y = f refl in
      returned_holds w x n y.0.sound (record { lent = lent; cells = omega (arith, y.0.records); readings = y.0.readings }) y.1
  put_back m e false h f = still w x m h

  module _ (m : Machine) (h : Holds w m) where
    abbrev invariant : MachineInvariant m
    invariant = record { sound = h.sound; mean = h.mean }

    ready : (c : Call) → refusal z true m.log c ≡ 0 → Ready (effect_of m (row c))
    unfolding changed
    ready c none = by (effect_of m (row c)) (allowed_here m invariant z c none) (moved_fine m invariant z c none).mean
      where
        by : (e : Effect) → Allowed z e → (changed m e).mean ≡ mean_of (changed m e).log.entries → Ready e
        by unchanged y q = tt
        by (becomes n) y q = (y, q)

    -- ---- lent enough: the part holds the state, and is sound
    module _ (n : Enough w x m.log.settings) where
      holding : a ≡ written a m
      holding = area_holds w x m h.sound n h

      sound : is_sound a ≡ true
      sound = (clause_facts.agree a).back (subst Sound (sym holding) (written_sound a m h.sound))

      state : machine_of a ≡ m
      state = ap machine_of holding ∙ written_state a m h.sound

      enough_answers : (r : Row) → row_answer (lengths_of a) (is_sound a) (machine_of a) r ≡ row_answer z true m r
      enough_answers r = ap (λ y. row_answer y (is_sound a) (machine_of a) r) lengths ∙ ap (λ y. row_answer z y (machine_of a) r) sound ∙ ap (λ (y : Machine). row_answer z true y r) state

      enough_area : (r : Row) → row_area (lengths_of a) (is_sound a) (machine_of a) a r ≡ row_area z true m a r
      enough_area r = ap (λ y. row_area y (is_sound a) (machine_of a) a r) lengths ∙ ap (λ y. row_area z y (machine_of a) a r) sound ∙ ap (λ (y : Machine). row_area z true y a r) state

    -- ---- lent too little
    module _ (is : short z m.log.settings ≡ true) where
      settings_same : (machine_of a).log.settings ≡ m.log.settings
      unfolding machine_of area_lent job_with
      settings_same = ap (λ (j : JobRecord). j.settings) h.job

      short_there : short z (machine_of a).log.settings ≡ true
      short_there = ap (short z) settings_same ∙ is

      little_answers : (r : Row) → row_answer (lengths_of a) (is_sound a) (machine_of a) r ≡ row_answer z true m r
      little_answers r = ap (λ y. row_answer y (is_sound a) (machine_of a) r) lengths ∙ short-answer z (is_sound a) true (machine_of a) m short_there is r

      little_area : (r : Row) → row_area (lengths_of a) (is_sound a) (machine_of a) a r ≡ row_area z true m a r
      little_area r = ap (λ y. row_area y (is_sound a) (machine_of a) a r) lengths ∙ short_area z (is_sound a) true (machine_of a) m short_there is a r

    -- ---- any call
    same : (r : Row) → (row_answer (lengths_of a) (is_sound a) (machine_of a) r ≡ row_answer z true m r) × (row_area (lengths_of a) (is_sound a) (machine_of a) a r ≡ row_area z true m a r)
    same r = split (short z m.log.settings) refl
      where
        split : (t : Bool) → short z m.log.settings ≡ t
            → (row_answer (lengths_of a) (is_sound a) (machine_of a) r ≡ row_answer z true m r) × (row_area (lengths_of a) (is_sound a) (machine_of a) a r ≡ row_area z true m a r)
        split true e = (little_answers e r, little_area e r)
        split false e = (enough_answers (enough m.log.settings e) r, enough_area (enough m.log.settings e) r)

    pub answered : (c : Call) → (call_on a c).answer ≡ answer_by z m.log c
    unfolding call_on answer_of refusal answer_by
    answered c = (same (row c)).0 ∙ ap (λ (y : Machine). row_answer z true y (row c)) (from_log m invariant)

    pub kept : (c : Call) → Kept w (returned w x (call_on a c).area) (state_after z true m c)
    unfolding call_on refusal state_after
    kept c =
        subst (λ (y : Area). Kept w (returned w x y) (cond (eqb (first_cause (causes_of z true m.log (row c))) 0) (changed m (effect_of m (row c))) m)) (sym (same (row c)).1)
        (put_back m (effect_of m (row c)) (eqb (first_cause (causes_of z true m.log (row c))) 0) h (λ e. ready c (eqb-true (first_cause (causes_of z true m.log (row c))) 0 e)))

  -- ---- an accepted start, whatever was there
  pub first_holds : (g : Settings) → first_cause (start_causes z g) ≡ 0 → Kept w (returned w x (call_on a (start g)).area) (steps.started g)
  unfolding call_on refusal causes_of effect_of row area_after
  first_holds g none =
      let n : Next z (steps.started g) = next_start z g none in
      subst (λ (k : ℕ). Kept w (returned w x (cond (eqb k 0) (written a (steps.started g)) a)) (steps.started g)) (sym (ap (λ y. first_cause (start_causes y g)) lengths ∙ none))
      (returned_holds w x (steps.started g) n.sound (record { lent = lent; cells = omega (arith, n.records); readings = n.readings }) (unfold steps.started in sym (mean_facts.start g)))

module _ (w : Storage) (x : LentCall) (lent : Lent w x.part) (m : Machine) (h : Holds w m) where
  pub call-answer : (call_in w x).answer ≡ answer_by (lengths_lent x.part) m.log x.call
  unfolding call_in
  call-answer = answered w x.part lent m h x.call

  pub call_keeps : Kept w (storage_step w x) (machine_step m x)
  unfolding storage_step call_in
  call_keeps = kept w x.part lent m h x.call
