-- One step of the execution, as the code does it.
-- The idea: the definition asks whether a block is wanted; each way is one call of the machine, written into the area.
-- Assumes nothing.
use mathlib.Core.Path.{◌≡◌, refl, ap, sym, ◌∙◌}
use mathlib.Core.Bool.{true, false, cond}
use mathlib.Core.List.{List}
use Prim.Native.Nat.{ℕ, suc, ◌+◌, ◌<◌, ◌≤◌}
use native.Mathlib.Omega.{arith}
use borrow.Author.Tests.{le-leb, lt-leb}
use lib.Dec.{eqb}
use lib.IntN.{ℤ}
use lib.ListN.{length}
use Rattle.area.specs.declared.JobRecord.{JobRecord}
use Rattle.area.specs.declared.IndexRecord.{IndexRecord}
use Rattle.area.specs.Records.{records_of, held_in}
use Rattle.area.specs.Encoding.{Area, area_of, entries_of, machine_of, written}
use Rattle.area.specs.Log.{Machine}
use Rattle.area.proofs.PackedRuns.{held_count}
use Rattle.soundness.specs.Held.{state_at}
use Rattle.machine.specs.Log.{first_wanted, any_wanted, Active}
use Rattle.machine.specs.Choose as choice
use Rattle.machine.specs.Promote as refining
use Rattle.machine.specs.Steps.{deliver, promote_step}
use Rattle.machine.specs.Areas.{AreaPromotion, changed_by, refine_on, promote_on}
use Rattle.machine.proofs.Facts.{step_facts}
use Rattle.writing.specs.Heads.{heads_of}
use Rattle.writing.specs.ValidArea.{ValidArea}
use Rattle.writing.proofs.Areas.{state_is}
use Rattle.writing.proofs.After.{machine_sound}
use Rattle.promotion.specs.declared.Outcome as outcome
use Rattle.promotion.specs.declared.Outcome.TheVariants as outcomes
use Rattle.promotion.specs.Outcomes.{outcome_of, promotion_of}
use Rattle.promotion.proofs.Choosing.{chosen_active}
use Rattle.calls.proofs.Causes.{wanted-yes, wanted_no}
use Rattle.calls.proofs.Validity.{held_there, wanted-place, entries_count}
use Rattle.calls.proofs.Written.{written_state}
use Rattle.jobfile.specs.Form.{entry_count}
use Rattle.jobfile.specs.File.{entry_of}
use Rattle.reporting.specs.Text.{spent, short}
use Rattle.running.specs.Execution.{refused_at, ended, delivery_cause, delivery_byte, by_outcome, by_choice, execution}

-- ---- the three ways of the definition

module _ (c : List ℕ) (n : ℕ) (m : Machine) (i : ℕ) where
  pub way_short : any_wanted m.log.entries ≡ true → entry_count c ≤ i → execution c (suc n) m i ≡ ended short m i
  unfolding execution
  way_short w h = rw (w, le-leb (entry_count c) i h) refl

  pub way_deliver : any_wanted m.log.entries ≡ true → i < entry_count c
      → execution c (suc n) m i
      ≡ cond (eqb (delivery_cause c m i) 0) (execution c n (deliver m (entry_of c i).readings (entry_of c i).indicator) (i + 1))
      (refused_at (delivery_cause c m i) (delivery_byte c i (delivery_cause c m i)))
  unfolding execution
  way_deliver w h = rw (w, lt-leb (entry_count c) i h) refl

  pub way_choose : any_wanted m.log.entries ≡ false → execution c (suc n) m i ≡ by_choice (choice.choose m.log) m i (λ p. execution c n (promote_step m p) i)
  unfolding execution
  way_choose w = rw w refl

-- ---- in a valid area

module _ (j : JobRecord) (cells : List ℕ) (store : List ℤ) (st : ValidArea (area_of j cells store)) where
  -- no entry is wanted where the first wanted place comes after the last
  pub none_wanted : length (entries_of (area_of j cells store)) ≤ first_wanted (entries_of (area_of j cells store)) → any_wanted (machine_of (area_of j cells store)).log.entries ≡ false
  unfolding machine_of
  none_wanted h = wanted_no (machine_of (area_of j cells store)).log h

  -- what the scan of the held records for a wanted place tells
  module _ (rs : List IndexRecord) (are : rs ≡ held_in cells j.held) where
    first : first_wanted (heads_of rs) ≡ first_wanted (entries_of (area_of j cells store))
    first = rw are (wanted-place j cells store st)

    count : length rs ≡ j.held
    count = ap length are ∙ held_count cells j.held (held_there j cells store st)

    pub none_there : length rs ≡ first_wanted (heads_of rs) → length (entries_of (area_of j cells store)) ≤ first_wanted (entries_of (area_of j cells store))
    none_there e = omega (arith, first, count, e, entries_count j cells store st)

    pub wanted-none : length rs ≡ first_wanted (heads_of rs) → any_wanted (machine_of (area_of j cells store)).log.entries ≡ false
    wanted-none e = none_wanted (none_there e)

    module _ (p : ℕ) (e : p ≡ first_wanted (heads_of rs)) (h : p < length rs) where
      pub place_is : (p ≡ first_wanted (entries_of (area_of j cells store))) × (p < j.held)
      place_is = (e ∙ first, omega (arith, h, count))

      pub wanted_there : any_wanted (machine_of (area_of j cells store)).log.entries ≡ true
      unfolding machine_of
      wanted_there = wanted-yes (machine_of (area_of j cells store)).log (omega (arith, place_is.0, place_is.1, entries_count j cells store st))

  -- a place that is chosen
  module _ (p : ℕ) (is : choice.choose (machine_of (area_of j cells store)).log ≡ choice.place p) where
    abbrev m : Machine
    m = machine_of (area_of j cells store)

    pub chosen_place_lem : (p < j.held) × (state_at (records_of cells) p ≡ 1)
    chosen_place_lem = chosen_active j cells store st p is

    active-entry : Active (entries_of (area_of j cells store)) p
    active-entry = record { place = inside; active = state_is (area_of j cells store) st p inside ∙ chosen_place_lem.1 }
      where
        inside : p < length (entries_of (area_of j cells store))
        inside = omega (arith, chosen_place_lem.0, entries_count j cells store st)

    -- its promotion
    module _ (job : JobRecord) (cells₁ : List ℕ) where
      next_state : area_of job cells₁ store ≡ written (area_of j cells store) (promote_step (machine_of (area_of j cells store)) p)
          → machine_of (area_of job cells₁ store) ≡ promote_step (machine_of (area_of j cells store)) p
      next_state e =
          ap machine_of e
          ∙ written_state (area_of j cells store) (promote_step (machine_of (area_of j cells store)) p)
          (step_facts.promote (machine_of (area_of j cells store)) p (machine_sound (area_of j cells store) st) (unfold machine_of in active-entry))

      module _ (o : outcome.Outcome) (by : promotion_of o job cells₁ store ≡ promote_on (area_of j cells store) p) where
        outcome_is : outcome_of o ≡ (refining.promote_at (machine_of (area_of j cells store)).log p).outcome
        unfolding refine_on machine_of
        outcome_is = ap (λ (x : AreaPromotion). x.outcome) by

        area_is : area_of job cells₁ store ≡ changed_by (outcome_of o) (area_of j cells store) (written (area_of j cells store) (promote_step (machine_of (area_of j cells store)) p))
        unfolding refine_on machine_of promote_step
        area_is =
            ap (λ (x : AreaPromotion). x.area) by
            ∙ ap (λ x. changed_by x (area_of j cells store) (written (area_of j cells store) (promote_step (machine_of (area_of j cells store)) p))) (sym outcome_is)

        way_place : (c : List ℕ) (n i : ℕ)
            → by_choice (choice.choose (machine_of (area_of j cells store)).log) (machine_of (area_of j cells store)) i (λ q. execution c n (promote_step (machine_of (area_of j cells store)) q) i)
            ≡ by_outcome (outcome_of o) (machine_of (area_of j cells store)) i (execution c n (promote_step (machine_of (area_of j cells store)) p) i)
        unfolding by_choice
        way_place c n i =
            ap (λ x. by_choice x (machine_of (area_of j cells store)) i (λ q. execution c n (promote_step (machine_of (area_of j cells store)) q) i)) is
            ∙ ap (λ x. by_outcome x (machine_of (area_of j cells store)) i (execution c n (promote_step (machine_of (area_of j cells store)) p) i)) (sym outcome_is)

      -- spent, it leaves the state
      pub spent_step : promotion_of outcomes.Spent job cells₁ store ≡ promote_on (area_of j cells store) p → (c : List ℕ) (n i : ℕ)
          → by_choice (choice.choose (machine_of (area_of j cells store)).log) (machine_of (area_of j cells store)) i (λ q. execution c n (promote_step (machine_of (area_of j cells store)) q) i)
          ≡ ended spent (machine_of (area_of job cells₁ store)) i
      spent_step by c n i =
          way_place outcomes.Spent by c n i
          ∙ unfold outcome_of by_outcome changed_by in
          ap (λ (x : Area). ended spent (machine_of x) i) (sym (area_is outcomes.Spent by))

      -- and all of the area
      pub spent_left : promotion_of outcomes.Spent job cells₁ store ≡ promote_on (area_of j cells store) p → area_of job cells₁ store ≡ area_of j cells store
      spent_left by = unfold outcome_of changed_by in area_is outcomes.Spent by

      -- promoted, it leaves the next one
      pub promoted_step : promotion_of outcomes.Promoted job cells₁ store ≡ promote_on (area_of j cells store) p → (c : List ℕ) (n i : ℕ)
          → by_choice (choice.choose (machine_of (area_of j cells store)).log) (machine_of (area_of j cells store)) i (λ q. execution c n (promote_step (machine_of (area_of j cells store)) q) i)
          ≡ execution c n (machine_of (area_of job cells₁ store)) i
      promoted_step by c n i =
          way_place outcomes.Promoted by c n i
          ∙ unfold outcome_of by_outcome changed_by in
          ap (λ (y : Machine). execution c n y i) (sym (next_state (area_is outcomes.Promoted by)))
