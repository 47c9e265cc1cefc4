-- What a run comes to, and that it comes to it within its steps.
-- The idea: a step delivers one of at most 512 entries, or makes one of at most 512 held indices old, or ends the run; and each step keeps
-- the clauses and the mean. Assumes nothing.
use mathlib.Core.Path.{◌≡◌, refl, ap, sym, ◌∙◌}
use mathlib.Core.Logic.{inl, inr}
use mathlib.Core.Bool.{Bool, true, false, cond}
use mathlib.Core.List.{List}
use Prim.Native.Nat.{ℕ, zero, suc, ◌+◌, ◌-◌, ◌<◌, ◌≤◌}
use native.Mathlib.Decide.{ℕ_discrete}
use native.Mathlib.Omega.{arith}
use borrow.Author.Tests.{eqb-true, eqb-false, leb-false}
use lib.Dec.{leb, eqb}
use lib.IntN.{ℤ, ◌+ℤ◌}
use lib.ListN.{length}
use Rattle.soundness.proofs.Settings.{reads_axes, reads_budget}
use Rattle.area.proofs.Readings.{reading_facts}
use Rattle.area.specs.declared.Settings.{Settings}
use Rattle.area.specs.Settings.{SettingsFit, axes_fit, budget_fit, reading_count}
use Rattle.grid.specs.Difference.{scaled_difference}
use Rattle.area.specs.Entry.{Entry, reading_in}
use Rattle.area.specs.Log.{Log, Machine}
use Rattle.machine.specs.Log.{wanted_index, first_wanted, any_wanted, Active}
use Rattle.machine.specs.Causes.{first_cause, start_causes, result_causes, deliver_causes, in_range}
use Rattle.machine.specs.Choose as choice
use Rattle.machine.specs.Promote as refining
use Rattle.machine.proofs.Answers.{promoted_log}
use Rattle.machine.proofs.Choices.{choose-facts}
use Rattle.machine.specs.Steps.{started, deliver, promote_step}
use Rattle.machine.specs.Counts.{count_of}
use Rattle.encoding.specs.Entries.{SoundMachine}
use Rattle.machine.specs.Means.{mean_of}
use Rattle.machine.proofs.Facts.{step_facts}
use Rattle.machine.proofs.Means.{mean_facts}
use Rattle.calls.proofs.Accepted.{startable, Deliverable, deliverable}
use Rattle.calls.proofs.Causes.{start_axes, start_budget, start_fits, common_none, deliver_count, deliver_range, deliver-fits}
use Rattle.calls.proofs.Ranges.{readings_range}
use Rattle.calls.proofs.Tests as tests
use Rattle.jobfile.specs.Form.{formed, form_of, entry_count}
use Rattle.jobfile.specs.File.{entry_of}
use Rattle.reporting.specs.Text.{short}
use Rattle.running.specs.Execution.{own_lengths, refused_at, ended, delivery_byte, delivery_cause, by_outcome, by_choice, execution, step_limit, start_byte, start_cause, result_in, result_of, file_settings}
use Rattle.running.specs.Facts.{ByStart, ByDelivery, RunInvariant, AllowedResult}
use Rattle.running.proofs.Counted.{count_most, delivery_old, refined_old}

-- ---- a state stands

invariant : (m : Machine) → SoundMachine m → m.mean ≡ mean_of m.log.entries → RunInvariant m
invariant m v e = record { sound = v; differences = e; combination = e ∙ mean_facts.cross m v }

delivered_invariant : (m : Machine) (rs : List ℤ) (i : ℕ) → RunInvariant m → Deliverable own_lengths true m.log rs → RunInvariant (deliver m rs i)
delivered_invariant m rs i s d =
    invariant (deliver m rs i) (step_facts.deliver m rs i s.sound d.wanted d.whole (readings_range rs d.range)) (unfold deliver in
    ap (λ y. y +ℤ scaled_difference (wanted_index m.log.entries) (reading_in (deliver m rs i).log.entries)) s.differences
    ∙ sym (mean_facts.deliver m rs i s.sound d.wanted))

promoted_invariant : (m : Machine) (p : ℕ) → RunInvariant m → Active m.log.entries p → RunInvariant (promote_step m p)
promoted_invariant m p s a =
    invariant (promote_step m p) (step_facts.promote m p s.sound a) (unfold promote_step in s.differences ∙ sym (mean_facts.promote m p s.sound a))

-- ---- the numbers of refusals

-- with storage of the run's own only axes and budget can refuse start
start_numbers : (g : Settings) → eqb (first_cause (start_causes own_lengths g)) 0 ≡ false → ByStart (first_cause (start_causes own_lengths g))
start_numbers g f = step (axes_fit g) (budget_fit g) refl refl
  where
    step : (t u : Bool) → axes_fit g ≡ t → budget_fit g ≡ u → ByStart (first_cause (start_causes own_lengths g))
    step false u a b = inl (start_axes own_lengths g a)
    step true false a b = inr (start_budget own_lengths g a b)
    step true true a b =
        absurd (eqb-false (first_cause (start_causes own_lengths g)) 0 f
        (let fit : SettingsFit g = record { axes = (reads_axes g).sure a; budget = (reads_budget g).sure b } in
        start_fits own_lengths g fit (tests.enough own_lengths g (omega arith) (reading_facts.most g fit))))

-- with a block wanted only the count and the range of the readings can refuse a delivery
pub delivery_numbers : (m : Machine) (rs : List ℤ) → SoundMachine m → any_wanted m.log.entries ≡ true → eqb (first_cause (deliver_causes own_lengths true m.log rs)) 0 ≡ false
    → ByDelivery (first_cause (deliver_causes own_lengths true m.log rs))
delivery_numbers m rs v some f = count (ℕ_discrete (length rs) (reading_count m.log.settings (wanted_index m.log.entries)))
  where
    none : first_cause (result_causes own_lengths true m.log) ≡ 0
    none = common_none own_lengths true m.log (tests.enough own_lengths m.log.settings (omega arith) (reading_facts.most m.log.settings v.settings)) refl

    range : length rs ≡ reading_count m.log.settings (wanted_index m.log.entries) → (t : Bool) → in_range rs ≡ t → ByDelivery (first_cause (deliver_causes own_lengths true m.log rs))
    range whole false e = inr (deliver_range own_lengths true m.log rs none some whole e)
    range whole true e = absurd (eqb-false (first_cause (deliver_causes own_lengths true m.log rs)) 0 f (deliver-fits own_lengths true m.log rs none some whole e))

    count : Dec (length rs ≡ reading_count m.log.settings (wanted_index m.log.entries)) → ByDelivery (first_cause (deliver_causes own_lengths true m.log rs))
    count (no h) = inl (deliver_count own_lengths true m.log rs none some h)
    count (yes h) = range h (in_range rs) refl

-- ---- one step, and all

module _ (c : List ℕ) where
  -- how many steps are left at most, the last one apart
  abbrev left : Machine → ℕ → ℕ
  left m i = (entry_count c - i) + (512 - count_of 2 m.log.entries)

  abbrev Ends : ℕ → Type 0
  Ends n = (m : Machine) (i : ℕ) → RunInvariant m → i ≤ entry_count c → left m i < n → AllowedResult (entry_count c) (execution c n m i)

  module _ (n : ℕ) (later : Ends n) (m : Machine) (i : ℕ) (s : RunInvariant m) (used : i ≤ entry_count c) (h : left m i < suc n) where
    abbrev es : List Entry
    es = m.log.entries

    abbrev rs : List ℤ
    rs = (entry_of c i).readings

    abbrev ind : ℕ
    ind = (entry_of c i).indicator

    delivering : i < entry_count c → delivery_cause c m i ≡ 0 → AllowedResult (entry_count c) (execution c n (deliver m rs ind) (i + 1))
    delivering some none =
        let d : Deliverable own_lengths true m.log rs = deliverable own_lengths true m.log rs none in
        later (deliver m rs ind) (i + 1) (delivered_invariant m rs ind s d) (omega (arith, some)) (omega (arith, h, some, kept d.wanted))
      where
        kept : first_wanted m.log.entries < length m.log.entries → count_of 2 (deliver m (entry_of c i).readings (entry_of c i).indicator).log.entries ≡ count_of 2 m.log.entries
        kept g = unfold deliver in delivery_old m.log.entries (entry_of c i).readings (entry_of c i).indicator g

    with_wanted : any_wanted es ≡ true → (t : Bool) → leb (entry_count c) i ≡ t
        → AllowedResult (entry_count c) (cond t (ended short m i)
        (cond (eqb (delivery_cause c m i) 0) (execution c n (deliver m rs ind) (i + 1)) (refused_at (delivery_cause c m i) (delivery_byte c i (delivery_cause c m i)))))
    with_wanted some true e = (s, used)
    with_wanted some false e = step (eqb (delivery_cause c m i) 0) refl
      where
        step : (t : Bool) → eqb (delivery_cause c m i) 0 ≡ t
            → AllowedResult (entry_count c) (cond t (execution c n (deliver m (entry_of c i).readings (entry_of c i).indicator) (i + 1)) (refused_at (delivery_cause c m i) (delivery_byte c i (delivery_cause c m i))))
        step true f = delivering (leb-false (entry_count c) i e) (eqb-true (delivery_cause c m i) 0 f)
        step false f = inr (delivery_numbers m (entry_of c i).readings s.sound some f)

    promoting : (p : ℕ) → choice.choose m.log ≡ choice.place p → (refining.promote_at m.log p).outcome ≡ refining.promoted → AllowedResult (entry_count c) (execution c n (promote_step m p) i)
    promoting p chosen is = later (promote_step m p) i next used (omega (arith, h, more, most))
      where
        a : Active m.log.entries p
        a = choose-facts.place_active m.log p chosen

        next : RunInvariant (promote_step m p)
        next = promoted_invariant m p s a

        most : count_of 2 (promote_step m p).log.entries ≤ 512
        most = omega (arith, count_most 2 (promote_step m p).log.entries, next.sound.count.1)

        more : count_of 2 (promote_step m p).log.entries ≡ suc (count_of 2 m.log.entries)
        more =
            unfold promote_step in
            ap (λ (l : Log). count_of 2 l.entries) (promoted_log m.log.settings.budget m.log p is)
            ∙ refined_old m.log.settings.axes m.log.entries p a.place a.active

    by_outcome_lem : (p : ℕ) (o : refining.Outcome) → (o ≡ refining.promoted → AllowedResult (entry_count c) (execution c n (promote_step m p) i))
        → AllowedResult (entry_count c) (by_outcome o m i (execution c n (promote_step m p) i))
    unfolding by_outcome
    by_outcome_lem p refining.spent f = (s, used)
    by_outcome_lem p refining.promoted f = f refl

    by_choice_lem : (x : choice.Choice) → choice.choose m.log ≡ x → AllowedResult (entry_count c) (by_choice x m i (λ p. execution c n (promote_step m p) i))
    unfolding by_choice
    by_choice_lem choice.met e = (s, used)
    by_choice_lem choice.capped e = (s, used)
    by_choice_lem (choice.place p) e = by_outcome_lem p (refining.promote_at m.log p).outcome (promoting p e)

    one_step : AllowedResult (entry_count c) (execution c (suc n) m i)
    unfolding execution
    one_step = step (any_wanted es) refl
      where
        step : (t : Bool) → any_wanted m.log.entries ≡ t
            → AllowedResult (entry_count c) (cond t
            (cond (leb (entry_count c) i) (ended short m i)
            (cond (eqb (delivery_cause c m i) 0) (execution c n (deliver m (entry_of c i).readings (entry_of c i).indicator) (i + 1)) (refused_at (delivery_cause c m i) (delivery_byte c i (delivery_cause c m i)))))
            (by_choice (choice.choose m.log) m i (λ p. execution c n (promote_step m p) i)))
        step true e = with_wanted e (leb (entry_count c) i) refl
        step false e = by_choice_lem (choice.choose m.log) refl

  pub execution_ends : (n : ℕ) → Ends n
  execution_ends zero m i s u h = absurd (omega (arith, h))
  execution_ends (suc n) m i s u h = one_step n (execution_ends n) m i s u h

-- ---- from the start

started_ends : (c : List ℕ) → entry_count c ≤ 512 → start_cause c ≡ 0 → AllowedResult (entry_count c) (execution c step_limit (started (file_settings c)) 0)
started_ends c few none =
    execution_ends c step_limit (started (file_settings c)) 0
    (invariant (started (file_settings c)) (step_facts.start (file_settings c) (startable own_lengths (file_settings c) none).settings)
    (unfold started in sym (mean_facts.start (file_settings c)))) (omega arith) (omega (arith, few))

pub run_allowed : (c : List ℕ) → entry_count c ≤ 512 → form_of c ≡ formed → AllowedResult (entry_count c) (result_of c)
unfolding result_of result_in
run_allowed c few e = rw e (begun (eqb (start_cause c) 0) refl)
  where
    begun : (t : Bool) → eqb (start_cause c) 0 ≡ t
        → AllowedResult (entry_count c) (cond t (execution c step_limit (started (file_settings c)) 0) (refused_at (start_cause c) (start_byte (start_cause c))))
    begun true q = started_ends c few (eqb-true (start_cause c) 0 q)
    begun false q = inl (start_numbers (file_settings c) q)
