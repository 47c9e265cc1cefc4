-- An altered area can be sound with another mean.
-- The idea: of the clauses only the last speaks of the recorded mean, and where an index is delivered both 0 and 1 fit.
-- Assumes nothing.
use mathlib.Core.Path.{◌≡◌, refl, ap, sym, ◌∙◌, subst}
use mathlib.Core.Bool.{true}
use mathlib.Core.List.{List, [], ◌∷◌}
use Prim.Native.Nat.{ℕ, zero, suc, ◌≤◌}
use native.Mathlib.Omega.{arith}
use lib.IntN.{ℤ, pos, negsuc, nat_abs}
use lib.ListN.{length, replicate, length-replicate}
use Rattle.rule.specs.Points.{new_count}
use Rattle.grid.specs.Index.{root}
use Rattle.grid.specs.Block.{block_size}
use Rattle.area.specs.declared.Settings.{Settings}
use Rattle.area.specs.Settings.{settings_of, SettingsFit, readings_for, reading_count, least_store}
use Rattle.area.specs.Records.{blank}
use Rattle.doubles.specs.declared.Report.{Report}
use Rattle.doubles.specs.Double.{report_of}
use Rattle.area.specs.Entry.{delivered_of, pending_of}
use Rattle.area.specs.Log.{Machine}
use Rattle.area.specs.Encoding.{Area, entries_of, machine_of}
use Rattle.soundness.specs.Sound.{Sound}
use Rattle.soundness.specs.Clauses.{is_sound}
use Rattle.soundness.proofs.Clauses.{clause_facts}
use Rattle.encoding.proofs.Facts.{encoding_facts}
use Rattle.machine.specs.Log.{wanted, first_wanted, any_wanted, wanted_index}
use Rattle.machine.specs.Steps as steps
use Rattle.machine.specs.Causes.{in_range}
use Rattle.machine.specs.Counts.{counts_of}
use Rattle.machine.specs.Means.{mean_of}
use Rattle.machine.specs.Largest.{largest_of}
use Rattle.counting.specs.Doubles.{doubles_of}
use Rattle.machine.proofs.Means.{mean_facts}
use Rattle.writing.specs.ValidArea.{ValidArea}
use Rattle.calls.specs.Replies.{Reply, refused, accepted, counts, doubled, total, lengths_of}
use Rattle.calls.specs.Table.{Answer, start, deliver, result, doubles, cross_total, answer}
use Rattle.calls.specs.Calls.{area_cause, call_on}
use Rattle.calls.specs.Facts.{NotRefused}
use Rattle.calls.proofs.Tests as tests
use Rattle.calls.proofs.Causes.{common_none}
use Rattle.calls.proofs.Rows.{result_accepts, cross_accepts}
use Rattle.calls.proofs.Facts.{call_facts}
use Rattle.calls.proofs.ReportTold.{report-facts}
use Rattle.history.specs.Altered.{with_mean, MeanFits, OtherMean, AlteredMeans}
use Rattle.history.proofs.Excluded.{excluded}

-- ---- result and cross total in a valid area

module _ (a : Area) (v : ValidArea a) where
  no_cause : area_cause a ≡ 0
  unfolding machine_of
  no_cause =
      common_none (lengths_of a) (is_sound a) (machine_of a).log (tests.enough (lengths_of a) a.job.settings v.lent.records v.lent.store)
      ((clause_facts.agree a).back v.sound)

  result_is : (call_on a result).answer ≡ answer (counts (counts_of (machine_of a)))
  result_is = sym (result_accepts a (area_cause a) refl no_cause)

  cross_is : (call_on a cross_total).answer ≡ answer (total (mean_of (entries_of a)))
  unfolding machine_of
  cross_is =
      sym (cross_accepts a (area_cause a) refl no_cause)
      ∙ ap (λ x. answer (total x)) (sym (mean_facts.cross (machine_of a) (encoding_facts.clauses a v.sound v.lent.store)))

-- ---- the recorded mean altered

module _ (a : Area) (x : ℤ) (v : ValidArea a) (fits : MeanFits a x) where
  sound_with : Sound (with_mean a x)
  unfolding entries_of
  sound_with =
      let s : Sound a = v.sound in
      record {
        held_lent = s.held_lent;
        settings = s.settings;
        structure = s.structure;
        wanted_last = s.wanted_last;
        wanted_indicator_zero = s.wanted_indicator_zero;
        first_readings = s.first_readings;
        readings = s.readings;
        numbers = record { reserved = s.numbers.reserved; within_budget = s.numbers.within_budget; pending = s.numbers.pending; carried = s.numbers.carried; mean = fits };
      }

  valid_with : ValidArea (with_mean a x)
  valid_with = record { sound = sound_with; lent = record { records = v.lent.records; store = v.lent.store }; well_formed = v.well_formed }

  same_entries : entries_of (with_mean a x) ≡ entries_of a
  unfolding entries_of
  same_entries = refl

  state_with : machine_of (with_mean a x) ≡ record { log = (machine_of a).log; mean = x }
  unfolding machine_of entries_of
  state_with = refl

  result_with : (call_on (with_mean a x) result).answer ≡ answer (counts (counts_of (record { log = (machine_of a).log; mean = x })))
  result_with = result_is (with_mean a x) valid_with ∙ ap (λ m. answer (counts (counts_of m))) state_with

  abbrev report_with : Report
  report_with = report_of x (pending_of (entries_of a)) (largest_of (entries_of a))

  doubles_with : (call_on (with_mean a x) doubles).answer ≡ answer (doubled report_with)
  unfolding doubles_of machine_of
  doubles_with = excluded.accepted_doubles (with_mean a x) valid_with ∙ ap (λ m. answer (doubled (doubles_of m))) state_with

  cross_with : (call_on (with_mean a x) cross_total).answer ≡ answer (total (mean_of (entries_of a)))
  cross_with = cross_is (with_mean a x) valid_with ∙ ap (λ es. answer (total (mean_of es))) same_entries

  other_mean : (x ≡ mean_of (entries_of a) → ⊥) → OtherMean (with_mean a x)
  unfolding counts_of
  other_mean n =
      record {
        yes = (clause_facts.answer (with_mean a x)).back (valid_with.lent, valid_with.sound);
        recorded = counts_of (record { log = (machine_of a).log; mean = x });
        by_result = result_with;
        by_doubles = (report_with, doubles_with, report-facts.mean (with_mean a x) report_with (ap (λ (y : Answer). y.reply) doubles_with));
        by_cross = cross_is (with_mean a x) valid_with;
        differ = λ e. n (e ∙ ap mean_of same_entries);
      }

-- ---- 0 and 1 fit where an index is delivered, and one of them is another mean

some_other : (y : ℤ) → (x : ℤ) × (nat_abs x ≤ 1) × (x ≡ y → ⊥)
some_other (pos n) = from n
  where
    from : (n : ℕ) → (x : ℤ) × (nat_abs x ≤ 1) × (x ≡ pos n → ⊥)
    from zero = (pos 1, omega arith, λ e. let z : ◌≡◌ {A = ℕ} 1 0 = cc in omega arith)
    from (suc n) = (pos 0, omega arith, λ e. let z : ◌≡◌ {A = ℕ} 0 (suc n) = cc in omega arith)
some_other (negsuc n) = (pos 0, omega arith, λ e. let z : ◌≡◌ {A = ℕ} 0 1 = cc in omega arith)

another : (a : Area) → ValidArea a → 1 ≤ length (delivered_of (entries_of a)) → (x : ℤ) × OtherMean (with_mean a x)
another a v h =
    let o = some_other (mean_of (entries_of a)) in
    (o.0, other_mean a o.0 v (omega (arith, o.1, h)) o.2)

-- ---- after start and the delivery of the root an index is delivered

not_refused : (r : Reply) (n : ℕ) → r ≡ accepted → r ≡ refused n → ⊥
not_refused r n e f = let z : ◌≡◌ {A = ℕ} 0 1 = cc in omega arith

module _ (a : Area) (g : Settings) (rs : List ℤ) (i : ℕ) (fit : SettingsFit g) (long : 512 ≤ length a.run.records) (room : least_store g ≤ length a.store)
    (whole : length rs ≡ reading_count g root) (range : in_range rs ≡ true) where
  abbrev b : Area
  b = (call_on a (start g)).area

  start_reply : (call_on a (start g)).answer.reply ≡ accepted
  start_reply = ap (λ (y : Answer). y.reply) (excluded.starts a g fit long room)

  valid_start : ValidArea b
  valid_start = call_facts.start_leaves_valid a g start_reply

  start_state : machine_of b ≡ steps.started g
  start_state = call_facts.start_state a g start_reply

  -- the root is wanted, and its block has the readings
  deliver_accepted : (call_on b (deliver rs i)).answer ≡ answer accepted
  deliver_accepted = excluded.accepted_deliveries b rs i valid_start some-wanted whole_there range
    where
      entries_there : entries_of b ≡ wanted root ∷ []
      entries_there = unfold machine_of steps.started in ap (λ (m : Machine). m.log.entries) start_state

      settings_there : b.job.settings ≡ g
      settings_there = unfold machine_of steps.started in ap (λ (m : Machine). m.log.settings) start_state

      some-wanted : any_wanted (entries_of b) ≡ true
      some-wanted = ap any_wanted entries_there ∙ (unfold any_wanted first_wanted wanted in refl)

      first_there : wanted_index (wanted root ∷ []) ≡ root
      first_there = unfold first_wanted wanted in refl

      whole_there : length rs ≡ reading_count b.job.settings (wanted_index (entries_of b))
      whole_there =
          whole ∙ (ap (λ s. reading_count s root) (sym settings_there) ∙ ap (λ k. reading_count b.job.settings k) (sym (ap wanted_index entries_there ∙ first_there)))

  root_delivered : ValidArea (call_on b (deliver rs i)).area × (1 ≤ length (delivered_of (entries_of (call_on b (deliver rs i)).area)))
  root_delivered = (
    call_facts.leaves_valid b (deliver rs i) valid_start.well_formed taken (λ e. let z : ◌≡◌ {A = ℕ} 0 1 = cc in omega arith),
    subst (λ es. 1 ≤ length (delivered_of es)) (sym after) one,
  )
    where
      taken : NotRefused b (deliver rs i)
      taken n e = not_refused (call_on b (deliver rs i)).answer.reply n (ap (λ (y : Answer). y.reply) deliver_accepted) e

      after : entries_of (call_on b (deliver rs i)).area ≡ (steps.deliver (steps.started g) rs i).log.entries
      after =
          unfold machine_of in
          ap (λ (m : Machine). m.log.entries) (call_facts.deliver_state b rs i valid_start.well_formed taken ∙ ap (λ m. steps.deliver m rs i) start_state)

      one : 1 ≤ length (delivered_of (steps.deliver (steps.started g) rs i).log.entries)
      one = unfold steps.deliver steps.started steps.deliver_at steps.delivered delivered_of first_wanted wanted in omega arith

-- ---- one such area: 1 axis, budget 1, the root delivered with reading 0

abbrev unused : Area
unused =
    record {
      job = record { settings = settings_of 1 0 1; held = 0; reserved = 0; pending = 0; carried = 0; mean = pos 0 };
      run = record { records = replicate 512 blank; rest = [] };
      store = pos 0 ∷ [];
    }

abbrev there : Area
there = (call_on (call_on unused (start (settings_of 1 0 1))).area (deliver (pos 0 ∷ []) 0)).area

valid_there : ValidArea there × (1 ≤ length (delivered_of (entries_of there)))
valid_there =
    root_delivered unused (settings_of 1 0 1) (pos 0 ∷ []) 0 (record { axes = (omega arith, omega arith); budget = (omega arith, omega arith) })
    (omega (arith, length-replicate 512 blank)) (unfold least_store readings_for in omega arith)
    (unfold reading_count readings_for block_size new_count root in refl) (unfold in_range in refl)

exists : (a : Area) × OtherMean a
exists =
    let found = another there valid_there.0 valid_there.1 in
    (with_mean there found.0, found.1)

pub altered_means : AlteredMeans
altered_means =
    record {
      valid = valid_with;
      by_result = result_with;
      by_doubles = doubles_with;
      by_cross = λ a x v fits. (cross_with a x v fits ∙ sym (cross_is a v), cross_is a v);
      another = another;
      root_delivered = root_delivered;
      exists = exists;
    }
