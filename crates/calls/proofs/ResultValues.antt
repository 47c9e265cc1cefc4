-- What result, cross total and choose tell of an area that no cause refuses, and what check does.
-- The idea: it is sound, so its recorded figures are those of its entries, and the combination identity holds of them.
-- Assumes nothing.
use mathlib.Core.Path.{◌≡◌, refl, ap, sym, ◌∙◌, subst}
use mathlib.Core.Bool.{Bool, true, false, not, ◌&&◌}
use Prim.Native.Nat.{ℕ, ◌+◌, ◌<◌, ◌≤◌}
use native.Mathlib.Omega.{arith}
use lib.Dec.{leb}
use lib.IntN.{ℤ}
use lib.ListN.{length}
use lib.Seq.{length-take-le}
use Rattle.area.specs.Settings.{least_store}
use Rattle.area.specs.Encoding.{Area, held_of, entries_of, machine_of}
use Rattle.quadrature.specs.Readings.{record_at}
use Rattle.soundness.specs.Sound.{Sound}
use Rattle.soundness.specs.Clauses.{is_sound, checked}
use Rattle.encoding.proofs.Places.{entries_length, state_at_lem}
use Rattle.encoding.proofs.Facts.{encoding_facts}
use Rattle.machine.specs.Choose as choice
use Rattle.machine.specs.Causes.{first_cause, short, choose_causes, result_causes}
use Rattle.machine.specs.Counts.{Counts, counts_of}
use Rattle.encoding.specs.Entries.{SoundMachine}
use Rattle.machine.specs.Means.{mean_of, cross_of}
use Rattle.machine.proofs.Choices.{choose-facts}
use Rattle.machine.proofs.Means.{mean_facts}
use Rattle.calls.specs.Replies.{chosen, counts, total, verdict, lengths_of}
use Rattle.calls.specs.Table.{choose, result, cross_total, check, answer, row, causes_of, effect_of, passes_check, accepted_answer, refused_answer, refusal}
use Rattle.calls.specs.Calls.{CallResult, area_after, call_on}
use Rattle.calls.proofs.Accepted.{choosable}
use Rattle.calls.proofs.Validity.{sound_there, long_there}
use Rattle.calls.proofs.CauseCases.{call_accepts, call_ways}

module _ (a : Area) where
  module _ (none : first_cause (result_causes (lengths_of a) (is_sound a) (machine_of a).log) ≡ 0) where
    clauses_there : SoundMachine (machine_of a)
    clauses_there = encoding_facts.clauses a (sound_there a none) (long_there a none).store

    crossed : cross_of (entries_of a) ≡ mean_of (entries_of a)
    unfolding machine_of
    crossed = sym (mean_facts.cross (machine_of a) clauses_there)

  pub cross_mean : (x : ℤ) → (call_on a cross_total).answer.reply ≡ total x → x ≡ mean_of (entries_of a)
  unfolding row causes_of refusal accepted_answer refused_answer result_causes machine_of
  cross_mean x =
      call_ways a cross_total (λ (r : CallResult). r.answer.reply ≡ total x → x ≡ mean_of (entries_of a))
      (λ none e. let same : x ≡ cross_of (entries_of a) = cc in same ∙ crossed none)
      (λ some e. let z : ◌≡◌ {A = ℕ} 0 1 = cc in absurd (omega arith))

  abbrev Recorded : Counts → Type 0
  Recorded c = (c.reserved ≡ a.job.reserved) × (c.pending ≡ a.job.pending) × (c.carried ≡ a.job.carried) × (c.mean ≡ a.job.mean)

  recorded : Sound a → Recorded (counts_of (machine_of a))
  unfolding counts_of machine_of
  recorded s = (sym s.numbers.reserved, sym s.numbers.pending, sym s.numbers.carried, refl)

  pub result_recorded : (c : Counts) → (call_on a result).answer.reply ≡ counts c → Recorded c
  unfolding row causes_of refusal accepted_answer refused_answer result_causes
  result_recorded c =
      call_ways a result (λ (r : CallResult). r.answer.reply ≡ counts c → Recorded c)
      (λ none e. let same : counts_of (machine_of a) ≡ c = cc in subst Recorded same (recorded (sound_there a none)))
      (λ some e. let z : ◌≡◌ {A = ℕ} 0 1 = cc in absurd (omega arith))

  -- choose's answer is that of the entries, whose errors the recorded ones are
  module _ (o : choice.Choice) (e : (call_on a choose).answer.reply ≡ chosen o) where
    chosen_so : Sound a × (choice.choose (machine_of a).log ≡ o)
    unfolding row causes_of refusal accepted_answer refused_answer choose_causes
    chosen_so =
        call_ways a choose (λ (r : CallResult). r.answer.reply ≡ chosen o → Sound a × (choice.choose (machine_of a).log ≡ o))
        (λ none f. (sound_there a (choosable (lengths_of a) (is_sound a) (machine_of a).log none).clear, cc))
        (λ some f. let z : ◌≡◌ {A = ℕ} 0 1 = cc in absurd (omega arith)) e

  pub met_recorded : (call_on a choose).answer.reply ≡ chosen choice.met → a.job.pending + a.job.carried ≤ a.job.settings.threshold
  unfolding machine_of
  met_recorded e =
      let x = chosen_so choice.met e in
      omega (arith, x.0.numbers.pending, x.0.numbers.carried, choose-facts.met_only (machine_of a).log x.1)

  pub capped_recorded : (call_on a choose).answer.reply ≡ chosen choice.capped
      → (a.job.pending ≤ a.job.settings.threshold) × (a.job.settings.threshold < a.job.pending + a.job.carried)
  unfolding machine_of
  capped_recorded e =
      let x = chosen_so choice.capped e in
      let y = choose-facts.capped_only (machine_of a).log x.1 in
      (omega (arith, x.0.numbers.pending, y.0), omega (arith, x.0.numbers.pending, x.0.numbers.carried, y.1))

  pub place_recorded : (p : ℕ) → (call_on a choose).answer.reply ≡ chosen (choice.place p) → a.job.settings.threshold < a.job.pending
  unfolding machine_of
  place_recorded p e =
      let x = chosen_so (choice.place p) e in
      omega (arith, x.0.numbers.pending, (choose-facts.place_only (machine_of a).log p x.1).0)

  pub place_active : (p : ℕ) → (call_on a choose).answer.reply ≡ chosen (choice.place p) → (p < a.job.held) × ((record_at (held_of a) p).state ≡ 1) × (p < 512)
  unfolding machine_of entries_of
  place_active p e =
      let x = chosen_so (choice.place p) e in
      let s = choose-facts.place_active (machine_of a).log p x.1 in (
        omega (arith, s.place, entries_length a.job.settings a.store (held_of a), length-take-le a.job.held a.run.records x.0.held_lent),
        sym (state_at_lem a.job.settings a.store (held_of a) p) ∙ s.active,
        omega (arith, s.place, entries_length a.job.settings a.store (held_of a), x.0.structure.count.1),
      )

  -- check is never refused, and its verdict is the storage test and the clauses
  passes_checked : passes_check (lengths_of a) (is_sound a) (machine_of a).log ≡ checked a
  unfolding passes_check short checked machine_of
  passes_checked = split (leb 512 (length a.run.records)) (leb (least_store a.job.settings) (length a.store)) (is_sound a)
    where
      split : (t u s : Bool) → (not (not (t && u)) && s) ≡ (t && u && s)
      split true true s = refl
      split true false s = refl
      split false u s = refl

  pub check_answer : call_on a check ≡ record { answer = answer (verdict (checked a)); area = a }
  unfolding row causes_of effect_of refusal first_cause accepted_answer area_after
  check_answer = sym (call_accepts a check 0 refl refl) ∙ ap {B = CallResult} (λ (t : Bool). record { answer = answer (verdict t); area = a }) passes_checked
