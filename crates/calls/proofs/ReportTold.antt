-- What doubles tells of an area that does not refuse it.
-- The idea: such an area is sound, so the report is that of a sound state (`ReportOfSound`, crate `counting`), whose figures are the recorded ones.
-- Assumes nothing.
use mathlib.Core.Path.{◌≡◌, refl, sym, ap, ◌∙◌, subst}
use mathlib.Core.List.{List}
use Prim.Native.Nat.{ℕ, ◌^◌, ◌<◌}
use native.Mathlib.Omega.{arith}
use lib.Dec.{lit≤}
use lib.IntN.{ℤ, pos}
use lib.ListN.{length, get_or}
use Rattle.doubles.specs.declared.Report.{Report}
use Rattle.doubles.specs.Double.{double, report_of}
use Rattle.doubles.specs.Exact.{LosesNothing, NoneNan}
use Rattle.doubles.proofs.Facts.{double-facts}
use Rattle.area.specs.Entry.{pending_of}
use Rattle.area.specs.declared.JobRecord.{JobRecord}
use Rattle.area.specs.Encoding.{Area, area_of, held_of, entries_of, machine_of}
use Rattle.quadrature.specs.Readings.{record_at}
use Rattle.soundness.specs.Sound.{Sound}
use Rattle.soundness.specs.Clauses.{is_sound}
use Rattle.encoding.specs.Entries.{SoundMachine}
use Rattle.encoding.proofs.Facts.{encoding_facts, range_facts}
use Rattle.machine.specs.Causes.{first_cause, result_causes}
use Rattle.machine.specs.Counts.{Counts, counts_of}
use Rattle.machine.specs.Largest.{largest_of, DeliveredAt}
use Rattle.machine.proofs.Largest.{largest-delivered}
use Rattle.counting.specs.Doubles.{doubles_of, plus_zero}
use Rattle.counting.proofs.NothingLost.{report_of_sound}
use Rattle.area.proofs.Records.{indicators_small}
use Rattle.calls.specs.Replies.{counts, doubled, lengths_of}
use Rattle.calls.specs.Table.{Answer, result, doubles, row, causes_of, effect_of, accepted_answer, refused_answer, refusal}
use Rattle.calls.specs.Calls.{CallResult, refusal_on, call_on}
use Rattle.calls.specs.Doubles.{Reports, ReportFacts}
use Rattle.calls.proofs.Validity.{sound_there, long_there}
use Rattle.calls.proofs.CauseCases.{call_ways}
use Rattle.calls.proofs.Rows.{result_accepts}
use Rattle.calls.proofs.Facts.{call_facts, looks_only}

refused_alike : (a : Area) → refusal_on a doubles ≡ refusal_on a result
unfolding refusal causes_of row
refused_alike a = refl

changes_nothing : (a : Area) → (call_on a doubles).area ≡ a
unfolding effect_of row
changes_nothing a = looks_only a doubles refl

module _ (a : Area) (r : Report) (told : Reports a r) where
  abbrev None : Type 0
  None = first_cause (result_causes (lengths_of a) (is_sound a) (machine_of a).log) ≡ 0

  -- nothing refused, and the report is that of the area's state
  accepted : None × (r ≡ doubles_of (machine_of a))
  unfolding row causes_of refusal accepted_answer refused_answer result_causes
  accepted =
      call_ways a doubles (λ (x : CallResult). x.answer.reply ≡ doubled r → None × (r ≡ doubles_of (machine_of a)))
      (λ none e. let same : r ≡ doubles_of (machine_of a) = cc in (none, same))
      (λ some e. let z : ◌≡◌ {A = ℕ} 0 1 = cc in absurd (omega arith)) told

  sound : Sound a
  sound = sound_there a accepted.0

  clauses : SoundMachine (machine_of a)
  clauses = encoding_facts.clauses a sound (long_there a accepted.0).store

  mean : LosesNothing r.mean a.job.mean (2 ^ 20)
  unfolding machine_of
  mean = subst (λ (x : Report). LosesNothing x.mean a.job.mean (2 ^ 20)) (sym accepted.1) (report_of_sound.mean (machine_of a) clauses)

  pending : ((p : ℕ) → p < length (held_of a) → (record_at (held_of a) p).indicator < 2 ^ 32) → LosesNothing r.pending (pos a.job.pending) 1
  pending h = subst (λ (x : Report). LosesNothing x.pending (pos a.job.pending) 1) (sym accepted.1) recorded
    where
      recorded : LosesNothing (doubles_of (machine_of a)).pending (pos a.job.pending) 1
      recorded =
          unfold doubles_of report_of machine_of in
          subst (λ n. LosesNothing (report_of a.job.mean n (largest_of (entries_of a))).pending (pos a.job.pending) 1) sound.numbers.pending
          (double-facts.exact (pos a.job.pending) 0 (omega (arith, range_facts.pending a sound h)) (lit≤ tt))

  largest : LosesNothing r.largest (largest_of (entries_of a)) (2 ^ 20)
  unfolding machine_of
  largest = subst (λ (x : Report). LosesNothing x.largest (largest_of (entries_of a)) (2 ^ 20)) (sym accepted.1) (report_of_sound.largest (machine_of a) clauses)

  none_nan : NoneNan r
  none_nan = subst NoneNan (sym accepted.1) (unfold doubles_of in double-facts.none_nan (machine_of a).mean (pending_of (machine_of a).log.entries) (largest_of (machine_of a).log.entries))

  -- ---- zero

  zero_mean : a.job.mean ≡ pos 0 → r.mean ≡ plus_zero
  unfolding doubles_of report_of machine_of
  zero_mean e = ap (λ (x : Report). x.mean) accepted.1 ∙ ap (λ z. double z (2 ^ 20)) e ∙ double-facts.zero 20 (lit≤ tt)

  zero_pending : a.job.pending ≡ 0 → r.pending ≡ plus_zero
  unfolding doubles_of report_of machine_of
  zero_pending e = ap (λ (x : Report). x.pending) accepted.1 ∙ ap (λ n. double (pos n) 1) (sym sound.numbers.pending ∙ e) ∙ double-facts.zero 0 (lit≤ tt)

  zero_largest : largest_of (entries_of a) ≡ pos 0 → r.largest ≡ plus_zero
  unfolding doubles_of report_of machine_of
  zero_largest e = ap (λ (x : Report). x.largest) accepted.1 ∙ ap (λ z. double z (2 ^ 20)) e ∙ double-facts.zero 20 (lit≤ tt)

  nothing : ((p : ℕ) → DeliveredAt (entries_of a) p → ⊥) → r ≡ record { mean = plus_zero; pending = plus_zero; largest = plus_zero }
  unfolding machine_of
  nothing f = accepted.1 ∙ report_of_sound.nothing (machine_of a) clauses f

  as_result : (c : Counts) × ((call_on a result).answer.reply ≡ counts c) × LosesNothing r.mean c.mean (2 ^ 20) × (c.pending ≡ a.job.pending)
  as_result =
      let is = ap (λ (x : Answer). x.reply) (sym (result_accepts a 0 (sym accepted.0) refl)) in
      let told = call_facts.result_recorded a (counts_of (machine_of a)) is in
      (counts_of (machine_of a), is, subst (λ z. LosesNothing r.mean z (2 ^ 20)) (sym told.3) mean, told.1)

pending_cells : (j : JobRecord) (c : List ℕ) (s : List ℤ) (r : Report) → Reports (area_of j c s) r → ((n : ℕ) → get_or c n 0 < 2 ^ 32) → LosesNothing r.pending (pos j.pending) 1
pending_cells j c s r told words = pending (area_of j c s) r told (indicators_small c j.held words)

pub report-facts : ReportFacts
report-facts =
    record {
      refused_alike = refused_alike;
      changes_nothing = changes_nothing;
      none_nan = none_nan;
      mean = mean;
      pending = pending;
      pending_cells = pending_cells;
      as_result = as_result;
      largest = largest;
      no_larger = λ a p x. largest-delivered.no_larger (entries_of a) p x;
      lowest = λ a p x. largest-delivered.lowest (entries_of a) p x;
      zero_mean = zero_mean;
      zero_pending = zero_pending;
      zero_largest = zero_largest;
      nothing = nothing;
    }
