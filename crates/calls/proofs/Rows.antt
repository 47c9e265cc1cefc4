-- The two ways of each call, with its row read off.
-- Assumes nothing.
use mathlib.Core.Path.{◌≡◌, refl, ap, sym, ◌∙◌}
use mathlib.Core.List.{List, ◌++◌}
use Prim.Native.Nat.{ℕ}
use lib.IntN.{ℤ}
use lib.ListN.{length, take, drop}
use Rattle.area.specs.declared.Settings.{Settings}
use Rattle.grid.specs.Block.{block_size, point_of}
use Rattle.area.specs.Log.{Machine}
use Rattle.area.specs.Encoding.{Area, entries_of, machine_of, written}
use Rattle.soundness.specs.Clauses.{is_sound}
use Rattle.machine.specs.Log.{wanted_index}
use Rattle.machine.specs.Choose as choice
use Rattle.machine.specs.Promote as refining
use Rattle.machine.specs.Promote.{Outcome, spent, promoted}
use Rattle.machine.specs.Steps.{promote_step}
use Rattle.machine.specs.Points.{points_fitting, positions_of, written_over}
use Rattle.machine.specs.Causes.{first_cause, start_causes, point_causes, deliver_causes, choose_causes, promote_causes, result_causes}
use Rattle.machine.specs.Areas.{start_on, deliver_on, changed_by, refine_on, promote_on}
use Rattle.machine.proofs.Answers.{spent_not, same_log}
use Rattle.machine.specs.Counts.{counts_of}
use Rattle.machine.specs.Means.{cross_of}
use Rattle.counting.specs.Doubles.{doubles_of}
use Rattle.calls.specs.Replies.{refused, accepted, wrote, chosen, promotion, counts, doubled, total, lengths_of}
use Rattle.calls.specs.Table.{start, point, points, deliver, choose, promote, result, doubles, cross_total, answer, promotion_effect, row, causes_of, effect_of, accepted_answer, refused_answer, refusal, changed}
use Rattle.calls.specs.Calls.{CallResult, area_after, call_on}
use Rattle.calls.proofs.CauseCases.{call_accepts, call_refuses}

module _ (a : Area) (g : Settings) (n : ℕ) (is : n ≡ first_cause (start_causes (lengths_of a) g)) where
  pub start_refuses : (n ≡ 0 → ⊥) → record { answer = answer (refused n); area = a } ≡ call_on a (start g)
  unfolding row causes_of refusal refused_answer
  start_refuses f = call_refuses a (start g) n is f

  pub start_accepts : n ≡ 0 → record { answer = answer accepted; area = start_on a g } ≡ call_on a (start g)
  unfolding row causes_of effect_of refusal accepted_answer area_after start_on
  start_accepts e = call_accepts a (start g) n is e

module _ (a : Area) (rs : List ℤ) (i n : ℕ) (is : n ≡ first_cause (deliver_causes (lengths_of a) (is_sound a) (machine_of a).log rs)) where
  pub deliver_refuses : (n ≡ 0 → ⊥) → record { answer = answer (refused n); area = a } ≡ call_on a (deliver rs i)
  unfolding row causes_of refusal refused_answer deliver_causes
  deliver_refuses f = call_refuses a (deliver rs i) n is f

  pub deliver_accepts : n ≡ 0 → record { answer = answer accepted; area = deliver_on a rs i } ≡ call_on a (deliver rs i)
  unfolding row causes_of effect_of refusal accepted_answer area_after deliver_on deliver_causes
  deliver_accepts e = call_accepts a (deliver rs i) n is e

module _ (a : Area) (n : ℕ) (is : n ≡ first_cause (choose_causes (lengths_of a) (is_sound a) (machine_of a).log)) where
  pub choose_refuses : (n ≡ 0 → ⊥) → answer (refused n) ≡ (call_on a choose).answer
  unfolding row causes_of refusal refused_answer choose_causes
  choose_refuses f = ap (λ (x : CallResult). x.answer) (call_refuses a choose n is f)

  pub choose_accepts : n ≡ 0 → answer (chosen (choice.choose (machine_of a).log)) ≡ (call_on a choose).answer
  unfolding row causes_of refusal accepted_answer choose_causes
  choose_accepts e = ap (λ (x : CallResult). x.answer) (call_accepts a choose n is e)

-- the area after a promotion, by its outcome
pub outcome_area : (a : Area) (o : Outcome) (m : Machine) → area_after a (promotion_effect o m) ≡ changed_by o a (written a m)
unfolding area_after promotion_effect changed_by
outcome_area a spent m = refl
outcome_area a promoted m = refl

-- whatever its outcome, a promotion leaves the state of the machine's promotion
pub promote_effect : (m : Machine) (p : ℕ) → changed m (effect_of m (row (promote p))) ≡ promote_step m p
unfolding effect_of row changed promotion_effect
promote_effect m p = split (refining.promote_at m.log p).outcome stays
  where
    stays : ((refining.promote_at m.log p).outcome ≡ promoted → ⊥) → m ≡ promote_step m p
    stays n = unfold promote_step in sym (ap {B = Machine} (λ l. record { log = l; mean = m.mean }) (same_log m.log.settings.budget m.log p n))

    split : (o : Outcome) → ((o ≡ promoted → ⊥) → m ≡ promote_step m p) → changed m (promotion_effect o (promote_step m p)) ≡ promote_step m p
    split spent f = f (λ e. spent_not refl e)
    split promoted f = refl

module _ (a : Area) (p n : ℕ) (is : n ≡ first_cause (promote_causes (lengths_of a) (is_sound a) (machine_of a).log p)) where
  pub promote_refuses : (n ≡ 0 → ⊥) → record { answer = answer (refused n); area = a } ≡ call_on a (promote p)
  unfolding row causes_of refusal refused_answer promote_causes
  promote_refuses f = call_refuses a (promote p) n is f

  pub promote_accepts : n ≡ 0 → record { answer = answer (promotion (promote_on a p).outcome); area = (promote_on a p).area } ≡ call_on a (promote p)
  unfolding row causes_of effect_of refusal accepted_answer refine_on promote_causes machine_of
  promote_accepts e =
      (λ i. record { answer = answer (promotion (promote_on a p).outcome); area = same i }) ∙ call_accepts a (promote p) n is e
    where
      same : (promote_on a p).area ≡ area_after a (promotion_effect (promote_on a p).outcome (promote_step (machine_of a) p))
      same = unfold promote_step in sym (outcome_area a (promote_on a p).outcome (promote_step (machine_of a) p))

module _ (a : Area) (n : ℕ) (buffer : List ℕ) (m : ℕ) (is : m ≡ first_cause (point_causes (lengths_of a) (is_sound a) (machine_of a).log n (length buffer))) where
  pub point_refuses : (m ≡ 0 → ⊥) → record { reply = refused m; buffer = buffer } ≡ (call_on a (point n buffer)).answer
  unfolding row causes_of refusal refused_answer point_causes
  point_refuses f = ap (λ (x : CallResult). x.answer) (call_refuses a (point n buffer) m is f)

  pub point_accepts : m ≡ 0
      → record { reply = accepted; buffer = take a.job.settings.axes (point_of (wanted_index (entries_of a)) n) ++ drop a.job.settings.axes buffer } ≡ (call_on a (point n buffer)).answer
  unfolding row causes_of effect_of refusal accepted_answer point_causes machine_of
  point_accepts e = ap (λ (x : CallResult). x.answer) (call_accepts a (point n buffer) m is e)

module _ (a : Area) (n : ℕ) (buffer : List ℕ) (m : ℕ) (is : m ≡ first_cause (point_causes (lengths_of a) (is_sound a) (machine_of a).log n (length buffer))) where
  abbrev asked : List (List ℕ)
  asked = points_fitting a.job.settings.axes (wanted_index (entries_of a)) n (length buffer)

  pub points_refuses : (m ≡ 0 → ⊥) → record { reply = refused m; buffer = buffer } ≡ (call_on a (points n buffer)).answer
  unfolding row causes_of refusal refused_answer point_causes
  points_refuses f = ap (λ (x : CallResult). x.answer) (call_refuses a (points n buffer) m is f)

  pub points_accepts : m ≡ 0
      → record { reply = wrote (length asked) (block_size (wanted_index (entries_of a))); buffer = written_over (positions_of a.job.settings.axes asked) buffer } ≡ (call_on a (points n buffer)).answer
  unfolding row causes_of effect_of refusal accepted_answer point_causes machine_of
  points_accepts e = ap (λ (x : CallResult). x.answer) (call_accepts a (points n buffer) m is e)

module _ (a : Area) (m : ℕ) (is : m ≡ first_cause (result_causes (lengths_of a) (is_sound a) (machine_of a).log)) where
  pub result_refuses : (m ≡ 0 → ⊥) → answer (refused m) ≡ (call_on a result).answer
  unfolding row causes_of refusal refused_answer result_causes
  result_refuses f = ap (λ (x : CallResult). x.answer) (call_refuses a result m is f)

  pub result_accepts : m ≡ 0 → answer (counts (counts_of (machine_of a))) ≡ (call_on a result).answer
  unfolding row causes_of refusal accepted_answer result_causes
  result_accepts e = ap (λ (x : CallResult). x.answer) (call_accepts a result m is e)

  pub doubles_refuses : (m ≡ 0 → ⊥) → answer (refused m) ≡ (call_on a doubles).answer
  unfolding row causes_of refusal refused_answer result_causes
  doubles_refuses f = ap (λ (x : CallResult). x.answer) (call_refuses a doubles m is f)

  pub doubles_accepts : m ≡ 0 → answer (doubled (doubles_of (machine_of a))) ≡ (call_on a doubles).answer
  unfolding row causes_of refusal accepted_answer result_causes
  doubles_accepts e = ap (λ (x : CallResult). x.answer) (call_accepts a doubles m is e)

  pub cross_refuses : (m ≡ 0 → ⊥) → answer (refused m) ≡ (call_on a cross_total).answer
  unfolding row causes_of refusal refused_answer result_causes
  cross_refuses f = ap (λ (x : CallResult). x.answer) (call_refuses a cross_total m is f)

  pub cross_accepts : m ≡ 0 → answer (total (cross_of (entries_of a))) ≡ (call_on a cross_total).answer
  unfolding row causes_of refusal accepted_answer result_causes machine_of
  cross_accepts e = ap (λ (x : CallResult). x.answer) (call_accepts a cross_total m is e)
