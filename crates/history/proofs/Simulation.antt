-- Where the machine has the state of Fig. 1, so has its log.
-- The idea: the mean is the combination sum, and neither choose nor the promotion of an active place, called next, is refused.
-- Assumes nothing.
use mathlib.Core.Path.{◌≡◌, ap, sym, ◌∙◌, subst}
use Prim.Native.Nat.{ℕ, ◌≤◌}
use native.Mathlib.Omega.{arith}
use lib.ListN.{length}
use Rattle.area.specs.Settings.{least_store}
use Rattle.area.specs.Log.{Log, Machine}
use Rattle.encoding.specs.Entries.{entry_at}
use Rattle.machine.specs.Log.{first_wanted, Active}
use Rattle.machine.specs.Choose as choice
use Rattle.machine.specs.Promote as refining
use Rattle.machine.specs.Steps as steps
use Rattle.machine.specs.Causes.{Lengths}
use Rattle.machine.specs.Means.{cross_of}
use Rattle.machine.proofs.Wanted.{first-none}
use Rattle.machine.proofs.Answers.{spent_not}
use Rattle.machine.proofs.Facts.{step_facts}
use Rattle.machine.proofs.Means.{mean_facts}
use Rattle.calls.specs.Replies.{chosen, promotion}
use Rattle.calls.specs.Table.{choose, promote, answer}
use Rattle.calls.proofs.Tests as tests
use Rattle.published.specs.Figure.{Problem, Figure, turn_at}
use Rattle.published.specs.Turns.{Simulates, ExceedsLimits, PromotionFollows}
use Rattle.published.proofs.Facts.{published_facts}
use Rattle.history.specs.LentCalls.{LentCall, lengths_lent}
use Rattle.history.specs.Logged.{refusal_by, log_step, answer_by}
use Rattle.history.specs.Source.{Follows}
use Rattle.history.proofs.Moves.{MachineInvariant, combined, from_log}
use Rattle.history.proofs.LogSteps.{promote_accepted, log_facts}
use Rattle.history.proofs.Accepts.{choose-answer, promote_answer}
use Rattle.history.proofs.Promotions.{chose, answered, accepted_active}

module _ (P : Problem) (m : Machine) (s : Figure) (invariant : MachineInvariant m) (simulates : Simulates P m s) where
  abbrev l : Log
  l = m.log

  free : length m.log.entries ≤ first_wanted m.log.entries
  free = omega (arith, first-none m.log.entries simulates.supplied.delivered)

  -- the answers, in storage that is long enough
  chooses : {o : choice.Choice} (z : Lengths) → 512 ≤ z.records → least_store m.log.settings ≤ z.readings → choice.choose m.log ≡ o → answer_by z m.log choose ≡ answer (chosen o)
  chooses z h k e = choose-answer z l (tests.enough z l.settings h k) free ∙ ap (λ o. answer (chosen o)) e

  promotes : {o : refining.Outcome} (z : Lengths) (p : ℕ) → 512 ≤ z.records → least_store m.log.settings ≤ z.readings → Active m.log.entries p → (refining.promote_at m.log p).outcome ≡ o
      → answer_by z m.log (promote p) ≡ answer (promotion o)
  promotes z p h k a e = promote_answer z l (tests.enough z l.settings h k) free p a ∙ ap (λ o. answer (promotion o)) e

  abbrev Exceeding : ℕ → Type 0
  Exceeding p = ExceedsLimits m.log.settings.budget (turn_at P (entry_at m.log.entries p).levels s)

  -- promote in its two cases
  spent_only : (z : Lengths) (p : ℕ) → answer_by z m.log (promote p) ≡ answer (promotion refining.spent) → Active m.log.entries p × Exceeding p
  spent_only z p e =
      let y = answered z l p refining.spent e in
      let a = accepted_active z l p y.0 in
      (a, published_facts.spent_at_only P m s p invariant.sound simulates a y.1)

  promoted_only : (z : Lengths) (p : ℕ) → answer_by z m.log (promote p) ≡ answer (promotion refining.promoted) → Active m.log.entries p × (Exceeding p → ⊥)
  promoted_only z p e =
      let y = answered z l p refining.promoted e in
      let a = accepted_active z l p y.0 in
      (a, λ x. spent_not (published_facts.spent_at P m s p invariant.sound simulates a x) y.1)

  module _ (x : LentCall) (p : ℕ) (is : x.call ≡ promote p) (e : answer_by (lengths_lent x.part) m.log (promote p) ≡ answer (promotion refining.promoted)) where
    accepted_so : (refusal_by (lengths_lent x.part) m.log (promote p) ≡ 0) × ((refining.promote_at m.log p).outcome ≡ refining.promoted)
    accepted_so = answered (lengths_lent x.part) l p refining.promoted e

    a : Active m.log.entries p
    a = accepted_active (lengths_lent x.part) l p accepted_so.0

    none : refusal_by (lengths_lent x.part) m.log x.call ≡ 0
    none = ap (refusal_by (lengths_lent x.part) l) is ∙ accepted_so.0

    moves : PromotionFollows P s (entry_at m.log.entries p).levels m.log.entries (log_step m.log x).entries
    moves =
        subst (λ (o : Log). PromotionFollows P s (entry_at l.entries p).levels l.entries o.entries) (sym (log_facts.accepted_promote l x p is none accepted_so.1))
        (published_facts.refines P m s p invariant.sound simulates a)

    -- a promotion delivers nothing
    mean_stays : cross_of (log_step m.log x).entries ≡ cross_of m.log.entries
    unfolding steps.promote_step
    mean_stays =
        ap (λ (o : Log). cross_of o.entries) (promote_accepted l x p is none)
        ∙ sym (mean_facts.cross (steps.promote_step m p) (step_facts.promote m p invariant.sound a))
        ∙ mean_facts.promote m p invariant.sound a
        ∙ mean_facts.cross m invariant.sound

  pub follows_at : Follows P m.log s
  follows_at =
      record {
        supplied = simulates.supplied;
        old_there = simulates.old_there;
        old_here = simulates.old_here;
        active = simulates.active;
        result = sym (combined m invariant) ∙ simulates.result;
        pending = simulates.pending;
        carried = simulates.carried;
        simulates = subst (λ (n : Machine). Simulates P n s) (from_log m invariant) simulates;
        goes_on_lem = λ z h k g. (choice.selected l.entries, chooses z h k (published_facts.goes_on_lem P m s simulates g));
        place_only = λ z p e. published_facts.place_only P m s p simulates (chose z l (choice.place p) e).1;
        over_met = λ z h k f e. chooses z h k (published_facts.over_met P m s simulates f e);
        over_capped = λ z h k f e. chooses z h k (published_facts.over_capped P m s simulates f e);
        met_only = λ z e. published_facts.met_only P m s simulates (chose z l choice.met e).1;
        capped_only = λ z e. published_facts.capped_only P m s simulates (chose z l choice.capped e).1;
        spent = λ z p h k a x. promotes z p h k a (published_facts.spent_at P m s p invariant.sound simulates a x);
        spent_only = spent_only;
        promoted = λ z p h k a x. promotes z p h k a (published_facts.promoted_at P m s p invariant.sound simulates a x);
        promoted_only = promoted_only;
        once_after = λ p a. published_facts.once_after P m s p invariant.sound simulates a;
        promotes = moves;
        promotes_result = mean_stays;
      }
