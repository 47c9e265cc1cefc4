-- What a call does to the machine's state: it stays sound, keeps its mean worked from the readings, and fits what is lent.
-- The idea: no cause refused, so what each step asks for holds.
-- Assumes nothing.
use mathlib.Core.Path.{◌≡◌, refl, ap, sym, ◌∙◌, subst}
use mathlib.Core.Bool.{Bool, true, false, cond}
use borrow.Author.Tests.{eqb-true}
use lib.Dec.{eqb}
use lib.IntN.{◌+ℤ◌}
use Rattle.grid.specs.Difference.{scaled_difference}
use Rattle.area.specs.Entry.{reading_in}
use Rattle.area.specs.Log.{Log, Machine}
use Rattle.machine.specs.Log.{wanted_index}
use Rattle.machine.specs.Promote as refining
use Rattle.machine.specs.Steps as steps
use Rattle.encoding.specs.Entries.{SoundMachine}
use Rattle.machine.specs.Means.{mean_of, cross_of}
use Rattle.machine.specs.Causes.{Lengths, deliver_causes, promote_causes}
use Rattle.machine.proofs.Means.{mean_facts}
use Rattle.calls.specs.Table.{Call, start, point, points, deliver, choose, promote, result, doubles, cross_total, check, Effect, unchanged, becomes, row, causes_of, effect_of, refusal, changed, state_after}
use Rattle.calls.proofs.Accepted.{deliverable, promotable}
use Rattle.calls.proofs.Rows.{promote_effect}
use Rattle.calls.proofs.Next.{Allowed, allowed}
use Rattle.history.specs.LentCalls.{LentCall, lengths_lent}
use Rattle.history.specs.Logged.{state_of, log_step}

-- The state after an accepted call, and after any.
abbrev pub moved : Machine → Call → Machine
moved m c = changed m (effect_of m (row c))

abbrev pub machine_step : Machine → LentCall → Machine
machine_step m x = state_after (lengths_lent x.part) true m x.call

-- ---- its log is the log: the recorded mean decides nothing of it

moved_log : (m n : Machine) → m.log ≡ n.log → (c : Call) → (moved m c).log ≡ (moved n c).log
unfolding effect_of row changed
moved_log m n e (start g) = refl
moved_log m n e (point k buffer) = e
moved_log m n e (points k buffer) = e
moved_log m n e (deliver rs i) = unfold steps.deliver in ap (λ (l : Log). steps.deliver_log l rs i) e
moved_log m n e choose = e
moved_log m n e (promote p) =
    ap (λ (y : Machine). y.log) (promote_effect m p)
    ∙ unfold steps.promote_step in ap (λ (l : Log). (refining.promote_at l p).log) e
    ∙ ap (λ (y : Machine). y.log) (sym (promote_effect n p))
moved_log m n e result = e
moved_log m n e doubles = e
moved_log m n e cross_total = e
moved_log m n e check = e

pub step_log : (m : Machine) (x : LentCall) → (machine_step m x).log ≡ log_step m.log x
unfolding log_step state_after state_of
step_log m x = split (eqb (refusal (lengths_lent x.part) true m.log x.call) 0)
  where
    split : (t : Bool) → (cond t (moved m x.call) m).log ≡ (cond t (moved (state_of m.log) x.call) (state_of m.log)).log
    split true = moved_log m (state_of m.log) refl x.call
    split false = refl

-- ---- an accepted call

pub record MachineInvariant (m : Machine) : Type 0 where
  pub sound : SoundMachine m
  pub mean : m.mean ≡ mean_of m.log.entries

module _ (m : Machine) (f : MachineInvariant m) where
  -- the mean is the combination sum, so the state is the one that its log stands for
  pub combined : m.mean ≡ cross_of m.log.entries
  combined = f.mean ∙ mean_facts.cross m f.sound

  pub from_log : m ≡ state_of m.log
  unfolding state_of
  from_log = ap {B = Machine} (λ x. record { log = m.log; mean = x }) combined

  module _ (z : Lengths) where
    -- what the call does to the state satisfies the clauses and fits what is lent
    pub allowed_here : (c : Call) → refusal z true m.log c ≡ 0 → Allowed z (effect_of m (row c))
    allowed_here c e = allowed z true m (λ none. f.sound) c e

    sound_kept : (e : Effect) → Allowed z e → SoundMachine (changed m e)
    unfolding changed
    sound_kept unchanged x = f.sound
    sound_kept (becomes n) x = x.sound

    -- and its mean is worked from its readings
    mean_kept : (c : Call) → refusal z true m.log c ≡ 0 → (moved m c).mean ≡ mean_of (moved m c).log.entries
    unfolding refusal causes_of effect_of row changed deliver_causes promote_causes
    mean_kept (start g) e = unfold steps.started in sym (mean_facts.start g)
    mean_kept (point n buffer) e = f.mean
    mean_kept (points n buffer) e = f.mean
    mean_kept (deliver rs i) e =
        unfold steps.deliver in
        ap (λ y. y +ℤ scaled_difference (wanted_index m.log.entries) (reading_in (steps.deliver m rs i).log.entries)) f.mean
        ∙ sym (mean_facts.deliver m rs i f.sound (deliverable z true m.log rs e).wanted)
    mean_kept choose e = f.mean
    mean_kept (promote p) e =
        subst (λ (n : Machine). n.mean ≡ mean_of n.log.entries) (sym (promote_effect m p))
        (unfold steps.promote_step in f.mean ∙ sym (mean_facts.promote m p f.sound (promotable z true m.log p e).active))
    mean_kept result e = f.mean
    mean_kept doubles e = f.mean
    mean_kept cross_total e = f.mean
    mean_kept check e = f.mean

    pub moved_fine : (c : Call) → refusal z true m.log c ≡ 0 → MachineInvariant (moved m c)
    moved_fine c e = record { sound = sound_kept (effect_of m (row c)) (allowed_here c e); mean = mean_kept c e }

pub step_fine : (m : Machine) → MachineInvariant m → (x : LentCall) → MachineInvariant (machine_step m x)
unfolding state_after
step_fine m f x = split (eqb (refusal (lengths_lent x.part) true m.log x.call) 0) refl
  where
    split : (t : Bool) → eqb (refusal (lengths_lent x.part) true m.log x.call) 0 ≡ t → MachineInvariant (cond t (moved m x.call) m)
    split true e = moved_fine m f (lengths_lent x.part) x.call (eqb-true (refusal (lengths_lent x.part) true m.log x.call) 0 e)
    split false e = f
