-- Each step keeps the clauses on the state, proved.
-- Assumes nothing.
use Prim.Native.Nat.{ℕ}
use Rattle.area.specs.Log.{Log, Machine}
use Rattle.encoding.specs.Entries.{SoundMachine}
use Rattle.machine.specs.Log.{Active}
use Rattle.machine.specs.Steps.{promote_step}
use Rattle.machine.specs.Facts.{StepFacts}
use Rattle.machine.proofs.Selected.{above_selected}
use Rattle.machine.proofs.Answers.{either_log}
use Rattle.machine.proofs.Started.{start_sound}
use Rattle.machine.proofs.Delivered.{deliver_sound}
use Rattle.machine.proofs.Refined.{refine_sound}

-- whatever the answer
promote_sound : (m : Machine) (p : ℕ) → SoundMachine m → Active m.log.entries p → SoundMachine (promote_step m p)
unfolding promote_step
promote_sound m p v a =
    either_log m.log.settings.budget m.log p (λ (l : Log). SoundMachine (record { log = l; mean = m.mean })) (λ e. refine_sound v p a.place a.active e) v

pub step_facts : StepFacts
step_facts =
    record {
      start = start_sound;
      deliver = deliver_sound;
      refine = λ m p v a e. refine_sound v p a.place a.active e;
      selects = λ l n. (above_selected l n).is;
      largest = λ l n. (above_selected l n).largest;
      lowest = λ l n. (above_selected l n).lowest;
      promote = promote_sound;
    }
