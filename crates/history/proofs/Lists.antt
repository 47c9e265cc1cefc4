-- A list of calls: by induction, the storage holds the log's state and every answer is the log's.
-- Assumes nothing.
use mathlib.Core.Path.{◌≡◌, refl, ap, ap₂, ◌∙◌}
use mathlib.Core.List.{List, [], ◌∷◌, ◌++◌}
use native.Mathlib.Omega.{arith}
use lib.ListN.{length}
use Rattle.area.specs.Log.{Log, Machine}
use Rattle.calls.specs.Table.{Answer}
use Rattle.history.specs.LentCalls.{LentCall}
use Rattle.history.specs.Logged.{log_after, answers_by}
use Rattle.history.specs.Storage.{Storage, AllLent, storage_step, storage_after, answers_of}
use Rattle.history.proofs.Holding.{Holds, Kept}
use Rattle.history.proofs.Moves.{machine_step, step_log, MachineInvariant, step_fine}
use Rattle.history.proofs.Steps.{call-answer, call_keeps}

-- the machine's state after the calls
unfoldable pub machine_after : Machine → List LentCall → Machine
machine_after m [] = m
machine_after m (x ∷ xs) = machine_after (machine_step m x) xs

-- as much is there to be lent
pub lent_too : (w v : Storage) → length v.cells ≡ length w.cells → length v.store ≡ length w.store → (xs : List LentCall) → AllLent w xs → AllLent v xs
lent_too w v e f [] l = tt
lent_too w v e f (x ∷ xs) l = (record { cells = omega (arith, l.0.cells, e); readings = omega (arith, l.0.readings, f) }, lent_too w v e f xs l.1)

pub after_log : (m : Machine) (xs : List LentCall) → (machine_after m xs).log ≡ log_after m.log xs
unfolding machine_after log_after
after_log m [] = refl
after_log m (x ∷ xs) = after_log (machine_step m x) xs ∙ ap (λ (l : Log). log_after l xs) (step_log m x)

pub after_keeps : (w : Storage) (m : Machine) → Holds w m → (xs : List LentCall) → AllLent w xs → Kept w (storage_after w xs) (machine_after m xs)
unfolding storage_after machine_after
after_keeps w m h [] l = record { holds = h; cells = refl; store = refl }
after_keeps w m h (x ∷ xs) l =
    let k : Kept w (storage_step w x) (machine_step m x) = call_keeps w x l.0 m h in
    let n = after_keeps (storage_step w x) (machine_step m x) k.holds xs (lent_too w (storage_step w x) k.cells k.store xs l.1) in
    record { holds = n.holds; cells = n.cells ∙ k.cells; store = n.store ∙ k.store }

pub after_answers : (w : Storage) (m : Machine) → Holds w m → (xs : List LentCall) → AllLent w xs → answers_of w xs ≡ answers_by m.log xs
unfolding answers_of answers_by
after_answers w m h [] l = refl
after_answers w m h (x ∷ xs) l =
    let k : Kept w (storage_step w x) (machine_step m x) = call_keeps w x l.0 m h in
    ap₂ (λ (y : Answer) ys. y ∷ ys) (call-answer w x l.0 m h)
    (after_answers (storage_step w x) (machine_step m x) k.holds xs (lent_too w (storage_step w x) k.cells k.store xs l.1)
    ∙ ap (λ (o : Log). answers_by o xs) (step_log m x))

pub after_fine : (m : Machine) → MachineInvariant m → (xs : List LentCall) → MachineInvariant (machine_after m xs)
unfolding machine_after
after_fine m f [] = f
after_fine m f (x ∷ xs) = after_fine (machine_step m x) (step_fine m f x) xs

-- one list after another
pub after_both : (m : Machine) (xs ys : List LentCall) → machine_after m (xs ++ ys) ≡ machine_after (machine_after m xs) ys
unfolding machine_after
after_both m [] ys = refl
after_both m (x ∷ xs) ys = after_both (machine_step m x) xs ys
