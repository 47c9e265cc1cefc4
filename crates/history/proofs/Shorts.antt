-- Storage that is too short for the recorded settings: a call comes to the same whatever the area holds.
-- The idea: cause 3 is the first that a call on a job asks, whatever the rest would say; start and check look at nothing but the lengths, and
-- check says no.
-- Assumes nothing.
use mathlib.Core.Path.{◌≡◌, refl, ap}
use mathlib.Core.Bool.{Bool, true, false, not, cond, ◌&&◌}
use lib.Dec.{eqb}
use Rattle.area.specs.Log.{Log, Machine}
use Rattle.area.specs.Encoding.{Area}
use Rattle.machine.specs.Causes.{Lengths, first_cause, short}
use Rattle.calls.specs.Table.{Row, any_area, on_job, JobRow, Answer, causes_of, effect_of, passes_check, accepted_answer, refused_answer}
use Rattle.calls.specs.Calls.{area_after}
use Rattle.calls.proofs.Tests.{hit}

-- the answer of a row, and the area after it
abbrev pub row_answer : Lengths → Bool → Machine → Row → Answer
row_answer z s m r =
    cond (eqb (first_cause (causes_of z s m.log r)) 0) (accepted_answer (passes_check z s m.log) m r) (refused_answer (first_cause (causes_of z s m.log r)) r)

abbrev pub row_area : Lengths → Bool → Machine → Area → Row → Area
row_area z s m a r = cond (eqb (first_cause (causes_of z s m.log r)) 0) (area_after a (effect_of m r)) a

module _ (z : Lengths) where
  -- storage or buffer too short
  three : (s : Bool) (l : Log) (r : JobRow) → short z l.settings ≡ true → first_cause (causes_of z s l (on_job r)) ≡ 3
  unfolding causes_of
  three s l r is = hit _ 3 _ (either (r.buffer_short l.settings))
    where
      either : (t : Bool) → cond t true (short z l.settings) ≡ true
      either true = refl
      either false = is

  no : (s : Bool) (l : Log) → short z l.settings ≡ true → passes_check z s l ≡ false
  unfolding passes_check
  no s l is = ap (λ t. not t && s) is

  module _ (s t : Bool) (m n : Machine) (is : short z m.log.settings ≡ true) (also : short z n.log.settings ≡ true) where
    pub short-answer : (r : Row) → row_answer z s m r ≡ row_answer z t n r
    unfolding accepted_answer
    short-answer (any_area r) = unfold causes_of in rw (no s m.log is, no t n.log also) refl
    short-answer (on_job r) = rw (three s m.log r is, three t n.log r also) refl

    pub short_area : (a : Area) (r : Row) → row_area z s m a r ≡ row_area z t n a r
    short_area a (any_area r) = unfold causes_of effect_of in refl
    short_area a (on_job r) = rw (three s m.log r is, three t n.log r also) refl
