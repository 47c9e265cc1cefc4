-- The table of calls, a row for each: what refuses the call, in order, and what an accepted one does to the machine's state, answers, and
-- leaves in a lent buffer. A call on an area is its row at what the area holds (Calls.antt); a call on the log is the same row at the log
-- (crate `history`, specs/Logged.antt). What a row may look at is seen from the types of its fields.
use Rattle.std.specs.Prelude.{Bool, false, not, cond, ◌&&◌, List, [], ◌++◌, ℕ, eqb, ℤ, length, take, drop}
use Rattle.grid.specs.Block.{block_size, point_of}
use Rattle.area.specs.declared.Settings.{Settings}
use Rattle.area.specs.Log.{Log, Machine}
use Rattle.machine.specs.Log.{wanted_index}
use Rattle.machine.specs.Choose as choice
use Rattle.machine.specs.Promote as refining
use Rattle.machine.specs.Steps as steps
use Rattle.machine.specs.Points.{points_fitting, positions_of, written_over}
use Rattle.machine.specs.Causes.{Cause, Lengths, first_cause, short, job_causes, start_causes, point_own_causes, point_buffer_short, deliver_own_causes, choose_own_causes, promote_own_causes}
use Rattle.machine.specs.Counts.{counts_of}
use Rattle.machine.specs.Means.{cross_of}
use Rattle.counting.specs.Doubles.{doubles_of}
use Rattle.calls.specs.Replies.{Reply, refused, accepted, wrote, chosen, promotion, counts, doubled, total, verdict}

-- A call with its arguments. A call that is added later joins these.
pub data Call : Type 0 where
  start : Settings → Call
  point : (n : ℕ) (buffer : List ℕ) → Call
  points : (n : ℕ) (buffer : List ℕ) → Call
  deliver : (readings : List ℤ) (indicator : ℕ) → Call
  choose : Call
  promote : (place : ℕ) → Call
  result : Call
  doubles : Call
  cross_total : Call
  check : Call

-- What an accepted call does to the state.
pub data Effect : Type 0 where
  unchanged : Effect
  becomes : Machine → Effect

-- A promotion changes the state if it is *promoted*; spent changes nothing.
unfoldable pub promotion_effect : refining.Outcome → Machine → Effect
promotion_effect refining.spent m = unchanged
promotion_effect refining.promoted m = becomes m

-- The row of a call on a job, which asks for storage that is long enough and for a sound area before its own causes (`job_causes`).
pub record JobRow : Type 0 where
  -- whether the lent buffer is too short, by the settings; a call without a buffer says no
  pub buffer_short : Settings → Bool
  -- the call's own causes
  pub causes : Log → List Cause
  pub effect : Machine → Effect
  pub reply : Machine → Reply
  -- the buffer as it is lent, and as it is left
  pub lent : List ℕ
  pub left : Log → List ℕ

-- The row of a call that no area refuses: start, which does not read the old one, and check, which answers whether it is sound.
pub record AnyAreaRow : Type 0 where
  pub causes : Lengths → List Cause
  pub effect : Effect
  -- the answer, given whether storage is long enough and the area sound
  pub reply : Bool → Reply

pub data Row : Type 0 where
  any_area : AnyAreaRow → Row
  on_job : JobRow → Row

-- A call without a buffer.
abbrev without_buffer : (Log → List Cause) → (Machine → Effect) → (Machine → Reply) → Row
without_buffer causes effect reply = on_job (record { buffer_short = λ g. false; causes = causes; effect = effect; reply = reply; lent = []; left = λ l. [] })

-- ---- the rows

-- The points of the first wanted block from its n-th on that a buffer of so many bytes has room for.
abbrev pub points_asked : Log → (n room : ℕ) → List (List ℕ)
points_asked l n room = points_fitting l.settings.axes (wanted_index l.entries) n room

unfoldable pub row : Call → Row
-- **Start** doesn't read the old area.
row (start g) = any_area (record { causes = λ z. start_causes z g; effect = becomes (steps.started g); reply = λ passes. accepted })
-- **Point** writes the d positions of the n-th point of the first wanted block into the buffer, later bytes untouched.
row (point n buffer) =
    on_job
    (record {
      buffer_short = λ g. point_buffer_short g (length buffer);
      causes = λ l. point_own_causes l n;
      effect = λ m. unchanged;
      reply = λ m. accepted;
      lent = buffer;
      left = λ l. take l.settings.axes (point_of (wanted_index l.entries) n) ++ drop l.settings.axes buffer;
    })
-- **Points** is refused as point is. It writes, from point n on, as many whole points as are left in the block and fit in the buffer, one after
-- the other, later bytes untouched, and answers how many it wrote and how many the block has.
row (points n buffer) =
    on_job
    (record {
      buffer_short = λ g. point_buffer_short g (length buffer);
      causes = λ l. point_own_causes l n;
      effect = λ m. unchanged;
      reply = λ m. wrote (length (points_asked m.log n (length buffer))) (block_size (wanted_index m.log.entries));
      lent = buffer;
      left = λ l. written_over (positions_of l.settings.axes (points_asked l n (length buffer))) buffer;
    })
-- **Deliver** takes the first wanted block's readings and an indicator.
row (deliver rs i) = without_buffer (λ l. deliver_own_causes l rs) (λ m. becomes (steps.deliver m rs i)) (λ m. accepted)
-- **Choose** answers met, capped or the place that the rule selects, and changes nothing.
row choose = without_buffer (λ l. choose_own_causes l) (λ m. unchanged) (λ m. chosen (choice.choose m.log))
-- **Promote** takes a place, any number. It answers spent or promoted, whatever the threshold; promoted makes that active index old and appends
-- the admitted.
row (promote p) =
    without_buffer (λ l. promote_own_causes l p) (λ m. promotion_effect (refining.promote_at m.log p).outcome (steps.promote_step m p)) (λ m. promotion (refining.promote_at m.log p).outcome)
-- **Result** gives the counts.
row result = without_buffer (λ l. []) (λ m. unchanged) (λ m. counts (counts_of m))
-- **Doubles** gives mean, pending error and largest delivered difference as doubles; it is refused as result is.
row doubles = without_buffer (λ l. []) (λ m. unchanged) (λ m. doubled (doubles_of m))
-- **Cross total**: the scaled mean worked out from the readings, as the combination sum.
row cross_total = without_buffer (λ l. []) (λ m. unchanged) (λ m. total (cross_of m.log.entries))
-- **Check** answers yes exactly if the area is sound, and no to short storage.
row check = any_area (record { causes = λ z. []; effect = unchanged; reply = verdict })

-- ---- a row in use: at the lengths lent, whether the area is sound, and the state

unfoldable pub causes_of : Lengths → Bool → Log → Row → List Cause
causes_of z sound l (any_area r) = r.causes z
causes_of z sound l (on_job r) = job_causes z sound l.settings (r.buffer_short l.settings) (r.causes l)

unfoldable pub effect_of : Machine → Row → Effect
effect_of m (any_area r) = r.effect
effect_of m (on_job r) = r.effect m

-- The answer, and the buffer as it is left; a call without a buffer leaves none.
pub record Answer : Type 0 where
  pub reply : Reply
  pub buffer : List ℕ

abbrev pub answer : Reply → Answer
answer r = record { reply = r; buffer = [] }

unfoldable pub accepted_answer : Bool → Machine → Row → Answer
accepted_answer passes m (any_area r) = answer (r.reply passes)
accepted_answer passes m (on_job r) = record { reply = r.reply m; buffer = r.left m.log }

-- A refused call answers the number of its cause and leaves the buffer.
unfoldable pub refused_answer : ℕ → Row → Answer
refused_answer n (any_area r) = answer (refused n)
refused_answer n (on_job r) = record { reply = refused n; buffer = r.lent }

-- Storage is long enough and the area sound.
unfoldable pub passes_check : Lengths → Bool → Log → Bool
passes_check z sound l = not (short z l.settings) && sound

-- The number of the first cause that refuses the call, 0 if none does.
unfoldable pub refusal : Lengths → Bool → Log → Call → ℕ
refusal z sound l c = first_cause (causes_of z sound l (row c))

unfoldable pub answer_of : Lengths → Bool → Machine → Call → Answer
answer_of z sound m c =
    cond (eqb (refusal z sound m.log c) 0) (accepted_answer (passes_check z sound m.log) m (row c)) (refused_answer (refusal z sound m.log c) (row c))

-- The state after the call: a refused one, and one that only looks, leave it.
unfoldable pub changed : Machine → Effect → Machine
changed m unchanged = m
changed m (becomes n) = n

unfoldable pub state_after : Lengths → Bool → Machine → Call → Machine
state_after z sound m c = cond (eqb (refusal z sound m.log c) 0) (changed m (effect_of m (row c))) m
