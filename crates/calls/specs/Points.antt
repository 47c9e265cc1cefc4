-- What points writes, beside what point writes: the same points of the first wanted block, one after the other.
use Rattle.std.specs.Prelude.{◌≡◌, ◌⊎◌, List, ℕ, suc, ◌+◌, ◌*◌, ◌<◌, ◌≤◌, length, get_or, take, drop}
use Rattle.grid.specs.Index.{Index}
use Rattle.grid.specs.Block.{block_size}
use Rattle.grid.specs.Terms.{OneStep}
use Rattle.area.specs.Encoding.{Area, entries_of}
use Rattle.machine.specs.Log.{wanted_index}
use Rattle.calls.specs.Replies.{wrote}
use Rattle.calls.specs.Table.{point, points}
use Rattle.calls.specs.Calls.{refusal_on, call_on}
use Rattle.calls.specs.Facts.{NotRefused}

-- How many points the first wanted block has, and the buffers after the calls.
abbrev pub wanted_size : Area → ℕ
wanted_size a = block_size (wanted_index (entries_of a))

abbrev pub points_buffer : Area → ℕ → List ℕ → List ℕ
points_buffer a n buffer = (call_on a (points n buffer)).answer.buffer

abbrev pub point_buffer : Area → ℕ → List ℕ → List ℕ
point_buffer a n buffer = (call_on a (point n buffer)).answer.buffer

-- Points, from point n on, wrote so many. d is the number of axes.
pub record WrotePoints (a : Area) (n : ℕ) (buffer : List ℕ) (written : ℕ) : Type 0 where
  -- it answers how many it wrote and how many the block has
  pub reply : (call_on a (points n buffer)).answer.reply ≡ wrote written (wanted_size a)
  -- at least one; whole points, d bytes each, that fit in the buffer and are left in the block
  pub some : 1 ≤ written
  pub fit : written * a.job.settings.axes ≤ length buffer
  pub left : n + written ≤ wanted_size a
  -- and as many as that: the block ends with them, or one more would not fit
  pub most : (n + written ≡ wanted_size a) ⊎ (length buffer < (written + 1) * a.job.settings.axes)
  -- the i-th written is what point writes of point n + i, into any buffer that holds it
  pub each : (i : ℕ) (one : List ℕ) → i < written → a.job.settings.axes ≤ length one
      → NotRefused a (point (n + i) one) × (take a.job.settings.axes (drop (i * a.job.settings.axes) (points_buffer a n buffer)) ≡ take a.job.settings.axes (point_buffer a (n + i) one))
  -- every later byte stays
  pub later : (i : ℕ) → written * a.job.settings.axes ≤ i → get_or (points_buffer a n buffer) i 0 ≡ get_or buffer i 0

-- The first d levels of the first wanted index, d being the number of axes, and the positions that point writes of its n-th point.
abbrev pub wanted_levels : Area → List ℕ
wanted_levels a = take a.job.settings.axes (wanted_index (entries_of a))

abbrev pub point_written : Area → ℕ → List ℕ → List ℕ
point_written a n buffer = take a.job.settings.axes (point_buffer a n buffer)

pub record PointsFacts : Type 0 where
  -- point writes a block's points in reflected order: two in a row differ on one of the job's axes only, and there by one step among the
  -- new points
  pub one_step : (a : Area) (n : ℕ) (one two : List ℕ) → NotRefused a (point n one) → NotRefused a (point (suc n) two)
      → OneStep (wanted_levels a) (point_written a n one) (point_written a (suc n) two)
  -- refused exactly as point is
  pub refused_alike : (a : Area) (n : ℕ) (buffer : List ℕ) → refusal_on a (points n buffer) ≡ refusal_on a (point n buffer)
  pub writes : (a : Area) (n : ℕ) (buffer : List ℕ) → NotRefused a (points n buffer) → (written : ℕ) × WrotePoints a n buffer written
  -- the buffer stays as long, refused or not
  pub length_same : (a : Area) (n : ℕ) (buffer : List ℕ) → length (points_buffer a n buffer) ≡ length buffer
  -- with a buffer of one point it writes what point writes
  pub one_point : (a : Area) (n : ℕ) (buffer : List ℕ) → length buffer ≡ a.job.settings.axes → points_buffer a n buffer ≡ point_buffer a n buffer
  -- within the ceilings a block has at most 2,048 points
  pub largest_block : (d : ℕ) (k : List ℕ) → Index d k → block_size k ≤ 2048
  -- so that many times d bytes hold any block whole
  pub whole_block_axes : (a : Area) (buffer : List ℕ) → 2048 * a.job.settings.axes ≤ length buffer → NotRefused a (points 0 buffer)
      → (call_on a (points 0 buffer)).answer.reply ≡ wrote (wanted_size a) (wanted_size a)
  -- and 16,384 bytes whatever d is
  pub whole_block : (a : Area) (buffer : List ℕ) → 16384 ≤ length buffer → NotRefused a (points 0 buffer)
      → (call_on a (points 0 buffer)).answer.reply ≡ wrote (wanted_size a) (wanted_size a)
