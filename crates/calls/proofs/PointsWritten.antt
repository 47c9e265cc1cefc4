-- What points writes is what point writes of each point, one after the other.
-- The idea: where nothing refuses, the bytes written are those of so many points of the block (`bytes`, crate `machine`), and the i-th of
-- these begins at i·d; and what refuses depends on the point's number and the buffer's length alone.
-- Assumes nothing.
use mathlib.Core.Path.{◌≡◌, refl, sym, ap, ◌∙◌}
use mathlib.Core.Logic.{◌⊎◌, inl, inr}
use mathlib.Core.List.{List, ◌++◌}
use Prim.Native.Nat.{ℕ, ◌+◌, ◌*◌, ◌-◌, ◌<◌, ◌≤◌}
use native.Mathlib.Omega.{arith}
use native.Mathlib.Decide.{dec_lt}
use native.Mathlib.Nat.{add-zero, zero-mul, mul-le-mul_right}
use lib.ListN.{length, get_or, take, drop, length-append, length-drop}
use lib.Seq.{length-take-le, take_all, take_at, get_or-drop, get_or-append-add}
use Rattle.grid.specs.Index.{Within}
use Rattle.grid.specs.Block.{point_of}
use Rattle.grid.proofs.Facts.{block-facts}
use Rattle.area.specs.Encoding.{Area, entries_of, machine_of}
use Rattle.soundness.specs.Clauses.{is_sound}
use Rattle.encoding.specs.Entries.{SoundMachine}
use Rattle.machine.specs.Log.{first_wanted, wanted_index}
use Rattle.machine.specs.Points.{positions_of, written_over}
use Rattle.machine.specs.Causes.{first_cause, point_causes}
use Rattle.machine.proofs.Points.{bytes, bytes_length, bytes_at, taken_length, Fitting, fitting_count}
use Rattle.machine.proofs.BlockSizes.{size_most}
use Rattle.calls.specs.Replies.{wrote, lengths_of}
use Rattle.calls.specs.Table.{Answer, point, points, row, causes_of, refusal}
use Rattle.calls.specs.Calls.{refusal_on, call_on}
use Rattle.calls.specs.Facts.{NotRefused}
use Rattle.calls.specs.Points.{wanted_size, points_buffer, point_buffer, WrotePoints, PointsFacts}
use Rattle.calls.proofs.Causes.{point_fits, wanted-yes}
use Rattle.calls.proofs.Accepted.{Pointable, pointable}
use Rattle.calls.proofs.Rows.{point_refuses, point_accepts, points_refuses, points_accepts}
use Rattle.calls.proofs.Buffers.{clauses}
use Rattle.calls.proofs.CausesApplied.{no_cause, no_refusal}
use Rattle.calls.proofs.Facts.{call_facts}
use Rattle.calls.proofs.PointSteps.{one_step}

refused_alike : (a : Area) (n : ℕ) (buffer : List ℕ) → refusal_on a (points n buffer) ≡ refusal_on a (point n buffer)
unfolding refusal causes_of row
refused_alike a n buffer = refl

-- ---- where nothing refuses

module _ (a : Area) (n : ℕ) (buffer : List ℕ) (none : first_cause (point_causes (lengths_of a) (is_sound a) (machine_of a).log n (length buffer)) ≡ 0) where
  abbrev d : ℕ
  d = a.job.settings.axes

  abbrev k : List ℕ
  k = wanted_index (entries_of a)

  open_to : Pointable (lengths_of a) (is_sound a) (machine_of a).log n (length buffer)
  open_to = pointable (lengths_of a) (is_sound a) (machine_of a).log n (length buffer) none

  sound : SoundMachine (machine_of a)
  sound = clauses a n buffer none

  eight : length k ≡ 8
  unfolding machine_of
  eight = (sound.index (first_wanted (entries_of a)) open_to.wanted).eight

  axes_few : d ≤ 8
  unfolding machine_of
  axes_few = sound.settings.axes.1

  within : Within k
  unfolding machine_of
  within = (sound.index (first_wanted (entries_of a)) open_to.wanted).ceilings

  few : d ≤ length k
  unfolding machine_of
  few = omega (arith, eight, axes_few)

  fits : (count : ℕ) × Fitting d k n (length buffer) count
  unfolding machine_of
  fits = fitting_count d k n (length buffer) sound.settings.axes.0 open_to.room open_to.inside

  abbrev count : ℕ
  count = fits.0

  f : Fitting d k n (length buffer) count
  f = fits.1

  -- the answer, and the buffer
  counted : (call_on a (points n buffer)).answer.reply ≡ wrote count (wanted_size a)
  counted =
      ap (λ (x : Answer). x.reply) (sym (points_accepts a n buffer 0 (sym none) refl))
      ∙ ap (λ w. wrote w (wanted_size a)) (ap length f.is ∙ taken_length d k n count (omega (arith, f.left)))

  laid : points_buffer a n buffer ≡ bytes d k n count ++ drop (count * d) buffer
  unfolding written_over
  laid =
      ap (λ (x : Answer). x.buffer) (sym (points_accepts a n buffer 0 (sym none) refl))
      ∙ ap (λ ps. positions_of d ps ++ drop (length (positions_of d ps)) buffer) f.is
      ∙ ap (λ m. bytes d k n count ++ drop m buffer) (bytes_length d k n few count f.left)

  laid_length : length (points_buffer a n buffer) ≡ length buffer
  laid_length =
      ap length laid
      ∙ length-append (bytes d k n count) (drop (count * d) buffer)
      ∙ omega (arith, bytes_length d k n few count f.left, length-drop (count * d) buffer, f.fit)

  later : (i : ℕ) → count * d ≤ i → get_or (points_buffer a n buffer) i 0 ≡ get_or buffer i 0
  later i h =
      ap (λ b. get_or b i 0) laid
      ∙ ap (λ m. get_or (bytes d k n count ++ drop (count * d) buffer) m 0) split
      ∙ get_or-append-add (bytes d k n count) (drop (count * d) buffer) (i - count * d) 0
      ∙ get_or-drop (count * d) buffer (i - count * d) 0
      ∙ ap (λ m. get_or buffer m 0) back
    where
      split : i ≡ length (bytes d k n count) + (i - count * d)
      split = omega (arith, bytes_length d k n few count f.left, h)

      back : count * d + (i - count * d) ≡ i
      back = omega (arith, h)

  -- ---- point at n + i

  module _ (i : ℕ) (one : List ℕ) (h : i < count) (room : d ≤ length one) where
    point_open : first_cause (point_causes (lengths_of a) (is_sound a) (machine_of a).log (n + i) (length one)) ≡ 0
    unfolding machine_of
    point_open =
        point_fits (lengths_of a) (is_sound a) (machine_of a).log (n + i) (length one) room open_to.clear (wanted-yes (machine_of a).log open_to.wanted) (omega (arith, h, f.left))

    accepted_there : NotRefused a (point (n + i) one)
    unfolding refusal causes_of row point_causes
    accepted_there = no_refusal a (point (n + i) one) point_open

    same : take d (drop (i * d) (points_buffer a n buffer)) ≡ take d (point_buffer a (n + i) one)
    same =
        ap (λ b. take d (drop (i * d) b)) laid
        ∙ bytes_at d k n few i count (drop (count * d) buffer) h f.left
        ∙ sym (take_at (take d (point_of k (n + i))) (drop d one) d (length-take-le d (point_of k (n + i)) (omega (arith, few, block-facts.positions k (n + i)))))
        ∙ ap (λ (x : Answer). take d x.buffer) (point_accepts a (n + i) one 0 (sym point_open) refl)

  wrote_points : WrotePoints a n buffer count
  wrote_points =
      record {
        reply = counted;
        some = f.some;
        fit = f.fit;
        left = f.left;
        most = f.most;
        each = λ i one h room. (accepted_there i one h room, same i one h room);
        later = later;
      }

-- ---- refused or not

module _ (a : Area) (n : ℕ) (buffer : List ℕ) where
  open_there : NotRefused a (points n buffer) → first_cause (point_causes (lengths_of a) (is_sound a) (machine_of a).log n (length buffer)) ≡ 0
  unfolding refusal causes_of row point_causes
  open_there g = no_cause a (points n buffer) g

  abbrev cause : ℕ
  cause = first_cause (point_causes (lengths_of a) (is_sound a) (machine_of a).log n (length buffer))

  length_same : length (points_buffer a n buffer) ≡ length buffer
  length_same = go (dec_lt 0 cause)
    where
      go : Dec (0 < cause) → length (points_buffer a n buffer) ≡ length buffer
      go (no h) = laid_length a n buffer (omega arith)
      go (yes h) = ap (λ (x : Answer). length x.buffer) (sym (points_refuses a n buffer cause refl (λ e. omega (arith, e, h))))

  one_point : length buffer ≡ a.job.settings.axes → points_buffer a n buffer ≡ point_buffer a n buffer
  one_point e = go (dec_lt 0 cause)
    where
      go : Dec (0 < cause) → points_buffer a n buffer ≡ point_buffer a n buffer
      go (no h) =
          let none : cause ≡ 0 = omega arith in
          sym (take_all a.job.settings.axes (points_buffer a n buffer) (omega (arith, length_same, e)))
          ∙ ap (λ m. take a.job.settings.axes (drop m (points_buffer a n buffer))) (sym (zero-mul a.job.settings.axes))
          ∙ same a n buffer none 0 buffer (f a n buffer none).some (omega (arith, e))
          ∙ ap (λ m. take a.job.settings.axes (point_buffer a m buffer)) (add-zero n)
          ∙ take_all a.job.settings.axes (point_buffer a n buffer) (omega (arith, call_facts.point_length a n buffer, e))
      go (yes h) = let some : cause ≡ 0 → ⊥ = λ e. omega (arith, e, h) in ap (λ (x : Answer). x.buffer) (sym (points_refuses a n buffer cause refl some) ∙ point_refuses a n buffer cause refl some)

-- 2,048 points at most, of d bytes
whole_block_axes : (a : Area) (buffer : List ℕ) → 2048 * a.job.settings.axes ≤ length buffer → NotRefused a (points 0 buffer)
    → (call_on a (points 0 buffer)).answer.reply ≡ wrote (wanted_size a) (wanted_size a)
whole_block_axes a buffer long g = counted a 0 buffer none ∙ ap (λ w. wrote w (wanted_size a)) (go (dec_lt written (wanted_size a)) (f a 0 buffer none).most)
  where
    none : first_cause (point_causes (lengths_of a) (is_sound a) (machine_of a).log 0 (length buffer)) ≡ 0
    none = open_there a 0 buffer g

    written : ℕ
    written = count a 0 buffer none

    small : wanted_size a ≤ 2048
    small = size_most (wanted_index (entries_of a)) (eight a 0 buffer none) (within a 0 buffer none)

    go : Dec (written < wanted_size a) → (0 + written ≡ wanted_size a) ⊎ (length buffer < (written + 1) * a.job.settings.axes) → written ≡ wanted_size a
    go (no h) m = omega (arith, (f a 0 buffer none).left)
    go (yes h) (inl e) = omega (arith, e)
    go (yes h) (inr m) = absurd (omega (arith, m, long, mul-le-mul_right {m = written + 1} {n = 2048} a.job.settings.axes (omega (arith, h, small))))

-- and d is at most eight
whole_block : (a : Area) (buffer : List ℕ) → 16384 ≤ length buffer → NotRefused a (points 0 buffer) → (call_on a (points 0 buffer)).answer.reply ≡ wrote (wanted_size a) (wanted_size a)
whole_block a buffer long g = whole_block_axes a buffer (omega (arith, long, axes_few a 0 buffer (open_there a 0 buffer g))) g

pub points-facts : PointsFacts
points-facts =
    record {
      one_step = one_step;
      refused_alike = refused_alike;
      writes = λ a n buffer g. (count a n buffer (open_there a n buffer g), wrote_points a n buffer (open_there a n buffer g));
      length_same = length_same;
      one_point = one_point;
      largest_block = λ d k i. size_most k i.eight i.ceilings;
      whole_block_axes = whole_block_axes;
      whole_block = whole_block;
    }
