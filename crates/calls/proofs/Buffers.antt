-- The buffer after point: as long as it was, its later bytes untouched.
-- The idea: the point has as many positions as its index has levels, and these are eight where the area is sound.
-- Assumes nothing.
use mathlib.Core.Path.{◌≡◌, ap, sym, ◌∙◌}
use mathlib.Core.Bool.{◌&&◌}
use mathlib.Core.List.{List, [], ◌++◌}
use Prim.Native.Nat.{ℕ, ◌+◌, ◌-◌, ◌≤◌}
use native.Mathlib.Omega.{arith}
use borrow.Author.Tests.{not-false}
use lib.Dec.{leb}
use lib.ListN.{length, get_or, take, drop, length-append, length-drop}
use lib.Seq.{take_at, length-take-le, get_or-drop, get_or-append-add}
use Rattle.area.specs.Settings.{least_store}
use Rattle.grid.specs.Block.{block, point_of}
use Rattle.grid.proofs.Facts.{block-facts}
use Rattle.area.specs.Encoding.{Area, entries_of, machine_of}
use Rattle.soundness.specs.Clauses.{is_sound}
use Rattle.soundness.proofs.Exactly.{reads_and, reads_le}
use Rattle.soundness.proofs.Clauses.{clause_facts}
use Rattle.encoding.specs.Entries.{SoundMachine}
use Rattle.encoding.proofs.Facts.{encoding_facts}
use Rattle.machine.specs.Log.{first_wanted, wanted_index}
use Rattle.machine.specs.Causes.{short, first_cause, point_causes}
use Rattle.calls.specs.Replies.{lengths_of}
use Rattle.calls.proofs.Causes.{common_clear}
use Rattle.calls.proofs.Accepted.{pointable}

-- ---- a list laid over the first d of another

module _ (p buffer : List ℕ) (d : ℕ) (there : d ≤ length p) where
  over-length : d ≤ length buffer → length (take d p ++ drop d buffer) ≡ length buffer
  over-length room =
      length-append (take d p) (drop d buffer)
      ∙ omega (arith, length-take-le d p there, length-drop d buffer, room)

  over-later : (i : ℕ) → d ≤ i → get_or (take d p ++ drop d buffer) i 0 ≡ get_or buffer i 0
  over-later i h =
      ap (λ n. get_or (take d p ++ drop d buffer) n 0) split
      ∙ get_or-append-add (take d p) (drop d buffer) (i - d) 0
      ∙ get_or-drop d buffer (i - d) 0
      ∙ ap (λ n. get_or buffer n 0) back
    where
      split : i ≡ length (take d p) + (i - d)
      split = omega (arith, length-take-le d p there, h)

      back : d + (i - d) ≡ i
      back = omega (arith, h)

-- ---- where no cause refuses

module _ (a : Area) (n : ℕ) (buffer : List ℕ) (none : first_cause (point_causes (lengths_of a) (is_sound a) (machine_of a).log n (length buffer)) ≡ 0) where
  abbrev point : List ℕ
  point = point_of (wanted_index (entries_of a)) n

  abbrev laid : List ℕ
  laid = take a.job.settings.axes point ++ drop a.job.settings.axes buffer

  pub clauses : SoundMachine (machine_of a)
  unfolding machine_of short
  clauses =
      let clear = common_clear (lengths_of a) (is_sound a) (machine_of a).log (pointable (lengths_of a) (is_sound a) (machine_of a).log n (length buffer) none).clear in
      let long = (reads_and _ _ (reads_le 512 (length a.run.records)) (reads_le (least_store a.job.settings) (length a.store))).sure
      (not-false (leb 512 (length a.run.records) && leb (least_store a.job.settings) (length a.store)) clear.first) in
      encoding_facts.clauses a ((clause_facts.agree a).sure (not-false (is_sound a) clear.second)) long.1

  positions : a.job.settings.axes ≤ length point
  unfolding machine_of
  positions =
      omega (
        arith,
        block-facts.positions (wanted_index (entries_of a)) n,
        (clauses.index (first_wanted (entries_of a)) (pointable (lengths_of a) (is_sound a) (machine_of a).log n (length buffer) none).wanted).eight,
        clauses.settings.axes.1,
      )

  pub laid_length : length laid ≡ length buffer
  unfolding machine_of
  laid_length = over-length point buffer a.job.settings.axes positions (pointable (lengths_of a) (is_sound a) (machine_of a).log n (length buffer) none).room

  pub laid_later : (i : ℕ) → a.job.settings.axes ≤ i → get_or laid i 0 ≡ get_or buffer i 0
  laid_later = over-later point buffer a.job.settings.axes positions

  pub laid_first : take a.job.settings.axes laid ≡ take a.job.settings.axes (get_or (block (wanted_index (entries_of a))) n [])
  unfolding machine_of
  laid_first =
      take_at (take a.job.settings.axes point) (drop a.job.settings.axes buffer) a.job.settings.axes (length-take-le a.job.settings.axes point positions)
      ∙ ap (take a.job.settings.axes) (sym (block-facts.nth (wanted_index (entries_of a)) n (pointable (lengths_of a) (is_sound a) (machine_of a).log n (length buffer) none).inside))
