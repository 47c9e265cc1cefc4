-- Two points in a row, as point writes them, are one step apart along the job's axes.
-- The idea: what point writes is the point of the index's first d levels, since the axes behind them stand at the centre.
-- Assumes nothing.
use mathlib.Core.Path.{◌≡◌, sym, ap, ◌∙◌, subst}
use mathlib.Core.Bool.{true}
use mathlib.Core.List.{List}
use Prim.Native.Nat.{ℕ, suc, ◌-◌, ◌<◌, ◌≤◌}
use lib.ListN.{length, take, replicate}
use lib.Seq.{take_at}
use Rattle.grid.specs.Index.{Within, Index, levels_within}
use Rattle.grid.specs.Block.{block_size, point_of}
use Rattle.grid.specs.Terms.{OneStep, pad}
use Rattle.grid.proofs.Levels.{levels_back, within_levels}
use Rattle.grid.proofs.Facts.{block-facts, level-one-facts}
use Rattle.area.specs.Encoding.{Area, entries_of, machine_of}
use Rattle.soundness.specs.Clauses.{is_sound}
use Rattle.encoding.specs.Entries.{SoundMachine}
use Rattle.machine.specs.Log.{first_wanted, wanted_index}
use Rattle.machine.specs.Causes.{first_cause, point_causes}
use Rattle.calls.specs.Replies.{lengths_of}
use Rattle.calls.specs.Table.{point, row, causes_of, refusal}
use Rattle.calls.specs.Facts.{NotRefused}
use Rattle.calls.specs.Points.{wanted_levels, point_written}
use Rattle.calls.proofs.Accepted.{Pointable, pointable}
use Rattle.calls.proofs.Buffers.{clauses}
use Rattle.calls.proofs.CausesApplied.{no_cause}
use Rattle.calls.proofs.Facts.{call_facts}

-- ---- an index of a job with d axes

module _ (d : ℕ) (k : List ℕ) (few : d ≤ 8) (i : Index d k) where
  parts : (k ≡ pad (8 - d) (take d k)) × (length (take d k) ≡ d) × Within (take d k)
  parts = level-one-facts.job_levels d k few i

  job_levels : levels_within (take d k) ≡ true
  job_levels = levels_back (take d k) (within_levels (take d k) parts.2)

  job_size : block_size k ≡ block_size (take d k)
  job_size = ap block_size parts.0 ∙ level-one-facts.size_same (take d k) (8 - d)

  job_point : (n : ℕ) → take d (point_of k n) ≡ point_of (take d k) n
  job_point n =
      ap (λ l. take d (point_of l n)) parts.0
      ∙ ap (take d) (level-one-facts.point_same (take d k) (8 - d) n)
      ∙ take_at (point_of (take d k) n) (replicate (8 - d) 64) d (block-facts.positions (take d k) n ∙ parts.1)

-- ---- what point writes

module _ (a : Area) (n : ℕ) (buffer : List ℕ) (open-to-it : NotRefused a (point n buffer)) where
  none : first_cause (point_causes (lengths_of a) (is_sound a) (machine_of a).log n (length buffer)) ≡ 0
  unfolding refusal causes_of row point_causes
  none = no_cause a (point n buffer) open-to-it

  can : Pointable (lengths_of a) (is_sound a) (machine_of a).log n (length buffer)
  can = pointable (lengths_of a) (is_sound a) (machine_of a).log n (length buffer) none

  sound : SoundMachine (machine_of a)
  sound = clauses a n buffer none

  axes_few : a.job.settings.axes ≤ 8
  unfolding machine_of
  axes_few = sound.settings.axes.1

  index : Index a.job.settings.axes (wanted_index (entries_of a))
  unfolding machine_of
  index = sound.index (first_wanted (entries_of a)) can.wanted

  inside : n < block_size (wanted_index (entries_of a))
  unfolding machine_of
  inside = can.inside

  written : point_written a n buffer ≡ point_of (wanted_levels a) n
  written =
      call_facts.point_written_lem a n buffer open-to-it
      ∙ ap (take a.job.settings.axes) (block-facts.nth (wanted_index (entries_of a)) n inside)
      ∙ job_point a.job.settings.axes (wanted_index (entries_of a)) axes_few index n

pub one_step : (a : Area) (n : ℕ) (one two : List ℕ) → NotRefused a (point n one) → NotRefused a (point (suc n) two)
    → OneStep (wanted_levels a) (point_written a n one) (point_written a (suc n) two)
one_step a n one two f g =
    subst (λ p. OneStep (wanted_levels a) p (point_written a (suc n) two)) (sym (written a n one f))
    (subst (OneStep (wanted_levels a) (point_of (wanted_levels a) n)) (sym (written a (suc n) two g)) (block-facts.one_step (wanted_levels a) n levels below))
  where
    levels : levels_within (wanted_levels a) ≡ true
    levels = job_levels a.job.settings.axes (wanted_index (entries_of a)) (axes_few a n one f) (index a n one f)

    below : suc n < block_size (wanted_levels a)
    below =
        subst (λ s. suc n < s) (job_size a.job.settings.axes (wanted_index (entries_of a)) (axes_few a n one f) (index a n one f)) (inside a (suc n) two g)
