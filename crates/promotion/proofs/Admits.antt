-- What admits an index, case by case, as the scan asks it.
-- Assumes nothing.
use mathlib.Core.Path.{◌≡◌, sym, ap, ◌∙◌}
use mathlib.Core.Bool.{Bool, true, false}
use mathlib.Core.List.{List}
use Prim.Native.Nat.{ℕ, ◌<◌, ◌≤◌}
use borrow.Author.Tests.{le-leb, lt-leb}
use lib.ListN.{get_or}
use Rattle.grid.specs.Index.{level, within, forward, backward}
use Rattle.area.specs.Entry.{Entry}
use Rattle.machine.specs.Promote.{is_old, backward_old, admits, admitted_axes}
use Rattle.machine.proofs.Old.{reads_admits}
use Rattle.promotion.specs.Marks.{marks_of, marked_axes, MarkedWithin}
use Rattle.promotion.proofs.Marks.{marked_passes, marked_are}
use Rattle.soundness.specs.Test.{all_from}

module _ (es : List Entry) (k : List ℕ) (b : ℕ) where
  pub no_neighbour : level k b ≤ 1 → backward_old es k b ≡ true
  unfolding backward_old
  no_neighbour h = rw (le-leb (level k b) 1 h)

  pub neighbour_old : 1 < level k b → backward_old es k b ≡ is_old es (backward k b)
  unfolding backward_old
  neighbour_old h = rw (lt-leb (level k b) 1 h)

module _ (d : ℕ) (es : List Entry) (k : List ℕ) (a : ℕ) where
  pub past_ceiling : within (forward k a) ≡ false → admits d es k a ≡ false
  unfolding admits
  past_ceiling e = rw e

  pub by_neighbours : within (forward k a) ≡ true → admits d es k a ≡ all_from d 0 (backward_old es (forward k a))
  unfolding admits
  by_neighbours e = rw e

-- ---- the marked axes are those that admit, so along them the neighbours are within the ceilings

module _ (d : ℕ) (es : List Entry) (k : List ℕ) (few : d ≤ 8) {marks : List Bool} (are : marks ≡ marks_of d (admits d es k)) where
  pub admitted_marked : marked_axes d marks ≡ admitted_axes d es k
  unfolding admitted_axes
  admitted_marked = ap (marked_axes d) are ∙ marked_are d (admits d es k) few

  pub marked_within : MarkedWithin d k marks
  marked_within a h e = ((reads_admits d es k a).sure (marked_passes d (admits d es k) few a h (ap (λ x. get_or x a false) (sym are) ∙ e))).ceilings
