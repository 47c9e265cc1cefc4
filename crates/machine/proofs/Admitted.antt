-- What refining an active place admits: the forward neighbours of its index within the ceilings whose backward neighbours are old, the
-- place itself now included. None of them was entered, for then the place would have been old; no two of them are the same.
-- Assumes nothing.
use mathlib.Core.Path.{◌≡◌, refl, sym, ap, ◌∙◌, subst}
use mathlib.Core.Logic.{◌⊎◌, inl, inr, ⊎_elim}
use mathlib.Core.List.{List}
use Prim.Native.Nat.{ℕ, ◌<◌, ◌≤◌}
use native.Mathlib.Decide.{ℕ_discrete}
use native.Mathlib.Omega.{arith}
use lib.ListN.{length, get_or, length-set}
use Rattle.grid.specs.Index.{level, Index, forward, backward}
use Rattle.grid.proofs.Neighbours.{forward_length, forward_level, forward_other, backward_forward}
use Rattle.area.specs.Entry.{Entry}
use Rattle.area.specs.Log.{Machine}
use Rattle.soundness.proofs.Levels.{at_least}
use Rattle.encoding.specs.Entries.{entry_at, Has, Entered, EnteredOld, SoundMachine}
use Rattle.machine.specs.Promote.{made_old, make_old, admits, passing, admitted_axes}
use Rattle.machine.proofs.Passing.{Occurs, Rising, passing_is, passing_has, passing_rises}
use Rattle.machine.proofs.Old.{Admits, reads_admits}
use Rattle.machine.proofs.Sets.{has_set, set_has, old_set, set_old}

-- ---- the axes of the admitted

module _ (d : ℕ) (es : List Entry) (k : List ℕ) where
  pub axis_is : (i : ℕ) → i < length (admitted_axes d es k) → (get_or (admitted_axes d es k) i 0 < d) × Admits d es k (get_or (admitted_axes d es k) i 0)
  unfolding admitted_axes
  axis_is i h =
      let x = passing_is (admits d es k) d 0 i h in
      (omega (arith, x.1), (reads_admits d es k (get_or (passing d 0 (admits d es k)) i 0)).sure x.2)

  pub axis_has : (a : ℕ) → a < d → Admits d es k a → Occurs (admitted_axes d es k) a
  unfolding admitted_axes
  axis_has a h w = passing_has (admits d es k) d 0 a (omega arith, omega arith, (reads_admits d es k a).back w)

  pub axes_rise : Rising (admitted_axes d es k)
  unfolding admitted_axes
  axes_rise = passing_rises (admits d es k) d 0

-- ---- the forward neighbours of an index

module _ {d : ℕ} {k : List ℕ} (few : d ≤ 8) (index : Index d k) where
  in_eight : (a : ℕ) → a < d → a < length k
  in_eight a h = omega (arith, index.eight)

  pub forward_once : (a c : ℕ) → a < d → forward k a ≡ forward k c → a ≡ c
  forward_once a c h e = step (ℕ_discrete a c)
    where
      step : Dec (a ≡ c) → a ≡ c
      step (yes q) = q
      step (no q) =
          absurd (omega (arith, forward_level k a (in_eight a h), forward_other k c a q, ap (λ (l : List ℕ). level l a) e))

  pub admitted_index : {es : List Entry} (a : ℕ) → a < d → Admits d es k a → Index d (forward k a)
  admitted_index a h w =
      record {
        eight = forward_length k a ∙ index.eight;
        ceilings = w.ceilings;
        beyond = λ c l h8. forward_other k a c (λ e. omega arith) ∙ index.beyond c l h8;
      }

-- ---- making a place old makes its index old, and no other

module _ (es : List Entry) (p : ℕ) (inside : p < length es) where
  pub make_old-length : length (make_old es p) ≡ length es
  unfolding make_old
  make_old-length = length-set es p (made_old (entry_at es p))

  pub has_make_old : (x : List ℕ) (q : ℕ) → Has es x q → Has (make_old es p) x q
  unfolding make_old made_old
  has_make_old = has_set es p (made_old (entry_at es p)) inside refl

  pub make_old_has : (x : List ℕ) (q : ℕ) → Has (make_old es p) x q → Has es x q
  unfolding make_old made_old
  make_old_has = set_has es p (made_old (entry_at es p)) inside refl

  pub old_make_old : (x : List ℕ) → EnteredOld es x → EnteredOld (make_old es p) x
  unfolding make_old made_old
  old_make_old = old_set es p (made_old (entry_at es p)) inside refl (λ e. refl)

  pub make_old_old : (x : List ℕ) → EnteredOld (make_old es p) x → EnteredOld es x ⊎ (x ≡ (entry_at es p).levels)
  unfolding make_old made_old
  make_old_old x h = ⊎_elim (λ o. inl o) (λ e. inr e.0) (set_old es p (made_old (entry_at es p)) inside refl x h)

-- ---- no forward neighbour of an active entry is entered

module _ {m : Machine} (v : SoundMachine m) (p : ℕ) (inside : p < length m.log.entries) (active : (entry_at m.log.entries p).state ≡ 1) where
  abbrev d : ℕ
  d = m.log.settings.axes

  abbrev es : List Entry
  es = m.log.entries

  abbrev k : List ℕ
  k = (entry_at es p).levels

  pub not_old : EnteredOld m.log.entries (entry_at m.log.entries p).levels → ⊥
  not_old h =
      let e : h.0 ≡ p = v.different h.0 p h.1.place inside h.1.same in
      omega (arith, h.2, ap (λ q. (entry_at es q).state) e)

  pub not_entered : (a : ℕ) → a < d → Entered es (forward (entry_at es p).levels a) → ⊥
  not_entered a h x = not_old (subst (EnteredOld es) (backward_forward k a in_k) below)
    where
      in_k : a < length k
      in_k = omega (arith, (v.index p inside).eight, v.settings.axes.1)

      above : 1 < level (forward k a) a
      above = omega (arith, forward_level k a in_k, at_least d k (v.index p inside) a (omega (arith, v.settings.axes.1)))

      below : EnteredOld es (backward (forward k a) a)
      below =
          subst (λ l. EnteredOld es (backward l a)) x.1.same
          (v.behind x.0 a x.1.place h (subst (λ l. 1 < level l a) (sym x.1.same) above))
