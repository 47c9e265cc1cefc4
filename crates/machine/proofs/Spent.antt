-- Refining a place is spent exactly if the admitted, told by their levels, would be too many or too large; and none of them is held.
-- The idea: the forward neighbours along the admitted axes are such a list, and every other has the same totals.
-- Assumes nothing.
use mathlib.Core.Path.{◌≡◌, refl, sym, ap, ◌∙◌, subst}
use mathlib.Core.Logic.{◌⊎◌, inl, inr}
use mathlib.Core.List.Memᴰ
use mathlib.Core.List.{List, [], ◌∷◌, ◌++◌, map, Memᴰ, map-map}
use Prim.Native.Nat.{ℕ, zero, suc, ◌+◌, ◌<◌}
use native.Mathlib.Decide.{ℕ_discrete}
use native.Mathlib.Omega.{arith}
use lib.ListN.{length, get_or, length-append, length-map}
use Rattle.grid.specs.Index.{level, Within, forward, backward}
use Rattle.grid.specs.Block.{block_size}
use Rattle.grid.specs.Terms.{NoDup}
use Rattle.grid.proofs.Lower.{map_in, in_map}
use Rattle.grid.proofs.Neighbours.{forward_level, forward_other}
use Rattle.area.specs.Entry.{Entry, reserved_by}
use Rattle.area.specs.Log.{Log, Machine}
use Rattle.encoding.specs.Entries.{entry_at, Entered, EnteredOld, SoundMachine}
use Rattle.machine.specs.Log.{wanted, Active}
use Rattle.machine.specs.Promote.{spent, promoted, made_old, make_old, admitted_axes, refine, promote_at}
use Rattle.machine.specs.Admitted.{Admitted, total_of, ListsAdmitted, Exceeds, IndexPlace, Appends, AdmittedFacts}
use Rattle.machine.proofs.Passing.{Occurs, Rising}
use Rattle.machine.proofs.Old.{Admits}
use Rattle.machine.proofs.Sets.{set_here, reserved_set}
use Rattle.machine.proofs.Admitted.{axis_is, axis_has, axes_rise, make_old-length, has_make_old, old_make_old, make_old_old, not_entered}
use Rattle.machine.proofs.Totals.{total_same, total-length}
use Rattle.machine.proofs.Limits.{limits_spent, limits_only, limits_promoted}

-- ---- members of a list of axes

occurs : (axes : List ℕ) (a : ℕ) → Memᴰ a axes → Occurs axes a
occurs [] a m = absurd (Memᴰ.not-nil m)
occurs (c ∷ axes) a m = step (occurs axes a) (Memᴰ.cases_cons m)
  where
    step : (Memᴰ a axes → Occurs axes a) → (a ≡ c) ⊎ Memᴰ a axes → Occurs (c ∷ axes) a
    step ih (inl e) = (0, omega arith, sym e)
    step ih (inr q) = let s = ih q in (suc s.0, omega (arith, s.1), s.2)

member : (axes : List ℕ) (i : ℕ) → i < length axes → Memᴰ (get_or axes i 0) axes
member [] i h = absurd (omega arith)
member (c ∷ axes) zero h = Memᴰ.head refl
member (c ∷ axes) (suc i) h = Memᴰ.tail (member axes i (omega arith))

-- ---- forward neighbours along different axes are different

forward_apart : (k : List ℕ) (a c : ℕ) → a < length k → forward k a ≡ forward k c → a ≡ c
forward_apart k a c h e = step (ℕ_discrete a c)
  where
    step : Dec (a ≡ c) → a ≡ c
    step (yes q) = q
    step (no q) = absurd (omega (arith, forward_level k a h, forward_other k c a q, ap (λ (l : List ℕ). level l a) e))

ahead_once : (k axes : List ℕ) → Rising axes → ((a : ℕ) → Memᴰ a axes → a < length k) → NoDup (map (forward k) axes)
ahead_once k [] r h = tt
ahead_once k (a ∷ axes) r h = (λ m. again (in_map (forward k) (forward k a) axes m), ahead_once k axes (λ i j l b. r (suc i) (suc j) (omega arith) (omega arith)) (λ c q. h c (Memᴰ.tail q)))
  where
    again : (c : ℕ) × Memᴰ c axes × (forward k a ≡ forward k c) → ⊥
    again (c, q, e) =
        let s : Occurs axes c = occurs axes c q in
        omega (arith, forward_apart k a c (h a (Memᴰ.head refl)) e, r 0 (suc s.0) (omega arith) (omega (arith, s.1)), s.2)

-- ---- what is appended, counted

reserved_wanted : (es : List Entry) (k axes : List ℕ) → reserved_by (es ++ map (λ a. wanted (forward k a)) axes) ≡ reserved_by es + total_of block_size (map (forward k) axes)
unfolding reserved_by wanted total_of
reserved_wanted [] k [] = refl
reserved_wanted [] k (a ∷ axes) = omega (arith, reserved_wanted [] k axes)
reserved_wanted (e ∷ es) k axes = omega (arith, reserved_wanted es k axes)

module _ (l : Log) (p : ℕ) (at : IndexPlace l p) where
  abbrev d : ℕ
  d = l.settings.axes

  abbrev es : List Entry
  es = l.entries

  abbrev k : List ℕ
  k = (entry_at es p).levels

  abbrev kept : List Entry
  kept = make_old es p

  abbrev axes : List ℕ
  axes = admitted_axes d kept k

  -- the admitted, in axis order
  abbrev new : List (List ℕ)
  new = map (forward k) axes

  -- ---- they are those that the statement asks for

  place_old : EnteredOld kept k
  unfolding make_old made_old
  place_old = (p, has_make_old es p at.inside k p (record { place = at.inside; same = refl }), ap (λ (e : Entry). e.state) (set_here es p (made_old (entry_at es p)) at.inside))

  old_there : (x : List ℕ) → EnteredOld es x ⊎ (x ≡ k) → EnteredOld kept x
  old_there x (inl h) = old_make_old es p at.inside x h
  old_there x (inr e) = subst (EnteredOld kept) (sym e) place_old

  axis_there : (a : ℕ) → Memᴰ a axes → (a < d) × Admits d kept k a
  axis_there a m =
      let s : Occurs axes a = occurs axes a m in
      subst (λ c. (c < d) × Admits d kept k c) s.2 (axis_is d kept k s.0 s.1)

  new_each : (x : List ℕ) → Memᴰ x new → Admitted d es p x
  new_each x m = step (in_map (forward k) x axes m)
    where
      step : (a : ℕ) × Memᴰ a axes × (x ≡ forward k a) → Admitted d es p x
      step (a, q, e) =
          let w = axis_there a q in
          record {
            axis = a;
            among = w.0;
            neighbour = e;
            ceilings = subst Within (sym e) w.1.ceilings;
            behind = λ b h u. make_old_old es p at.inside (backward x b) (subst (λ y. EnteredOld kept (backward y b)) (sym e) (w.1.behind b h (subst (λ y. 1 < level y b) e u)));
          }

  new_all : (x : List ℕ) → Admitted d es p x → Memᴰ x new
  new_all x w =
      let s : Occurs axes w.axis = axis_has d kept k w.axis w.among admits in
      Memᴰ.cast (w.neighbour ∙ ap (forward k) (sym s.2)) (map_in (forward k) (get_or axes s.0 0) axes (member axes s.0 s.1))
    where
      admits : Admits d kept k w.axis
      admits =
          record {
            ceilings = subst Within w.neighbour w.ceilings;
            behind = λ b h u. subst (λ y. EnteredOld kept (backward y b)) w.neighbour (old_there (backward x b) (w.behind b h (subst (λ y. 1 < level y b) (sym w.neighbour) u)));
          }

  pub new_lists : ListsAdmitted l p (map (forward (entry_at l.entries p).levels) (admitted_axes l.settings.axes (make_old l.entries p) (entry_at l.entries p).levels))
  new_lists =
      record { each = new_each; all = new_all; once = ahead_once k axes (axes_rise d kept k) (λ a m. omega (arith, (axis_there a m).0, at.levels)) }

  pub new_appended : Appends l p (map (forward (entry_at l.entries p).levels) (admitted_axes l.settings.axes (make_old l.entries p) (entry_at l.entries p).levels))
  new_appended = record { entries = entries; admitted = new_lists; order = record { axes = axes; along = refl; rising = axes_rise d kept k } }
    where
      entries : refine d es p ≡ kept ++ map wanted new
      entries = unfold refine in ap (λ xs. kept ++ xs) (sym (map-map wanted (forward k) axes))

  -- ---- how many would be held, and how much reserved

  module _ (ks : List (List ℕ)) (these : ListsAdmitted l p ks) where
    same : (f : List ℕ → ℕ) → total_of f new ≡ total_of f ks
    same f = total_same f new ks new_lists.once these.once (λ x m. these.all x (new_each x m)) (λ x m. new_all x (these.each x m))

    held : length (refine d es p) ≡ length es + length ks
    unfolding refine
    held =
        omega
        (arith, length-append kept (map (λ a. wanted (forward k a)) axes), length-map axes (λ a. wanted (forward k a)), length-map axes (forward k), make_old-length es p at.inside, same (λ x. 1), total-length new, total-length ks)

    reserved : reserved_by (refine d es p) ≡ reserved_by es + total_of block_size ks
    unfolding refine make_old made_old
    reserved = omega (arith, reserved_wanted kept k axes, reserved_set es p (made_old (entry_at es p)) at.inside refl, same block_size)

    is_spent : Exceeds l ks → (promote_at l p).outcome ≡ spent
    is_spent = limits_spent l p (length es + length ks) (reserved_by es + total_of block_size ks) held reserved

    only_spent : (promote_at l p).outcome ≡ spent → Exceeds l ks
    only_spent = limits_only l p (length es + length ks) (reserved_by es + total_of block_size ks) held reserved

    is_promoted : (Exceeds l ks → ⊥) → (promote_at l p).outcome ≡ promoted
    is_promoted = limits_promoted l p (length es + length ks) (reserved_by es + total_of block_size ks) held reserved

-- ---- none of them is held

not_held : (m : Machine) (p : ℕ) (k : List ℕ) → SoundMachine m → Active m.log.entries p
    → Admitted m.log.settings.axes m.log.entries p k → Entered m.log.entries k → ⊥
not_held m p k v a w h = not_entered v p a.place a.active w.axis w.among (subst (Entered m.log.entries) w.neighbour h)

-- ---- in a sound state every entry has a level for each axis

pub sound_place : (m : Machine) (p : ℕ) → SoundMachine m → p < length m.log.entries → IndexPlace m.log p
sound_place m p v h = record { inside = h; levels = omega (arith, (v.index p h).eight, v.settings.axes.1) }

pub admitted_facts : AdmittedFacts
admitted_facts =
    record {
      sound_place = sound_place;
      listed = λ l p at. (map (forward (entry_at l.entries p).levels) (admitted_axes l.settings.axes (make_old l.entries p) (entry_at l.entries p).levels), new_lists l p at);
      appends = λ l p at. (map (forward (entry_at l.entries p).levels) (admitted_axes l.settings.axes (make_old l.entries p) (entry_at l.entries p).levels), new_appended l p at);
      spent = λ l p ks at these. is_spent l p at ks these;
      spent_only = λ l p ks at these. only_spent l p at ks these;
      promoted = λ l p ks at these. is_promoted l p at ks these;
      none_held = not_held;
    }
