-- Refining any active place keeps the clauses, whatever else is wanted.
-- The idea: entries that were there stay but for the place's state, and the admitted satisfy what is asked of a wanted entry. An index
-- that is admissible afterwards was so before, or is one step forward of the place, and then its axis is among the admitted.
-- Assumes nothing.
use mathlib.Core.Path.{◌≡◌, refl, sym, ap, ◌∙◌, subst}
use mathlib.Core.Logic.{◌≢◌, ◌⊎◌, inl, inr, ⊎_elim}
use mathlib.Core.Bool.{true, false}
use mathlib.Core.List.{List, [], ◌∷◌, ◌++◌, map}
use Prim.Native.Nat.{ℕ, zero, suc, ◌+◌, ◌*◌, ◌^◌, ◌<◌, ◌≤◌}
use native.Mathlib.Decide.{ℕ_discrete, dec_lt}
use native.Mathlib.Omega.{arith}
use lib.IntN.{nat_abs}
use lib.ListN.{length, get_or, length-append, length-map}
use Rattle.grid.specs.Index.{level, Within, Index, forward, backward}
use Rattle.grid.specs.Coefficient.{same_levels}
use Rattle.grid.proofs.Neighbours.{forward_backward}
use Rattle.grid.proofs.Members.{same_or}
use Rattle.area.specs.declared.Settings.{Settings}
use Rattle.area.specs.Entry.{Entry, delivered_of, reserved_by}
use Rattle.area.specs.Log.{Machine, machine_with_entries}
use Rattle.soundness.proofs.Exactly.{reads_le, reads_and}
use Rattle.soundness.proofs.Levels.{find}
use Rattle.encoding.specs.Entries.{entry_at, Entered, EnteredOld, SoundMachine}
use Rattle.machine.specs.Log.{wanted}
use Rattle.machine.specs.Promote.{made_old, make_old, admitted_axes, refine, fits}
use Rattle.machine.proofs.Passing.{rising_once}
use Rattle.machine.proofs.Old.{Admits}
use Rattle.machine.proofs.Sets.{Different, Last, set-each, last_set, levels_kept, different_set, delivered-set}
use Rattle.machine.proofs.Appends.{append_left, append-each, has_left, has_right, old_left, different_append, last_append, old_before, delivered-append}
use Rattle.machine.proofs.Clauses.{SoundEntry, sound_kept, sound_wanted, Joint, sound_at, sound_from}
use Rattle.machine.proofs.Admitted.{axis_is, axis_has, axes_rise, forward_once, admitted_index, make_old-length, has_make_old, make_old_has, old_make_old, make_old_old, not_entered}

-- the entries of forward neighbours of k
abbrev pub ahead : List ℕ → List ℕ → List Entry
ahead k axes = map (λ a. wanted (forward k a)) axes

pub ahead_at : (k axes : List ℕ) (i : ℕ) → i < length axes → entry_at (ahead k axes) i ≡ wanted (forward k (get_or axes i 0))
ahead_at k [] i h = absurd (omega arith)
ahead_at k (a ∷ axes) zero h = refl
ahead_at k (a ∷ axes) (suc i) h = ahead_at k axes i (omega arith)

pub ahead_levels : (k axes : List ℕ) (i : ℕ) → i < length axes → (entry_at (ahead k axes) i).levels ≡ forward k (get_or axes i 0)
unfolding wanted
ahead_levels k axes i h = ap (λ (e : Entry). e.levels) (ahead_at k axes i h)

pub ahead_wanted : (k axes : List ℕ) (i : ℕ) → i < length (ahead k axes) → (entry_at (ahead k axes) i).state ≡ 0
unfolding wanted
ahead_wanted k axes i h = ap (λ (e : Entry). e.state) (ahead_at k axes i (omega (arith, length-map axes (λ a. wanted (forward k a)))))

module _ {m : Machine} (v : SoundMachine m) (p : ℕ) (inside : p < length m.log.entries) (active : (entry_at m.log.entries p).state ≡ 1) where
  abbrev g : Settings
  g = m.log.settings

  abbrev d : ℕ
  d = g.axes

  abbrev es : List Entry
  es = m.log.entries

  abbrev k : List ℕ
  k = (entry_at es p).levels

  abbrev kept : List Entry
  kept = make_old es p

  abbrev axes : List ℕ
  axes = admitted_axes d kept k

  abbrev new : List Entry
  new = ahead k axes

  abbrev after : List Entry
  after = kept ++ new

  new_length : length new ≡ length axes
  new_length = length-map axes (λ a. wanted (forward k a))

  index_k : Index d k
  index_k = v.index p inside

  old_after : (x : List ℕ) → EnteredOld es x → EnteredOld after x
  old_after x h = old_left kept new x (old_make_old es p inside x h)

  old_since : (x : List ℕ) → EnteredOld after x → EnteredOld kept x
  old_since = old_before kept new (ahead_wanted k axes)

  -- ---- each entry

  made_old_sound : SoundEntry g (EnteredOld after) (made_old (entry_at es p))
  unfolding made_old
  made_old_sound =
      let r = sound_at v p inside in
      record {
        index = r.index;
        state = omega arith;
        idle = λ z. absurd (omega arith);
        empty = λ z. absurd (omega arith);
        whole = λ h. r.whole (omega arith);
        readings = λ n h. r.readings n (omega arith);
        behind = λ a h l. old_after (backward k a) (r.behind a h l);
      }

  kept_sound : (q : ℕ) → q < length kept → SoundEntry g (EnteredOld after) (entry_at kept q)
  unfolding make_old
  kept_sound q h =
      set-each es p (made_old (entry_at es p)) inside (SoundEntry g (EnteredOld after)) made_old_sound (λ r l n. sound_kept old_after (sound_at v r l)) q (omega (arith, make_old-length es p inside))

  new_sound : (i : ℕ) → i < length new → SoundEntry g (EnteredOld after) (entry_at new i)
  new_sound i h =
      let x = axis_is d kept k i (omega (arith, new_length)) in
      subst (SoundEntry g (EnteredOld after)) (sym (ahead_at k axes i (omega (arith, new_length))))
      (sound_wanted (forward k (get_or axes i 0)) (admitted_index v.settings.axes.1 index_k (get_or axes i 0) x.0 x.1) (λ a ha l.
      old_left kept new (backward (forward k (get_or axes i 0)) a) (x.1.behind a ha l)))

  -- ---- all together

  different : Different after
  unfolding make_old made_old
  different =
      different_append kept new (different_set es p (made_old (entry_at es p)) inside refl v.different) among apart
    where
      among : Different new
      among i j hi hj e =
          let gi : i < length axes = omega (arith, new_length) in
          let gj : j < length axes = omega (arith, new_length) in
          rising_once axes (axes_rise d kept k) i j gi gj
          (forward_once v.settings.axes.1 index_k (get_or axes i 0) (get_or axes j 0) (axis_is d kept k i gi).0 (sym (ahead_levels k axes i gi) ∙ e ∙ ahead_levels k axes j gj))

      apart : (q i : ℕ) → q < length kept → i < length new → (entry_at kept q).levels ≡ (entry_at new i).levels → ⊥
      apart q i hq hi e =
          let gi : i < length axes = omega (arith, new_length) in
          not_entered v p inside active (get_or axes i 0) (axis_is d kept k i gi).0
          (q, make_old_has es p inside (forward k (get_or axes i 0)) q (record { place = hq; same = e ∙ ahead_levels k axes i gi }))

  last : Last after
  unfolding make_old made_old
  last = last_append kept new (ahead_wanted k axes) (last_set es p (made_old (entry_at es p)) inside (omega arith) before v.wanted_last)
    where
      before : (q : ℕ) → q < p → 1 ≤ (entry_at es q).state
      before q h = step (ℕ_discrete (entry_at es q).state 0)
        where
          step : Dec ((entry_at es q).state ≡ 0) → 1 ≤ (entry_at es q).state
          step (yes z) = absurd (omega (arith, v.wanted_last q p (omega arith) inside z))
          step (no n) = omega arith

  -- what is one step forward of the place
  step_entered : (x : List ℕ) (a : ℕ) → a < d → forward k a ≡ x → Index d x → ((c : ℕ) → c < d → 1 < level x c → EnteredOld after (backward x c)) → Entered after x
  step_entered x a h e j old =
      let s = axis_has d kept k a h admitted in
      (length kept + s.0, has_right kept new x s.0 (record { place = omega (arith, new_length, s.1); same = ahead_levels k axes s.0 s.1 ∙ ap (forward k) s.2 ∙ e }))
    where
      admitted : Admits d kept k a
      admitted =
          record {
            ceilings = subst Within (sym e) j.ceilings;
            behind = λ c hc l. subst (λ y. EnteredOld kept (backward y c)) (sym e) (old_since (backward x c) (old c hc (subst (λ y. 1 < level y c) e l)));
          }

  admissible : (x : List ℕ) → Index d x → ((a : ℕ) → a < d → 1 < level x a → EnteredOld after (backward x a)) → Entered after x
  admissible x j old = step (find d Step decided)
    where
      Step : ℕ → Type 0
      Step a = (1 < level x a) × (backward x a ≡ k)

      decided : (a : ℕ) → Dec (Step a)
      decided a = both (dec_lt 1 (level x a)) (same_or (backward x a) k)
        where
          both : Dec (1 < level x a) → (backward x a ≡ k) ⊎ ((backward x a ≢ k) × (same_levels (backward x a) k ≡ false)) → Dec (Step a)
          both (yes l) (inl e) = yes (l, e)
          both (yes l) (inr n) = no (λ s. n.0 s.1)
          both (no l) e = no (λ s. l s.0)

      step : ((a : ℕ) × (a < d) × Step a) ⊎ ((a : ℕ) → a < d → Step a → ⊥) → Entered after x
      step (inl s) =
          step_entered x s.0 s.1 (ap (λ y. forward y s.0) (sym s.2.1) ∙ forward_backward x s.0 (omega (arith, s.1, v.settings.axes.1, j.eight)) s.2.0) j old
      step (inr n) =
          let h = v.admissible x j (λ a ha l. ⊎_elim (λ o. o) (λ e. absurd (n a ha (l, e))) (make_old_old es p inside (backward x a) (old_since (backward x a) (old a ha l)))) in
          (h.0, has_left kept new x h.0 (has_make_old es p inside x h.0 h.1))

  delivered_same : delivered_of after ≡ delivered_of es
  unfolding make_old made_old
  delivered_same = delivered-append kept new (ahead_wanted k axes) ∙ delivered-set es p (made_old (entry_at es p)) inside refl (omega arith) (omega arith)

  joint : length after ≤ 512 → reserved_by after ≤ g.budget → Joint (machine_with_entries m after)
  unfolding make_old made_old
  joint few within =
      record {
        settings = v.settings;
        count = (omega (arith, length-append kept new, make_old-length es p inside, v.count.0), few);
        different = different;
        first =
            ap (λ (e : Entry). e.levels) (append_left kept new 0 (omega (arith, make_old-length es p inside, v.count.0)))
            ∙ levels_kept es p (made_old (entry_at es p)) inside refl 0
            ∙ v.first;
        admissible = admissible;
        last = last;
        within_budget = within;
        mean = subst (λ l. nat_abs m.mean ≤ length l * 2 ^ 40) (sym delivered_same) v.mean;
      }

  pub refine_sound : fits g.budget (refine d es p) ≡ true → SoundMachine (machine_with_entries m (refine d es p))
  unfolding refine fits
  refine_sound e =
      let x = (reads_and _ _ (reads_le (length after) 512) (reads_le (reserved_by after) g.budget)).sure e in
      sound_from (joint x.0 x.1) (append-each kept new (SoundEntry g (EnteredOld after)) kept_sound new_sound)

  -- no index is there twice, whether it fits or not
  pub refine_different : Different (refine m.log.settings.axes m.log.entries p)
  unfolding refine
  refine_different = different

  -- what is delivered stays so, and nothing else is
  pub refine-delivered : delivered_of (refine d es p) ≡ delivered_of es
  unfolding refine
  refine-delivered = delivered_same
