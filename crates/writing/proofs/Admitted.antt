-- Refining an active place: what is admitted may be appended in turn, so the run of records becomes that of the refined entries.
-- The idea: a forward neighbour of an active index is not entered, since the backward neighbours of whatever is entered are old; the
-- scan admits it only where its own backward neighbours are entered; and along different axes the neighbours differ.
-- Assumes nothing.
use mathlib.Core.Path.{◌≡◌, refl, sym, ap, ap₂, ◌∙◌, subst}
use mathlib.Core.Logic.{◌≢◌}
use mathlib.Core.Bool.{Bool, true, false, cond, ◌&&◌}
use mathlib.Core.List.{List, [], ◌∷◌, ◌++◌}
use Prim.Native.Nat.{ℕ, zero, suc, ◌+◌, ◌<◌, ◌≤◌}
use native.Mathlib.Omega.{arith}
use borrow.Author.Tests.{lt-leb}
use lib.Dec.{eqb}
use lib.ListN.{length, set, drop, length-append, length-map, length-set}
use Rattle.grid.specs.Index.{level, Within, within, Index, forward, backward}
use Rattle.grid.specs.Coefficient.{same_levels}
use Rattle.grid.proofs.Levels.{and_left, and_right, within_sure}
use Rattle.grid.proofs.Members.{same_sure}
use Rattle.grid.proofs.Neighbours.{forward_length, forward_level, forward_other, backward_forward}
use Rattle.area.specs.declared.IndexRecord.{IndexRecord}
use Rattle.area.specs.Entry.{Entry, reserved_by}
use Rattle.area.specs.declared.Settings.{Settings}
use Rattle.area.specs.Settings.{readings_for}
use Rattle.area.specs.Log.{Machine}
use Rattle.area.specs.Encoding.{records_for}
use Rattle.soundness.specs.Sound.{Exactly}
use Rattle.soundness.specs.Test.{all_from}
use Rattle.soundness.proofs.Levels.{at_least}
use Rattle.soundness.proofs.Exactly.{reads_all}
use Rattle.encoding.specs.Entries.{entry_at, Entered, EnteredOld, SoundMachine}
use Rattle.machine.specs.Log.{wanted}
use Rattle.machine.specs.Promote.{made_old, make_old, is_old, backward_old, admits, passing, admitted_axes, refine}
use Rattle.writing.specs.Changes.{appended_all}
use Rattle.writing.proofs.Places.{later}
use Rattle.writing.proofs.Entries.{levels_set, reserved_set, ahead}
use Rattle.writing.proofs.Appended.{Based, Next}
use Rattle.writing.proofs.InTurn.{Nexts, next_more, append_all}

clash : false ≡ true → ⊥
clash e = let z : ◌≡◌ {A = ℕ} 0 1 = cc in omega arith

-- ---- what the scan admits

old_entered : (es : List Entry) (k : List ℕ) → is_old es k ≡ true → Entered es k
unfolding is_old
old_entered [] k e = absurd (clash e)
old_entered (x ∷ es) k e = step (same_levels x.levels k && eqb x.state 2) refl e (old_entered es k)
  where
    step : (t : Bool) → (same_levels x.levels k && eqb x.state 2) ≡ t → cond t true (is_old es k) ≡ true → (is_old es k ≡ true → Entered es k) → Entered (x ∷ es) k
    step true s q f = (0, record { place = omega arith; same = same_sure x.levels k (and_left (same_levels x.levels k) (eqb x.state 2) s) })
    step false s q f = later x es k (f q)

module _ (d : ℕ) (es : List Entry) (k : List ℕ) (a : ℕ) (e : admits d es k a ≡ true) where
  abbrev x : List ℕ
  x = forward k a

  admits-within : Within x
  unfolding admits
  admits-within = within_sure x (and_left (within x) (all_from d 0 (backward_old es x)) e)

  admits-behind : (b : ℕ) → b < d → 1 < level x b → Entered es (backward x b)
  unfolding admits
  admits-behind b h l = old_entered es (backward x b) (above (all.sure (and_right (within x) (all_from d 0 (backward_old es x)) e) b h))
    where
      all : Exactly (all_from d 0 (backward_old es x)) ((b : ℕ) → b < d → backward_old es x b ≡ true)
      all = reads_all (backward_old es x) (λ b. backward_old es x b ≡ true) d (λ b h. record { sure = λ t. t; back = λ t. t })

      above : backward_old es x b ≡ true → is_old es (backward x b) ≡ true
      above = unfold backward_old in rw (lt-leb (level x b) 1 l) (λ t. t)

-- ---- an entry replaced by one with its index

module _ (es : List Entry) (p : ℕ) (e : Entry) (same : e.levels ≡ (entry_at es p).levels) where
  entered-set : (k : List ℕ) → Entered es k → Entered (set es p e) k
  entered-set k h = (h.0, record { place = omega (arith, length-set es p e, h.1.place); same = levels_set es p e same h.0 ∙ h.1.same })

  set_entered : (k : List ℕ) → Entered (set es p e) k → Entered es k
  set_entered k h = (h.0, record { place = omega (arith, length-set es p e, h.1.place); same = sym (levels_set es p e same h.0) ∙ h.1.same })

-- ---- an active place

module _ (m : Machine) (v : SoundMachine m) (p : ℕ) (inside : p < length m.log.entries) (active : (entry_at m.log.entries p).state ≡ 1) where
  abbrev settings : Settings
  settings = m.log.settings

  abbrev d : ℕ
  d = settings.axes

  abbrev es : List Entry
  es = m.log.entries

  abbrev k : List ℕ
  k = (entry_at es p).levels

  abbrev old : List Entry
  old = set es p (made_old (entry_at es p))

  kept : (made_old (entry_at es p)).levels ≡ k
  unfolding made_old
  kept = refl

  old_length : length old ≡ length es
  old_length = length-set es p (made_old (entry_at es p))

  k_index : Index d k
  k_index = v.index p inside

  in_k : (a : ℕ) → a < d → a < length k
  in_k a h = omega (arith, k_index.eight, v.settings.axes.1)

  old_based : Based d old
  old_based =
      record {
        index = λ q h. subst (Index d) (sym (levels q)) (v.index q (omega (arith, old_length)));
        different = λ q r hq hr e. v.different q r (omega (arith, old_length)) (omega (arith, old_length)) (sym (levels q) ∙ e ∙ levels r);
        behind = λ q a h g u.
            subst (λ y. Entered old (backward y a)) (sym (levels q))
            (let o = v.behind q a (omega (arith, old_length)) g (subst (λ y. 1 < level y a) (levels q) u) in
            entered-set es p (made_old (entry_at es p)) kept (backward (entry_at es q).levels a) (o.0, o.1));
      }
    where
      levels : (q : ℕ) → (entry_at old q).levels ≡ (entry_at es q).levels
      levels = levels_set es p (made_old (entry_at es p)) kept

  module _ (a : ℕ) (h : a < d) where
    -- its forward neighbours are not entered: it would be old
    not_entered : Entered es (forward k a) → ⊥
    not_entered t = step (subst (EnteredOld es) (backward_forward k a (in_k a h)) behind)
      where
        above : 1 < level (forward k a) a
        above = omega (arith, forward_level k a (in_k a h), at_least d k k_index a (omega (arith, v.settings.axes.1)))

        behind : EnteredOld es (backward (forward k a) a)
        behind =
            subst (λ y. EnteredOld es (backward y a)) t.1.same
            (v.behind t.0 a t.1.place h (subst (λ y. 1 < level y a) (sym t.1.same) above))

        step : EnteredOld es k → ⊥
        step o = let q : o.0 ≡ p = v.different o.0 p o.1.place inside o.1.same in
            omega (arith, o.2, active, ap (λ r. (entry_at es r).state) q)

    next_admitted : admits d old k a ≡ true → Next d old (forward k a)
    next_admitted e =
        record {
          index =
              record {
                eight = forward_length k a ∙ k_index.eight;
                ceilings = admits-within d old k a e;
                beyond = λ c hd h8. forward_other k a c (λ q. omega arith) ∙ k_index.beyond c hd h8;
              };
          absent = λ t. not_entered (set_entered es p (made_old (entry_at es p)) kept (forward k a) t);
          behind = admits-behind d old k a e;
        }

    -- along another axis the neighbour differs
    apart : (c : ℕ) → a ≢ c → forward k a ≢ forward k c
    apart c n e = omega (arith, forward_level k a (in_k a h), forward_other k c a n, ap (λ y. level y a) e)

  -- those that pass a test may be appended in turn, if each may
  nexts : (f : ℕ → Bool) (n a : ℕ) (fs : List Entry) → a + n ≤ d → ((c : ℕ) → a ≤ c → c < a + n → f c ≡ true → Next d fs (forward k c)) → Nexts d fs k (passing n a f)
  unfolding passing
  nexts f zero a fs h m = tt
  nexts f (suc n) a fs h m = step (f a) refl (λ gs. nexts f n (a + 1) gs (omega arith))
    where
      step : (t : Bool) → f a ≡ t → ((gs : List Entry) → ((c : ℕ) → a + 1 ≤ c → c < a + 1 + n → f c ≡ true → Next d gs (forward k c)) → Nexts d gs k (passing n (a + 1) f))
          → Nexts d fs k (cond t (a ∷ passing n (a + 1) f) (passing n (a + 1) f))
      step false e r = r fs (λ c l u g. m c (omega arith) (omega arith) g)
      step true e r = (
        m a (omega arith) (omega arith) e,
        r (fs ++ (wanted (forward k a) ∷ [])) (λ c l u g. next_more fs (forward k a) d (forward k c) (apart a (omega arith) c (λ q. omega arith)) (m c (omega arith) (omega arith) g)),
      )

  pub refine_run : (rest : List IndexRecord) → length (refine d es p) ≤ 512 → length (admitted_axes d (make_old es p) k) ≤ length rest
      → appended_all settings (records_for settings (make_old es p) ++ rest) (length es) (readings_for settings (reserved_by es)) k (admitted_axes d (make_old es p) k)
      ≡ records_for settings (refine d es p) ++ drop (length (admitted_axes d (make_old es p) k)) rest
  unfolding refine make_old admitted_axes
  refine_run rest few room =
      ap₂ (λ n f. appended_all settings (records_for settings old ++ rest) n (readings_for settings f) k axes) (sym old_length) (sym (reserved_set es p (made_old (entry_at es p)) kept))
      ∙ append_all settings d k axes old old_based (nexts (admits d old k) d 0 old (omega arith) (λ c l u g. next_admitted c (omega arith) g)) rest
      (omega (arith, length-append old (ahead k axes), length-map axes (λ a. wanted (forward k a)))) room
    where
      axes : List ℕ
      axes = passing d 0 (admits d old k)
