-- The held indices by their state: those that are old and those that are not, as lists in order of place and as totals; what a delivery and a
-- promotion of any place make of them.
-- Assumes nothing.
use mathlib.Core.Path.{◌≡◌, refl, sym, ap, ◌∙◌}
use mathlib.Core.Bool.{Bool, true, false, cond}
use mathlib.Core.Logic.{◌≢◌, ◌⊎◌, inl, inr}
use mathlib.Core.List.Memᴰ
use mathlib.Core.List.{List, [], ◌∷◌, ◌++◌, map, Memᴰ}
use Prim.Native.Nat.{ℕ, zero, suc, ◌+◌, ◌<◌}
use native.Mathlib.Decide.{ℕ_discrete}
use native.Mathlib.Omega.{arith}
use borrow.Author.Tests.{eq-eqb, ne_eqb, eqb-true, le-leb, lt-leb}
use lib.Dec.{leb, eqb}
use lib.IntN.{ℤ, ◌+ℤ◌, +ℤ_assoc}
use lib.ListN.{length, set}
use Rattle.sums.specs.Sums.{sum_of}
use Rattle.sums.proofs.Ring.{+ℤ-left}
use Rattle.grid.specs.Block.{block_size}
use Rattle.grid.specs.Coefficient.{same_levels}
use Rattle.grid.specs.Terms.{NoDup}
use Rattle.grid.proofs.Members.{same_refl}
use Rattle.area.specs.Entry.{Entry, indices_of, delivered_of, reserved_by}
use Rattle.encoding.specs.Entries.{entry_at, Has, EnteredOld}
use Rattle.machine.specs.Log.{wanted}
use Rattle.machine.specs.Promote.{made_old, make_old}
use Rattle.machine.specs.Admitted.{total_of}
use Rattle.machine.proofs.Sets.{Different}
use Rattle.published.specs.Figure.{without}
use Rattle.published.specs.Turns.{wanted_of, not_old_of}
use Rattle.published.proofs.MakesOld.{same_no}

-- the old indices, in order of place
unfoldable pub old_of : List Entry → List (List ℕ)
old_of [] = []
old_of (e ∷ es) = cond (eqb e.state 2) (e.levels ∷ old_of es) (old_of es)

later_different : (e : Entry) (es : List Entry) → Different (e ∷ es) → Different es
later_different e es u q r hq hr i = let z : suc q ≡ suc r = u (suc q) (suc r) (omega arith) (omega arith) i in omega arith

-- ---- one entry by another of the same index

pub indices_set : (es : List Entry) (p : ℕ) (e : Entry) → e.levels ≡ (entry_at es p).levels → indices_of (set es p e) ≡ indices_of es
unfolding indices_of
indices_set [] p e q = refl
indices_set (x ∷ es) zero e q = ap (λ k. k ∷ map (λ (y : Entry). y.levels) es) q
indices_set (x ∷ es) (suc p) e q = ap (λ ks. x.levels ∷ ks) (indices_set es p e q)

-- neither is old
pub not_old_set : (es : List Entry) (p : ℕ) (e : Entry) → e.levels ≡ (entry_at es p).levels → (entry_at es p).state ≢ 2 → e.state ≢ 2 → not_old_of (set es p e) ≡ not_old_of es
unfolding not_old_of
not_old_set [] p e q n m = refl
not_old_set (x ∷ es) zero e q n m = rw (ne_eqb x.state 2 n, ne_eqb e.state 2 m) (ap (λ k. k ∷ not_old_of es) q)
not_old_set (x ∷ es) (suc p) e q n m = ap (λ ks. cond (eqb x.state 2) ks (x.levels ∷ ks)) (not_old_set es p e q n m)

pub old_set_other : (es : List Entry) (p : ℕ) (e : Entry) → (entry_at es p).state ≢ 2 → e.state ≢ 2 → old_of (set es p e) ≡ old_of es
unfolding old_of
old_set_other [] p e n m = refl
old_set_other (x ∷ es) zero e n m = rw (ne_eqb x.state 2 n, ne_eqb e.state 2 m)
old_set_other (x ∷ es) (suc p) e n m = ap (λ ks. cond (eqb x.state 2) (x.levels ∷ ks) ks) (old_set_other es p e n m)

-- ---- a place becomes old

-- where no entry has the index, nothing is taken out
without-none : (k : List ℕ) (es : List Entry) → ((p : ℕ) → p < length es → (entry_at es p).levels ≢ k) → without (not_old_of es) k ≡ not_old_of es
unfolding without not_old_of
without-none k [] f = refl
without-none k (e ∷ es) f = step (eqb e.state 2) (without-none k es (λ p h. f (suc p) (omega arith)))
  where
    step : (t : Bool) → without (not_old_of es) k ≡ not_old_of es → without (cond t (not_old_of es) (e.levels ∷ not_old_of es)) k ≡ cond t (not_old_of es) (e.levels ∷ not_old_of es)
    step true ih = ih
    step false ih = rw (same_no e.levels k (f 0 (omega arith))) (ap (λ ks. e.levels ∷ ks) ih)

-- its index leaves those that are not old
pub not_old_make_old : (es : List Entry) (p : ℕ) → Different es → p < length es → (entry_at es p).state ≢ 2 → not_old_of (make_old es p) ≡ without (not_old_of es) (entry_at es p).levels
unfolding make_old made_old not_old_of without
not_old_make_old [] p u h n = absurd (omega arith)
not_old_make_old (e ∷ es) zero u h n =
    rw (ne_eqb e.state 2 n, same_refl e.levels)
    (sym (without-none e.levels es (λ p l i. let z : suc p ≡ 0 = u (suc p) 0 (omega arith) (omega arith) i in omega arith)))
not_old_make_old (e ∷ es) (suc p) u h n = step (eqb e.state 2) (not_old_make_old es p (later_different e es u) (omega arith) n)
  where
    apart : same_levels e.levels (entry_at es p).levels ≡ false
    apart = same_no e.levels (entry_at es p).levels (λ i. let z : 0 ≡ suc p = u 0 (suc p) (omega arith) h i in omega arith)

    step : (t : Bool) → not_old_of (make_old es p) ≡ without (not_old_of es) (entry_at es p).levels
        → cond t (not_old_of (make_old es p)) (e.levels ∷ not_old_of (make_old es p)) ≡ without (cond t (not_old_of es) (e.levels ∷ not_old_of es)) (entry_at es p).levels
    step true ih = ih
    step false ih = rw apart (ap (λ ks. e.levels ∷ ks) ih)

module _ (f : List ℕ → ℕ) where
  -- and its part the totals over them
  pub total-not_old : (es : List Entry) (p : ℕ) → p < length es → (entry_at es p).state ≢ 2
      → total_of f (not_old_of es) ≡ f (entry_at es p).levels + total_of f (not_old_of (make_old es p))
  unfolding make_old made_old not_old_of total_of
  total-not_old [] p h n = absurd (omega arith)
  total-not_old (e ∷ es) zero h n = rw (ne_eqb e.state 2 n)
  total-not_old (e ∷ es) (suc p) h n = step (eqb e.state 2) (total-not_old es p (omega arith) n)
    where
      step : (t : Bool) → total_of f (not_old_of es) ≡ f (entry_at es p).levels + total_of f (not_old_of (make_old es p))
          → total_of f (cond t (not_old_of es) (e.levels ∷ not_old_of es)) ≡ f (entry_at es p).levels + total_of f (cond t (not_old_of (make_old es p)) (e.levels ∷ not_old_of (make_old es p)))
      step true ih = ih
      step false ih = omega (arith, ih)

  -- and joins those over the old
  pub total_old : (es : List Entry) (p : ℕ) → p < length es → (entry_at es p).state ≢ 2
      → total_of f (old_of (make_old es p)) ≡ total_of f (old_of es) + f (entry_at es p).levels
  unfolding make_old made_old old_of total_of
  total_old [] p h n = absurd (omega arith)
  total_old (e ∷ es) zero h n = rw (ne_eqb e.state 2 n) (omega arith)
  total_old (e ∷ es) (suc p) h n = step (eqb e.state 2) (total_old es p (omega arith) n)
    where
      step : (t : Bool) → total_of f (old_of (make_old es p)) ≡ total_of f (old_of es) + f (entry_at es p).levels
          → total_of f (cond t (e.levels ∷ old_of (make_old es p)) (old_of (make_old es p))) ≡ total_of f (cond t (e.levels ∷ old_of es) (old_of es)) + f (entry_at es p).levels
      step true ih = omega (arith, ih)
      step false ih = ih

  -- all held are the one or the other
  pub total_held : (es : List Entry) → total_of f (indices_of es) ≡ total_of f (old_of es) + total_of f (not_old_of es)
  unfolding indices_of old_of not_old_of total_of
  total_held [] = refl
  total_held (e ∷ es) = step (eqb e.state 2) (total_held es)
    where
      step : (t : Bool) → total_of f (indices_of es) ≡ total_of f (old_of es) + total_of f (not_old_of es)
          → f e.levels + total_of f (indices_of es) ≡ total_of f (cond t (e.levels ∷ old_of es) (old_of es)) + total_of f (cond t (not_old_of es) (e.levels ∷ not_old_of es))
      step true ih = omega (arith, ih)
      step false ih = omega (arith, ih)

-- ---- wanted entries behind

pub indices_append : (es : List Entry) (ks : List (List ℕ)) → indices_of (es ++ map wanted ks) ≡ indices_of es ++ ks
unfolding indices_of wanted
indices_append [] [] = refl
indices_append [] (k ∷ ks) = ap (λ xs. k ∷ xs) (indices_append [] ks)
indices_append (e ∷ es) ks = ap (λ xs. e.levels ∷ xs) (indices_append es ks)

pub not_old_append : (es : List Entry) (ks : List (List ℕ)) → not_old_of (es ++ map wanted ks) ≡ not_old_of es ++ ks
unfolding not_old_of wanted
not_old_append [] [] = refl
not_old_append [] (k ∷ ks) = ap (λ xs. k ∷ xs) (not_old_append [] ks)
not_old_append (e ∷ es) ks = step (eqb e.state 2) (not_old_append es ks)
  where
    step : (t : Bool) → not_old_of (es ++ map wanted ks) ≡ not_old_of es ++ ks
        → cond t (not_old_of (es ++ map wanted ks)) (e.levels ∷ not_old_of (es ++ map wanted ks)) ≡ cond t (not_old_of es) (e.levels ∷ not_old_of es) ++ ks
    step true ih = ih
    step false ih = ap (λ xs. e.levels ∷ xs) ih

pub old_append : (es : List Entry) (ks : List (List ℕ)) → old_of (es ++ map wanted ks) ≡ old_of es
unfolding old_of wanted
old_append [] [] = refl
old_append [] (k ∷ ks) = old_append [] ks
old_append (e ∷ es) ks = ap (λ xs. cond (eqb e.state 2) (e.levels ∷ xs) xs) (old_append es ks)

-- ---- the old indices are those of the old entries, each once

pub old_sure : (es : List Entry) (k : List ℕ) → Memᴰ k (old_of es) → EnteredOld es k
unfolding old_of
old_sure [] k m = absurd (Memᴰ.not-nil m)
old_sure (e ∷ es) k m = step (eqb e.state 2) refl m (old_sure es k)
  where
    next : EnteredOld es k → EnteredOld (e ∷ es) k
    next (p, h, s) = (suc p, record { place = omega (arith, h.place); same = h.same }, s)

    step : (t : Bool) → eqb e.state 2 ≡ t → Memᴰ k (cond t (e.levels ∷ old_of es) (old_of es)) → (Memᴰ k (old_of es) → EnteredOld es k) → EnteredOld (e ∷ es) k
    step true q m ih = first (Memᴰ.cases_cons m)
      where
        first : (k ≡ e.levels) ⊎ Memᴰ k (old_of es) → EnteredOld (e ∷ es) k
        first (inl i) = (0, record { place = omega arith; same = sym i }, eqb-true e.state 2 q)
        first (inr r) = next (ih r)
    step false q m ih = next (ih m)

old_at : (es : List Entry) (k : List ℕ) (p : ℕ) → Has es k p → (entry_at es p).state ≡ 2 → Memᴰ k (old_of es)
unfolding old_of
old_at [] k p h s = absurd (omega (arith, h.place))
old_at (e ∷ es) k zero h s = rw (eq-eqb e.state 2 s) (Memᴰ.head (sym h.same))
old_at (e ∷ es) k (suc p) h s = among (eqb e.state 2) (old_at es k p (record { place = omega (arith, h.place); same = h.same }) s)
  where
    among : (t : Bool) → Memᴰ k (old_of es) → Memᴰ k (cond t (e.levels ∷ old_of es) (old_of es))
    among true m = Memᴰ.tail m
    among false m = m

pub old_back : (es : List Entry) (k : List ℕ) → EnteredOld es k → Memᴰ k (old_of es)
old_back es k h = old_at es k h.0 h.1 h.2

pub old_once : (es : List Entry) → Different es → NoDup (old_of es)
unfolding old_of
old_once [] u = tt
old_once (e ∷ es) u = step (eqb e.state 2) (old_once es (later_different e es u))
  where
    out : Memᴰ e.levels (old_of es) → ⊥
    out m =
        let x = old_sure es e.levels m in
        let z : 0 ≡ suc x.0 = u 0 (suc x.0) (omega arith) (omega (arith, x.1.place)) (sym x.1.same) in
        omega arith

    step : (t : Bool) → NoDup (old_of es) → NoDup (cond t (e.levels ∷ old_of es) (old_of es))
    step true n = (out, n)
    step false n = n

-- ---- the delivered and the wanted are all

pub sum_held : (f : List ℕ → ℤ) (es : List Entry) → sum_of (delivered_of es) f +ℤ sum_of (wanted_of es) f ≡ sum_of (indices_of es) f
unfolding delivered_of wanted_of indices_of sum_of
sum_held f [] = refl
sum_held f (e ∷ es) = step (ℕ_discrete e.state 0) (sum_held f es)
  where
    step : Dec (e.state ≡ 0) → sum_of (delivered_of es) f +ℤ sum_of (wanted_of es) f ≡ sum_of (indices_of es) f
        → sum_of (cond (leb 1 e.state) (e.levels ∷ delivered_of es) (delivered_of es)) f +ℤ sum_of (cond (eqb e.state 0) (e.levels ∷ wanted_of es) (wanted_of es)) f
        ≡ f e.levels +ℤ sum_of (indices_of es) f
    step (yes z) ih =
        rw (lt-leb 1 e.state (omega (arith, z)), eq-eqb e.state 0 z) (+ℤ-left (sum_of (delivered_of es) f) (f e.levels) (sum_of (wanted_of es) f) ∙ ap (λ x. f e.levels +ℤ x) ih)
    step (no z) ih =
        rw (le-leb 1 e.state (omega (arith, z)), ne_eqb e.state 0 z) (+ℤ_assoc (f e.levels) (sum_of (delivered_of es) f) (sum_of (wanted_of es) f) ∙ ap (λ x. f e.levels +ℤ x) ih)

-- ---- counts

pub held_total : (es : List Entry) → total_of (λ k. 1) (indices_of es) ≡ length es
unfolding indices_of total_of
held_total [] = refl
held_total (e ∷ es) = omega (arith, held_total es)

pub reserved_total : (es : List Entry) → reserved_by es ≡ total_of block_size (indices_of es)
unfolding reserved_by indices_of total_of
reserved_total [] = refl
reserved_total (e ∷ es) = omega (arith, reserved_total es)
