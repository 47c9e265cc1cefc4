-- A place becomes old: its index leaves the active ones and joins the old ones, and its indicator leaves the pending error.
-- The idea: no two entries have the same index, so what is taken out of the active indices is that place alone.
-- Assumes nothing.
use mathlib.Core.Path.{◌≡◌, refl, sym, ap, subst}
use mathlib.Core.Logic.{◌≢◌, ◌⊎◌, inl, inr}
use mathlib.Core.Bool.{Bool, true, false, cond}
use mathlib.Core.List.Memᴰ
use mathlib.Core.List.{List, [], ◌∷◌, ◌++◌, map, Memᴰ}
use Prim.Native.Nat.{ℕ, zero, suc, ◌+◌, ◌<◌, ◌≤◌}
use native.Mathlib.Omega.{arith}
use borrow.Author.Tests.{eq-eqb}
use lib.Dec.{eqb}
use lib.ListN.{length}
use Rattle.grid.specs.Block.{block}
use Rattle.grid.specs.Coefficient.{same_levels}
use Rattle.grid.proofs.Members.{same_refl, same_or}
use Rattle.area.specs.Entry.{Entry, pending_of}
use Rattle.machine.specs.Admitted.{total_of}
use Rattle.encoding.specs.Entries.{entry_at, EnteredOld}
use Rattle.machine.specs.Promote.{made_old, make_old}
use Rattle.machine.proofs.Sets.{Different, set_here, set-each}
use Rattle.machine.proofs.Admitted.{make_old-length, has_make_old, old_make_old, make_old_old}
use Rattle.published.specs.Figure.{Problem, without}
use Rattle.published.specs.Turns.{active_of, Supplied}

pub same_no : (j k : List ℕ) → j ≢ k → same_levels j k ≡ false
same_no j k n = step (same_or j k)
  where
    step : (j ≡ k) ⊎ ((j ≢ k) × (same_levels j k ≡ false)) → same_levels j k ≡ false
    step (inl e) = absurd (n e)
    step (inr x) = x.1

-- ---- the active indices

-- where no entry has the index, nothing is taken out
without-none : (k : List ℕ) (es : List Entry) → ((p : ℕ) → p < length es → (entry_at es p).levels ≢ k) → without (active_of es) k ≡ active_of es
unfolding without active_of
without-none k [] f = refl
without-none k (e ∷ es) f = step (eqb e.state 1) (without-none k es (λ p h. f (suc p) (omega arith)))
  where
    step : (t : Bool) → without (active_of es) k ≡ active_of es → without (cond t (e.levels ∷ active_of es) (active_of es)) k ≡ cond t (e.levels ∷ active_of es) (active_of es)
    step true ih = rw (same_no e.levels k (f 0 (omega arith))) (ap (λ ks. e.levels ∷ ks) ih)
    step false ih = ih

pub active-make_old : (es : List Entry) (p : ℕ) → Different es → p < length es → (entry_at es p).state ≡ 1 → active_of (make_old es p) ≡ without (active_of es) (entry_at es p).levels
unfolding make_old made_old active_of without
active-make_old [] p u h a = absurd (omega arith)
active-make_old (e ∷ es) zero u h a =
    rw (eq-eqb e.state 1 a, same_refl e.levels)
    (sym (without-none e.levels es (λ p l i. let z : suc p ≡ 0 = u (suc p) 0 (omega arith) (omega arith) i in omega arith)))
active-make_old (e ∷ es) (suc p) u h a =
    step (eqb e.state 1)
    (active-make_old es p (λ q r hq hr i. let z : suc q ≡ suc r = u (suc q) (suc r) (omega arith) (omega arith) i in omega arith) (omega arith) a)
  where
    apart : same_levels e.levels (entry_at es p).levels ≡ false
    apart = same_no e.levels (entry_at es p).levels (λ i. let z : 0 ≡ suc p = u 0 (suc p) (omega arith) h i in omega arith)

    step : (t : Bool) → active_of (make_old es p) ≡ without (active_of es) (entry_at es p).levels
        → cond t (e.levels ∷ active_of (make_old es p)) (active_of (make_old es p)) ≡ without (cond t (e.levels ∷ active_of es) (active_of es)) (entry_at es p).levels
    step true ih = rw apart (ap (λ ks. e.levels ∷ ks) ih)
    step false ih = ih

-- one fewer are active, and their totals fall by its index
pub total-make_old : (f : List ℕ → ℕ) (es : List Entry) (p : ℕ) → p < length es → (entry_at es p).state ≡ 1
    → total_of f (active_of es) ≡ f (entry_at es p).levels + total_of f (active_of (make_old es p))
unfolding make_old made_old active_of total_of
total-make_old f [] p h a = absurd (omega arith)
total-make_old f (e ∷ es) zero h a = rw (eq-eqb e.state 1 a)
total-make_old f (e ∷ es) (suc p) h a = step (eqb e.state 1) (total-make_old f es p (omega arith) a)
  where
    k : List ℕ
    k = (entry_at es p).levels

    step : (t : Bool) → total_of f (active_of es) ≡ f k + total_of f (active_of (make_old es p))
        → total_of f (cond t (e.levels ∷ active_of es) (active_of es)) ≡ f k + total_of f (cond t (e.levels ∷ active_of (make_old es p)) (active_of (make_old es p)))
    step true ih = omega (arith, ih)
    step false ih = ih

-- ---- the pending error

pub pending_make_old : (es : List Entry) (p : ℕ) → p < length es → (entry_at es p).state ≡ 1 → pending_of es ≡ (entry_at es p).indicator + pending_of (make_old es p)
unfolding make_old made_old pending_of
pending_make_old [] p h a = absurd (omega arith)
pending_make_old (e ∷ es) zero h a = rw (eq-eqb e.state 1 a) (omega arith)
pending_make_old (e ∷ es) (suc p) h a = omega (arith, pending_make_old es p (omega arith) a)

module _ (es : List Entry) (p : ℕ) (inside : p < length es) where
  -- ---- the old indices

  make_old_new : EnteredOld (make_old es p) (entry_at es p).levels
  unfolding make_old made_old
  make_old_new = (p, has_make_old es p inside (entry_at es p).levels p (record { place = inside; same = refl }), ap (λ (e : Entry). e.state) (set_here es p (made_old (entry_at es p)) inside))

  module _ (old : List (List ℕ)) where
    pub make_old_there : ((k : List ℕ) → EnteredOld es k → Memᴰ k old) → (k : List ℕ) → EnteredOld (make_old es p) k → Memᴰ k (old ++ (entry_at es p).levels ∷ [])
    make_old_there f k h = step (make_old_old es p inside k h)
      where
        step : EnteredOld es k ⊎ (k ≡ (entry_at es p).levels) → Memᴰ k (old ++ (entry_at es p).levels ∷ [])
        step (inl x) = Memᴰ.append_left ((entry_at es p).levels ∷ []) (f k x)
        step (inr e) = Memᴰ.append_right old (Memᴰ.head e)

    pub make_old_here : ((k : List ℕ) → Memᴰ k old → EnteredOld es k) → (k : List ℕ) → Memᴰ k (old ++ (entry_at es p).levels ∷ []) → EnteredOld (make_old es p) k
    make_old_here f k h = step (Memᴰ.append_cases old h)
      where
        step : Memᴰ k old ⊎ Memᴰ k ((entry_at es p).levels ∷ []) → EnteredOld (make_old es p) k
        step (inl m) = old_make_old es p inside k (f k m)
        step (inr m) = subst (EnteredOld (make_old es p)) (sym (Memᴰ.eq_of_singleton m)) make_old_new

  -- ---- readings and indicator stay

  pub make_old_supplied : (P : Problem) → Supplied P es → Supplied P (make_old es p)
  unfolding make_old made_old
  make_old_supplied P v =
      record {
        delivered = λ q h. each (λ e. 1 ≤ e.state) (omega arith) v.delivered q (omega (arith, make_old-length es p inside));
        readings = λ q h. each (λ e. e.readings ≡ map P.integrand (block e.levels)) (v.readings p inside) v.readings q (omega (arith, make_old-length es p inside));
        indicators = λ q h. each (λ e. e.indicator ≡ P.indicator e.levels) (v.indicators p inside) v.indicators q (omega (arith, make_old-length es p inside));
      }
    where
      each : (C : Entry → Type 0) → C (made_old (entry_at es p)) → ((q : ℕ) → q < length es → C (entry_at es q)) → (q : ℕ) → q < length es → C (entry_at (make_old es p) q)
      each C new others = set-each es p (made_old (entry_at es p)) inside C new (λ q h n. others q h)
