-- One entry replaced by another of the same index: what is at each place, what is entered and old, which clauses stay, and the counts.
-- Assumes nothing.
use mathlib.Core.Path.{◌≡◌, refl, sym, ap, ◌∙◌, subst}
use mathlib.Core.Logic.{◌≢◌, ◌⊎◌, inl, inr}
use mathlib.Core.Bool.{Bool, true, false, cond}
use mathlib.Core.List.{List, [], ◌∷◌}
use Prim.Native.Nat.{ℕ, zero, suc, ◌+◌, ◌<◌, ◌≤◌}
use native.Mathlib.Decide.{ℕ_discrete}
use native.Mathlib.Omega.{arith}
use borrow.Author.Tests.{le-leb, lt-leb}
use lib.Dec.{leb}
use lib.ListN.{length, set, length-set}
use lib.Seq.{get_or-set_same, get_or-set_other}
use Rattle.grid.specs.Block.{block_size}
use Rattle.area.specs.Entry.{Entry, delivered_of, reserved_by}
use Rattle.encoding.specs.Entries.{no_entry, entry_at, Has, EnteredOld}

-- two clauses of soundness: all different; wanted entries come last
abbrev pub Different : List Entry → Type 0
Different es = (p q : ℕ) → p < length es → q < length es → (entry_at es p).levels ≡ (entry_at es q).levels → p ≡ q

abbrev pub Last : List Entry → Type 0
Last es = (p q : ℕ) → p ≤ q → q < length es → (entry_at es p).state ≡ 0 → (entry_at es q).state ≡ 0

module _ (es : List Entry) (p : ℕ) (e : Entry) (inside : p < length es) where
  abbrev after : List Entry
  after = set es p e

  pub set_here : entry_at (set es p e) p ≡ e
  set_here = get_or-set_same es p e no_entry inside

  pub set_there : (q : ℕ) → q ≢ p → entry_at (set es p e) q ≡ entry_at es q
  set_there q n = get_or-set_other es p q e no_entry n

  -- what holds of the new entry and of the others holds of each
  pub set-each : (P : Entry → Type 0) → P e → ((q : ℕ) → q < length es → q ≢ p → P (entry_at es q)) → (q : ℕ) → q < length es → P (entry_at (set es p e) q)
  set-each P new others q h = step (ℕ_discrete q p)
    where
      step : Dec (q ≡ p) → P (entry_at (set es p e) q)
      step (yes i) = subst (λ r. P (entry_at (set es p e) r)) (sym i) (subst P (sym set_here) new)
      step (no n) = subst P (sym (set_there q n)) (others q h n)

  -- a delivered entry at the place before which all are delivered
  pub last_set : 1 ≤ e.state → ((q : ℕ) → q < p → 1 ≤ (entry_at es q).state) → Last es → Last (set es p e)
  last_set d before last q r l h z = step (ℕ_discrete q p) (ℕ_discrete r p)
    where
      step : Dec (q ≡ p) → Dec (r ≡ p) → (entry_at after r).state ≡ 0
      step (yes i) j = absurd (omega (arith, ap (λ x. (entry_at after x).state) i, ap (λ (x : Entry). x.state) set_here))
      step (no i) (yes j) = absurd (omega (arith, before q (omega arith), ap (λ (x : Entry). x.state) (set_there q i)))
      step (no i) (no j) =
          ap (λ (x : Entry). x.state) (set_there r j) ∙ last q r l (omega (arith, length-set es p e)) (ap (λ (x : Entry). x.state) (sym (set_there q i)) ∙ z)

  module _ (same : e.levels ≡ (entry_at es p).levels) where
    pub levels_kept : (q : ℕ) → (entry_at (set es p e) q).levels ≡ (entry_at es q).levels
    levels_kept q = step (ℕ_discrete q p)
      where
        step : Dec (q ≡ p) → (entry_at after q).levels ≡ (entry_at es q).levels
        step (yes i) = rw i (ap (λ (x : Entry). x.levels) set_here ∙ same)
        step (no n) = ap (λ (x : Entry). x.levels) (set_there q n)

    pub different_set : Different es → Different (set es p e)
    different_set u q r hq hr i =
        u q r (omega (arith, length-set es p e)) (omega (arith, length-set es p e)) (sym (levels_kept q) ∙ i ∙ levels_kept r)

    -- ---- entered and old

    pub has_set : (k : List ℕ) (q : ℕ) → Has es k q → Has (set es p e) k q
    has_set k q h = record { place = omega (arith, length-set es p e, h.place); same = levels_kept q ∙ h.same }

    pub set_has : (k : List ℕ) (q : ℕ) → Has (set es p e) k q → Has es k q
    set_has k q h = record { place = omega (arith, length-set es p e, h.place); same = sym (levels_kept q) ∙ h.same }

    pub old_set : ((entry_at es p).state ≡ 2 → e.state ≡ 2) → (k : List ℕ) → EnteredOld es k → EnteredOld (set es p e) k
    old_set keeps k h = (h.0, has_set k h.0 h.1, step (ℕ_discrete h.0 p))
      where
        step : Dec (h.0 ≡ p) → (entry_at after h.0).state ≡ 2
        step (yes i) = ap (λ q. (entry_at after q).state) i ∙ ap (λ (x : Entry). x.state) set_here ∙ keeps (ap (λ q. (entry_at es q).state) (sym i) ∙ h.2)
        step (no n) = ap (λ (x : Entry). x.state) (set_there h.0 n) ∙ h.2

    -- what is old was old, or is the new entry
    pub set_old : (k : List ℕ) → EnteredOld (set es p e) k → EnteredOld es k ⊎ ((k ≡ (entry_at es p).levels) × (e.state ≡ 2))
    set_old k h = step (ℕ_discrete h.0 p)
      where
        step : Dec (h.0 ≡ p) → EnteredOld es k ⊎ ((k ≡ (entry_at es p).levels) × (e.state ≡ 2))
        step (yes i) =
            inr
            (sym (set_has k h.0 h.1).same ∙ ap (λ q. (entry_at es q).levels) i, sym (ap (λ (x : Entry). x.state) set_here) ∙ ap (λ q. (entry_at after q).state) (sym i) ∙ h.2)
        step (no n) = inl (h.0, set_has k h.0 h.1, sym (ap (λ (x : Entry). x.state) (set_there h.0 n)) ∙ h.2)

-- ---- the counts

pub reserved_set : (es : List Entry) (p : ℕ) (e : Entry) → p < length es → e.levels ≡ (entry_at es p).levels → reserved_by (set es p e) ≡ reserved_by es
unfolding reserved_by
reserved_set [] p e h i = refl
reserved_set (x ∷ es) zero e h i = ap (λ k. block_size k + reserved_by es) i
reserved_set (x ∷ es) (suc p) e h i = ap (λ n. block_size x.levels + n) (reserved_set es p e (omega arith) i)

-- a delivered entry by a delivered one
pub delivered-set : (es : List Entry) (p : ℕ) (e : Entry) → p < length es → e.levels ≡ (entry_at es p).levels → 1 ≤ (entry_at es p).state → 1 ≤ e.state
    → delivered_of (set es p e) ≡ delivered_of es
unfolding delivered_of
delivered-set [] p e h i s t = refl
delivered-set (x ∷ es) zero e h i s t = rw (le-leb 1 e.state t, le-leb 1 x.state s) (ap (λ (k : List ℕ). k ∷ delivered_of es) i)
delivered-set (x ∷ es) (suc p) e h i s t = ap (λ ls. cond (leb 1 x.state) (x.levels ∷ ls) ls) (delivered-set es p e (omega arith) i s t)

-- a wanted entry by a delivered one
pub delivered_more : (es : List Entry) (p : ℕ) (e : Entry) → p < length es → (entry_at es p).state ≡ 0 → 1 ≤ e.state
    → length (delivered_of (set es p e)) ≡ suc (length (delivered_of es))
unfolding delivered_of
delivered_more [] p e h z d = absurd (omega arith)
delivered_more (x ∷ es) zero e h z d = rw (le-leb 1 e.state d, lt-leb 1 x.state (omega arith))
delivered_more (x ∷ es) (suc p) e h z d = step (leb 1 x.state) (delivered_more es p e (omega arith) z d)
  where
    new : List (List ℕ)
    new = delivered_of (set es p e)

    step : (t : Bool) → length new ≡ suc (length (delivered_of es)) → length (cond t (x.levels ∷ new) new) ≡ suc (length (cond t (x.levels ∷ delivered_of es) (delivered_of es)))
    step true i = ap suc i
    step false i = i
