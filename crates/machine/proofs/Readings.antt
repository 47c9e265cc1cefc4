-- Readings and sums over the delivered, when one entry is replaced by another of the same index or wanted entries are appended.
-- The idea: each law goes by induction on the entries. The readings of an index are those of the first entry that has it, so a changed
-- entry counts for its own index alone, and an appended one without readings says the same as no entry.
-- Assumes nothing.
use mathlib.Core.Path.{◌≡◌, refl, sym, ap, ap₂, ◌∙◌}
use mathlib.Core.Logic.{◌≢◌, ⊎_elim}
use mathlib.Core.Bool.{Bool, true, false, cond}
use mathlib.Core.List.{List, [], ◌∷◌, ◌++◌}
use Prim.Native.Nat.{ℕ, zero, suc, ◌<◌, ◌≤◌}
use native.Mathlib.Omega.{arith}
use borrow.Author.Tests.{le-leb, lt-leb}
use lib.Dec.{leb}
use lib.IntN.{ℤ, ◌+ℤ◌, +ℤ_comm, +ℤ_assoc}
use lib.ListN.{length, set}
use Rattle.sums.specs.Sums.{sum_of}
use Rattle.grid.specs.Coefficient.{same_levels}
use Rattle.grid.proofs.Members.{same_or}
use Rattle.area.specs.Entry.{Entry, delivered_of, readings_of}
use Rattle.encoding.specs.Entries.{entry_at}

-- ---- one entry replaced

-- the entry of another index is passed over
pass_over : (x : Entry) (es : List Entry) (l : List ℕ) → x.levels ≢ l → readings_of (x ∷ es) l ≡ readings_of es l
unfolding readings_of
pass_over x es l n =
    ⊎_elim (λ e. absurd (n e)) (λ r. ap (λ t. cond t x.readings (readings_of es l)) r.1) (same_or x.levels l)

-- only the replaced entry's index has other readings
pub readings_other : (es : List Entry) (p : ℕ) (e : Entry) (l : List ℕ) → e.levels ≡ (entry_at es p).levels → l ≢ (entry_at es p).levels
    → readings_of (set es p e) l ≡ readings_of es l
unfolding readings_of
readings_other [] p e l i n = refl
readings_other (x ∷ es) zero e l i n = pass_over e es l (λ q. n (sym q ∙ i)) ∙ sym (pass_over x es l (λ q. n (sym q)))
readings_other (x ∷ es) (suc p) e l i n = ap (λ rs. cond (same_levels x.levels l) x.readings rs) (readings_other es p e l i n)

-- and where the entry's own stay, none has
pub readings-set : (es : List Entry) (p : ℕ) (e : Entry) (l : List ℕ) → e.levels ≡ (entry_at es p).levels → e.readings ≡ (entry_at es p).readings
    → readings_of (set es p e) l ≡ readings_of es l
unfolding readings_of
readings-set [] p e l i j = refl
readings-set (x ∷ es) zero e l i j = ap₂ (λ (k : List ℕ) (rs : List ℤ). cond (same_levels k l) rs (readings_of es l)) i j
readings-set (x ∷ es) (suc p) e l i j = ap (λ rs. cond (same_levels x.levels l) x.readings rs) (readings-set es p e l i j)

-- a wanted entry by a delivered one: a sum over the delivered has one summand more
pub sum_more : (es : List Entry) (p : ℕ) (e : Entry) (f : List ℕ → ℤ) → p < length es → (entry_at es p).state ≡ 0 → 1 ≤ e.state
    → sum_of (delivered_of (set es p e)) f ≡ sum_of (delivered_of es) f +ℤ f e.levels
unfolding delivered_of sum_of
sum_more [] p e f h z d = absurd (omega arith)
sum_more (x ∷ es) zero e f h z d =
    rw (le-leb 1 e.state d, lt-leb 1 x.state (omega arith)) (+ℤ_comm (f e.levels) (sum_of (delivered_of es) f))
sum_more (x ∷ es) (suc p) e f h z d = step (leb 1 x.state) (sum_more es p e f (omega arith) z d)
  where
    old : List (List ℕ)
    old = delivered_of es

    new : List (List ℕ)
    new = delivered_of (set es p e)

    step : (t : Bool) → sum_of new f ≡ sum_of old f +ℤ f e.levels → sum_of (cond t (x.levels ∷ new) new) f ≡ sum_of (cond t (x.levels ∷ old) old) f +ℤ f e.levels
    step true i = ap (λ y. f x.levels +ℤ y) i ∙ sym (+ℤ_assoc (f x.levels) (sum_of old f) (f e.levels))
    step false i = i

-- ---- entries without readings appended

abbrev pub Empty : List Entry → Type 0
Empty ys = (i : ℕ) → i < length ys → (entry_at ys i).readings ≡ []

none_read : (ys : List Entry) (l : List ℕ) → Empty ys → readings_of ys l ≡ []
unfolding readings_of
none_read [] l w = refl
none_read (y ∷ ys) l w = step (same_levels y.levels l) (none_read ys l (λ i h. w (suc i) (omega arith)))
  where
    step : (t : Bool) → readings_of ys l ≡ [] → cond t y.readings (readings_of ys l) ≡ []
    step true i = w 0 (omega arith)
    step false i = i

pub readings-append : (xs ys : List Entry) (l : List ℕ) → Empty ys → readings_of (xs ++ ys) l ≡ readings_of xs l
unfolding readings_of
readings-append [] ys l w = none_read ys l w
readings-append (x ∷ xs) ys l w = ap (λ rs. cond (same_levels x.levels l) x.readings rs) (readings-append xs ys l w)
