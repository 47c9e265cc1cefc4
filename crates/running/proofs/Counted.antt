-- Old indices counted: a delivery makes none old, and refining makes one old. Assumes nothing.
use mathlib.Core.Path.{◌≡◌, refl, ap, sym, ◌∙◌}
use mathlib.Core.Bool.{Bool, true, false, cond}
use mathlib.Core.List.{List, [], ◌∷◌, ◌++◌, map}
use Prim.Native.Nat.{ℕ, zero, suc, ◌+◌, ◌<◌, ◌≤◌}
use native.Mathlib.Nat.{zero-add}
use native.Mathlib.Omega.{arith}
use borrow.Author.Tests.{ne_eqb, eq-eqb}
use lib.Dec.{eqb}
use lib.IntN.{ℤ}
use lib.ListN.{length, set}
use Rattle.area.specs.Entry.{Entry}
use Rattle.encoding.specs.Entries.{entry_at}
use Rattle.grid.specs.Index.{forward}
use Rattle.machine.specs.Log.{wanted, first_wanted}
use Rattle.machine.specs.Promote as refining
use Rattle.machine.specs.Steps.{delivered, deliver_at}
use Rattle.machine.specs.Counts.{count_of}
use Rattle.machine.proofs.Wanted.{first_is}

abbrev one : ℕ → Entry → ℕ
one s e = cond (eqb e.state s) 1 0

one-yes : (s : ℕ) (e : Entry) → e.state ≡ s → one s e ≡ 1
one-yes s e h = ap (λ t. cond {A = ℕ} t 1 0) (eq-eqb e.state s h)

one_no : (s : ℕ) (e : Entry) → (e.state ≡ s → ⊥) → one s e ≡ 0
one_no s e h = ap (λ t. cond {A = ℕ} t 1 0) (ne_eqb e.state s h)

-- one entry replaced
count_set : (s : ℕ) (es : List Entry) (p : ℕ) (y : Entry) → p < length es → count_of s (set es p y) + one s (entry_at es p) ≡ count_of s es + one s y
unfolding count_of
count_set s [] p y h = absurd (omega (arith, h))
count_set s (x ∷ es) zero y h = omega arith
count_set s (x ∷ es) (suc p) y h = omega (arith, count_set s es p y (omega (arith, h)))

count_both : (s : ℕ) (es fs : List Entry) → count_of s (es ++ fs) ≡ count_of s es + count_of s fs
unfolding count_of
count_both s [] fs = sym (zero-add (count_of s fs))
count_both s (x ∷ es) fs = omega (arith, count_both s es fs)

count_wanted : (k : List ℕ) (axes : List ℕ) → count_of 2 (map (λ a. wanted (forward k a)) axes) ≡ 0
unfolding count_of wanted
count_wanted k [] = refl
count_wanted k (a ∷ axes) = zero-add (count_of 2 (map (λ b. wanted (forward k b)) axes)) ∙ count_wanted k axes

pub count_most : (s : ℕ) (es : List Entry) → count_of s es ≤ length es
unfolding count_of
count_most s [] = omega arith
count_most s (x ∷ es) = step (eqb x.state s) (count_most s es)
  where
    step : (t : Bool) → count_of s es ≤ length es → cond {A = ℕ} t 1 0 + count_of s es ≤ suc (length es)
    step true h = omega (arith, h)
    step false h = omega (arith, h)

-- a delivery makes none old
pub delivery_old : (es : List Entry) (rs : List ℤ) (i : ℕ) → first_wanted es < length es → count_of 2 (deliver_at es (first_wanted es) rs i) ≡ count_of 2 es
unfolding deliver_at delivered
delivery_old es rs i h =
    omega (
      arith,
      count_set 2 es (first_wanted es) (delivered (entry_at es (first_wanted es)) rs i) h,
      one_no 2 (entry_at es (first_wanted es)) (λ e. omega (arith, e, first_is es h)),
      one_no 2 (delivered (entry_at es (first_wanted es)) rs i) (λ e. omega (arith, e)),
    )

-- refining an active place makes one old
pub refined_old : (d : ℕ) (es : List Entry) (p : ℕ) → p < length es → (entry_at es p).state ≡ 1 → count_of 2 (refining.refine d es p) ≡ suc (count_of 2 es)
unfolding refining.refine refining.make_old refining.made_old
refined_old d es p h a =
    omega (
      arith,
      count_both 2 (set es p (refining.made_old (entry_at es p))) (map (λ x. wanted (forward (entry_at es p).levels x)) (refining.admitted_axes d (set es p (refining.made_old (entry_at es p))) (entry_at es p).levels)),
      count_wanted (entry_at es p).levels (refining.admitted_axes d (set es p (refining.made_old (entry_at es p))) (entry_at es p).levels),
      count_set 2 es p (refining.made_old (entry_at es p)) h,
      one_no 2 (entry_at es p) (λ e. omega (arith, e, a)),
      one-yes 2 (refining.made_old (entry_at es p)) refl,
    )
