-- Blocks summed along the places, in points and in readings: reserved is the sum of all, and each block ends within it.
-- Assumes nothing.
use mathlib.Core.Path.{◌≡◌, refl, sym, ap, ap₂, ◌∙◌}
use mathlib.Core.Bool.{cond, ◌&&◌}
use mathlib.Core.List.{List, [], ◌∷◌, map}
use Prim.Native.Nat.{ℕ, zero, suc, ◌+◌, ◌<◌, ◌≤◌}
use native.Mathlib.Decide.{ℕ_discrete}
use native.Mathlib.Omega.{arith}
use borrow.Author.Tests.{le-leb, ne_eqb}
use lib.Dec.{leb, eqb}
use lib.IntN.{ℤ}
use lib.ListN.{length}
use Rattle.sums.specs.Sums.{nat_sum_to}
use Rattle.grid.specs.Index.{at_ceiling}
use Rattle.grid.specs.Block.{block_size}
use Rattle.area.specs.declared.IndexRecord.{IndexRecord}
use Rattle.area.specs.declared.Settings.{Settings}
use Rattle.area.specs.Settings.{SettingsFit, readings_for, least_store}
use Rattle.area.proofs.Readings.{reading_facts}
use Rattle.area.specs.Entry.{delivered_of, reserved_by, pending_of, carried_of}
use Rattle.area.specs.Encoding.{entry_of}
use Rattle.quadrature.specs.Readings.{record_at}
use Rattle.soundness.specs.Held.{levels_at, state_at, size_at, count_at}
use Rattle.soundness.specs.Totals.{pending_in, carried_in, delivered_count}

sum_front : (n : ℕ) (f : ℕ → ℕ) → nat_sum_to (suc n) f ≡ f 0 + nat_sum_to n (λ i. f (suc i))
unfolding nat_sum_to
sum_front zero f = omega arith
sum_front (suc n) f = omega (arith, sum_front n f)

pub sum_below : (p n : ℕ) (f : ℕ → ℕ) → p < n → nat_sum_to p f + f p ≤ nat_sum_to n f
unfolding nat_sum_to
sum_below p zero f h = absurd (omega arith)
sum_below p (suc n) f h = step (ℕ_discrete p n) (sum_below p n f)
  where
    step : Dec (p ≡ n) → (p < n → nat_sum_to p f + f p ≤ nat_sum_to n f) → nat_sum_to p f + f p ≤ nat_sum_to n f + f n
    step (yes e) ih = rw e (omega arith)
    step (no e) ih = omega (arith, ih (omega arith))

pub reserved_sum : (g : Settings) (s : List ℤ) (rs : List IndexRecord) → reserved_by (map (entry_of g s) rs) ≡ nat_sum_to (length rs) (λ p. block_size (levels_at rs p))
unfolding reserved_by entry_of
reserved_sum g s [] = unfold nat_sum_to in refl
reserved_sum g s (r ∷ rs) = ap (λ n. block_size r.levels + n) (reserved_sum g s rs) ∙ sym (sum_front (length rs) (λ p. block_size (levels_at (r ∷ rs) p)))

pub pending_sum : (g : Settings) (s : List ℤ) (rs : List IndexRecord) → pending_of (map (entry_of g s) rs) ≡ pending_in rs
unfolding pending_of pending_in entry_of
pending_sum g s [] = unfold nat_sum_to in refl
pending_sum g s (r ∷ rs) =
    ap (λ n. cond (eqb r.state 1) r.indicator 0 + n) (pending_sum g s rs)
    ∙ sym (sum_front (length rs) (λ p. cond (eqb (state_at (r ∷ rs) p) 1) (record_at (r ∷ rs) p).indicator 0))

pub carried_sum : (d : ℕ) (g : Settings) (s : List ℤ) (rs : List IndexRecord) → carried_of d (map (entry_of g s) rs) ≡ carried_in d rs
unfolding carried_of carried_in entry_of
carried_sum d g s [] = unfold nat_sum_to in refl
carried_sum d g s (r ∷ rs) =
    ap (λ n. cond (eqb r.state 2 && at_ceiling d r.levels) r.indicator 0 + n) (carried_sum d g s rs)
    ∙ sym (sum_front (length rs) (λ p. cond (eqb (state_at (r ∷ rs) p) 2 && at_ceiling d (levels_at (r ∷ rs) p)) (record_at (r ∷ rs) p).indicator 0))

-- the readings of all blocks are those of all points
pub count_sum : (g : Settings) (rs : List IndexRecord) (n : ℕ) → nat_sum_to n (count_at g rs) ≡ readings_for g (nat_sum_to n (size_at rs))
unfolding nat_sum_to
count_sum g rs zero = sym (reading_facts.none g)
count_sum g rs (suc n) =
    ap₂ (λ x y. x + y) (count_sum g rs n) (reading_facts.count g (levels_at rs n)) ∙ sym (reading_facts.sum g (nat_sum_to n (size_at rs)) (size_at rs n))

-- so each block ends within the shortest store if all points are within the budget
pub count_below : (g : Settings) (rs : List IndexRecord) (p : ℕ) → p < length rs → nat_sum_to (length rs) (size_at rs) ≤ g.budget
    → nat_sum_to p (count_at g rs) + count_at g rs p ≤ least_store g
count_below g rs p h w =
    omega
    (arith, sum_below p (length rs) (count_at g rs) h, count_sum g rs (length rs), reading_facts.more g (nat_sum_to (length rs) (size_at rs)) g.budget w, reading_facts.least g)

-- and equal numbers of readings are those of equally many points
pub count_same : (g : Settings) → SettingsFit g → (m n : ℕ) → readings_for g m ≡ readings_for g n → m ≡ n
count_same g fit m n e =
    let most : m ≤ n = reading_facts.fewer g m n fit (omega (arith, e)) in
    let least : n ≤ m = reading_facts.fewer g n m fit (omega (arith, e)) in
    omega arith

one_more : (state : ℕ) (ls : List (List ℕ)) (k : List ℕ) → length (cond (leb 1 state) (k ∷ ls) ls) ≡ cond (eqb state 0) 0 1 + length ls
one_more zero ls k = omega arith
one_more (suc n) ls k = rw (le-leb 1 (suc n) (omega arith), ne_eqb (suc n) 0 (λ e. omega arith)) (omega arith)

pub delivered_sum : (g : Settings) (s : List ℤ) (rs : List IndexRecord) → length (delivered_of (map (entry_of g s) rs)) ≡ delivered_count rs
unfolding delivered_of delivered_count entry_of
delivered_sum g s [] = unfold nat_sum_to in refl
delivered_sum g s (r ∷ rs) =
    one_more r.state (delivered_of (map (entry_of g s) rs)) r.levels
    ∙ (ap (λ n. cond (eqb r.state 0) 0 1 + n) (delivered_sum g s rs) ∙ sym (sum_front (length rs) (λ p. cond (eqb (state_at (r ∷ rs) p) 0) 0 1)))
