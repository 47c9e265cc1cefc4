-- An index is at a ceiling among eight axes exactly if it is among the job's. Here nothing is known of how many levels it has, only that those
-- beyond the job's axes are 1. Assumes nothing.
use mathlib.Core.Path.{◌≡◌, refl, sym, ap, ◌∙◌}
use mathlib.Core.Bool.{Bool, true, false, cond}
use mathlib.Core.List.{List}
use Prim.Native.Nat.{ℕ, zero, suc, ◌+◌, ◌-◌, ◌<◌, ◌≤◌}
use native.Mathlib.Decide.{ℕ_discrete, dec_lt}
use native.Mathlib.Omega.{arith}
use lib.ListN.{length}
use Rattle.std.proofs.lemmas.List.{get_or_past}
use Rattle.grid.specs.Index.{level, excess, Within, within, forward, at_ceiling}
use Rattle.grid.proofs.Facts.{index_facts}
use Rattle.grid.proofs.Ceilings.{ceiling_back}

module _ (k : List ℕ) (w : Within k) (n : ℕ) (some : 1 ≤ n) (one : level k n ≡ 1) (inside : n < length k) where
  raised_excess : excess (forward k n) ≡ suc (excess k)
  raised_excess = index_facts.forward_excess k n inside (w.low n inside)

  raised : excess k < 12 → within (forward k n) ≡ true
  raised e =
      index_facts.within_back (forward k n)
      (record { low = λ b r. at_least b (omega (arith, r, index_facts.forward_length k n)) (ℕ_discrete b n); high = λ b r. at_most b (omega (arith, r, index_facts.forward_length k n)) (ℕ_discrete b n); small = omega (arith, e, raised_excess) })
    where
      at_least : (b : ℕ) → b < length k → Dec (b ≡ n) → 1 ≤ level (forward k n) b
      at_least b r (yes q) = rw q (omega (arith, index_facts.forward_level k n inside))
      at_least b r (no q) = omega (arith, index_facts.forward_other k n b q, w.low b r)

      at_most : (b : ℕ) → b < length k → Dec (b ≡ n) → level (forward k n) b ≤ 8
      at_most b r (yes q) = rw q (omega (arith, index_facts.forward_level k n inside, one))
      at_most b r (no q) = omega (arith, index_facts.forward_other k n b q, w.high b r)

  stopped : (excess k < 12 → ⊥) → within (forward k 0) ≡ false
  stopped f = step (within (forward k 0)) refl
    where
      first : 0 < length k
      first = omega (arith, inside)

      step : (t : Bool) → within (forward k 0) ≡ t → within (forward k 0) ≡ false
      step false e = e
      step true e = absurd (f (omega (arith, (index_facts.within_sure (forward k 0) e).small, index_facts.forward_excess k 0 first (w.low 0 first))))

  one_more : at_ceiling (suc n) k ≡ at_ceiling n k
  unfolding at_ceiling
  one_more = step (dec_lt (excess k) 12)
    where
      either : (t : Bool) → at_ceiling n k ≡ true → cond t (at_ceiling n k) true ≡ at_ceiling n k
      either true e = refl
      either false e = sym e

      step : Dec (excess k < 12) → cond (within (forward k n)) (at_ceiling n k) true ≡ at_ceiling n k
      step (yes e) = rw (raised e) refl
      step (no f) = either (within (forward k n)) (ceiling_back n k 0 (omega (arith, some)) (stopped f))

-- a level 1 is in the list, since past its end there is none
module _ (d : ℕ) (k : List ℕ) (some : 1 ≤ d) (w : Within k) (beyond : (a : ℕ) → d ≤ a → a < 8 → level k a ≡ 1) where
  so_far : (m : ℕ) → d + m ≤ 8 → at_ceiling (d + m) k ≡ at_ceiling d k
  so_far zero h = ap (λ n. at_ceiling n k) (omega arith)
  so_far (suc m) h =
      let one = beyond (d + m) (omega arith) (omega arith) in
      let next : d + suc m ≡ suc (d + m) = omega arith in
      rw next (one_more k w (d + m) (omega (arith, some)) one (inside (dec_lt (d + m) (length k)) one) ∙ so_far m (omega arith))
    where
      inside : Dec (d + m < length k) → level k (d + m) ≡ 1 → d + m < length k
      inside (yes r) one = r
      inside (no r) one = absurd (omega (arith, one, get_or_past k (d + m) 0 (omega (arith, r))))

  pub axes_alike : d ≤ 8 → at_ceiling 8 k ≡ at_ceiling d k
  axes_alike few = ap (λ n. at_ceiling n k) (omega (arith, few)) ∙ so_far (8 - d) (omega (arith, few))
