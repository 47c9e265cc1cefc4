-- A running sum in a signed word: terms of size at most b keep m of them within m·b, so the next one fits while that stays small.
-- Assumes nothing.
use mathlib.Core.Path.{◌≡◌, sym, ap, ap₂, ◌∙◌}
use Prim.Native.Nat.{ℕ, suc, ◌+◌, ◌*◌, ◌^◌, ◌≤◌}
use native.Mathlib.Nat as NatL
use native.Mathlib.Omega.{arith}
use lib.IntN.{ℤ, nat_abs, ◌+ℤ◌}
use mir.Syntax.{w64}
use mir.Val.{SFits, to_z, of_z}
use Rattle.sums.specs.Sums.{sum_to}
use Rattle.sums.proofs.Sums.{sum_to-suc}
use Rattle.sums.proofs.Sizes.{abs_add}
use Rattle.sums.proofs.Words.{back, back_small, small_fits}

-- `a` is the sum so far, `z` the next term as it was returned
module _ (b : ℕ) (f : ℕ → ℤ) (m : ℕ) (a z : ℤ) (room : (m + 1) * b ≤ 2 ^ 62) (size : nat_abs a ≤ m * b) (is : a ≡ sum_to m f) (term : nat_abs z ≤ b) (fits : SFits w64 z) (next : z ≡ f m) where
  one_more : m + 1 ≡ suc m
  one_more = omega arith

  both : a +ℤ to_z w64 (of_z w64 z) ≡ a +ℤ z
  both = ap (λ x. a +ℤ x) (back z fits)

  grown : nat_abs (a +ℤ z) ≤ (m + 1) * b
  grown = let split : (m + 1) * b ≡ m * b + b = ap (λ n. n * b) one_more ∙ NatL.suc-mul m b in omega (arith, abs_add a z)

  small : nat_abs (a +ℤ to_z w64 (of_z w64 z)) ≤ 2 ^ 62
  small = omega (arith, ap nat_abs both, grown)

  pub running_fits : SFits w64 (a +ℤ to_z w64 (of_z w64 z))
  running_fits = small_fits (a +ℤ to_z w64 (of_z w64 z)) small

  -- the sum as it is read back
  abbrev sum : ℤ
  sum = to_z w64 (of_z w64 (a +ℤ to_z w64 (of_z w64 z)))

  sum_is : sum ≡ a +ℤ z
  sum_is = back_small (a +ℤ to_z w64 (of_z w64 z)) small ∙ both

  pub running_next : (nat_abs sum ≤ (m + 1) * b) × (sum ≡ sum_to (m + 1) f)
  running_next = (omega (arith, ap nat_abs sum_is, grown), sum_is ∙ ap₂ ◌+ℤ◌ is next ∙ sym (ap (λ n. sum_to n f) one_more ∙ sum_to-suc m f))
