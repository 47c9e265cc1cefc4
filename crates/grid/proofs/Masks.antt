-- Subsets of the axes as masks: the masks below 2^d run through all subsets of d axes.
-- The idea: the even masks leave the first axis out and the odd ones take it in; the rest is the mask halved.
-- Assumes nothing.
use mathlib.Core.Path.{◌≡◌, refl, sym, ap, ap₂, ◌∙◌}
use mathlib.Core.Bool.{Bool, true, false, cond}
use mathlib.Core.List.{List, [], ◌∷◌, map}
use Prim.Native.Nat.{ℕ, zero, suc, ◌*◌, ◌/◌, ◌%◌, ◌^◌}
use native.Mathlib.Nat as NatL
use native.Mathlib.Omega.{arith}
use lib.ListN.{length}
use lib.IntN.{ℤ, pos, ◌+ℤ◌, +ℤ_assoc, +ℤ_idl, +ℤ_idr}
use Rattle.sums.specs.Sums.{sum_to, sum_of}
use Rattle.sums.proofs.Sums.{sum_to_cong, sum_to_add, sum_of-append, sum_of-map}
use Rattle.grid.specs.Coefficient.{is_in, subsets, sign, raised_on, coefficient, marks}

double-suc : (n : ℕ) → suc n * 2 ≡ suc (suc (n * 2))
double-suc n = omega arith

pair_sums : (n : ℕ) (f : ℕ → ℤ) → sum_to (n * 2) f ≡ sum_to n (λ m. f (m * 2) +ℤ f (suc (m * 2)))
unfolding sum_to
pair_sums zero f = refl
pair_sums (suc n) f =
    rw (double-suc n)
    (ap (λ x. x +ℤ f (n * 2) +ℤ f (suc (n * 2))) (pair_sums n f)
    ∙ +ℤ_assoc (sum_to n (λ m. f (m * 2) +ℤ f (suc (m * 2)))) (f (n * 2)) (f (suc (n * 2))))

pairs : (n : ℕ) (f : ℕ → ℤ) → sum_to (n * 2) f ≡ sum_to n (λ m. f (m * 2)) +ℤ sum_to n (λ m. f (suc (m * 2)))
pairs n f = pair_sums n f ∙ sum_to_add n (λ m. f (m * 2)) (λ m. f (suc (m * 2)))

even_mod : (m : ℕ) → m * 2 % 2 ≡ 0
even_mod m = omega arith

even_div : (m : ℕ) → m * 2 / 2 ≡ m
even_div m = omega arith

odd_mod : (m : ℕ) → suc (m * 2) % 2 ≡ 1
odd_mod m = omega arith

odd-div : (m : ℕ) → suc (m * 2) / 2 ≡ m
odd-div m = omega arith

marks_even : (d m : ℕ) → marks (suc d) (m * 2) ≡ false ∷ marks d m
unfolding marks
marks_even d m = rw (even_mod m, even_div m)

marks-odd : (d m : ℕ) → marks (suc d) (suc (m * 2)) ≡ true ∷ marks d m
unfolding marks
marks-odd d m = rw (odd_mod m, odd-div m)

-- any sum over the subsets is the sum over the masks
pub over_masks : (d : ℕ) (g : List Bool → ℤ) → sum_of (subsets d) g ≡ sum_to (2 ^ d) (λ m. g (marks d m))
unfolding subsets
over_masks zero g = unfold sum_of sum_to marks in (+ℤ_idr (g []) ∙ sym (+ℤ_idl (g [])))
over_masks (suc d) g =
    sum_of-append (map (λ (S : List Bool). false ∷ S) (subsets d)) (map (λ (S : List Bool). true ∷ S) (subsets d)) g
    ∙ ap₂ ◌+ℤ◌
    (sum_of-map (λ (S : List Bool). false ∷ S) (subsets d) g ∙ over_masks d (λ S. g (false ∷ S)) ∙ sum_to_cong (2 ^ d) (λ m. ap g (sym (marks_even d m))))
    (sum_of-map (λ (S : List Bool). true ∷ S) (subsets d) g ∙ over_masks d (λ S. g (true ∷ S)) ∙ sum_to_cong (2 ^ d) (λ m. ap g (sym (marks-odd d m))))
    ∙ sym (ap (λ n. sum_to n (λ m. g (marks (suc d) m))) (NatL.pow-suc 2 d) ∙ pairs (2 ^ d) (λ m. g (marks (suc d) m)))

pub masks : (J : List (List ℕ)) (k : List ℕ) → length k ≡ 8 → coefficient J k ≡ sum_to 256 (λ m. cond (is_in J (raised_on k (marks 8 m))) (sign (marks 8 m)) (pos 0))
unfolding coefficient
masks J k e = ap (λ d. sum_of (subsets d) (λ S. cond (is_in J (raised_on k S)) (sign S) (pos 0))) e ∙ over_masks 8 (λ S. cond (is_in J (raised_on k S)) (sign S) (pos 0))
