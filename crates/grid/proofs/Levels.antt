-- Levels axis by axis: the ceilings as a test and as a list of bounds, nowhere higher by its first axis, units of an index.
-- The idea: what is said of every axis by number is said of the first axis and of the rest.
-- Assumes nothing.
use mathlib.Core.Path.{◌≡◌, refl, ap}
use mathlib.Core.Bool.{Bool, true, false, ◌&&◌}
use mathlib.Core.List.{List, [], ◌∷◌}
use Prim.Native.Nat.{ℕ, zero, suc, ◌+◌, ◌<◌, ◌≤◌}
use native.Mathlib.Omega.{arith}
use borrow.Author.Tests.{leb-true, le-leb}
use lib.Dec.{leb}
use lib.ListN.{length}
use Rattle.rule.specs.Rules.{unit}
use Rattle.grid.specs.Index.{level, excess, Within, levels_within, within, NowhereHigher}
use Rattle.grid.specs.Difference.{units}

-- ---- each level from 1 to n; each level at most n

abbrev pub Levels : ℕ → List ℕ → Type 0
Levels n [] = Unit {0}
Levels n (x ∷ xs) = (1 ≤ x) × (x ≤ n) × Levels n xs

abbrev pub AtMost : ℕ → List ℕ → Type 0
AtMost n [] = Unit {0}
AtMost n (x ∷ xs) = (x ≤ n) × AtMost n xs

pub at_most : (n : ℕ) (k : List ℕ) → Levels n k → AtMost n k
at_most n [] w = tt
at_most n (x ∷ xs) w = (w.1, at_most n xs w.2)

-- a conjunction of tests
pub and_left : (a b : Bool) → (a && b) ≡ true → a ≡ true
and_left true b e = refl
and_left false b e = e

pub and_right : (a b : Bool) → (a && b) ≡ true → b ≡ true
and_right true b e = e
and_right false b e = absurd (let z : ◌≡◌ {A = ℕ} 0 1 = cc in omega arith)

pub and_both : (a b : Bool) → a ≡ true → b ≡ true → (a && b) ≡ true
and_both a b p q = rw (p, q)

pub levels_sure : (k : List ℕ) → levels_within k ≡ true → Levels 8 k
unfolding levels_within
levels_sure [] e = tt
levels_sure (x ∷ xs) e = (
  leb-true 1 x (and_left (leb 1 x) (leb x 8) (and_left (leb 1 x && leb x 8) (levels_within xs) e)),
  leb-true x 8 (and_right (leb 1 x) (leb x 8) (and_left (leb 1 x && leb x 8) (levels_within xs) e)),
  levels_sure xs (and_right (leb 1 x && leb x 8) (levels_within xs) e),
)

pub levels_back : (k : List ℕ) → Levels 8 k → levels_within k ≡ true
unfolding levels_within
levels_back [] w = refl
levels_back (x ∷ xs) w =
    and_both (leb 1 x && leb x 8) (levels_within xs) (and_both (leb 1 x) (leb x 8) (le-leb 1 x w.0) (le-leb x 8 w.1)) (levels_back xs w.2)

-- bounds by axis number
pub levels_low : (n : ℕ) (k : List ℕ) → Levels n k → (a : ℕ) → a < length k → 1 ≤ level k a
levels_low n [] w a h = absurd (omega arith)
levels_low n (x ∷ xs) w zero h = w.0
levels_low n (x ∷ xs) w (suc a) h = levels_low n xs w.2 a (omega arith)

pub levels_high : (n : ℕ) (k : List ℕ) → Levels n k → (a : ℕ) → a < length k → level k a ≤ n
levels_high n [] w a h = absurd (omega arith)
levels_high n (x ∷ xs) w zero h = w.1
levels_high n (x ∷ xs) w (suc a) h = levels_high n xs w.2 a (omega arith)

pub levels_from : (n : ℕ) (k : List ℕ) → ((a : ℕ) → a < length k → 1 ≤ level k a) → ((a : ℕ) → a < length k → level k a ≤ n) → Levels n k
levels_from n [] f g = tt
levels_from n (x ∷ xs) f g =
    (f 0 (omega arith), g 0 (omega arith), levels_from n xs (λ a h. f (suc a) (omega arith)) (λ a h. g (suc a) (omega arith)))

pub within_levels : (k : List ℕ) → Within k → Levels 8 k
within_levels k w = levels_from 8 k w.low w.high

pub within_sure : (k : List ℕ) → within k ≡ true → Within k
unfolding within
within_sure k e =
    let w : Levels 8 k = levels_sure k (and_left (levels_within k) (leb (excess k) 12) e) in
    record {
      low = levels_low 8 k w;
      high = levels_high 8 k w;
      small = leb-true (excess k) 12 (and_right (levels_within k) (leb (excess k) 12) e);
    }

pub within_back : (k : List ℕ) → Within k → within k ≡ true
unfolding within
within_back k w = and_both (levels_within k) (leb (excess k) 12) (levels_back k (within_levels k w)) (le-leb (excess k) 12 w.small)

-- ---- nowhere higher, by the first axis

pub higher_nil : (l : List ℕ) → NowhereHigher l [] → l ≡ []
higher_nil [] h = refl
higher_nil (x ∷ l) h = absurd (let e : suc (length l) ≡ 0 = h.axes in omega arith)

pub higher_cons : (x k : ℕ) (l ks : List ℕ) → 1 ≤ x → x ≤ k → NowhereHigher l ks → NowhereHigher (x ∷ l) (k ∷ ks)
higher_cons x k l ks a b h = record { axes = ap suc h.axes; low = low; high = high }
  where
    low : (i : ℕ) → i < suc (length ks) → 1 ≤ level (x ∷ l) i
    low zero q = a
    low (suc i) q = h.low i (omega arith)

    high : (i : ℕ) → i < suc (length ks) → level (x ∷ l) i ≤ level (k ∷ ks) i
    high zero q = b
    high (suc i) q = h.high i (omega arith)

pub higher_empty : NowhereHigher [] []
higher_empty = record { axes = refl; low = λ a h. absurd (omega arith); high = λ a h. absurd (omega arith) }

pub higher_not_empty : (k : ℕ) (ks : List ℕ) → NowhereHigher [] (k ∷ ks) → ⊥
higher_not_empty k ks h = let e : 0 ≡ suc (length ks) = h.axes in omega arith

pub higher_head_low : (x k : ℕ) (l ks : List ℕ) → NowhereHigher (x ∷ l) (k ∷ ks) → 1 ≤ x
higher_head_low x k l ks h = h.low 0 (omega arith)

pub higher_head_high : (x k : ℕ) (l ks : List ℕ) → NowhereHigher (x ∷ l) (k ∷ ks) → x ≤ k
higher_head_high x k l ks h = h.high 0 (omega arith)

pub higher_tail : (x k : ℕ) (l ks : List ℕ) → NowhereHigher (x ∷ l) (k ∷ ks) → NowhereHigher l ks
higher_tail x k l ks h =
    record {
      axes = let e : suc (length l) ≡ suc (length ks) = h.axes in omega arith;
      low = λ a q. h.low (suc a) (omega arith);
      high = λ a q. h.high (suc a) (omega arith);
    }

-- ---- units

pub unit_le : (k : ℕ) → unit k ≤ k
unfolding unit
unit_le zero = omega arith
unit_le (suc zero) = omega arith
unit_le (suc (suc k)) = omega arith

pub unit_mono : (k : ℕ) → unit k ≤ unit (suc k)
unfolding unit
unit_mono zero = omega arith
unit_mono (suc zero) = omega arith
unit_mono (suc (suc k)) = omega arith

pub units_le : (k : List ℕ) → units k ≤ excess k + length k
unfolding units excess
units_le [] = omega arith
units_le (k ∷ ks) = omega (arith, units_le ks, unit_le k)

pub units_small : (k : List ℕ) → length k ≡ 8 → Within k → units k ≤ 20
units_small k e w = omega (arith, units_le k, w.small)
