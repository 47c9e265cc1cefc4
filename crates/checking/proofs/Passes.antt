-- The root is the one index without excess, and what the first pass gives the second.
-- Assumes nothing.
use mathlib.Core.Path.{◌≡◌, refl, ap, ap₂, ◌∙◌}
use mathlib.Core.Logic.{◌≢◌}
use mathlib.Core.Bool.{true}
use mathlib.Core.List.{List, [], ◌∷◌}
use Prim.Native.Nat.{ℕ, suc, ◌-◌, ◌<◌, ◌≤◌}
use native.Mathlib.Omega.{arith}
use lib.Dec.{leb, eqb}
use lib.ListN.{length, replicate}
use Rattle.grid.specs.Index.{level, excess, Within, within, root}
use Rattle.grid.specs.Coefficient.{same_levels}
use Rattle.grid.proofs.Levels.{within_sure, and_left, and_right}
use Rattle.grid.proofs.Neighbours.{root_excess}
use Rattle.area.specs.declared.IndexRecord.{IndexRecord}
use Rattle.area.specs.Encoding.{none}
use Rattle.soundness.specs.Held.{levels_at, state_at, forward_link, backward_link}
use Rattle.soundness.specs.Test.{index_test, root_test, backward_neighbour_test, backward_link_test, forward_link_test, axis_test, place_test, places_test}
use Rattle.soundness.proofs.Exactly.{same, reads_eq, reads_same, reads_eq_true, reads_all, reads_all_from}
use Rattle.std.proofs.lemmas.Bool.Decides.{nat_tests}

-- levels from 1 up without excess are 1 throughout
all_ones : (k : List ℕ) → ((a : ℕ) → a < length k → 1 ≤ level k a) → excess k ≡ 0 → k ≡ replicate (length k) 1
unfolding excess
all_ones [] low e = refl
all_ones (l ∷ ls) low e = ap₂ ◌∷◌ (omega (arith, low 0 (omega arith))) (all_ones ls (λ a h. low (suc a) (omega arith)) (omega arith))

-- the root is the one index without excess
pub root_by_excess : (k : List ℕ) → length k ≡ 8 → Within k → eqb (excess k) 0 ≡ same_levels k root
unfolding root
root_by_excess k eight w =
    same (eqb (excess k) 0) (same_levels k root) (reads_eq (excess k) 0) (reads_same k root) (λ e. all_ones k w.low e ∙ ap (λ n. replicate n 1) eight) (λ e. ap excess e ∙ root_excess)

pub index_within : (d : ℕ) (k : List ℕ) → index_test d k ≡ true → Within k
unfolding index_test
index_within d k e = within_sure k (and_left (within k) _ e)

-- ---- the first pass
module _ (d : ℕ) (rs : List IndexRecord) (passed : places_test d rs ≡ true) where
  tested : (p : ℕ) → p < length rs → place_test d rs p ≡ true
  unfolding places_test
  tested = (reads_all (place_test d rs) (λ p. place_test d rs p ≡ true) (length rs) (λ p h. reads_eq_true (place_test d rs p))).sure passed

  pub place_within : (p : ℕ) → p < length rs → Within (levels_at rs p)
  unfolding place_test
  place_within p h = index_within d (levels_at rs p) (and_left (index_test d (levels_at rs p)) _ (tested p h))

  pub place_beyond : d ≤ 8 → (p : ℕ) → p < length rs → (a : ℕ) → d ≤ a → a < 8 → level (levels_at rs p) a ≡ 1
  unfolding place_test index_test
  place_beyond few p h a b l =
      let k = levels_at rs p in
      let ones = and_right (within k) _ (and_left (index_test d k) _ (tested p h)) in
      (reads_all_from (λ a. eqb (level k a) 1) (λ a. level k a ≡ 1) (8 - d) d (λ a l. reads_eq (level k a) 1)).sure ones a b (omega (arith, few, l))

  axis_tested : (p a : ℕ) → p < length rs → a < 8 → axis_test rs p a ≡ true
  unfolding place_test
  axis_tested p a h b =
      let links = and_right (root_test rs p) _ (and_right (leb (state_at rs p) 2) _ (and_right (index_test d (levels_at rs p)) _ (tested p h))) in
      (reads_all (axis_test rs p) (λ a. axis_test rs p a ≡ true) 8 (λ a h. reads_eq_true (axis_test rs p a))).sure links a b

  pub behind-place : (p a : ℕ) → p < length rs → a < 8 → 1 < level (levels_at rs p) a → backward_link rs p a < length rs
  unfolding axis_test backward_link_test backward_neighbour_test
  behind-place p a h b l = grind (arith, nat_tests, axis_tested p a h b, l)

  pub ahead_place : (p a : ℕ) → p < length rs → a < 8 → forward_link rs p a ≢ none → forward_link rs p a < length rs
  unfolding axis_test forward_link_test
  ahead_place p a h b n = grind (arith, nat_tests, axis_tested p a h b, n)
