-- Fig. 1 of the source, "The basic dimension-adaptive algorithm", line by line over an integrand and its error indicators.
-- The scope document and its requests depart from it, and five departures are marked below:
--   mean: a rule is divided by the length of its interval, so r is the integral divided by 2^d, and it is taken times 2^20;
--   ceilings: no index past them comes into 𝒜;
--   level 1: along an axis at level 1 there is no backward neighbour, and none is asked for;
--   tie: among equal indicators the index that came into 𝒜 first is selected;
--   carried: a variable of its own keeps the indicators of the indices of 𝒪 with a forward neighbour past a ceiling. No line of Fig. 1 reads it:
--     the loop's test, the selection and r are those of the source, and it only decides how a run that the test ends is called, met or capped.
-- Besides, the indicator of an index comes with its block and is not worked out from Δ, and a run may end early, *spent*: the budget bounds
-- the readings, and 512 the held. And (request No. 4) the index of a turn may be given, in place of the selected one: `turn_at`, `led`.
use Rattle.std.specs.Prelude.{Bool, true, cond, ◌&&◌, List, [], ◌∷◌, ◌++◌, ℕ, zero, suc, ◌+◌, ◌-◌, ◌^◌, ltb, leb, eqb, ℤ, pos, ◌+ℤ◌, ◌*ℤ◌}
use Rattle.rule.specs.Rules.{difference_rule}
use Rattle.grid.specs.Index.{level, within, root, forward, backward, at_ceiling}
use Rattle.grid.specs.Difference.{units}
use Rattle.grid.specs.Coefficient.{same_levels, is_in}
use Rattle.grid.specs.Terms.{tensor_product}
use Rattle.soundness.specs.Test.{all_from}

-- What is integrated: d axes, the tolerance TOL, the integrand on points, and the error indicator of each index. A point is the list of
-- its positions along eight axes, those beyond d at the centre.
pub record Problem : Type 0 where
  pub axes : ℕ
  pub tolerance : ℕ
  pub integrand : List ℕ → ℤ
  pub indicator : List ℕ → ℕ

-- Δ_k f, the integral increment (Δ_{k1} ⊗ … ⊗ Δ_{k8}) f, times 2^20: along each axis the rule of its level minus the rule of the level
-- below, the later axes inside. Axes beyond d stand at level 1, whose rule is the value at the centre. From level 2 up the rule is the
-- trapezoidal rule divided by 2, its interval's length (`IncrementFacts.source`, specs/Increments.antt). The tensor product is in units of 2^−(units k).
unfoldable pub increment : Problem → List ℕ → ℤ
increment P k = pos (2 ^ (20 - units k)) *ℤ tensor_product difference_rule k P.integrand

-- The variables of Fig. 1.
pub record Figure : Type 0 where
  -- 𝒪, the old index set
  pub old : List (List ℕ)
  -- 𝒜, the active index set, in the order in which its indices came in
  pub active : List (List ℕ)
  -- r, the computed integral value
  pub result : ℤ
  -- η, the global error estimate
  pub estimate : ℕ
  -- *carried*
  pub carried : ℕ

-- i := (1,…,1); 𝒪 := ∅; 𝒜 := {i}; r := Δ_i f; η := g_i; *carried*: nothing yet
unfoldable pub initial : Problem → Figure
initial P = record { old = []; active = root ∷ []; result = increment P root; estimate = P.indicator root; carried = 0 }

-- while (η > TOL)
unfoldable pub loop_condition : Problem → Figure → Bool
loop_condition P s = ltb P.tolerance s.estimate

-- select i from 𝒜 with largest g_i; *tie*: the first that has it
unfoldable pub largest_of : (List ℕ → ℕ) → List (List ℕ) → ℕ
largest_of g [] = 0
largest_of g (k ∷ ks) = cond (leb (largest_of g ks) (g k)) (g k) (largest_of g ks)

unfoldable pub first_with : (List ℕ → ℕ) → ℕ → List (List ℕ) → List ℕ
first_with g i [] = []
first_with g i (k ∷ ks) = cond (eqb (g k) i) k (first_with g i ks)

unfoldable pub select : Problem → Figure → List ℕ
select P s = first_with P.indicator (largest_of P.indicator s.active) s.active

-- 𝒜 ∖ {i}
unfoldable pub without : List (List ℕ) → List ℕ → List (List ℕ)
without [] i = []
without (k ∷ ks) i = cond (same_levels k i) (without ks i) (k ∷ without ks i)

-- 𝒜 := 𝒜 ∖ {i}; 𝒪 := 𝒪 ∪ {i}; η := η − g_i; *carried*: raised by g_i if i has a forward neighbour past a ceiling
unfoldable pub moved : Problem → List ℕ → Figure → Figure
moved P i s =
    record {
      old = s.old ++ i ∷ [];
      active = without s.active i;
      result = s.result;
      estimate = s.estimate - P.indicator i;
      carried = s.carried + cond (at_ceiling P.axes i) (P.indicator i) 0;
    }

-- if j − e_q ∈ 𝒪 for all q = 1,…,d; *level 1*: none is asked for there; *ceilings*: j is within them
unfoldable pub admissible : Problem → Figure → List ℕ → Bool
admissible P s j = within j && all_from P.axes 0 (λ q. cond (leb (level j q) 1) true (is_in s.old (backward j q)))

-- 𝒜 := 𝒜 ∪ {j}; s := Δ_j f; r := r + s; η := η + g_j
unfoldable pub joined : Problem → List ℕ → Figure → Figure
joined P j s =
    record {
      old = s.old;
      active = s.active ++ j ∷ [];
      result = s.result +ℤ increment P j;
      estimate = s.estimate + P.indicator j;
      carried = s.carried;
    }

-- for k := 1,…,d do j := i + e_k: n axes from k on, axis 1 being 0
unfoldable pub scanned : Problem → List ℕ → (n k : ℕ) → Figure → Figure
scanned P i zero k s = s
scanned P i (suc n) k s = scanned P i n (k + 1) (cond (admissible P s (forward i k)) (joined P (forward i k) s) s)

-- The loop's body with the index i given, whatever selected it: the move, and then the scan.
unfoldable pub turn_at : Problem → List ℕ → Figure → Figure
turn_at P i s = scanned P i P.axes 0 (moved P i s)

-- One turn of the loop: the body at the index that Fig. 1 selects. It has a meaning where the loop's test holds, and then 𝒜 is not empty.
unfoldable pub turn : Problem → Figure → Figure
turn P s = turn_at P (select P s) s

-- The variables after n turns.
unfoldable pub turns : Problem → ℕ → Figure
turns P zero = initial P
turns P (suc n) = turn P (turns P n)

-- ---- led by a list of indices

-- The body at each index of a list in turn, in place of the selections, and whatever the loop's test says.
unfoldable pub led_from : Problem → Figure → List (List ℕ) → Figure
led_from P s [] = s
led_from P s (i ∷ is) = led_from P (turn_at P i s) is

-- The variables of Fig. 1 *led* by a list of indices, from the lines before the loop on.
unfoldable pub led : Problem → List (List ℕ) → Figure
led P is = led_from P (initial P) is

-- What Fig. 1 itself selects in n turns. Led by this list it makes its own turns (`PublishedFacts.led-by-itself`).
unfoldable pub selections : Problem → ℕ → List (List ℕ)
selections P zero = []
selections P (suc n) = selections P n ++ select P (turns P n) ∷ []
