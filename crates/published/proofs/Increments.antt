-- The difference of a delivered index, over entries that have the integrand's readings, is the integral increment of Fig. 1; and this is the
-- source's, over the trapezoidal rule, with d levels as with eight.
-- The idea: the difference takes only readings of blocks nowhere higher. These are all delivered, so they are the integrand's values at
-- the blocks' points.
-- Assumes nothing.
use mathlib.Core.Path.{◌≡◌, refl, sym, ap, ap₂, ◌∙◌}
use mathlib.Core.Logic.{◌⊎◌, inl, inr}
use mathlib.Core.List.{List, [], ◌∷◌, map}
use Prim.Native.Nat.{ℕ, zero, suc, ◌-◌, ◌^◌, ◌<◌, ◌≤◌}
use native.Mathlib.Omega.{arith}
use lib.IntN.{ℤ, pos, ◌*ℤ◌}
use lib.ListN.{length, get_or, take}
use Rattle.grid.specs.Index.{Within, Index}
use Rattle.grid.specs.Block.{block, block_size, point_of}
use Rattle.grid.specs.Difference.{units, scaled_difference}
use Rattle.grid.specs.Terms.{Agree, tensor_product, sampled, pad}
use Rattle.grid.specs.Trapezoidal.{trapezoidal_difference}
use Rattle.grid.proofs.Levels.{levels_back, within_levels}
use Rattle.grid.proofs.Members.{same_refl}
use Rattle.grid.proofs.Facts.{block-facts, difference_facts, level-one-facts, trapezoidal-facts}
use Rattle.area.specs.Entry.{Entry, readings_of, reading_in}
use Rattle.area.specs.Log.{Machine}
use Rattle.encoding.specs.Entries.{entry_at, Has, EnteredOld, SoundMachine}
use Rattle.machine.proofs.Sets.{Different}
use Rattle.published.specs.Figure.{Problem, increment}
use Rattle.published.specs.Increments.{on_axes, IncrementFacts}
use Rattle.published.proofs.MakesOld.{same_no}
use Rattle.published.proofs.Below.{entered_below}

-- ---- the values at a block's points

pub value_at : (f : List ℕ → ℤ) (xs : List (List ℕ)) (n : ℕ) → n < length xs → get_or (map f xs) n (pos 0) ≡ f (get_or xs n [])
value_at f [] n h = absurd (omega arith)
value_at f (x ∷ xs) zero h = refl
value_at f (x ∷ xs) (suc n) h = value_at f xs n (omega arith)

block_value : (f : List ℕ → ℤ) (l : List ℕ) (n : ℕ) → n < block_size l → get_or (map f (block l)) n (pos 0) ≡ f (point_of l n)
block_value f l n h = value_at f (block l) n (omega (arith, block-facts.size l)) ∙ ap f (block-facts.nth l n h)

-- ---- the increment is the scaled difference of the integrand's values

module _ (P : Problem) where
  increment-sampled : (k : List ℕ) → Within k → scaled_difference k (sampled P.integrand) ≡ increment P k
  unfolding scaled_difference increment
  increment-sampled k w =
      ap (λ x. pos (2 ^ (20 - units k)) *ℤ x) (difference_facts.difference_sampled k P.integrand (levels_back k (within_levels k w)))

  source : (k : List ℕ) → P.axes ≤ 8 → Index P.axes k
      → pos (256 ^ P.axes) *ℤ increment P k
      ≡ pos (2 ^ 20) *ℤ tensor_product trapezoidal_difference (take P.axes k) (on_axes (8 - P.axes) P).integrand
  unfolding on_axes
  source k b v =
      ap (λ x. pos (256 ^ P.axes) *ℤ x) (sym (increment-sampled k v.ceilings))
      ∙ trapezoidal-facts.job_axes P.axes k (sampled P.integrand) P.integrand b v (λ l n h q. refl)

  source_eight : (k : List ℕ) → length k ≡ 8 → Within k
      → pos (256 ^ 8) *ℤ increment P k ≡ pos (2 ^ 20) *ℤ tensor_product trapezoidal_difference k P.integrand
  source_eight k e w =
      ap (λ x. pos (256 ^ 8) *ℤ x) (sym (increment-sampled k w))
      ∙ trapezoidal-facts.eight_axes k (sampled P.integrand) P.integrand e w (λ l n h q. refl)

  same : (k : List ℕ) (m : ℕ) → increment P (pad m k) ≡ increment (on_axes m P) k
  unfolding increment on_axes
  same k m =
      ap₂ (λ u x. pos (2 ^ (20 - u)) *ℤ x) (level-one-facts.units_same k m) (level-one-facts.product_same k m P.integrand)

pub increment-facts : IncrementFacts
increment-facts = record { source = source; source_eight = source_eight; same = same }

-- ---- the readings of an entered index

pub readings_at_lem : (es : List Entry) (p : ℕ) → Different es → p < length es → readings_of es (entry_at es p).levels ≡ (entry_at es p).readings
unfolding readings_of
readings_at_lem [] p u h = absurd (omega arith)
readings_at_lem (e ∷ es) zero u h = rw (same_refl e.levels)
readings_at_lem (e ∷ es) (suc p) u h =
    rw (same_no e.levels (entry_at es p).levels (λ i. let z : 0 ≡ suc p = u 0 (suc p) (omega arith) h i in omega arith))
    (readings_at_lem es p (λ q r hq hr i. let z : suc q ≡ suc r = u (suc q) (suc r) (omega arith) (omega arith) i in omega arith) (omega arith))

module _ (P : Problem) {m : Machine} (v : SoundMachine m)
    (given : (p : ℕ) → p < length m.log.entries → 1 ≤ (entry_at m.log.entries p).state
    → (entry_at m.log.entries p).readings ≡ map P.integrand (block (entry_at m.log.entries p).levels)) where
  abbrev es : List Entry
  es = m.log.entries

  abbrev f : List ℕ → ℤ
  f = P.integrand

  reading_at : (l : List ℕ) (p n : ℕ) → Has es l p → 1 ≤ (entry_at es p).state → n < block_size l → reading_in es l n ≡ sampled f l n
  unfolding reading_in sampled
  reading_at l p n h s q =
      ap (λ k. get_or (readings_of es k) n (pos 0)) (sym h.same)
      ∙ ap (λ rs. get_or rs n (pos 0)) (readings_at_lem es p v.different h.place)
      ∙ ap (λ rs. get_or rs n (pos 0)) (given p h.place s)
      ∙ ap (λ k. get_or (map f (block k)) n (pos 0)) h.same
      ∙ block_value f l n q

  module _ (k : List ℕ) (p : ℕ) (at : Has es k p) (delivered : 1 ≤ (entry_at es p).state) (index : Index m.log.settings.axes k) where
    pub agrees : Agree k (reading_in es) (sampled f)
    agrees l n w q = step (entered_below v k l (p, at) w)
      where
        step : (l ≡ k) ⊎ EnteredOld es l → reading_in es l n ≡ sampled f l n
        step (inl e) = reading_at l p n (record { place = at.place; same = at.same ∙ sym e }) delivered q
        step (inr o) = reading_at l o.0 n o.1 (omega (arith, o.2)) q

    pub increment_is : scaled_difference k (reading_in es) ≡ increment P k
    increment_is = difference_facts.difference_only k (reading_in es) (sampled f) agrees ∙ increment-sampled P k index.ceilings
