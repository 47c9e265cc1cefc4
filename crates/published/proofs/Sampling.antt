-- Whatever readings sound entries have, they are an integrand's.
-- The idea: a point's positions tell the block in which it is new and its rank there, so the integrand takes the reading of that block at
-- that rank.
-- Assumes nothing.
use mathlib.Core.Path.{◌≡◌, refl, sym, ap, ap₂, ◌∙◌, subst}
use mathlib.Core.Logic.{◌≢◌, ◌⊎◌, inl, inr}
use mathlib.Core.Bool.{true, false}
use mathlib.Core.List.{List, [], ◌∷◌, map}
use Prim.Native.Nat.{ℕ, zero, suc, ◌<◌, ◌≤◌}
use native.Mathlib.Decide.{dec_lt}
use native.Mathlib.Omega.{arith}
use lib.IntN.{ℤ, pos}
use lib.ListN.{length, get_or, length-map, get_or-eq_default}
use lib.Seq.{ext_get_or}
use Rattle.rule.specs.Points.{level_of}
use Rattle.grid.specs.Index.{levels_within}
use Rattle.grid.specs.Block.{block, block_size, point_of, rank_in}
use Rattle.grid.specs.Coefficient.{same_levels}
use Rattle.grid.specs.Terms.{IsReading}
use Rattle.grid.proofs.Levels.{levels_back, within_levels}
use Rattle.grid.proofs.Members.{same_refl, same_or}
use Rattle.grid.proofs.Facts.{block-facts}
use Rattle.area.specs.declared.Settings.{Settings}
use Rattle.area.specs.Settings.{reading_count}
use Rattle.area.proofs.Readings.{reading_facts}
use Rattle.area.specs.Entry.{Entry, readings_of, reading_in}
use Rattle.area.specs.Log.{Machine}
use Rattle.encoding.specs.Entries.{entry_at, Has, SoundMachine}
use Rattle.published.specs.Figure.{Problem}
use Rattle.published.specs.Turns.{ReadingValued}
use Rattle.published.specs.Sums.{SampledFrom}
use Rattle.published.proofs.Increments.{value_at, readings_at_lem}

-- ---- the readings of any index: none, or those of an entry that has it

abbrev Found : List Entry → List ℕ → Type 0
Found es k = (p : ℕ) × Has es k p × (readings_of es k ≡ (entry_at es p).readings)

abbrev Absent : List Entry → List ℕ → Type 0
Absent es k = ((p : ℕ) → Has es k p → ⊥) × (readings_of es k ≡ [])

found_or : (es : List Entry) (k : List ℕ) → Found es k ⊎ Absent es k
unfolding readings_of
found_or [] k = inr (λ p h. omega (arith, h.place), refl)
found_or (e ∷ es) k = step (same_or e.levels k) (found_or es k)
  where
    here : e.levels ≡ k → Found (e ∷ es) k
    here i = (0, record { place = omega arith; same = i }, rw (sym i, same_refl e.levels))

    none : (e.levels ≢ k) → ((p : ℕ) → Has es k p → ⊥) → (p : ℕ) → Has (e ∷ es) k p → ⊥
    none n f zero h = n h.same
    none n f (suc p) h = f p (record { place = omega (arith, h.place); same = h.same })

    step : (e.levels ≡ k) ⊎ ((e.levels ≢ k) × (same_levels e.levels k ≡ false)) → Found es k ⊎ Absent es k → Found (e ∷ es) k ⊎ Absent (e ∷ es) k
    step (inl i) r = inl (here i)
    step (inr n) (inl x) = inl (suc x.0, record { place = omega (arith, x.1.place); same = x.1.same }, rw n.1 x.2)
    step (inr n) (inr x) = inr (none n.0 x.0, rw n.1 x.1)

-- ---- the integrand

-- the reading of the point's own block at its rank there
taken : List Entry → List ℕ → ℤ
taken es x = reading_in es (map level_of x) (rank_in (map level_of x) x)

zero_small : (x : ℤ) → x ≡ pos 0 → IsReading x
zero_small x e = subst IsReading (sym e) (omega arith)

module _ {m : Machine} (v : SoundMachine m) where
  abbrev g : Settings
  g = m.log.settings

  abbrev es : List Entry
  es = m.log.entries

  -- a wanted entry has no readings and a delivered one none past its block, and there the value is 0; the others are in range
  entry_small : (p n : ℕ) → p < length es → IsReading (get_or (entry_at es p).readings n (pos 0))
  entry_small p n h = step (dec_lt 0 (entry_at es p).state) (dec_lt n (reading_count g (entry_at es p).levels))
    where
      step : Dec (0 < (entry_at es p).state) → Dec (n < reading_count g (entry_at es p).levels) → IsReading (get_or (entry_at es p).readings n (pos 0))
      step (no s) q = zero_small _ (ap (λ rs. get_or rs n (pos 0)) (v.wanted_empty p h (omega arith)))
      step (yes s) (no q) = zero_small _ (get_or-eq_default (entry_at es p).readings (pos 0) (omega (arith, v.whole p h s)))
      step (yes s) (yes q) = v.readings p n h s q

  reading_small : (k : List ℕ) (n : ℕ) → IsReading (reading_in es k n)
  unfolding reading_in
  reading_small k n = step (found_or es k)
    where
      step : Found es k ⊎ Absent es k → IsReading (get_or (readings_of es k) n (pos 0))
      step (inl x) = subst (λ rs. IsReading (get_or rs n (pos 0))) (sym x.2) (entry_small x.0 n x.1.place)
      step (inr x) = zero_small _ (ap (λ rs. get_or rs n (pos 0)) x.1)

  module _ (p : ℕ) (inside : p < length es) (delivered : 1 ≤ (entry_at es p).state) where
    abbrev k : List ℕ
    k = (entry_at es p).levels

    levels : levels_within k ≡ true
    levels = levels_back k (within_levels k (v.index p inside).ceilings)

    taken_at : (n : ℕ) → n < block_size k → taken es (point_of k n) ≡ get_or (entry_at es p).readings n (pos 0)
    unfolding taken reading_in
    taken_at n h =
        ap (λ l. get_or (readings_of es l) (rank_in l (point_of k n)) (pos 0)) (block-facts.levels k (point_of k n) levels (block-facts.new k n levels h))
        ∙ ap₂ (λ rs i. get_or rs i (pos 0)) (readings_at_lem es p v.different inside) (block-facts.rank_of_point k n levels h)

    taken_all : (entry_at es p).readings ≡ map (taken es) (block k)
    taken_all =
        ext_get_or (pos 0) (entry_at es p).readings (map (taken es) (block k)) same_length (λ n h. sym (value n (omega (arith, full))))
      where
        full : length (entry_at es p).readings ≡ block_size k
        full = v.whole p inside delivered ∙ reading_facts.single g k

        same_length : length (entry_at es p).readings ≡ length (map (taken es) (block k))
        same_length = full ∙ sym (block-facts.size k) ∙ sym (length-map (block k) (taken es))

        value : (n : ℕ) → n < block_size k → get_or (map (taken es) (block k)) n (pos 0) ≡ get_or (entry_at es p).readings n (pos 0)
        value n h = value_at (taken es) (block k) n (omega (arith, block-facts.size k)) ∙ ap (taken es) (block-facts.nth k n h) ∙ taken_at n h

  -- its tolerance and indicators say nothing of the readings
  pub sampling : (P : Problem) × (P.axes ≡ g.axes) × ReadingValued P × SampledFrom P es
  unfolding taken
  sampling = (
    record { axes = g.axes; tolerance = 0; integrand = taken es; indicator = λ k. 0 },
    refl,
    λ x. reading_small (map level_of x) (rank_in (map level_of x) x),
    taken_all,
  )
