-- The mean at any moment is the sum of the increments over the delivered indices.
-- The idea: a delivered index has a place, there its difference is the increment, and a sum goes by its summands.
-- Assumes nothing.
use mathlib.Core.Path.{◌≡◌, refl, sym, subst}
use mathlib.Core.Logic.{⊎_elim}
use mathlib.Core.Bool.{Bool, true, false, cond}
use mathlib.Core.List.Memᴰ
use mathlib.Core.List.{List, [], ◌∷◌, Memᴰ}
use Prim.Native.Nat.{ℕ, suc, ◌≤◌}
use native.Mathlib.Omega.{arith}
use borrow.Author.Tests.{leb-true}
use lib.Dec.{leb}
use Rattle.sums.specs.Sums.{sum_of}
use Rattle.sums.proofs.Sums.{sum_of_cong_in}
use Rattle.grid.specs.Index.{Index}
use Rattle.grid.specs.Difference.{scaled_difference, scaled_mean}
use Rattle.grid.specs.Terms.{Agree, sampled}
use Rattle.area.specs.Entry.{Entry, delivered_of, reading_in}
use Rattle.area.specs.Log.{Machine}
use Rattle.encoding.specs.Entries.{entry_at, Has, SoundMachine}
use Rattle.machine.specs.Means.{mean_of}
use Rattle.published.specs.Figure.{Problem, increment}
use Rattle.published.specs.Sums.{SampledFrom, SumFacts}
use Rattle.published.proofs.Increments.{agrees, increment_is}
use Rattle.published.proofs.Sampling.{sampling}

-- a place that has the index, delivered
abbrev Delivered : List Entry → List ℕ → Type 0
Delivered es k = (p : ℕ) × Has es k p × (1 ≤ (entry_at es p).state)

delivered-place : (es : List Entry) (k : List ℕ) → Memᴰ k (delivered_of es) → Delivered es k
unfolding delivered_of
delivered-place [] k m = absurd (Memᴰ.not-nil m)
delivered-place (e ∷ es) k m = step (leb 1 e.state) refl m (delivered-place es k)
  where
    later : Delivered es k → Delivered (e ∷ es) k
    later x = (suc x.0, record { place = omega (arith, x.1.place); same = x.1.same }, x.2)

    step : (t : Bool) → leb 1 e.state ≡ t → Memᴰ k (cond t (e.levels ∷ delivered_of es) (delivered_of es)) → (Memᴰ k (delivered_of es) → Delivered es k)
        → Delivered (e ∷ es) k
    step true i m ih =
        ⊎_elim (λ q. (0, record { place = omega arith; same = sym q }, leb-true 1 e.state i)) (λ q. later (ih q)) (Memᴰ.cases_cons m)
    step false i m ih = later (ih m)

module _ {m : Machine} (v : SoundMachine m) where
  abbrev es : List Entry
  es = m.log.entries

  index : (k : List ℕ) → Memᴰ k (delivered_of es) → Index m.log.settings.axes k
  index k n =
      let x = delivered-place es k n in
      subst (Index m.log.settings.axes) x.1.same (v.index x.0 x.1.place)

  module _ (P : Problem) (read : SampledFrom P es) where
    agree : (k : List ℕ) → Memᴰ k (delivered_of es) → Agree k (reading_in es) (sampled P.integrand)
    agree k n =
        let x = delivered-place es k n in
        agrees P v read k x.0 x.1 x.2 (index k n)

    difference : (k : List ℕ) → Memᴰ k (delivered_of es) → scaled_difference k (reading_in es) ≡ increment P k
    difference k n =
        let x = delivered-place es k n in
        increment_is P v read k x.0 x.1 x.2 (index k n)

    sum : mean_of es ≡ sum_of (delivered_of es) (increment P)
    unfolding mean_of scaled_mean
    sum = sum_of_cong_in (delivered_of es) (λ k. scaled_difference k (reading_in es)) (increment P) difference

pub sum_facts : SumFacts
sum_facts =
    record {
      index = λ m v. index v;
      agree = λ m P v read. agree v P read;
      difference = λ m P v read. difference v P read;
      sum = λ m P v read. sum v P read;
      some = λ m v. sampling v;
    }
