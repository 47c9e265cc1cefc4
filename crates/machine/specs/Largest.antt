-- The largest delivered difference of a list of entries (report of doubles), worked out from the readings: no area records it.
use Rattle.std.specs.Prelude.{◌≡◌, List, ℕ, ◌^◌, ◌<◌, ◌≤◌, ℤ, pos, nat_abs, length}
use Rattle.grid.specs.Difference.{scaled_difference}
use Rattle.grid.specs.Largest.{largest_difference}
use Rattle.area.specs.Entry.{Entry, delivered_of, reading_in}
use Rattle.area.specs.Log.{Machine}
use Rattle.encoding.specs.Entries.{entry_at, SoundMachine}

-- The *largest delivered difference*, times 2^20: the largest in size, with its sign, of the lowest place among equals.
unfoldable pub largest_of : List Entry → ℤ
largest_of es = largest_difference (delivered_of es) (reading_in es)

-- The place p is that of a delivered index.
pub record DeliveredAt (es : List Entry) (p : ℕ) : Type 0 where
  pub inside : p < length es
  pub delivered : 1 ≤ (entry_at es p).state

-- The difference of the index at a place, times 2^20.
abbrev pub scaled_difference_at : List Entry → ℕ → ℤ
scaled_difference_at es p = scaled_difference (entry_at es p).levels (reading_in es)

-- The delivered place that has the largest difference; no lower one has a difference of that size.
pub record LowestLargest (es : List Entry) : Type 0 where
  pub place : ℕ
  pub there : DeliveredAt es place
  pub has : scaled_difference_at es place ≡ largest_of es
  pub lower : (q : ℕ) → q < place → DeliveredAt es q → nat_abs (scaled_difference_at es q) < nat_abs (largest_of es)

pub record LargestDelivered : Type 0 where
  -- no delivered difference is larger in size
  pub no_larger : (es : List Entry) (p : ℕ) → DeliveredAt es p → nat_abs (scaled_difference_at es p) ≤ nat_abs (largest_of es)
  -- if something is delivered, a delivered place has it, and no lower one has one of that size
  pub lowest : (es : List Entry) (p : ℕ) → DeliveredAt es p → LowestLargest es
  -- with nothing delivered it is 0
  pub none : (es : List Entry) → ((p : ℕ) → DeliveredAt es p → ⊥) → largest_of es ≡ pos 0
  -- and of sound entries at most 2^40 in size
  pub small : (m : Machine) → SoundMachine m → nat_abs (largest_of m.log.entries) ≤ 2 ^ 40
