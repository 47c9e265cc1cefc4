-- The largest delivered difference by places.
-- The idea: the delivered indices stand in the order of their places, so the first of them that has the largest difference is that of the lowest
-- delivered place that has it.
-- Assumes nothing.
use mathlib.Core.Path.{◌≡◌, refl, sym, ap, ◌∙◌, subst}
use mathlib.Core.Bool.{Bool, true, false, cond}
use mathlib.Core.List.Memᴰ
use mathlib.Core.List.{List, [], ◌∷◌, Memᴰ}
use Prim.Native.Nat.{ℕ, zero, suc, ◌^◌, ◌<◌, ◌≤◌}
use native.Mathlib.Nat.{le_trans, le_of_eq}
use native.Mathlib.Decide.{dec_lt}
use native.Mathlib.Omega.{arith}
use borrow.Author.Tests.{leb-true, leb-false, le-leb}
use lib.Dec.{leb}
use lib.IntN.{pos, nat_abs}
use lib.ListN.{length, get_or}
use Rattle.grid.specs.Difference.{scaled_difference}
use Rattle.grid.specs.Largest.{largest_difference, FirstLargest}
use Rattle.grid.proofs.Facts.{difference_facts}
use Rattle.grid.proofs.Largest.{largest-facts}
use Rattle.area.specs.Entry.{Entry, delivered_of, reading_in}
use Rattle.area.specs.Log.{Machine}
use Rattle.encoding.specs.Entries.{entry_at, SoundMachine}
use Rattle.machine.specs.Largest.{largest_of, DeliveredAt, scaled_difference_at, LowestLargest, LargestDelivered}
use Rattle.machine.proofs.Ranges.{in_range_lem}

-- ---- places and the list of the delivered

member : (es : List Entry) (p : ℕ) → DeliveredAt es p → Memᴰ (entry_at es p).levels (delivered_of es)
unfolding delivered_of
member [] p x = absurd (omega (arith, x.inside))
member (e ∷ es) zero x = rw (le-leb 1 e.state x.delivered) (Memᴰ.head refl)
member (e ∷ es) (suc p) x = by (leb 1 e.state) (member es p (record { inside = omega (arith, x.inside); delivered = x.delivered }))
  where
    by : (t : Bool) → Memᴰ (entry_at es p).levels (delivered_of es) → Memᴰ (entry_at es p).levels (cond t (e.levels ∷ delivered_of es) (delivered_of es))
    by true m = Memᴰ.tail m
    by false m = m

-- the place of the i-th of js, which are the delivered; every lower delivered place has an earlier one
record PlaceOf (es : List Entry) (js : List (List ℕ)) (i : ℕ) : Type 0 where
  place : ℕ
  there : DeliveredAt es place
  levels : (entry_at es place).levels ≡ get_or js i []
  lower : (q : ℕ) → q < place → DeliveredAt es q → (n : ℕ) × (n < i) × ((entry_at es q).levels ≡ get_or js n [])

module _ (e : Entry) (es : List Entry) where
  up : {p : ℕ} → DeliveredAt es p → DeliveredAt (e ∷ es) (suc p)
  up x = record { inside = omega (arith, x.inside); delivered = x.delivered }

  down : {p : ℕ} → DeliveredAt (e ∷ es) (suc p) → DeliveredAt es p
  down x = record { inside = omega (arith, x.inside); delivered = x.delivered }

  -- behind a wanted entry
  behind-wanted : (js : List (List ℕ)) (i : ℕ) → leb 1 e.state ≡ false → PlaceOf es js i → PlaceOf (e ∷ es) js i
  behind-wanted js i wanted x = record { place = suc x.place; there = up x.there; levels = x.levels; lower = lower }
    where
      lower : (q : ℕ) → q < suc x.place → DeliveredAt (e ∷ es) q → (n : ℕ) × (n < i) × ((entry_at (e ∷ es) q).levels ≡ get_or js n [])
      lower zero h y = absurd (omega (arith, leb-false 1 e.state wanted, y.delivered))
      lower (suc q) h y = x.lower q (omega arith) (down y)

  -- a delivered entry is the first
  front : (js : List (List ℕ)) → leb 1 e.state ≡ true → PlaceOf (e ∷ es) (e.levels ∷ js) 0
  front js d = record { place = 0; there = record { inside = omega arith; delivered = leb-true 1 e.state d }; levels = refl; lower = λ q h y. absurd (omega arith) }

  -- and the others come after it
  behind-delivered : (js : List (List ℕ)) (i : ℕ) → PlaceOf es js i → PlaceOf (e ∷ es) (e.levels ∷ js) (suc i)
  behind-delivered js i x = record { place = suc x.place; there = up x.there; levels = x.levels; lower = lower }
    where
      lower : (q : ℕ) → q < suc x.place → DeliveredAt (e ∷ es) q → (n : ℕ) × (n < suc i) × ((entry_at (e ∷ es) q).levels ≡ get_or (e.levels ∷ js) n [])
      lower zero h y = (0, omega arith, refl)
      lower (suc q) h y = let z = x.lower q (omega arith) (down y) in (suc z.0, omega (arith, z.1), z.2)

place_of_lem : (es : List Entry) (i : ℕ) → i < length (delivered_of es) → PlaceOf es (delivered_of es) i
unfolding delivered_of
place_of_lem [] i h = absurd (omega arith)
place_of_lem (e ∷ es) i h = by (leb 1 e.state) refl (place_of_lem es) i h
  where
    by : (t : Bool) → leb 1 e.state ≡ t → ((n : ℕ) → n < length (delivered_of es) → PlaceOf es (delivered_of es) n)
        → (i : ℕ) → i < length (cond t (e.levels ∷ delivered_of es) (delivered_of es)) → PlaceOf (e ∷ es) (cond t (e.levels ∷ delivered_of es) (delivered_of es)) i
    by true d later zero h = front e es (delivered_of es) d
    by true d later (suc i) h = behind-delivered e es (delivered_of es) i (later i (omega (arith, h)))
    by false d later i h = behind-wanted e es (delivered_of es) i d (later i h)

some : (J : List (List ℕ)) (k : List ℕ) → Memᴰ k J → 0 < length J
some [] k m = absurd (Memᴰ.not-nil m)
some (j ∷ js) k m = omega arith

-- ---- the facts

module _ (es : List Entry) where
  no_larger : (p : ℕ) → DeliveredAt es p → nat_abs (scaled_difference_at es p) ≤ nat_abs (largest_of es)
  unfolding largest_of
  no_larger p x = largest-facts.no_larger (delivered_of es) (reading_in es) (entry_at es p).levels (member es p x)

  -- the place of the first of the list that has it
  lowest_of : 0 < length (delivered_of es) → LowestLargest es
  unfolding largest_of
  lowest_of h =
      record {
        place = at.place;
        there = at.there;
        has = ap (λ k. scaled_difference k (reading_in es)) at.levels ∙ first.has;
        lower = λ q l y.
            let z = at.lower q l y in
            subst (λ k. nat_abs (scaled_difference k (reading_in es)) < nat_abs (largest_difference (delivered_of es) (reading_in es))) (sym z.2) (first.before z.0 z.1);
      }
    where
      first : FirstLargest (delivered_of es) (reading_in es)
      first = largest-facts.first (delivered_of es) (reading_in es) h

      at : PlaceOf es (delivered_of es) first.place
      at = place_of_lem es first.place first.inside

  lowest : (p : ℕ) → DeliveredAt es p → LowestLargest es
  lowest p x = lowest_of (some (delivered_of es) (entry_at es p).levels (member es p x))

  none_of : (0 < length (delivered_of es) → ⊥) → largest_of es ≡ pos 0
  unfolding largest_of
  none_of f = empty (delivered_of es) f
    where
      empty : (J : List (List ℕ)) → (0 < length J → ⊥) → largest_difference J (reading_in es) ≡ pos 0
      empty [] f = unfold largest_difference in refl
      empty (k ∷ ks) f = absurd (f (omega arith))

  -- the list of the delivered is empty if no place is delivered
  pub none-delivered : ((p : ℕ) → DeliveredAt es p → ⊥) → 0 < length (delivered_of es) → ⊥
  none-delivered f h = f (place_of_lem es 0 h).place (place_of_lem es 0 h).there

  none : ((p : ℕ) → DeliveredAt es p → ⊥) → largest_of es ≡ pos 0
  none f = none_of (none-delivered f)

small : (m : Machine) → SoundMachine m → nat_abs (largest_of m.log.entries) ≤ 2 ^ 40
small m sound = by (dec_lt 0 (length (delivered_of es)))
  where
    es : List Entry
    es = m.log.entries

    by : Dec (0 < length (delivered_of es)) → nat_abs (largest_of es) ≤ 2 ^ 40
    by (yes h) =
        let x = lowest_of es h in
        let i = sound.index x.place x.there.inside in
        le_trans (le_of_eq (sym (ap nat_abs x.has)))
        (difference_facts.difference_size (entry_at es x.place).levels (reading_in es) i.eight i.ceilings (in_range_lem sound x.place x.there.inside x.there.delivered))
    by (no f) = le_trans (le_of_eq (ap nat_abs (none_of es f))) (omega arith)

pub largest-delivered : LargestDelivered
largest-delivered = record { no_larger = no_larger; lowest = lowest; none = none; small = small }
