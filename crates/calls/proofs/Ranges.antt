-- Readings in range, as a list and by number.
-- Assumes nothing.
use mathlib.Core.Path.{◌≡◌, refl}
use mathlib.Core.Bool.{true}
use mathlib.Core.List.{List, [], ◌∷◌}
use Prim.Native.Nat.{ℕ, zero, suc, ◌<◌}
use native.Mathlib.Omega.{arith}
use lib.IntN.{ℤ, pos, nat_abs}
use lib.ListN.{length, get_or}
use Rattle.grid.specs.Terms.{IsReading}
use Rattle.soundness.specs.Sound.{Exactly}
use Rattle.soundness.specs.Test.{all_from}
use Rattle.soundness.specs.Totals.{reading_test}
use Rattle.soundness.proofs.Exactly.{same_answer, reads_as, reads_and, reads_le, reads_all}
use Rattle.machine.specs.Causes.{in_range}

reads_range : (xs : List ℤ) → Exactly (in_range xs) ((n : ℕ) → n < length xs → IsReading (get_or xs n (pos 0)))
unfolding in_range
reads_range [] = record { sure = λ e n h. absurd (omega arith); back = λ f. refl }
reads_range (x ∷ xs) =
    reads_as there (λ f. (f 0 (omega arith), λ n h. f (suc n) (omega arith))) (reads_and _ _ (reads_le (nat_abs x) 1048576) (reads_range xs))
  where
    there : IsReading x × ((n : ℕ) → n < length xs → IsReading (get_or xs n (pos 0))) → (n : ℕ) → n < suc (length xs) → IsReading (get_or (x ∷ xs) n (pos 0))
    there y zero h = y.0
    there y (suc n) h = y.1 n (omega arith)

pub readings_range : (xs : List ℤ) → in_range xs ≡ true → (n : ℕ) → n < length xs → IsReading (get_or xs n (pos 0))
readings_range xs e = (reads_range xs).sure e

pub all_readings : (xs : List ℤ) → all_from (length xs) 0 (reading_test xs) ≡ in_range xs
unfolding reading_test
all_readings xs =
    same_answer _ _ (reads_all (reading_test xs) (λ n. IsReading (get_or xs n (pos 0))) (length xs) (λ n h. reads_le (nat_abs (get_or xs n (pos 0))) 1048576)) (reads_range xs)
