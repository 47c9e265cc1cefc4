-- Bytes taken from a place on are the list's there, and so are the numbers that they say.
-- Assumes nothing.
use mathlib.Core.Path.{◌≡◌, refl, ap, ap₂, ◌∙◌}
use mathlib.Core.List.{List}
use Prim.Native.Nat.{ℕ, ◌+◌, ◌*◌, ◌^◌, ◌<◌, ◌≤◌}
use native.Mathlib.Omega.{arith}
use lib.ListN.{take, drop}
use mir.Syntax.{w32, w64}
use Rattle.std.specs.Int.{from_le_bytes}
use Rattle.std.proofs.lemmas.List.{get_or-take, get_or-drop}
use Rattle.jobfile.specs.Bytes.{byte, four, eight}

-- the library's numbers at the front of a list
four_front : (xs : List ℕ) → from_le_bytes w32 xs ≡ four xs 0
unfolding four
four_front xs = refl

worths : (xs : List ℕ) → from_le_bytes w64 xs ≡ from_le_bytes w32 xs + byte xs 4 * 2 ^ 32 + byte xs 5 * 2 ^ 40 + byte xs 6 * 2 ^ 48 + byte xs 7 * 2 ^ 56
worths xs = refl

upper : (xs : List ℕ) → four xs 4 ≡ byte xs 4 + byte xs 5 * 2 ^ 8 + byte xs 6 * 2 ^ 16 + byte xs 7 * 2 ^ 24
unfolding four
upper xs = refl

eight_front : (xs : List ℕ) → from_le_bytes w64 xs ≡ eight xs 0
unfolding eight
eight_front xs = omega (arith, worths xs, four_front xs, upper xs)

module _ (c : List ℕ) (from n i : ℕ) where
  there : (k : ℕ) → i + k < n → byte (take n (drop from c)) (i + k) ≡ byte c (from + i + k)
  there k l = get_or-take n (drop from c) (i + k) 0 l ∙ get_or-drop from c (i + k) 0 ∙ ap (byte c) (omega arith)

  four_there : i + 4 ≤ n → four (take n (drop from c)) i ≡ four c (from + i)
  unfolding four
  four_there l =
      let first : byte (take n (drop from c)) i ≡ byte c (from + i) = get_or-take n (drop from c) i 0 (omega arith) ∙ get_or-drop from c i 0 in
      rw (first, there 1 (omega arith), there 2 (omega arith), there 3 (omega arith))

pub four_taken : (c : List ℕ) (from : ℕ) → from_le_bytes w32 (take 4 (drop from c)) ≡ four c from
four_taken c from = four_front (take 4 (drop from c)) ∙ four_there c from 4 0 (omega arith) ∙ ap (four c) (omega arith)

pub eight_taken : (c : List ℕ) (from : ℕ) → from_le_bytes w64 (take 8 (drop from c)) ≡ eight c from
unfolding eight
eight_taken c from =
    eight_front (take 8 (drop from c))
    ∙ ap₂ (λ a b. a + b * 2 ^ 32) (four_there c from 8 0 (omega arith) ∙ ap (four c) (omega arith)) (four_there c from 8 4 (omega arith))
