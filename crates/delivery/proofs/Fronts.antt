-- What is laid over a part of a buffer, or over its front.
-- Assumes nothing.
use mathlib.Core.Path.{◌≡◌, refl, ap, sym, ◌∙◌}
use mathlib.Core.List.{List, ◌++◌}
use Prim.Native.Nat.{ℕ, ◌+◌, ◌≤◌}
use native.Mathlib.Nat.{zero-add}
use native.Mathlib.Omega.{arith}
use lib.ListN.{length, take, drop}
use lib.Seq.{sets, sets-eq, take_all, length-take-le}
use borrow.Rule.Slice.PartMut.{put_mid}
use Rattle.std.proofs.lemmas.Slice.{put_mid-paste}

-- what a slice of a list becomes when other elements are copied over it
pub laid_over : {A : Type 0} (l xs ys : List A) (i k : ℕ) → ys ≡ xs → k ≡ length xs → i + length xs ≤ length l → put_mid i k l ys ≡ sets l i xs
laid_over l xs ys i k same size room =
    put_mid-paste i k l ys xs (length xs) same (sym size) refl
    ∙ ap (λ zs. take i l ++ zs ++ drop (i + length xs) l) (take_all (length xs) xs (omega arith))
    ∙ sym (sets-eq xs l i room)

-- bytes that have room
pub front_all : (buffer bytes : List ℕ) → length bytes ≤ length buffer → sets buffer 0 bytes ≡ bytes ++ drop (length bytes) buffer
front_all buffer bytes room = sets-eq bytes buffer 0 (omega (arith, room)) ∙ ap (λ n. bytes ++ drop n buffer) (zero-add (length bytes))

-- the first d of a list
pub front : (buffer p : List ℕ) (d : ℕ) → d ≤ length p → d ≤ length buffer → sets buffer 0 (take d p) ≡ take d p ++ drop d buffer
front buffer p d there room =
    let e : length (take d p) ≡ d = length-take-le d p there in
    front_all buffer (take d p) (omega (arith, e, room)) ∙ ap (λ n. take d p ++ drop n buffer) e
