-- A read into the part of a buffer from `at` on: what was taken of the input stands at the front of the buffer.
use Rattle.std.proofs.Common.{◌≡◌, ℕ, ◌+◌, ◌≤◌, List, ◌++◌, length, take, sym, ap, subst, ◌∙◌, le_refl, length-take-le}
use Rattle.std.proofs.lemmas.List.{drop_at, take-append-le}
use Rattle.std.proofs.lemmas.Slice.{take-put_mid_below}
use Rattle.std.proofs.Math.Seq.{take-add}
use borrow.Rule.Slice.PartMut.{put_mid, post_of}
use Rattle.std.specs.Prelude.{Option, drop}
use Rattle.std.specs.Io.KnownBytes.{Consumes}
use Rattle.std.proofs.KnownBytes.{Consumes-trans}

-- The front of a buffer after a write to its part: what stood before the part, and the front of the part.
take_part : (at k n : ℕ) (buffer part : List ℕ) → at ≤ length buffer → n ≤ length part → take (at + n) (put_mid at k buffer part) ≡ take at buffer ++ take n part
take_part at k n buffer part room within =
    let after = post_of at k buffer in
    let front = take-put_mid_below at k buffer part at (le_refl at) room in
    let back = ap (take n) (drop_at (take at buffer) (part ++ after) at (length-take-le at buffer room)) ∙ take-append-le n part after within in
    take-add at n (put_mid at k buffer part) ∙ ap (λ l. l ++ take n (drop at (put_mid at k buffer part))) front ∙ ap (λ l. take at buffer ++ l) back

pub taken_more : (a b c : Option (List ℕ)) (at k n : ℕ) (buffer part : List ℕ) → at ≤ length buffer → n ≤ length part → Consumes a b (take at buffer) → Consumes b c (take n part)
    → Consumes a c (take (at + n) (put_mid at k buffer part))
taken_more a b c at k n buffer part room within before more = subst (Consumes a c) (sym (take_part at k n buffer part room within)) (Consumes-trans a b c _ _ before more)
