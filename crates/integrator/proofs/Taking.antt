-- A chunk more: what was taken of the input stands at the front of the file.
use Rattle.std.proofs.Common.{◌≡◌, ℕ, ◌+◌, ◌≤◌, List, length, take, sym, ap, subst, ◌∙◌}
use Rattle.std.proofs.Math.Seq.{paste}
use Rattle.std.proofs.lemmas.List.Edits.{take-paste}
use Rattle.std.specs.Prelude.{Option}
use Rattle.std.specs.Io.KnownBytes.{Consumes}
use Rattle.std.proofs.KnownBytes.{Consumes-trans}

pub taken_more : (a b c : Option (List ℕ)) (file chunk after : List ℕ) (at n : ℕ) → at ≤ length file → n ≤ length chunk → after ≡ paste file at chunk n
    → Consumes a b (take at file) → Consumes b c (take n chunk) → Consumes a c (take (at + n) after)
taken_more a b c file chunk after at n room within is before more =
    subst (Consumes a c) (sym (ap (take (at + n)) is ∙ take-paste file at chunk n room within)) (Consumes-trans a b c _ _ before more)
