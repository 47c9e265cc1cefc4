-- `doubles::unscaled` meets its contract. The machine reads z back from its bits, which is z, since z fits; and 1048576.0 is 2^20 once its bits are
-- read. Assumes nothing.
use mathlib.Core.Path.{◌≡◌, sym, subst}
use mathlib.Core.Bool.{false}
use Prim.Native.Nat.{◌^◌}
use native.Mathlib.Nat.{le_of_lt}
use lib.IntN.{ℤ, pos}
use lib.Ieee.{fin, binary64, of_bits, of_int, div}
use mir.Syntax.{w64}
use mir.ValLaws.{to_z-of_z}
use Rattle.doubles.specs.Double.{double}
use Rattle.doubles.proofs.Facts.{over_is}
use Rattle.doubles.proofs.unscaled.Goals as goal

pub returns : goal.returns
unfolding of_bits
returns c =
    let z = c.args.z in
    subst (λ (y : ℤ). div binary64 (of_int binary64 y) (fin false 1 (pos 20)) ≡ double z (2 ^ 20)) (sym (to_z-of_z w64 z c.ranges.z)) (over_is z 20 (le_of_lt c.requires))
