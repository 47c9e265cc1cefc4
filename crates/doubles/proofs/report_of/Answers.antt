-- `doubles::report_of` meets its contract, by those of its parts. A signed number that is passed on is read back from its bits, and is itself, since
-- it fits. Assumes nothing.
use mathlib.Core.Path.{◌≡◌, ap, ◌∙◌}
use Prim.Native.Nat.{◌^◌}
use lib.IntN.{ℤ}
use lib.Ieee.{Float}
use mir.Syntax.{w64}
use mir.ValLaws.{to_z-of_z}
use Rattle.doubles.specs.declared.Report.{Report}
use Rattle.doubles.specs.Double.{double, report_of}
use Rattle.doubles.proofs.report_of.Goals as goal

same : (a b c x y z : Float) → a ≡ x → b ≡ y → c ≡ z → ◌≡◌ {A = Report} (record { mean = a; pending = b; largest = c }) (record { mean = x; pending = y; largest = z })
same a b c x y z e f g = ap (λ (u : Float). record { mean = u; pending = b; largest = c }) e ∙ ap (λ (u : Float). record { mean = x; pending = u; largest = c }) f ∙ ap (λ (u : Float). record { mean = x; pending = y; largest = u }) g

pub returns : goal.returns
unfolding report_of
returns c =
    let mean = c.unscaled in
    let pending = c.whole in
    let largest = c.unscaled-2 in
    same mean.result pending.result largest.result _ _ _
    (mean.ensures ∙ ap (λ (z : ℤ). double z (2 ^ 20)) (to_z-of_z w64 c.args.mean c.ranges.mean))
    pending.ensures
    (largest.ensures ∙ ap (λ (z : ℤ). double z (2 ^ 20)) (to_z-of_z w64 c.args.largest c.ranges.largest))
