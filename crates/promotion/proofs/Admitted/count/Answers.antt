-- `promotion::Admitted::count` meets its contract: as many axes are marked as there are marks. Assumes nothing.
use borrow.Author.Rules.{rules}
use mathlib.Core.Path.{◌≡◌, sym, ap, ◌∙◌}
use native.Mathlib.Omega.{arith}
use lib.ListN.{length, take}
use Rattle.std.proofs.Common.{count_by, length-take}
use Rattle.std.proofs.lemmas.List.Sums.{count_by-le-length}
use Rattle.promotion.specs.Marks.{Neighbours}
use Rattle.promotion.proofs.Marks.{marked_count}
use Rattle.promotion.proofs.Admitted.count.Goals as goal

pub returns : goal.returns
returns c =
    let s = c.self.inside in
    let counted : c.count.result ≡ count_by (λ b. b) (take s.axes s.marks) = search rules in (
      counted ∙ sym (marked_count s.marks s.axes (search rules)) ∙ ap (λ (n : Neighbours). length n.along) c.self.view_is,
      omega (arith, counted, count_by-le-length (λ b. b) (take s.axes s.marks), length-take s.axes s.marks, c.self.invariant.few),
    )
