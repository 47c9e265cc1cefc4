-- `quadrature::largest_difference` meets its contract: the largest of the places passed is kept. Assumes nothing.
use borrow.Author.Rules.{sfits_of}
use Rattle.std.proofs.Common.{◌≡◌, sym, ap, ◌∙◌, arith}
use Rattle.std.specs.Prelude.{nat_abs}
use mir.Syntax.{w64}
use mir.Val.{to_z, of_z}
use Rattle.sums.proofs.Words.{back}
use Rattle.quadrature.proofs.Largest.{largest_from, largest_end, largest_new, largest_kept}
use Rattle.quadrature.proofs.largest_difference.Goals as goal

pub loop-place-init : goal.loop-place-init
loop-place-init c = (omega arith, sym (largest_end c.args.held c.args.records.now c.args.store.now))

pub loop-place-preserved-then-takes_over : goal.loop-place-preserved-then-takes_over
loop-place-preserved-then-takes_over c =
    let l = c.loop-place in
    let d = c.delivered_difference-difference in
    let e = back d.result (sfits_of d.type_inv) in (
      omega (arith, ap nat_abs e, d.ensures.small),
      largest_new c.args.held c.args.records.now c.args.store.now c.requires.room l.place (omega arith) (omega arith)
          (to_z w64 l.largest-bits) (to_z w64 (of_z w64 d.result)) c.unsigned_abs-so_far.result c.unsigned_abs-here.result l.invariant.1 (e ∙ d.ensures.is)
          c.unsigned_abs-so_far.ensures.value c.unsigned_abs-here.ensures.value (omega arith),
    )

pub loop-place-preserved : goal.loop-place-preserved
loop-place-preserved c =
    let l = c.loop-place in
    let d = c.delivered_difference-difference in
    let e = back d.result (sfits_of d.type_inv) in (
      l.invariant.0,
      largest_kept c.args.held c.args.records.now c.args.store.now c.requires.room l.place (omega arith) (omega arith)
          (to_z w64 l.largest-bits) (to_z w64 (of_z w64 d.result)) c.unsigned_abs-so_far.result c.unsigned_abs-here.result l.invariant.1 (e ∙ d.ensures.is)
          c.unsigned_abs-so_far.ensures.value c.unsigned_abs-here.ensures.value (omega arith),
    )

pub returns : goal.returns
returns c =
    let s = c.args in
    let l = c.loop-place in
    let done : l.place ≡ 0 = omega arith in
    record {
      is = l.invariant.1 ∙ ap (largest_from s.held s.records.now s.store.now) done;
      small = l.invariant.0;
    }
