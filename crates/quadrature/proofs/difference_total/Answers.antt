-- `quadrature::difference_total` meets its contract: the places passed have added their differences. Assumes nothing.
use borrow.Author.Rules.{sfits_of}
use Rattle.std.proofs.Common.{◌≡◌, ◌≤◌, ◌*◌, ◌^◌, length, take, refl, sym, ap, ◌∙◌, subst, arith}
use Rattle.std.specs.Prelude.{nat_abs}
use mir.Syntax.{w64}
use mir.Val.{to_z}
use Rattle.sums.specs.Sums.{sum_to}
use Rattle.quadrature.specs.Linked.{delivered_in}
use Rattle.quadrature.specs.Parts.{delivered_difference}
use Rattle.quadrature.proofs.Running.{running_next}
use Rattle.quadrature.proofs.Totals.{mean_places, mean_size}
use Rattle.quadrature.proofs.difference_total.Goals as goal

pub loop-place-init : goal.loop-place-init
loop-place-init c = (omega arith, unfold sum_to in refl)

pub loop-place-preserved : goal.loop-place-preserved
loop-place-preserved c =
    let l = c.loop-place in
    let d = c.delivered_difference-total in
    running_next (2 ^ 40) (delivered_difference c.args.records.now c.args.store.now) l.place (to_z w64 l.total-bits) d.result
    (omega (arith, c.requires.few)) l.invariant.0 l.invariant.1 d.ensures.small (sfits_of d.type_inv) d.ensures.is

pub returns : goal.returns
returns c =
    let l = c.loop-place in
    let rs = c.args.records.now in
    let done : l.place ≡ c.args.held = omega arith in
    let e = l.invariant.1 ∙ ap (λ n. sum_to n (delivered_difference rs c.args.store.now)) done ∙ sym (mean_places c.args.held rs c.args.store.now c.requires.room) in
    record {
      is = e;
      small = subst (λ x. nat_abs x ≤ length (delivered_in (take c.args.held rs)) * 2 ^ 40) (sym e) (mean_size c.args.axes c.args.held rs c.args.store.now c.requires);
    }
