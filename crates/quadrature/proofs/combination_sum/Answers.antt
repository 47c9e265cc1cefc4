-- `quadrature::combination_sum` meets its contract: the places passed have added coefficient times full tensor rule.
-- Assumes nothing.
use borrow.Author.Rules.{sfits_of}
use Rattle.std.proofs.Common.{◌≡◌, ◌≤◌, ◌*◌, ◌^◌, length, take, refl, sym, ap, ◌∙◌, subst, arith}
use Rattle.std.specs.Prelude.{nat_abs}
use mir.Syntax.{w64}
use mir.Val.{to_z}
use Rattle.sums.specs.Sums.{sum_to}
use Rattle.quadrature.specs.Linked.{delivered_in}
use Rattle.quadrature.proofs.Running.{running_next}
use Rattle.quadrature.proofs.Totals.{cross_places, cross_size}
use Rattle.quadrature.proofs.combination_sum.Invariants.{term}
use Rattle.quadrature.proofs.combination_sum.Goals as goal

pub loop-place-init : goal.loop-place-init
loop-place-init c = (omega arith, unfold sum_to in refl)

pub loop-place-preserved : goal.loop-place-preserved
loop-place-preserved c =
    let l = c.loop-place in
    let r = c.combined_rule-total in
    running_next (2 ^ 48) (term c.args.records.now c.args.held c.args.store.now) l.place (to_z w64 l.total-bits) r.result
    (omega (arith, c.requires.0.few)) l.invariant.0 l.invariant.1 r.ensures.small (sfits_of r.type_inv) r.ensures.is

pub returns : goal.returns
returns c =
    let l = c.loop-place in
    let rs = c.args.records.now in
    let done : l.place ≡ c.args.held = omega arith in
    let e = l.invariant.1 ∙ ap (λ n. sum_to n (term rs c.args.held c.args.store.now)) done ∙ sym (cross_places c.args.held rs c.args.store.now c.requires.0.room) in
    record {
      is = e;
      small = subst (λ x. nat_abs x ≤ length (delivered_in (take c.args.held rs)) * 2 ^ 48) (sym e) (cross_size c.args.axes c.args.held rs c.args.store.now c.requires.0);
    }
