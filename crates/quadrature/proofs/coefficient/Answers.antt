-- `quadrature::coefficient` meets its contract: the masks passed have given their terms, and the masks of the job's axes are all.
-- Assumes nothing.
use borrow.Author.Rules.{sfits_of}
use Rattle.std.proofs.Common.{◌≡◌, ◌≤◌, ◌^◌, ℕ, refl, sym, ap, ◌∙◌, arith}
use Rattle.std.specs.Prelude.{nat_abs}
use lib.Pow.{pow_mono}
use mir.Syntax.{w64}
use mir.Val.{to_z}
use Rattle.sums.specs.Sums.{sum_to}
use Rattle.quadrature.specs.Readings.{record_at}
use Rattle.quadrature.proofs.Running.{running_fits, running_next}
use Rattle.quadrature.proofs.Subsets.{term_size, coefficient_masks}
use Rattle.quadrature.proofs.coefficient.Invariants.{term}
use Rattle.quadrature.proofs.coefficient.Goals as goal

all : (axes : ℕ) → axes ≤ 8 → 2 ^ axes ≤ 256
all axes h = pow_mono {i = axes} {j = 8} h

pub loop-mask-init : goal.loop-mask-init
loop-mask-init c = (omega (arith, all c.args.axes c.requires.0.axes), omega arith, unfold sum_to in refl)

-- the term that was returned is of size at most 1
size : (c : goal.After-subset_term-sum) → nat_abs c.subset_term-sum.result ≤ 1
size c =
    let rs = c.args.held.now in
    omega (arith, ap nat_abs c.subset_term-sum.ensures, term_size rs (record_at rs c.args.place).levels c.loop-mask.mask)

pub overflow_add-sum : goal.overflow_add-sum
overflow_add-sum c =
    let l = c.loop-mask in
    running_fits 1 (term c.args.held.now c.args.place) l.mask (to_z w64 l.sum-bits) c.subset_term-sum.result
    (omega (arith, all c.args.axes c.requires.0.axes)) l.invariant.1 l.invariant.2 (size c) (sfits_of c.subset_term-sum.type_inv) c.subset_term-sum.ensures

pub loop-mask-preserved : goal.loop-mask-preserved
loop-mask-preserved c =
    let l = c.loop-mask in
    let next =
    running_next 1 (term c.args.held.now c.args.place) l.mask (to_z w64 l.sum-bits) c.subset_term-sum.result
    (omega (arith, all c.args.axes c.requires.0.axes)) l.invariant.1 l.invariant.2 (size c) (sfits_of c.subset_term-sum.type_inv) c.subset_term-sum.ensures in
    (l.invariant.0, next.0, next.1)

pub returns : goal.returns
returns c =
    let l = c.loop-mask in
    let done : l.mask ≡ 2 ^ c.args.axes = omega (arith, l.invariant.0) in record {
      is = l.invariant.2 ∙ ap (λ n. sum_to n (term c.args.held.now c.args.place)) done ∙ sym (coefficient_masks c.requires.0 c.args.place c.requires.1);
      small = omega (arith, l.invariant.1, all c.args.axes c.requires.0.axes);
    }
