-- `checking::Tested::indicator_sum` meets its contract: the places so far that pass the test have added their indicators. Assumes nothing.
use mathlib.Core.Path.{refl, sym, ap, ◌∙◌}
use mathlib.Core.Bool.{cond}
use Prim.Native.Nat.{ℕ}
use native.Mathlib.Omega.{arith}
use Rattle.sums.specs.Sums.{nat_sum_to}
use Rattle.quadrature.specs.Readings.{record_at}
use Rattle.checking.proofs.Sums.{sum_next}
use Rattle.checking.proofs.Tested.indicator_sum.Goals.{then-passes, else-passes}
use Rattle.checking.proofs.Tested.indicator_sum.Goals as goal

pub loop-place-init : goal.loop-place-init
loop-place-init g c = record { small = omega arith; so_far = λ test h. unfold nat_sum_to in refl }

pub loop-place-preserved : goal.loop-place-preserved
loop-place-preserved g c =
    let l = c.loop-place in
    let indicator : ℕ → ℕ = λ p. (record_at c.args.self.now.held.now p).indicator in
    elim c.if-passes.branch [
      | then-passes w ↦ record {
        small = omega (arith, w.sum-is);
        so_far = λ test h.
            let added = ap (λ b. cond b (indicator l.place) 0) (sym (h l.place c.passes.result (omega arith) c.passes.ensures) ∙ w.if-passes.true) in
            omega (arith, w.sum-is, w.indicator.ensures, l.invariant.so_far test h, added, sum_next l.place (λ p. cond (test p) (indicator p) 0));
      }
      | else-passes w ↦ record {
        small = omega (arith, w.sum-is);
        so_far = λ test h.
            let added = ap (λ b. cond b (indicator l.place) 0) (sym (h l.place c.passes.result (omega arith) c.passes.ensures) ∙ w.if-passes.false) in
            omega (arith, w.sum-is, l.invariant.so_far test h, added, sum_next l.place (λ p. cond (test p) (indicator p) 0));
      }
    ]

pub returns : goal.returns
returns g c =
    let l = c.loop-place in
    λ test h. l.invariant.so_far test h ∙ ap (λ n. nat_sum_to n (λ p. cond (test p) (record_at c.args.self.now.held.now p).indicator 0)) (omega arith)
