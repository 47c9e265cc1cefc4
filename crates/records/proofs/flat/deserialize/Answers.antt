-- `records::flat::deserialize` meets its contract: each turn writes one record more. Assumes nothing.
use mathlib.Core.Path.{◌≡◌, ap, sym, ◌∙◌}
use native.Mathlib.Omega.{arith}
use Prim.Native.Nat.{ℕ}
use lib.ListN.{length}
use Rattle.records.specs.Lent.{over}
use Rattle.records.proofs.Overs.{over_none, over_all, deserialize_next}
use Rattle.records.proofs.flat.deserialize.Goals as goal

pub loop-place-init : goal.loop-place-init
loop-place-init c = sym (over_none c.args.held.now c.args.records.now)

pub loop-place-preserved : goal.loop-place-preserved
loop-place-preserved c =
    let l = c.loop-place in
    deserialize_next c.args.held.now c.args.records.now l.records l.place c.record.result (omega arith) c.requires l.invariant c.record.ensures

pub returns : goal.returns
returns c =
    let l = c.loop-place in
    let done : l.place ≡ length c.args.records.now = omega arith in
    l.invariant ∙ ap (λ (k : ℕ). over k c.args.held.now c.args.records.now) done ∙ over_all c.args.held.now c.args.records.now c.requires
