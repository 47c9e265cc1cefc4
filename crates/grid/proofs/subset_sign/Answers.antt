-- `grid::subset_sign` meets its contract: the sign of the marks left, turned where the marks passed are odd in number, is the
-- whole sign. Assumes nothing.
use Rattle.std.proofs.Common.{◌≡◌, ◌+◌, ◌-◌, ◌/◌, ◌^◌, ◌≤◌, ℕ, Bool, true, false, sym, ap, ◌∙◌, arith}
use Rattle.std.specs.Prelude.{pos}
use Rattle.grid.specs.Coefficient.{sign, marks}
use Rattle.grid.proofs.LoopSteps.{turned, sign_start, sign_in, sign_out, sign-done}
use Rattle.grid.proofs.subset_sign.Goals as goal
use Rattle.grid.proofs.subset_sign.Goals.{then-mask-axis-eq1, else-mask-axis-eq1}

pub loop-axis-init : goal.loop-axis-init
loop-axis-init c = sign_start c.args.mask

pub loop-axis-preserved : goal.loop-axis-preserved
loop-axis-preserved c =
    let m = c.args.mask in
    let l = c.loop-axis in
    let rest = sign (marks (8 - (l.axis + 1)) (m / 2 ^ (l.axis + 1))) in
    elim c.if-mask-axis-eq1.branch [
      | then-mask-axis-eq1 w ↦ l.invariant ∙ sign_in m l.axis l.odd (omega arith) w.if-mask-axis-eq1.true ∙ ap (λ t. turned t rest) (sym w.odd-is)
      | else-mask-axis-eq1 w ↦ l.invariant ∙ sign_out m l.axis l.odd (omega arith) w.if-mask-axis-eq1.false ∙ ap (λ t. turned t rest) (sym w.odd-is)
    ]

-- the whole sign, once every axis is passed
whole : (m a : ℕ) (odd t : Bool) → 8 ≤ a → odd ≡ t → sign (marks 8 m) ≡ turned odd (sign (marks (8 - a) (m / 2 ^ a))) → turned t (pos 1) ≡ sign (marks 8 m)
whole m a odd t h e i = sym (i ∙ sign-done m a odd h ∙ ap (λ x. turned x (pos 1)) e)

pub returns-then-odd : goal.returns-then-odd
unfolding turned
returns-then-odd c =
    let l = c.loop-axis in
    whole c.args.mask l.axis l.odd true (omega arith) c.if-odd.true l.invariant

pub returns-else-odd : goal.returns-else-odd
unfolding turned
returns-else-odd c =
    let l = c.loop-axis in
    whole c.args.mask l.axis l.odd false (omega arith) c.if-odd.false l.invariant
