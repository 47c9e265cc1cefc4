-- `jobfile::table_form` meets its contract: the entries passed count `before` readings, and the test of those left answers as that of all.
-- Assumes nothing.
use mathlib.Core.Path.{refl, sym, ap, ◌∙◌}
use Prim.Native.Nat.{◌+◌, ◌-◌}
use native.Mathlib.Omega.{arith}
use Rattle.std.specs.Prelude.{Err}
use Rattle.std.proofs.lemmas.Result.{err_from_is_err_and}
use Rattle.jobfile.specs.Form.{table_form, table_in}
use Rattle.jobfile.proofs.TableForm.{one_more, none_left, nothing_before, answered}
use Rattle.jobfile.proofs.table_form.Goals as goal

pub loop-i-init : goal.loop-i-init
loop-i-init c = (omega arith, nothing_before c.args.bytes.now, λ next. ap (λ n. table_form c.args.bytes.now n 0 0 next) (omega arith))

pub returns-in_err-before : goal.returns-in_err-before
unfolding table_in
returns-in_err-before c next =
    let l = c.loop-i in
    let bytes = c.args.bytes.now in
    let n = c.args.entries in
    let p = err_from_is_err_and c.from_residual.result c.from_residual.ensures.1 in
    ap (λ r. table_in r next) p.1
    ∙ ap (λ b. table_in (Err b) next) p.2
    ∙ c.in_err-before.ensures (λ total. table_form bytes (n - (l.i + 1)) (l.i + 1) total next)
    ∙ sym (one_more bytes n l.i l.before next (omega arith))
    ∙ sym (l.invariant.2 next)

pub loop-i-preserved : goal.loop-i-preserved
unfolding table_in
loop-i-preserved c =
    let l = c.loop-i in
    let bytes = c.args.bytes.now in
    let n = c.args.entries in
    let goes = c.in_ok-before.ensures in
    let a = answered bytes 1 l.i (l.i + 1) l.before c.in_ok-before.before refl l.invariant.1 l.invariant.0 goes in (
      a.small,
      a.is,
      λ next.
          l.invariant.2 next
          ∙ one_more bytes n l.i l.before next (omega arith)
          ∙ sym (goes (λ total. table_form bytes (n - (l.i + 1)) (l.i + 1) total next)),
    )

pub returns : goal.returns
unfolding table_in
returns c next =
    let l = c.loop-i in
    sym (l.invariant.2 next ∙ none_left c.args.bytes.now c.args.entries l.i l.before next (omega arith))
