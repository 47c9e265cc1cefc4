-- `jobfile::entry_form` meets its contract: the tests in byte order. Assumes nothing.
use mathlib.Core.Path.{sym, ap, ◌∙◌}
use Prim.Native.Nat.{◌+◌, ◌*◌}
use native.Mathlib.Omega.{arith}
use Rattle.jobfile.specs.Form.{form_in, table_in}
use Rattle.jobfile.proofs.TableForm.{entry_cut, entry-none, entry_many, entry-short, entry_offset, entry_kept}
use Rattle.jobfile.proofs.entry_form.Goals as goal
use Rattle.jobfile.proofs.entry_form.Goals.{then-count-lt1-via-then-count-lt1, then-count-lt1-via-else-count-lt1+then-many}

pub returns-then-size-from : goal.returns-then-size-from
unfolding form_in table_in
returns-then-size-from c next = sym (entry_cut c.args.bytes.now c.args.i c.args.before next c.if-size-from.true)

pub returns-then-count-lt1 : goal.returns-then-count-lt1
unfolding form_in table_in
returns-then-count-lt1 c next =
    elim c.then-count-lt1.branch [
      | then-count-lt1-via-then-count-lt1 w ↦
          sym (entry-none c.args.bytes.now c.args.i c.args.before next (omega arith) (omega (arith, w.if-count-lt1.true)))
      | then-count-lt1-via-else-count-lt1+then-many w ↦
          sym (entry_many c.args.bytes.now c.args.i c.args.before next (omega arith) (omega (arith, w.if-many.true)))
    ]

pub returns-then-size-from-2 : goal.returns-then-size-from-2
unfolding form_in table_in
returns-then-size-from-2 c next = sym (entry-short c.args.bytes.now c.args.i c.args.before next (omega arith) (omega arith) (omega arith) c.if-size-from-2.true)

pub returns-then-four_at-first : goal.returns-then-four_at-first
unfolding form_in table_in
returns-then-four_at-first c next =
    let first = ap (λ n. 24 + 12 * n + 4 * c.args.before) c.requires.0 in
    sym (entry_offset c.args.bytes.now c.args.i c.args.before next (omega arith) (omega arith) (omega arith) (omega arith) (λ e. c.if-four_at-first.true (c.four_at.ensures ∙ e ∙ sym first)))

pub returns : goal.returns
unfolding form_in table_in
returns c next =
    let first = ap (λ n. 24 + 12 * n + 4 * c.args.before) c.requires.0 in
    ap (λ k. next (c.args.before + k)) c.four_at-count.ensures
    ∙ sym (entry_kept c.args.bytes.now c.args.i c.args.before next (omega arith) (omega arith) (omega arith) (omega arith) (sym c.four_at.ensures ∙ c.if-four_at-first.false ∙ first))
