-- `writing::name_back` meets its contract: the axes left name back what all of them would. Assumes nothing.
use mathlib.Core.Path.{◌≡◌, sym, ap, ◌∙◌}
use mathlib.Core.Logic.{⊎_elim}
use mathlib.Core.List.{List}
use Prim.Native.Nat.{ℕ, ◌+◌, ◌-◌}
use native.Mathlib.Omega.{arith}
use lib.ListN.{length, get_or, set}
use Rattle.area.specs.declared.IndexRecord.{IndexRecord}
use Rattle.area.specs.Records.{Run, records_of, run_of, stored}
use Rattle.area.specs.Encoding.{none}
use Rattle.area.proofs.Records.{length-records_of}
use Rattle.quadrature.specs.Readings.{record_at}
use Rattle.writing.specs.Changes.{with_forward_link, named_from}
use Rattle.writing.proofs.Linking.{named_none, named-one, named_end}
use Rattle.writing.proofs.name_back.Goals as goal
use Rattle.writing.proofs.name_back.Goals.{then-behind, else-behind}

-- a record written leaves the rest
records_are : (before after : List ℕ) (place : ℕ) (r : IndexRecord) → run_of after ≡ stored (run_of before) place r → records_of after ≡ set (records_of before) place r
records_are before after place r e = ap (λ (u : Run). u.records) e

rest_is : (before after : List ℕ) (place : ℕ) (r : IndexRecord) → run_of after ≡ stored (run_of before) place r → (run_of after).rest ≡ (run_of before).rest
rest_is before after place r e = ap (λ (u : Run). u.rest) e

pub link_forward-requires : goal.link_forward-requires
unfolding none
link_forward-requires c =
    let l = c.loop-axis in
    let here = ⊎_elim (λ e. absurd (c.if-behind.true e)) (λ h. h) (c.requires.1 l.axis (omega arith)) in
    (omega (arith, here, length-records_of c.args.cells.now, l.invariant.0), omega arith)

pub loop-axis-preserved : goal.loop-axis-preserved
unfolding none
loop-axis-preserved c =
    let l = c.loop-axis in
    let links = c.args.links in
    let behind = get_or links (8 + l.axis) 0 in
    let r = with_forward_link (record_at (records_of l.cells) behind) l.axis c.args.held in
    elim c.if-behind.branch [
      | then-behind w ↦ (
        ap length w.cells-is ∙ w.link_forward.auto.cells ∙ l.invariant.0,
        ap (λ x. (run_of x).rest) w.cells-is ∙ rest_is l.cells w.link_forward.new.cells behind r w.link_forward.ensures ∙ l.invariant.1,
        l.invariant.2 ∙ named-one l.axis links c.args.held (records_of l.cells) (omega arith) w.if-behind.true
            ∙ ap (named_from (8 - (l.axis + 1)) (l.axis + 1) links c.args.held) (sym (ap records_of w.cells-is ∙ records_are l.cells w.link_forward.new.cells behind r w.link_forward.ensures)),
      )
      | else-behind w ↦ (
        ap length w.cells-is ∙ l.invariant.0,
        ap (λ x. (run_of x).rest) w.cells-is ∙ l.invariant.1,
        l.invariant.2 ∙ named_none l.axis links c.args.held (records_of l.cells) (omega arith) w.if-behind.false
            ∙ ap (λ x. named_from (8 - (l.axis + 1)) (l.axis + 1) links c.args.held (records_of x)) (sym w.cells-is),
      )
    ]

pub returns : goal.returns
returns c =
    let l = c.loop-axis in
    let e = l.invariant.2 ∙ named_end l.axis c.args.links c.args.held (records_of l.cells) (omega arith) in
    λ i. record { records = sym e i; rest = l.invariant.1 i }
