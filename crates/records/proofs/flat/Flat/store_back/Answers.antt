-- `records::flat::Flat::store_back` meets its contract: the records past those stored stay. Assumes nothing.
use borrow.Author.Rules.{rules}
use mathlib.Core.Path.{◌≡◌, ap, ◌∙◌}
use mathlib.Core.List.{List, ◌++◌}
use native.Mathlib.Omega.{arith}
use Prim.Native.Nat.{ℕ}
use lib.ListN.{length, drop}
use lib.Seq.{length-take-le}
use Rattle.area.specs.declared.IndexRecord.{IndexRecord}
use Rattle.area.specs.Records.{records_of, held_in}
use Rattle.area.proofs.Records.{length-records_of}
use Rattle.records.specs.Lent.{over}
use Rattle.records.proofs.flat.Flat.store_back.Goals as goal

pub deserialize-requires : goal.deserialize-requires
unfolding held_in
deserialize-requires c =
    let flat = c.args.self.now in
    let words : length c.args.self.now.words ≡ 13824 = search rules in
    let few = c.requires.0 in
    let held = ap (λ (l : List IndexRecord). length l) c.first-held.ensures ∙ length-take-le c.min-n.result (records_of flat.words) (omega (arith, words, few, length-records_of flat.words)) in
    omega (arith, held, length-take-le c.min-n.result c.args.records.now (omega arith))

pub returns : goal.returns
unfolding over held_in
returns c =
    let rs = c.args.records.now in
    ap (λ (l : List IndexRecord). l ++ drop c.min-n.result rs) (c.deserialize.ensures ∙ c.first-held.ensures) ∙ ap (λ (k : ℕ). over k (records_of c.args.self.now.words) rs) c.min-n.ensures
