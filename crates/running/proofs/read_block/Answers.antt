-- `running::read_block` meets its contract: the readings passed are in the block, and what lies past them is as it was. Assumes nothing.
use Rattle.std.proofs.Common.{◌≡◌, refl, ap, ap₂, length, drop, ◌++◌, ◌∙◌, ◌+◌, ◌*◌, arith}
use borrow.Author.Rules.{sfits_of}
use mir.Syntax.{w32}
use mir.Val.{to_z, of_z}
use mir.Facts.{to_z-of_z}
use Rattle.std.proofs.Math.ListN.{set}
use Rattle.jobfile.specs.Bytes.{signed_four}
use Rattle.jobfile.specs.File.{readings_at}
use Rattle.running.proofs.Blocks.{block_next, whole_block}
use Rattle.running.proofs.read_block.Goals as goal

pub loop-n-init : goal.loop-n-init
unfolding readings_at
loop-n-init c = refl

pub loop-n-preserved : goal.loop-n-preserved
loop-n-preserved c =
    let a = c.args in
    let l = c.loop-n in
    let v : to_z w32 (of_z w32 c.signed_at.result) ≡ signed_four a.bytes.now (a.from + 4 * l.n) = to_z-of_z {w = w32} {z = c.signed_at.result} (sfits_of c.signed_at.type_inv) ∙ c.signed_at.ensures in
    ap₂ (λ b x. set b l.n x) l.invariant v ∙ block_next a.bytes.now a.from l.n a.block.now (omega arith)

pub returns : goal.returns
returns c =
    let all : c.loop-n.n ≡ length c.args.block.now = omega arith in
    c.loop-n.invariant ∙ ap (λ n. readings_at c.args.bytes.now n c.args.from ++ drop n c.args.block.now) all ∙ whole_block c.args.bytes.now c.args.from c.args.block.now
