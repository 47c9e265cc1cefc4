-- `area::store` meets its contract: the 27 cells that are written are those of the record, and the others stay. Assumes nothing.
use Rattle.std.proofs.Common.{rules, ◌≡◌, ◌+◌, ◌*◌, ◌-◌, length, arith}
use Rattle.std.proofs.lemmas.List.{length-set}
use Rattle.std.proofs.Math.ListN.{set}
use Rattle.std.proofs.Math.Seq.{sets, length-sets}
use Rattle.area.proofs.Records.{run_pieces}
use Rattle.area.proofs.Slices.{put_mid-sets}
use Rattle.area.proofs.store.Goals as goal

pub returns : goal.returns
returns c =
    let hl : length c.args.index.levels ≡ 8 = search rules in
    let hk : length c.args.index.links ≡ 16 = search rules in
    let at = c.args.place * 27 in
    let a : at + 8 - at ≡ length c.args.index.levels = omega (arith, hl) in
    let b : at + 27 - (at + 11) ≡ length c.args.index.links = omega (arith, hk) in
    rw (c.copy_from_slice.ensures.after, c.copy_from_slice-2.ensures.after, put_mid-sets c.args.cells.now at _ c.args.index.levels a (omega (arith, hl)), put_mid-sets (set (set (set (sets c.args.cells.now at c.args.index.levels) (at + 8) c.args.index.state) (at + 9) c.args.index.indicator) (at + 10) c.args.index.first) (at + 11) _ c.args.index.links b (simp (length-set, length-sets) (omega (arith, hk))))
    (run_pieces c.args.cells.now c.args.place c.args.index c.requires hl hk)
