-- Records read from cells are well-formed: 27 cells hold eight levels and sixteen links.
-- Assumes nothing.
use mathlib.Core.Path.{◌≡◌, sym, subst}
use mathlib.Core.List.{List}
use Prim.Native.Nat.{ℕ, ◌+◌, ◌*◌, ◌≤◌}
use native.Mathlib.Omega.{arith}
use lib.IntN.{ℤ}
use lib.ListN.{length, length-take}
use lib.Seq.{get_or-take}
use Rattle.area.specs.declared.IndexRecord.{IndexRecord}
use Rattle.area.specs.declared.JobRecord.{JobRecord}
use Rattle.area.specs.Records.{records_of, blank}
use Rattle.area.specs.Encoding.{area_of, held_of}
use Rattle.area.proofs.Records.{length-records_of, eight_levels, sixteen_links}
use Rattle.encoding.specs.Encodes.{WellFormed}

pub cells_well_formed : (c : List ℕ) → WellFormed (records_of c)
cells_well_formed c p h =
    let room : p * 27 + 27 ≤ length c = omega (arith, length-records_of c) in
    (eight_levels c p room, sixteen_links c p room)

pub held_well_formed : (j : JobRecord) (c : List ℕ) (s : List ℤ) → WellFormed (held_of (area_of j c s))
held_well_formed j c s p h =
    let l = length-take j.held (records_of c) in
    let e = get_or-take j.held (records_of c) p blank (omega (arith, l, h)) in
    subst (λ (r : IndexRecord). (length r.levels ≡ 8) × (length r.links ≡ 16)) (sym e) (cells_well_formed c p (omega (arith, l, h)))
