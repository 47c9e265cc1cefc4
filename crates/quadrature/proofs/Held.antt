-- The held records among the cells' records.
-- Assumes nothing.
use mathlib.Core.Path.{◌≡◌}
use mathlib.Core.List.{List}
use Prim.Native.Nat.{ℕ, ◌*◌, ◌≤◌, ◌<◌}
use native.Mathlib.Omega.{arith}
use lib.ListN.{length}
use lib.Seq.{get_or-take, length-take-le}
use Rattle.area.specs.Records.{records_of, held_in, blank}
use Rattle.area.proofs.Records.{length-records_of}
use Rattle.quadrature.specs.Readings.{record_at}

module _ (c : List ℕ) (held : ℕ) (room : held * 27 ≤ length c) where
  pub held_length : length (held_in c held) ≡ held
  unfolding held_in
  held_length = length-take-le held (records_of c) (omega (arith, length-records_of c))

  pub held_record : (p : ℕ) → p < held → record_at (held_in c held) p ≡ record_at (records_of c) p
  unfolding held_in
  held_record p h = get_or-take held (records_of c) p blank h
