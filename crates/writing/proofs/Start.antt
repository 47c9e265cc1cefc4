-- Starting: what the encoding makes of the root, wanted and alone.
-- Assumes nothing.
use mathlib.Core.Path.{◌≡◌, refl, ap}
use mathlib.Core.List.{List, [], ◌∷◌, ◌++◌}
use Prim.Native.Nat.{◌≤◌}
use native.Mathlib.Omega.{arith}
use lib.IntN.{ℤ, pos}
use lib.ListN.{length, set, drop}
use Rattle.rule.specs.Points.{new_count}
use Rattle.sums.specs.Lists.{tabulate}
use Rattle.grid.specs.Index.{root, forward, backward}
use Rattle.grid.specs.Block.{block_size}
use Rattle.grid.specs.Coefficient.{same_levels}
use Rattle.area.specs.declared.IndexRecord.{IndexRecord}
use Rattle.area.specs.declared.Settings.{Settings}
use Rattle.area.specs.Entry.{indices_of, reserved_by, pending_of, carried_of}
use Rattle.area.specs.Encoding.{place_from, place_of, links_of, encoded, encoded_from, records_for, store_for, store_with, job_with}
use Rattle.machine.specs.Log.{wanted}
use Rattle.machine.specs.Steps.{started}
use Rattle.writing.specs.Changes.{admitted_record, root_record}

root-records : (g : Settings) → records_for g (wanted root ∷ []) ≡ root_record ∷ []
unfolding records_for indices_of encoded_from encoded links_of tabulate place_of place_from same_levels forward backward root wanted root_record admitted_record
root-records g = refl

pub root_job : (g : Settings) → job_with (started g) ≡ record { settings = g; held = 1; reserved = 1; pending = 0; carried = 0; mean = pos 0 }
unfolding started job_with reserved_by pending_of carried_of block_size new_count root wanted
root_job g = refl

pub root_run : (g : Settings) (rs : List IndexRecord) → 1 ≤ length rs → records_for g (wanted root ∷ []) ++ drop 1 rs ≡ set rs 0 root_record
root_run g [] h = absurd (omega arith)
root_run g (r ∷ rs) h = ap (λ l. l ++ rs) (root-records g)

pub root-store : (s : List ℤ) → store_with s (wanted root ∷ []) ≡ s
unfolding store_with store_for wanted
root-store s = refl
