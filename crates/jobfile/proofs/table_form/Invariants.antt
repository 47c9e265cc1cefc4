-- `jobfile::table_form` meets its contract: the entries passed count `before` readings, and the test of those left answers as that of all.
-- Assumes nothing.
use mathlib.Core.Path.{◌≡◌}
use Prim.Native.Nat.{ℕ, ◌-◌, ◌≤◌}
use Rattle.jobfile.specs.Form.{Form, table_form}
use Rattle.jobfile.specs.File.{total_before}
use Rattle.jobfile.proofs.table_form.Given as goal

abbrev pub invariant-loop-i : goal.invariant-loop-i
invariant-loop-i l =
    (l.before ≤ 8192)
    × (l.before ≡ total_before l.bytes l.i)
    × ((next : ℕ → Form) → table_form l.bytes l.entries 0 0 next ≡ table_form l.bytes (l.entries - l.i) l.i l.before next)
