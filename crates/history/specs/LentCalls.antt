-- A call and what it is lent.
use Rattle.std.specs.Prelude.{ℕ, ◌/◌}
use Rattle.machine.specs.Causes.{Lengths}
use Rattle.calls.specs.Table.{Call}

-- How much of the work area is lent: so many cells and so many readings, counted from the start of each; the job record always is.
pub record Part : Type 0 where
  pub cells : ℕ
  pub readings : ℕ

-- A call (crate `calls`, specs/Table.antt) and what it is lent. A later call may be lent less than an earlier one, or more.
pub record LentCall : Type 0 where
  pub call : Call
  pub part : Part

-- 27 cells make a record.
abbrev pub lengths_lent : Part → Lengths
lengths_lent x = record { records = x.cells / 27; readings = x.readings }
