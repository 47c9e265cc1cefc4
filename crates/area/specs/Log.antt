-- The *log* ("The third demand's list"): the settings (d, threshold and budget) and an entry for each held index. The machine's state is
-- the log and the recorded mean, which is no part of the log: an altered area can be sound with another.
use Rattle.std.specs.Prelude.{List, ℤ}
use Rattle.area.specs.declared.Settings.{Settings}
use Rattle.area.specs.Entry.{Entry}

pub record Log : Type 0 where
  pub settings : Settings
  pub entries : List Entry

pub record Machine : Type 0 where
  pub log : Log
  pub mean : ℤ

-- The log with other entries, and the state with other entries.
abbrev pub with_entries : Log → List Entry → Log
with_entries l es = record { settings = l.settings; entries = es }

abbrev pub machine_with_entries : Machine → List Entry → Machine
machine_with_entries m es = record { log = with_entries m.log es; mean = m.mean }
