-- Start, deliver and promote on the machine's state. In Fig. 1 of the source, start and the root's delivery are the lines before the
-- loop; a promotion of a place and the deliveries of what it admitted are one turn with its index (crate `published`, `PublishedFacts`).
use Rattle.std.specs.Prelude.{List, [], ◌∷◌, ℕ, ℤ, pos, ◌+ℤ◌, set}
use Rattle.grid.specs.Index.{root}
use Rattle.grid.specs.Difference.{scaled_difference}
use Rattle.area.specs.declared.Settings.{Settings}
use Rattle.area.specs.Entry.{Entry, reading_in}
use Rattle.area.specs.Log.{Log, Machine, with_entries}
use Rattle.encoding.specs.Entries.{entry_at}
use Rattle.machine.specs.Log.{wanted, first_wanted, wanted_index}
use Rattle.machine.specs.Promote.{promote_at}

-- **Start** leaves in the log the settings (d, threshold and budget) and the root alone, wanted, so it is held at place 0. Before the
-- first delivery the scaled mean is 0.
abbrev pub start_log : Settings → Log
start_log g = record { settings = g; entries = wanted root ∷ [] }

unfoldable pub started : Settings → Machine
started g = record { log = start_log g; mean = pos 0 }

-- **Deliver**: the index becomes active, with its readings and the indicator.
unfoldable pub delivered : Entry → List ℤ → ℕ → Entry
delivered e rs i = record { levels = e.levels; state = 1; indicator = i; readings = rs }

unfoldable pub deliver_at : List Entry → ℕ → List ℤ → ℕ → List Entry
deliver_at es p rs i = set es p (delivered (entry_at es p) rs i)

-- The first wanted entry becomes so.
abbrev pub deliver_log : Log → List ℤ → ℕ → Log
deliver_log l rs i = with_entries l (deliver_at l.entries (first_wanted l.entries) rs i)

-- And its scaled difference is added to the recorded mean.
unfoldable pub deliver : Machine → List ℤ → ℕ → Machine
deliver m rs i =
    record {
      log = deliver_log m.log rs i;
      mean = m.mean +ℤ scaled_difference (wanted_index m.log.entries) (reading_in (deliver_at m.log.entries (first_wanted m.log.entries) rs i));
    }

-- **Promote** of a place leaves the recorded mean.
unfoldable pub promote_step : Machine → ℕ → Machine
promote_step m p = record { log = (promote_at m.log p).log; mean = m.mean }
