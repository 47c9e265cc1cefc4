-- The report of doubles by the log loses nothing: the laws of the report, at the state that the log stands for.
-- Assumes nothing.
use Rattle.area.specs.Log.{Log}
use Rattle.encoding.specs.Entries.{SoundMachine}
use Rattle.machine.specs.Counts.{counts_of}
use Rattle.machine.proofs.Largest.{largest-delivered}
use Rattle.counting.proofs.NothingLost.{report_of_sound}
use Rattle.history.specs.Logged.{state_of}
use Rattle.history.specs.Doubles.{ReportByLog}

pub report_by_log : (l : Log) → SoundMachine (state_of l) → ReportByLog l
unfolding state_of counts_of
report_by_log l sound =
    record {
      mean = report_of_sound.mean (state_of l) sound;
      pending = report_of_sound.pending (state_of l) sound;
      as_result = report_of_sound.mean (state_of l) sound;
      pending_as_result = report_of_sound.pending (state_of l) sound;
      largest = report_of_sound.largest (state_of l) sound;
      no_larger = largest-delivered.no_larger l.entries;
      lowest = largest-delivered.lowest l.entries;
      nothing = report_of_sound.nothing (state_of l) sound;
    }
