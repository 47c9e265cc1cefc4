-- `area::HeldWords::hold` meets its contract: the words so far are those of the records passed, and the records left say whether all fit. Assumes nothing.
use Rattle.std.proofs.Common.{◌≡◌, true, take, drop}
use Rattle.area.specs.Packed.{all_fit_byte, PackedRun}
use Rattle.area.proofs.HeldWords.hold.Given as goal

abbrev pub invariant-loop-place : goal.invariant-loop-place
invariant-loop-place l =
    record {
      left : all_fit_byte l.held ≡ all_fit_byte (drop l.place l.held);
      packed : l.self-inside.are_packed ≡ true;
      passed : PackedRun l.self-inside.words (take l.place l.held);
    }
