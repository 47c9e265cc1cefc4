-- `calls::in_range` meets its contract: the numbers one by one. Assumes nothing.
use mathlib.Core.Path.{◌∙◌}
use Rattle.calls.proofs.Ranges.{all_readings}
use Rattle.calls.proofs.in_range.Goals as goal

pub returns : goal.returns
returns c = c.readings_fit.ensures ∙ all_readings c.args.readings.now
