-- `running::file_settings` meets its contract: the header's numbers, read where they stand. Assumes nothing.
use Rattle.jobfile.specs.File.{file_of}
use Rattle.running.proofs.file_settings.Goals as goal

pub returns : goal.returns
unfolding file_of
returns c = λ i. record { axes = c.four_at.ensures i; threshold = c.eight_at.ensures i; budget = c.four_at-2.ensures i }
