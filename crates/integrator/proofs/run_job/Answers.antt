-- The file that was read decides the text of the whole input.
use Rattle.std.proofs.Common.{rules, arith}
use Rattle.integrator.proofs.Whole.{text_whole}
use Rattle.integrator.proofs.run_job.Goals as goal

pub returns : goal.returns
returns g c =
    text_whole _ _ _ _ c.read_file.new.file c.read_file.result c.print_report.result c.in_ok-count.count c.in_ok-map_err.field-0 (search rules) (search rules) (omega arith) c.read_file.ensures.fits
    c.read_file.ensures.bytes c.print_report.ensures
