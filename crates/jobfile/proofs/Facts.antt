-- The facts on the form of a job file, gathered.
-- Assumes nothing.
use Rattle.jobfile.specs.Facts.{FormFacts}
use Rattle.jobfile.proofs.Formed.{formed_file}
use Rattle.jobfile.proofs.Back.{formed_back}
use Rattle.jobfile.proofs.Decided.{decided, too_long}
use Rattle.jobfile.proofs.Numbers.{by_byte}
use Rattle.jobfile.proofs.Parts.{by_part}
use Rattle.jobfile.proofs.Named.{named_byte}
use Rattle.jobfile.proofs.OneByte.{named_back, one_byte}

pub form_facts : FormFacts
form_facts = record { by_part = by_part; by_byte = by_byte; named_byte = named_byte; named_back = named_back; one_byte = one_byte; formed_file = formed_file; formed_back = formed_back; decided = decided; too_long = too_long }
