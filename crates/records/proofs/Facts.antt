-- What holds of records past the first 512, proved. Assumes nothing.
use Rattle.records.specs.Facts.{ExtraRecordsIgnored}
use Rattle.records.proofs.Longer.{call-longer}

pub none_looked_at : ExtraRecordsIgnored
none_looked_at a more c room = call-longer a more room c
