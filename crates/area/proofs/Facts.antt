-- What is said of storage, proved. Assumes nothing.
use Rattle.area.specs.Facts.{RunFacts}
use Rattle.area.proofs.Records.{whole, run_determines}
use Rattle.area.proofs.Cells.{forth}
use Rattle.area.proofs.LookupPlaces.{found_is}

pub run_facts : RunFacts
run_facts = record { determines = run_determines; back = whole; forth = forth; found = found_is }
