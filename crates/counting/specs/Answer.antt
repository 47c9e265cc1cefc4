-- The counts of the code as the machine's.
use Rattle.machine.specs.Counts as machine
use Rattle.counting.specs.declared.Counts.{Counts}

unfoldable pub counts_in : Counts → machine.Counts
counts_in r =
    record { old = r.old; active = r.active; wanted = r.wanted; reserved = r.reserved; pending = r.pending; carried = r.carried; mean = r.mean; ceiling = r.ceiling }
