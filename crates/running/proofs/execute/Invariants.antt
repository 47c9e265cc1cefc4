-- `running::execute` meets its contract: the area stays valid, and what is still to come is what the file comes to. Assumes nothing.
use Rattle.running.specs.Code.{ValidExecution}
use Rattle.running.proofs.Course.{Course}
use Rattle.running.proofs.execute.Given as goal

abbrev pub invariant-loop : goal.invariant-loop
invariant-loop l = record { valid : ValidExecution l.bytes l.execution; course : Course l.bytes l.counter l.execution }
