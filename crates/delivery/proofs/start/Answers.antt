-- `delivery::start` meets its contract: the record that is stored at place 0 is the root's. Assumes nothing.
use Rattle.grid.specs.Index.{root}
use Rattle.area.specs.Encoding.{none}
use Rattle.writing.specs.Changes.{root_record, admitted_record}
use Rattle.delivery.proofs.start.Goals as goal

pub returns-clause-run : goal.returns-clause-run
unfolding none root root_record admitted_record
returns-clause-run c = c.store.ensures
