-- What each step changes in storage, proved: the job record field by field, the records and the store. Assumes nothing.
use Rattle.area.specs.Encoding.{machine_of, run_with, job_with, written}
use Rattle.machine.specs.Steps.{started, deliver}
use Rattle.writing.specs.Facts.{WriteFacts}
use Rattle.writing.proofs.Start.{root_job, root_run, root-store}
use Rattle.writing.proofs.Deliver.{delivered_held, delivered-records, delivered_reserved, delivered_pending, delivered_carried, delivered-store}
use Rattle.writing.proofs.Refine.{refined_held, refined_records, refined_reserved, refined_pending, refined_carried, refined_store}

pub write_facts : WriteFacts
unfolding written machine_of started deliver job_with run_with
write_facts =
    record {
      start = λ a g h j. record {
        job = root_job g j;
        run = record { records = root_run g a.run.records h j; rest = a.run.rest };
        store = root-store a.store j;
      };
      deliver = λ a rs i r some right j. record {
        job = record {
          settings = a.job.settings;
          held = delivered_held a r rs i some right j;
          reserved = delivered_reserved a r rs i some right j;
          pending = delivered_pending a r rs i some right j;
          carried = delivered_carried a r rs i some right j;
          mean = (deliver (machine_of a) rs i).mean;
        };
        run = record { records = delivered-records a r rs i some right j; rest = a.run.rest };
        store = delivered-store a r rs i some right j;
      };
      refine = λ a p r idle h active fit j. record {
        job = record {
          settings = a.job.settings;
          held = refined_held a r p h active j;
          reserved = refined_reserved a r p h active j;
          pending = refined_pending a r p h active j;
          carried = refined_carried a r p h active j;
          mean = a.job.mean;
        };
        run = record { records = refined_records a r p h active fit j; rest = a.run.rest };
        store = refined_store a r p h active j;
      };
    }
