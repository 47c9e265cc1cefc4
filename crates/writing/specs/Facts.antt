-- The area with the next state written into it is the area with these changes and no others.
use Rattle.std.specs.Prelude.{◌≡◌, true, cond, List, ℕ, ◌+◌, ◌-◌, ◌<◌, ◌≤◌, ℤ, pos, length, set}
use Rattle.std.proofs.lemmas.List.Edits.{sets}
use Rattle.grid.specs.Index.{at_ceiling}
use Rattle.area.specs.declared.Settings.{Settings}
use Rattle.area.specs.Settings.{readings_for, reading_count}
use Rattle.area.specs.Log.{machine_with_entries}
use Rattle.area.specs.Encoding.{Area, entries_of, machine_of, written}
use Rattle.area.specs.Records.{stored}
use Rattle.quadrature.specs.Readings.{record_at}
use Rattle.soundness.specs.Held.{levels_at, state_at}
use Rattle.machine.specs.Log.{first_wanted, wanted_index}
use Rattle.machine.specs.Promote.{make_old, admitted_axes, refine, fits}
use Rattle.machine.specs.Steps.{started, deliver}
use Rattle.writing.specs.ValidArea.{ValidArea}
use Rattle.writing.specs.Changes.{with_state, root_record, appended_all, sizes_of}

pub record WriteFacts : Type 0 where
  -- start writes the job record and record 0
  pub start : (a : Area) (g : Settings) → 1 ≤ length a.run.records
      → written a (started g) ≡ record {
        job = record { settings = g; held = 1; reserved = 1; pending = 0; carried = 0; mean = pos 0 };
        run = stored a.run 0 root_record;
        store = a.store;
      }
  -- deliver changes the first wanted record's state and indicator, its block of the store, pending error and mean
  pub deliver : (a : Area) (rs : List ℤ) (i : ℕ) → ValidArea a → first_wanted (entries_of a) < length (entries_of a)
      → length rs ≡ reading_count a.job.settings (wanted_index (entries_of a))
      → written a (deliver (machine_of a) rs i) ≡ record {
        job = record {
          settings = a.job.settings;
          held = a.job.held;
          reserved = a.job.reserved;
          pending = a.job.pending + i;
          carried = a.job.carried;
          mean = (deliver (machine_of a) rs i).mean;
        };
        run = stored a.run (first_wanted (entries_of a)) (with_state (record_at a.run.records (first_wanted (entries_of a))) 1 i);
        store = sets a.store (record_at a.run.records (first_wanted (entries_of a))).first rs;
      }
  -- refining an active place p, where nothing is wanted and it fits, changes its state, appends the admitted, whose readings begin where
  -- those of the reserved points end, and adds their counts; the pending error loses the place's indicator, and the
  -- carried error gains it if the index is at a ceiling
  pub refine : (a : Area) (p : ℕ) → ValidArea a → length (entries_of a) ≤ first_wanted (entries_of a) → p < a.job.held → state_at a.run.records p ≡ 1
      → fits a.job.settings.budget (refine a.job.settings.axes (entries_of a) p) ≡ true
      → written a (machine_with_entries (machine_of a) (refine a.job.settings.axes (entries_of a) p)) ≡ record {
        job = record {
          settings = a.job.settings;
          held = a.job.held + length (admitted_axes a.job.settings.axes (make_old (entries_of a) p) (levels_at a.run.records p));
          reserved = a.job.reserved + sizes_of (levels_at a.run.records p) (admitted_axes a.job.settings.axes (make_old (entries_of a) p) (levels_at a.run.records p));
          pending = a.job.pending - (record_at a.run.records p).indicator;
          carried = a.job.carried + cond (at_ceiling a.job.settings.axes (levels_at a.run.records p)) (record_at a.run.records p).indicator 0;
          mean = a.job.mean;
        };
        run = record {
          records = appended_all a.job.settings (set a.run.records p (with_state (record_at a.run.records p) 2 (record_at a.run.records p).indicator))
              a.job.held (readings_for a.job.settings a.job.reserved)
              (levels_at a.run.records p) (admitted_axes a.job.settings.axes (make_old (entries_of a) p) (levels_at a.run.records p));
          rest = a.run.rest;
        };
        store = a.store;
      }
