-- Storage that holds a machine's state, lent and given back.
-- The idea: the state's records and readings lie over the front of the cells and of the store; a part that is long enough holds the state
-- as well, and a state written into the part is written into the whole.
-- Assumes nothing.
use mathlib.Core.Path.{◌≡◌, refl, ap, sym, ◌∙◌, subst}
use mathlib.Core.List.{List, [], ◌++◌}
use Prim.Native.Nat.{ℕ, ◌*◌, ◌≤◌}
use native.Mathlib.Omega.{arith}
use lib.IntN.{ℤ}
use lib.ListN.{length, take, drop, take-append-drop}
use lib.Seq.{length-take-le}
use Rattle.area.specs.Records.{Run, records_of, cells_for, cells_of, run_of}
use Rattle.area.specs.declared.Settings.{Settings}
use Rattle.area.specs.Settings.{least_store}
use Rattle.area.specs.Entry.{Entry}
use Rattle.area.specs.Encoding.{Area, records_for, store_for, run_with, store_with, job_with, written}
use Rattle.area.proofs.Records.{whole}
use Rattle.area.proofs.Cells.{cells-length, cells_run, run_drop}
use Rattle.encoding.specs.Encodes.{WellFormed}
use Rattle.encoding.proofs.Places.{records-length}
use Rattle.area.specs.Log.{Machine}
use Rattle.encoding.specs.Entries.{SoundMachine}
use Rattle.machine.specs.Means.{mean_of}
use Rattle.calls.proofs.Written.{well_formed_records, store_small}
use Rattle.history.specs.LentCalls.{Part}
use Rattle.history.specs.Storage.{Storage, area_lent, Lent, returned}
use Rattle.history.proofs.Overlays.{over, over_part, over-whole, over_twice, over-length}

-- ---- a state in cells

module _ (m : Machine) (v : SoundMachine m) where
  abbrev es : List Entry
  es = m.log.entries

  abbrev front : List ℕ
  front = cells_for (records_for m.log.settings es)

  well_formed : WellFormed (records_for m.log.settings es)
  well_formed = well_formed_records (record { job = job_with m; run = record { records = []; rest = [] }; store = [] }) m v

  front_length : length front ≡ length es * 27
  front_length = cells-length (records_for m.log.settings es) well_formed ∙ ap (λ n. n * 27) (records-length m.log.settings es)

  pub front_small : length front ≤ 512 * 27
  front_small = omega (arith, front_length, v.count.1)

  pub back_small : length (store_for es) ≤ least_store m.log.settings
  back_small = store_small m v

  module _ (c : List ℕ) (room : length front ≤ length c) where
    dropped : run_of (drop (length front) c) ≡ record { records = drop (length es) (records_of c); rest = (run_of c).rest }
    dropped = ap (λ n. run_of (drop n c)) front_length ∙ run_drop (length es) c (omega (arith, front_length, room))

    pub run_over : run_of (over front c) ≡ run_with (run_of c) m.log
    unfolding run_with
    run_over =
        cells_run (records_for m.log.settings es) (drop (length front) c) well_formed
        ∙ ap (λ (u : Run). record { records = records_for m.log.settings es ++ u.records; rest = u.rest }) dropped

    pub cells_with : cells_of (run_with (run_of c) m.log) ≡ over front c
    cells_with = ap cells_of (sym run_over) ∙ whole (over front c)

-- ---- storage that holds a state

pub record Holds (w : Storage) (m : Machine) : Type 0 where
  pub job : w.job ≡ job_with m
  pub cells : w.cells ≡ over (cells_for (records_for m.log.settings m.log.entries)) w.cells
  pub store : w.store ≡ over (store_for m.log.entries) w.store
  pub sound : SoundMachine m
  pub mean : m.mean ≡ mean_of m.log.entries
  pub long : 512 * 27 ≤ length w.cells
  pub room : least_store m.log.settings ≤ length w.store

-- v is storage as long as w, and holds the state.
pub record Kept (w v : Storage) (m : Machine) : Type 0 where
  pub holds : Holds v m
  pub cells : length v.cells ≡ length w.cells
  pub store : length v.store ≡ length w.store

-- A call is lent enough for the settings.
pub record Enough (w : Storage) (x : Part) (g : Settings) : Type 0 where
  pub lent : Lent w x
  pub cells : 512 * 27 ≤ x.cells
  pub readings : least_store g ≤ x.readings

module _ (w : Storage) (x : Part) where
  abbrev a : Area
  a = area_lent w x

  -- nothing changed in what is lent: nothing changed
  same : returned w x a ≡ w
  unfolding area_lent returned
  same i =
      record {
        job = w.job;
        cells = (ap (λ l. l ++ drop x.cells w.cells) (whole (take x.cells w.cells)) ∙ take-append-drop x.cells w.cells) i;
        store = take-append-drop x.readings w.store i;
      }

  pub still : (m : Machine) → Holds w m → Kept w (returned w x a) m
  still m h = subst (λ v. Kept w v m) (sym same) (record { holds = h; cells = refl; store = refl })

  module _ (m : Machine) (v : SoundMachine m) (n : Enough w x m.log.settings) where
    abbrev laid : List ℕ
    laid = cells_for (records_for m.log.settings m.log.entries)

    abbrev read : List ℤ
    read = store_for m.log.entries

    laid_room : length laid ≤ x.cells
    laid_room = omega (arith, front_small m v, n.cells)

    read_room : length read ≤ x.readings
    read_room = omega (arith, back_small m v, n.readings)

    cells-lent : length (take x.cells w.cells) ≡ x.cells
    cells-lent = length-take-le x.cells w.cells n.lent.cells

    part_room : length laid ≤ length (take x.cells w.cells)
    part_room = omega (arith, laid_room, cells-lent)

    -- what is lent of storage that holds the state holds it
    pub area_holds : Holds w m → a ≡ written a m
    unfolding area_lent written
    area_holds h i =
        record {
          job = h.job i;
          run = (ap run_of part ∙ run_over m v (take x.cells w.cells) part_room) i;
          store = stored i;
        }
      where
        part : take x.cells w.cells ≡ over laid (take x.cells w.cells)
        part = ap (take x.cells) h.cells ∙ over_part laid x.cells laid_room w.cells n.lent.cells

        stored : take x.readings w.store ≡ store_with (take x.readings w.store) m.log.entries
        stored = unfold store_with in ap (take x.readings) h.store ∙ over_part read x.readings read_room w.store n.lent.readings

    -- the state written into what is lent is written into the whole
    pub returned_holds : m.mean ≡ mean_of m.log.entries → Kept w (returned w x (written a m)) m
    returned_holds e =
        record {
          holds = record {
            job = unfold returned written in refl;
            cells = cells_are ∙ sym (over_twice laid w.cells) ∙ ap (over laid) (sym cells_are);
            store = store_is ∙ sym (over_twice read w.store) ∙ ap (over read) (sym store_is);
            sound = v;
            mean = e;
            long = omega (arith, cells-length_is, n.cells, n.lent.cells);
            room = omega (arith, store-length_is, n.readings, n.lent.readings);
          };
          cells = cells-length_is;
          store = store-length_is;
        }
      where
        cells_are : (returned w x (written a m)).cells ≡ over laid w.cells
        cells_are =
            unfold returned written area_lent in
            ap (λ l. l ++ drop x.cells w.cells) (cells_with m v (take x.cells w.cells) part_room)
            ∙ over-whole laid x.cells laid_room w.cells n.lent.cells

        store_is : (returned w x (written a m)).store ≡ over read w.store
        store_is = unfold returned written area_lent store_with in over-whole read x.readings read_room w.store n.lent.readings

        cells-length_is : length (returned w x (written a m)).cells ≡ length w.cells
        cells-length_is = ap length cells_are ∙ over-length laid w.cells (omega (arith, laid_room, n.lent.cells))

        store-length_is : length (returned w x (written a m)).store ≡ length w.store
        store-length_is = ap length store_is ∙ over-length read w.store (omega (arith, read_room, n.lent.readings))
