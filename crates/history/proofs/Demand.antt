-- The third demand.
-- The idea: an accepted start leaves storage that holds the log's state, every later call keeps it so, and from such storage everything that
-- is claimed can be read off.
-- Assumes nothing.
use mathlib.Core.Path.{◌≡◌, refl, ap, ap₂, sym, ◌∙◌, subst}
use mathlib.Core.Bool.{true}
use mathlib.Core.Logic.{◌⊎◌, inl, inr}
use mathlib.Core.List.Memᴰ
use mathlib.Core.List.{List, ◌∷◌, Memᴰ}
use Prim.Native.Nat.{ℕ, ◌*◌, ◌≤◌}
use native.Mathlib.Omega.{arith}
use lib.ListN.{length}
use lib.Seq.{take-length}
use Rattle.area.specs.declared.Settings.{Settings}
use Rattle.area.specs.Settings.{least_store}
use Rattle.area.specs.Records.{records_of, run_of}
use Rattle.area.specs.Encoding.{Area, area_of, entries_of, store_with, job_with, written, machine_of}
use Rattle.area.specs.Log.{Log, Machine}
use Rattle.encoding.specs.Entries.{SoundMachine}
use Rattle.machine.specs.Steps as steps
use Rattle.machine.specs.Causes.{Lengths, first_cause, start_causes, result_causes}
use Rattle.machine.specs.Counts.{counts_of}
use Rattle.machine.specs.Means.{cross_of}
use Rattle.counting.specs.Doubles.{doubles_of}
use Rattle.machine.proofs.Means.{mean_facts}
use Rattle.writing.proofs.After.{written_sound, written_long, written_machine}
use Rattle.calls.specs.Replies.{accepted, refused, counts, doubled, total, lengths_of}
use Rattle.calls.specs.Table.{start, result, doubles, cross_total, Row, row, causes_of, passes_check, accepted_answer, refusal, answer_of, Answer, answer}
use Rattle.calls.specs.Calls.{call_on}
use Rattle.calls.proofs.CausesApplied.{no_cause}
use Rattle.calls.proofs.Tests as tests
use Rattle.calls.proofs.Causes.{common_none}
use Rattle.soundness.specs.Sound.{Sound, LongEnough}
use Rattle.soundness.specs.Clauses.{checked}
use Rattle.soundness.proofs.Clauses.{clause_facts}
use Rattle.area.proofs.Records.{length-records_of}
use Rattle.history.specs.LentCalls.{Part, LentCall, lengths_lent}
use Rattle.history.specs.Logged.{state_of, answer_by, answers_by, log_after}
use Rattle.history.specs.Storage.{Storage, area_lent, Lent, AllLent, returned, call_in, storage_step, storage_after, answers_of}
use Rattle.history.specs.Found.{Neighbours, LinksAgree, Found, ThirdDemand}
use Rattle.history.proofs.Holding.{Holds, Kept, front_small, run_over}
use Rattle.history.proofs.Moves.{MachineInvariant, from_log}
use Rattle.history.proofs.Doubles.{report_by_log}
use Rattle.history.proofs.Steps.{lengths, answered, first_holds}
use Rattle.history.proofs.Shorts.{row_answer}
use Rattle.history.proofs.Lists.{machine_after, lent_too, after_log, after_keeps, after_answers}
use Rattle.history.proofs.LinksBothWays.{links_agree}
use Rattle.history.proofs.NeverUnsound.{never_four}

-- ---- what storage that holds a state shows

module _ (w : Storage) (m : Machine) (h : Holds w m) where
  abbrev all : Area
  all = area_of w.job w.cells w.store

  abbrev l : Log
  l = m.log

  whole_holds : all ≡ written all m
  unfolding written store_with
  whole_holds i =
      record {
        job = h.job i;
        run = (ap run_of h.cells ∙ run_over m h.sound w.cells (omega (arith, front_small m h.sound, h.long))) i;
        store = h.store i;
      }

  entries_there : entries_of all ≡ l.entries
  unfolding machine_of
  entries_there = ap entries_of whole_holds ∙ ap (λ (y : Machine). y.log.entries) (written_machine all m h.sound)

  all_sound : Sound all
  all_sound = subst Sound (sym whole_holds) (written_sound all m h.sound)

  checked_there : checked all ≡ true
  checked_there = (clause_facts.answer all).back (subst LongEnough (sym whole_holds) (written_long all m h.sound (omega (arith, length-records_of w.cells, h.long)) h.room), all_sound)

  neighbours : Neighbours l.settings.axes l.entries
  neighbours = record { index = h.sound.index; behind = h.sound.behind; admissible = h.sound.admissible; once = h.sound.different }

  links : LinksAgree l.entries (records_of w.cells)
  links = subst (λ es. LinksAgree es (records_of w.cells)) entries_there (links_agree all all_sound)

  -- ---- result, doubles and cross total, where enough is lent
  module _ (x : Part) (lent : Lent w x) (long : 512 * 27 ≤ x.cells) (room : least_store l.settings ≤ x.readings) where
    abbrev z : Lengths
    z = lengths_lent x

    none : first_cause (result_causes z true l) ≡ 0
    none = common_none z true l (tests.enough z l.settings (omega (arith, long)) room) refl

    -- none is refused
    given : (r : Row) → causes_of z true l r ≡ result_causes z true l → row_answer z true (state_of l) r ≡ accepted_answer (passes_check z true l) (state_of l) r
    unfolding state_of
    given r is = rw (is, none) refl

    result_is : (call_on (area_lent w x) result).answer ≡ answer (counts (counts_of (state_of l)))
    unfolding answer_by answer_of refusal row causes_of accepted_answer result_causes
    result_is = answered w x lent m h result ∙ given (row result) refl

    doubles_are : (call_on (area_lent w x) doubles).answer ≡ answer (doubled (doubles_of (state_of l)))
    unfolding answer_by answer_of refusal row causes_of accepted_answer result_causes
    doubles_are = answered w x lent m h doubles ∙ given (row doubles) refl

    cross_is : (call_on (area_lent w x) cross_total).answer ≡ answer (total (cross_of l.entries))
    unfolding answer_by answer_of refusal row causes_of accepted_answer result_causes state_of
    cross_is = answered w x lent m h cross_total ∙ given (row cross_total) refl

  -- lent the whole of it
  abbrev wholly : Part
  wholly = record { cells = length w.cells; readings = length w.store }

  lent_wholly : Lent w wholly
  lent_wholly = record { cells = omega arith; readings = omega arith }

  whole_area : area_lent w wholly ≡ all
  unfolding area_lent
  whole_area i = area_of w.job (take-length w.cells i) (take-length w.store i)

  counted_mean : (counts_of (state_of l)).mean ≡ cross_of l.entries
  unfolding counts_of state_of
  counted_mean = refl

  by_log : m ≡ state_of l
  by_log = from_log m (record { sound = h.sound; mean = h.mean })

  pub found : Found w l
  found =
      record {
        entries = entries_there;
        wanted_indicator_zero = h.sound.wanted_indicator_zero;
        job = h.job ∙ ap job_with by_log;
        sound = checked_there;
        neighbours = neighbours;
        links = links;
        enough = (h.long, h.room);
        result = result_is;
        doubles = doubles_are;
        cross = cross_is;
        mean = sym (mean_facts.cross m h.sound);
        whole_result = ap (λ (a : Area). (call_on a result).answer) (sym whole_area) ∙ result_is wholly lent_wholly h.long h.room;
        whole_doubles = ap (λ (a : Area). (call_on a doubles).answer) (sym whole_area) ∙ doubles_are wholly lent_wholly h.long h.room;
        whole_cross = ap (λ (a : Area). (call_on a cross_total).answer) (sym whole_area) ∙ cross_is wholly lent_wholly h.long h.room;
        alike = counted_mean;
        report = report_by_log l (subst SoundMachine by_log h.sound);
      }

-- ---- an accepted start

pub accepted_start : (a : Area) (g : Settings) → (call_on a (start g)).answer ≡ answer accepted → first_cause (start_causes (lengths_of a) g) ≡ 0
unfolding refusal causes_of row
accepted_start a g e = no_cause a (start g) (λ n f. let same : accepted ≡ refused n = sym (ap (λ (y : Answer). y.reply) e) ∙ f in let y : ◌≡◌ {A = ℕ} 0 1 = cc in omega arith)

module _ (w : Storage) (first : LentCall) (later : List LentCall) (g : Settings) (lent : AllLent w (first ∷ later))
    (is : first.call ≡ start g) (taken : (call_on (area_lent w first.part) (start g)).answer ≡ answer accepted) where
  abbrev m : Machine
  m = steps.started g

  clear : first_cause (start_causes (lengths_lent first.part) g) ≡ 0
  clear = ap (λ z. first_cause (start_causes z g)) (sym (lengths w first.part lent.0)) ∙ accepted_start (area_lent w first.part) g taken

  begins : Kept w (storage_step w first) m
  unfolding storage_step call_in
  begins = subst (λ c. Kept w (returned w first.part (call_on (area_lent w first.part) c).area) m) (sym is) (first_holds w first.part lent.0 g clear)

  first-answer : (call_in w first).answer ≡ answer accepted
  unfolding call_in
  first-answer = ap (λ c. (call_on (area_lent w first.part) c).answer) is ∙ taken

  lent-later : AllLent (storage_step w first) later
  lent-later = lent_too w (storage_step w first) begins.cells begins.store later lent.1

  answers : answers_of w (first ∷ later) ≡ answer accepted ∷ answers_by (steps.start_log g) later
  unfolding answers_of steps.started
  answers = ap₂ (λ (y : Answer) ys. y ∷ ys) first-answer (after_answers (storage_step w first) m begins.holds later lent-later)

  -- the state that the storage holds after the list
  kept : Kept (storage_step w first) (storage_after w (first ∷ later)) (machine_after m later)
  unfolding storage_after
  kept = after_keeps (storage_step w first) m begins.holds later lent-later

  pub log_there : (machine_after m later).log ≡ log_after (steps.start_log g) later
  unfolding steps.started
  log_there = after_log m later

  pub state_fine : MachineInvariant (machine_after m later)
  state_fine = record { sound = kept.holds.sound; mean = kept.holds.mean }

  after : Found (storage_after w (first ∷ later)) (log_after (steps.start_log g) later)
  after = subst (Found (storage_after w (first ∷ later))) log_there (found (storage_after w (first ∷ later)) (machine_after m later) kept.holds)

  cells-length : length (storage_after w (first ∷ later)).cells ≡ length w.cells
  cells-length = kept.cells ∙ begins.cells

  store_length : length (storage_after w (first ∷ later)).store ≡ length w.store
  store_length = kept.store ∙ begins.store

pub third_demand : ThirdDemand
third_demand w first later g lent is taken =
    let said : answers_of w (first ∷ later) ≡ answer accepted ∷ answers_by (steps.start_log g) later = answers w first later g lent is taken in
    record {
      answers = said;
      never_unsound = λ y n e. step y e (Memᴰ.cases_cons (subst (Memᴰ y) said n));
      cells = cells-length w first later g lent is taken;
      store = store_length w first later g lent is taken;
      found = after w first later g lent is taken;
    }
  where
    step : (y : Answer) → y.reply ≡ refused 4 → (y ≡ answer accepted) ⊎ Memᴰ y (answers_by (steps.start_log g) later) → ⊥
    step y e (inl f) = let same : accepted ≡ refused 4 = sym (ap (λ (v : Answer). v.reply) f) ∙ e in let g : ◌≡◌ {A = ℕ} 0 1 = cc in omega arith
    step y e (inr n) = never_four (steps.start_log g) later y n e
