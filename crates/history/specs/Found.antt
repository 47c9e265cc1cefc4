-- The third demand: what is found after every list of calls on one work area that begins with an accepted start, whatever the storage held
-- before, whatever the indicators and readings. *Held*, *wanted*, *active*, *old*, *delivered* and readings are the log's.
use Rattle.std.specs.Prelude.{◌≡◌, true, ℕ, ◌*◌, ◌<◌, ◌≤◌, length}
use mathlib.Core.List.{List, ◌∷◌, Memᴰ}
use Rattle.grid.specs.Index.{level, Index, forward, backward}
use Rattle.area.specs.declared.IndexRecord.{IndexRecord}
use Rattle.area.specs.Records.{records_of}
use Rattle.area.specs.declared.Settings.{Settings}
use Rattle.area.specs.Settings.{least_store}
use Rattle.area.specs.Entry.{Entry}
use Rattle.area.specs.Log.{Log}
use Rattle.area.specs.Encoding.{area_of, entries_of, job_with, none}
use Rattle.soundness.specs.Clauses.{checked}
use Rattle.soundness.specs.Held.{forward_link, backward_link}
use Rattle.encoding.specs.Entries.{entry_at, Has, Entered, EnteredOld}
use Rattle.machine.specs.Steps.{start_log}
use Rattle.machine.specs.Counts.{counts_of}
use Rattle.machine.specs.Means.{mean_of, cross_of}
use Rattle.counting.specs.Doubles.{doubles_of}
use Rattle.calls.specs.Replies.{refused, accepted, counts, doubled, total}
use Rattle.calls.specs.Table.{start, result, doubles, cross_total, Answer, answer}
use Rattle.calls.specs.Calls.{call_on}
use Rattle.history.specs.LentCalls.{Part, LentCall}
use Rattle.history.specs.Logged.{state_of, log_after, answers_by}
use Rattle.history.specs.Doubles.{ReportByLog}
use Rattle.history.specs.Storage.{Storage, area_lent, Lent, AllLent, storage_after, answers_of}

-- About neighbours: d is the number of axes, es the log's entries.
pub record Neighbours (d : ℕ) (es : List Entry) : Type 0 where
  -- every held index is within the ceilings
  pub index : (p : ℕ) → p < length es → Index d (entry_at es p).levels
  -- and has all its backward neighbours old
  pub behind : (p a : ℕ) → p < length es → a < d → 1 < level (entry_at es p).levels a → EnteredOld es (backward (entry_at es p).levels a)
  -- within the ceilings every index whose backward neighbours are all old is held
  pub admissible : (k : List ℕ) → Index d k → ((a : ℕ) → a < d → 1 < level k a → EnteredOld es (backward k a)) → Entered es k
  -- once
  pub once : (p q : ℕ) → p < length es → q < length es → (entry_at es p).levels ≡ (entry_at es q).levels → p ≡ q

-- *Links agree both ways*: each link names its neighbour's place exactly when that neighbour is held, and is named back. rs are the records
-- of the cells, of which the first are held. Above level 1 the backward neighbour always is (`Neighbours.behind`).
pub record LinksAgree (es : List Entry) (rs : List IndexRecord) : Type 0 where
  pub ahead : (p a q : ℕ) → p < length es → a < 8 → Has es (forward (entry_at es p).levels a) q
      → (forward_link rs p a ≡ q) × (backward_link rs q a ≡ p)
  pub none_ahead : (p a : ℕ) → p < length es → a < 8 → (Entered es (forward (entry_at es p).levels a) → ⊥) → forward_link rs p a ≡ none
  pub behind : (p a q : ℕ) → p < length es → a < 8 → 1 < level (entry_at es p).levels a → Has es (backward (entry_at es p).levels a) q
      → (backward_link rs p a ≡ q) × (forward_link rs q a ≡ p)
  pub none_behind : (p a : ℕ) → p < length es → a < 8 → level (entry_at es p).levels a ≡ 1 → backward_link rs p a ≡ none
  -- none is the place of no entry
  pub apart : length es < none

-- What is found in the storage w, with the log l.
pub record Found (w : Storage) (l : Log) : Type 0 where
  -- the held records are the log's entries in order, with its states, indicators and readings
  pub entries : entries_of (area_of w.job w.cells w.store) ≡ l.entries
  -- the indicators are 0 while wanted
  pub wanted_indicator_zero : (p : ℕ) → p < length l.entries → (entry_at l.entries p).state ≡ 0 → (entry_at l.entries p).indicator ≡ 0
  -- the job record is worked from the log
  pub job : w.job ≡ job_with (state_of l)
  -- the area is sound
  pub sound : checked (area_of w.job w.cells w.store) ≡ true
  pub neighbours : Neighbours l.settings.axes l.entries
  pub links : LinksAgree l.entries (records_of w.cells)
  -- the storage is long enough for the settings
  pub enough : (512 * 27 ≤ length w.cells) × (least_store l.settings ≤ length w.store)
  -- so result and cross total, called on the whole of it, answer one and the same mean with nothing asked: the sum of full tensor rules
  -- over the delivered indices, each times its combination coefficient
  pub whole_result : (call_on (area_of w.job w.cells w.store) result).answer ≡ answer (counts (counts_of (state_of l)))
  pub whole_cross : (call_on (area_of w.job w.cells w.store) cross_total).answer ≡ answer (total (cross_of l.entries))
  pub alike : (counts_of (state_of l)).mean ≡ cross_of l.entries
  -- and doubles answers the report of the log's state
  pub whole_doubles : (call_on (area_of w.job w.cells w.store) doubles).answer ≡ answer (doubled (doubles_of (state_of l)))
  -- and so they do on any part that is long enough
  pub result : (x : Part) → Lent w x → 512 * 27 ≤ x.cells → least_store l.settings ≤ x.readings
      → (call_on (area_lent w x) result).answer ≡ answer (counts (counts_of (state_of l)))
  pub cross : (x : Part) → Lent w x → 512 * 27 ≤ x.cells → least_store l.settings ≤ x.readings → (call_on (area_lent w x) cross_total).answer ≡ answer (total (cross_of l.entries))
  pub doubles : (x : Part) → Lent w x → 512 * 27 ≤ x.cells → least_store l.settings ≤ x.readings
      → (call_on (area_lent w x) doubles).answer ≡ answer (doubled (doubles_of (state_of l)))
  -- the mean is also the sum of the delivered indices' differences
  pub mean : cross_of l.entries ≡ mean_of l.entries
  -- the report's doubles are exactly that mean, the largest delivered difference and, where indicators have 32 bits (TypedCalls.antt), the pending
  -- error
  pub report : ReportByLog l

-- After `first`, a start with the settings g, and `later`:
pub record Demand (w : Storage) (first : LentCall) (later : List LentCall) (g : Settings) : Type 0 where
  -- every answer, refusals included, follows from the arguments and the log
  pub answers : answers_of w (first ∷ later) ≡ answer accepted ∷ answers_by (start_log g) later
  -- and 4 never comes
  pub never_unsound : (y : Answer) → Memᴰ y (answers_of w (first ∷ later)) → y.reply ≡ refused 4 → ⊥
  -- the storage is as long as before
  pub cells : length (storage_after w (first ∷ later)).cells ≡ length w.cells
  pub store : length (storage_after w (first ∷ later)).store ≡ length w.store
  pub found : Found (storage_after w (first ∷ later)) (log_after (start_log g) later)

-- The claim, one over the whole list.
abbrev pub ThirdDemand : Type 0
ThirdDemand = (w : Storage) (first : LentCall) (later : List LentCall) (g : Settings) → AllLent w (first ∷ later)
    → first.call ≡ start g → (call_on (area_lent w first.part) (start g)).answer ≡ answer accepted → Demand w first later g
