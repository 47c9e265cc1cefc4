-- When an area is *sound* ("Old, active and wanted", its last paragraph): one to three fields for each clause, in the scope document's
-- order, except that delivered readings come before reserved, so that the clauses on the job record's own numbers stand together, and that
-- the carried error of request No. 3 comes after the pending error. The order decides nothing. Places and axes count from 0.
use Rattle.std.specs.Prelude.{◌≡◌, Bool, true, List, ℕ, ◌+◌, ◌*◌, ◌^◌, ◌<◌, ◌≤◌, pos, nat_abs, length, get_or}
use Rattle.sums.specs.Sums.{nat_sum_to}
use Rattle.grid.specs.Index.{level, Index, root, forward, backward}
use Rattle.grid.specs.Terms.{IsReading}
use Rattle.area.specs.declared.IndexRecord.{IndexRecord}
use Rattle.area.specs.Settings.{SettingsFit, reading_count, least_store}
use Rattle.area.specs.Entry.{delivered_of, reserved_by, pending_of, carried_of}
use Rattle.area.specs.Encoding.{Area, held_of, entries_of, none}
use Rattle.quadrature.specs.Readings.{record_at}
use Rattle.soundness.specs.Held.{levels_at, state_at, forward_link, backward_link, Holds, Held, HeldOld}

-- A link names exactly the held neighbour: the place that holds it, and none if no place does.
pub record Names (rs : List IndexRecord) (neighbour : List ℕ) (link : ℕ) : Type 0 where
  pub place : (q : ℕ) → Holds rs neighbour q → link ≡ q
  pub otherwise : (Held rs neighbour → ⊥) → link ≡ none

-- The clauses on the held indices and their links. d is the number of axes, rs the held records.
pub record Structure (d : ℕ) (rs : List IndexRecord) : Type 0 where
  -- levels and excess are in range; levels beyond axis d are 1
  pub index : (p : ℕ) → p < length rs → Index d (levels_at rs p)
  -- links beyond axis d are none
  pub beyond : (p a : ℕ) → p < length rs → d ≤ a → a < 8 → (forward_link rs p a ≡ none) × (backward_link rs p a ≡ none)
  -- each state is one of the three
  pub states : (p : ℕ) → p < length rs → state_at rs p ≤ 2
  -- the held are 1 to 512, all different, the root first
  pub count : (1 ≤ length rs) × (length rs ≤ 512)
  pub different : (p q : ℕ) → p < length rs → q < length rs → levels_at rs p ≡ levels_at rs q → p ≡ q
  pub first : levels_at rs 0 ≡ root
  -- their backward neighbours are old
  pub behind : (p a : ℕ) → p < length rs → a < d → 1 < level (levels_at rs p) a → HeldOld rs (backward (levels_at rs p) a)
  -- all indices so admissible are held
  pub admissible : (k : List ℕ) → Index d k → ((a : ℕ) → a < d → 1 < level k a → HeldOld rs (backward k a)) → Held rs k
  -- links name exactly the held neighbours; along an axis at level 1 there is no backward one
  pub forward_links : (p a : ℕ) → p < length rs → a < d → Names rs (forward (levels_at rs p) a) (forward_link rs p a)
  pub backward_links : (p a : ℕ) → p < length rs → a < d → 1 < level (levels_at rs p) a → Names rs (backward (levels_at rs p) a) (backward_link rs p a)
  pub no_backward_link : (p a : ℕ) → p < length rs → a < d → level (levels_at rs p) a ≡ 1 → backward_link rs p a ≡ none

-- The clauses on the job record's own numbers.
pub record NumbersSound (a : Area) : Type 0 where
  -- reserved is the sum of the held blocks' sizes and within the budget
  pub reserved : a.job.reserved ≡ reserved_by (entries_of a)
  pub within_budget : a.job.reserved ≤ a.job.settings.budget
  -- the pending error is the active sum
  pub pending : a.job.pending ≡ pending_of (entries_of a)
  -- the carried error is the sum over the old at a ceiling
  pub carried : a.job.carried ≡ carried_of a.job.settings.axes (entries_of a)
  -- the scaled mean is in size at most the delivered count times 2^40
  pub mean : nat_abs a.job.mean ≤ length (delivered_of (entries_of a)) * 2 ^ 40

-- All clauses.
pub record Sound (a : Area) : Type 0 where
  -- the held records lie in the lent run: no clause by itself, it makes the held as many as the job record says
  pub held_lent : a.job.held ≤ length a.run.records
  -- d and budget are in range
  pub settings : SettingsFit a.job.settings
  pub structure : Structure a.job.settings.axes (held_of a)
  -- wanted records come last with indicator 0
  pub wanted_last : (p q : ℕ) → p ≤ q → q < length (held_of a) → state_at (held_of a) p ≡ 0 → state_at (held_of a) q ≡ 0
  pub wanted_indicator_zero : (p : ℕ) → p < length (held_of a) → state_at (held_of a) p ≡ 0 → (record_at (held_of a) p).indicator ≡ 0
  -- first readings are the running sum of block sizes, in readings
  pub first_readings : (p : ℕ) → p < length (held_of a)
      → (record_at (held_of a) p).first ≡ nat_sum_to p (λ q. reading_count a.job.settings (levels_at (held_of a) q))
  -- delivered readings are in range
  pub readings : (p n : ℕ) → p < length (held_of a) → 1 ≤ state_at (held_of a) p → n < reading_count a.job.settings (levels_at (held_of a) p)
      → ((record_at (held_of a) p).first + n < length a.store) × IsReading (get_or a.store ((record_at (held_of a) p).first + n) (pos 0))
  pub numbers : NumbersSound a

-- The lent storage is long enough ("Causes and numbers", 3): 512 records or more, and a store no shorter than the least that
-- the recorded settings allow.
pub record LongEnough (a : Area) : Type 0 where
  pub records : 512 ≤ length a.run.records
  pub store : least_store a.job.settings ≤ length a.store

-- An answer that says yes exactly if a statement holds.
pub record Exactly (answer : Bool) (P : Type 0) : Type 0 where
  pub sure : answer ≡ true → P
  pub back : P → answer ≡ true
