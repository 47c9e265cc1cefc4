-- The calls' rows of the table of causes ("Causes and numbers", and 11 of request No. 4), each in its own case. What is asked is said of the arguments,
-- the lent storage and the area; the lists of causes by which the calls are defined (crate `machine`, specs/Causes.antt) do not occur. That each
-- call is accepted where none of these is the case is said in crate `history` (`Excluded`).
use Rattle.std.specs.Prelude.{◌≡◌, ◌⊎◌, true, false, List, ℕ, ◌<◌, ◌≤◌, ℤ, length}
use Rattle.grid.specs.Block.{block_size}
use Rattle.area.specs.declared.Settings.{Settings}
use Rattle.area.specs.Settings.{SettingsFit, reading_count, least_store}
use Rattle.area.specs.Encoding.{Area, held_of, entries_of}
use Rattle.quadrature.specs.Readings.{record_at}
use Rattle.soundness.specs.Sound.{Sound, LongEnough}
use Rattle.machine.specs.Log.{any_wanted, wanted_index, Active}
use Rattle.machine.specs.Causes.{in_range}
use Rattle.calls.specs.Replies.{refused}
use Rattle.calls.specs.Table.{Call, start, point, points, deliver, choose, promote, result, doubles, cross_total, check}
use Rattle.calls.specs.Calls.{call_on}

abbrev pub RefusedBy : Area → Call → ℕ → Type 0
RefusedBy a c n = (call_on a c).answer.reply ≡ refused n

-- Any call but start and check.
abbrev pub OnJob : Call → Type 0
OnJob (start g) = ⊥
OnJob (point n buffer) = Unit {0}
OnJob (points n buffer) = Unit {0}
OnJob (deliver rs i) = Unit {0}
OnJob choose = Unit {0}
OnJob (promote p) = Unit {0}
OnJob result = Unit {0}
OnJob doubles = Unit {0}
OnJob cross_total = Unit {0}
OnJob check = ⊥

-- The buffer of point or points has a byte for each axis; the others have none.
abbrev pub BufferFits : Area → Call → Type 0
BufferFits a (start g) = Unit {0}
BufferFits a (point n buffer) = a.job.settings.axes ≤ length buffer
BufferFits a (points n buffer) = a.job.settings.axes ≤ length buffer
BufferFits a (deliver rs i) = Unit {0}
BufferFits a choose = Unit {0}
BufferFits a (promote p) = Unit {0}
BufferFits a result = Unit {0}
BufferFits a doubles = Unit {0}
BufferFits a cross_total = Unit {0}
BufferFits a check = Unit {0}

-- Records under 512, or a store under what settings ask for, which is the budget.
abbrev pub Short : Area → Settings → Type 0
Short a g = (length a.run.records < 512) ⊎ (length a.store < least_store g)

pub record OwnCases : Type 0 where
  -- 1: d not 1 to 8
  pub axes : (a : Area) (g : Settings) → (1 ≤ g.axes → g.axes ≤ 8 → ⊥) → RefusedBy a (start g) 1
  -- 2: budget not 1 to 8,192
  pub budget : (a : Area) (g : Settings) → 1 ≤ g.axes → g.axes ≤ 8 → (1 ≤ g.budget → g.budget ≤ 8192 → ⊥) → RefusedBy a (start g) 2
  -- 3: records under 512, reading store under the budget: start's own, and for every call on a job the recorded one, sound or not
  pub start_storage : (a : Area) (g : Settings) → SettingsFit g → Short a g → RefusedBy a (start g) 3
  pub storage : (a : Area) (c : Call) → OnJob c → Short a a.job.settings → RefusedBy a c 3
  -- 3: point buffer under d
  pub point_buffer_lem : (a : Area) (n : ℕ) (buffer : List ℕ) → length buffer < a.job.settings.axes → RefusedBy a (point n buffer) 3 × RefusedBy a (points n buffer) 3
  -- 4: any call but start and check: area not sound
  pub not_sound : (a : Area) (c : Call) → OnJob c → LongEnough a → BufferFits a c → (Sound a → ⊥) → RefusedBy a c 4
  -- 5: point, deliver: no block wanted
  pub point_none : (a : Area) (n : ℕ) (buffer : List ℕ) → LongEnough a → Sound a → a.job.settings.axes ≤ length buffer → any_wanted (entries_of a) ≡ false
      → RefusedBy a (point n buffer) 5 × RefusedBy a (points n buffer) 5
  pub deliver_none : (a : Area) (rs : List ℤ) (i : ℕ) → LongEnough a → Sound a → any_wanted (entries_of a) ≡ false → RefusedBy a (deliver rs i) 5
  -- 6: choose, promote: a block wanted; of promote whatever the place
  pub choose_wanted : (a : Area) → LongEnough a → Sound a → any_wanted (entries_of a) ≡ true → RefusedBy a choose 6
  pub promote_wanted : (a : Area) (p : ℕ) → LongEnough a → Sound a → any_wanted (entries_of a) ≡ true → RefusedBy a (promote p) 6
  -- 7: deliver: reading count is not the block's
  pub count : (a : Area) (rs : List ℤ) (i : ℕ) → LongEnough a → Sound a → any_wanted (entries_of a) ≡ true
      → (length rs ≡ reading_count a.job.settings (wanted_index (entries_of a)) → ⊥) → RefusedBy a (deliver rs i) 7
  -- 8: deliver: a reading out of range
  pub range : (a : Area) (rs : List ℤ) (i : ℕ) → LongEnough a → Sound a → any_wanted (entries_of a) ≡ true
      → length rs ≡ reading_count a.job.settings (wanted_index (entries_of a)) → in_range rs ≡ false → RefusedBy a (deliver rs i) 8
  -- 9: point: n not below the block's size
  pub past_block : (a : Area) (n : ℕ) (buffer : List ℕ) → LongEnough a → Sound a → a.job.settings.axes ≤ length buffer → any_wanted (entries_of a) ≡ true
      → block_size (wanted_index (entries_of a)) ≤ n → RefusedBy a (point n buffer) 9 × RefusedBy a (points n buffer) 9
  -- 11: promote: no active index at the place: held or more, or an old one
  pub not_active : (a : Area) (p : ℕ) → LongEnough a → Sound a → any_wanted (entries_of a) ≡ false → (Active (entries_of a) p → ⊥) → RefusedBy a (promote p) 11
  pub past_held : (a : Area) (p : ℕ) → LongEnough a → Sound a → any_wanted (entries_of a) ≡ false → a.job.held ≤ p → RefusedBy a (promote p) 11
  pub old_place : (a : Area) (p : ℕ) → LongEnough a → Sound a → any_wanted (entries_of a) ≡ false → (record_at (held_of a) p).state ≡ 2 → RefusedBy a (promote p) 11
