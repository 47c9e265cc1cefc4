-- The clauses of soundness that speak of the machine's state: settings, entries and mean. What must hold of a state, so that the area
-- that encodes it is sound and reads back as that state. In the scope document's order; links, first readings, reserved, pending and carried
-- error are what the encoding makes of them. An entry's state is 0 (wanted), 1 (active) or 2 (old).
use Rattle.std.specs.Prelude.{◌≡◌, List, [], ℕ, ◌*◌, ◌^◌, ◌<◌, ◌≤◌, pos, nat_abs, length, get_or}
use Rattle.grid.specs.Index.{level, Index, root, backward}
use Rattle.grid.specs.Terms.{IsReading}
use Rattle.area.specs.declared.Settings.{Settings}
use Rattle.area.specs.Settings.{SettingsFit, reading_count}
use Rattle.area.specs.Entry.{Entry, delivered_of, reserved_by}
use Rattle.area.specs.Log.{Machine}

-- What a place past the entries reads as.
unfoldable pub no_entry : Entry
no_entry = record { levels = []; state = 0; indicator = 0; readings = [] }

abbrev pub entry_at : List Entry → ℕ → Entry
entry_at es p = get_or es p no_entry

-- The place p has the index k; k has an entry; k has an old entry.
pub record Has (es : List Entry) (k : List ℕ) (p : ℕ) : Type 0 where
  pub place : p < length es
  pub same : (entry_at es p).levels ≡ k

abbrev pub Entered : List Entry → List ℕ → Type 0
Entered es k = (p : ℕ) × Has es k p

abbrev pub EnteredOld : List Entry → List ℕ → Type 0
EnteredOld es k = (p : ℕ) × Has es k p × ((entry_at es p).state ≡ 2)

module _ (m : Machine) where
  abbrev g : Settings
  g = m.log.settings

  abbrev es : List Entry
  es = m.log.entries

  pub record SoundMachine : Type 0 where
    -- d and budget are in range
    pub settings : SettingsFit g
    -- levels and excess are in range; levels beyond axis d are 1
    pub index : (p : ℕ) → p < length es → Index g.axes (entry_at es p).levels
    -- each state is one of the three
    pub states : (p : ℕ) → p < length es → (entry_at es p).state ≤ 2
    -- they are 1 to 512, all different, the root first
    pub count : (1 ≤ length es) × (length es ≤ 512)
    pub different : (p q : ℕ) → p < length es → q < length es → (entry_at es p).levels ≡ (entry_at es q).levels → p ≡ q
    pub first : (entry_at es 0).levels ≡ root
    -- their backward neighbours are old
    pub behind : (p a : ℕ) → p < length es → a < g.axes → 1 < level (entry_at es p).levels a → EnteredOld es (backward (entry_at es p).levels a)
    -- all indices so admissible are there
    pub admissible : (k : List ℕ) → Index g.axes k → ((a : ℕ) → a < g.axes → 1 < level k a → EnteredOld es (backward k a)) → Entered es k
    -- wanted entries come last with indicator 0, and have no readings
    pub wanted_last : (p q : ℕ) → p ≤ q → q < length es → (entry_at es p).state ≡ 0 → (entry_at es q).state ≡ 0
    pub wanted_indicator_zero : (p : ℕ) → p < length es → (entry_at es p).state ≡ 0 → (entry_at es p).indicator ≡ 0
    pub wanted_empty : (p : ℕ) → p < length es → (entry_at es p).state ≡ 0 → (entry_at es p).readings ≡ []
    -- the blocks' sizes are within the budget
    pub within_budget : reserved_by es ≤ g.budget
    -- a delivered entry has its block's readings, in range
    pub whole : (p : ℕ) → p < length es → 1 ≤ (entry_at es p).state → length (entry_at es p).readings ≡ reading_count g (entry_at es p).levels
    pub readings : (p n : ℕ) → p < length es → 1 ≤ (entry_at es p).state → n < reading_count g (entry_at es p).levels → IsReading (get_or (entry_at es p).readings n (pos 0))
    -- the scaled mean is in size at most the delivered count times 2^40
    pub mean : nat_abs m.mean ≤ length (delivered_of es) * 2 ^ 40
