-- What refining a place admits, told by the levels of the indices alone, when it is *spent*, and that what it appends is just that ("Old,
-- active and wanted"). The scan over the axes (`admitted_axes`) and the limits (`fits`) do not occur here.
use Rattle.std.specs.Prelude.{◌≡◌, ◌⊎◌, ℕ, ◌+◌, ◌<◌, ◌≤◌, length, get_or}
use mathlib.Core.List.{List, [], ◌∷◌, ◌++◌, map, Memᴰ}
use Rattle.grid.specs.Index.{level, Within, forward, backward}
use Rattle.grid.specs.Block.{block_size}
use Rattle.grid.specs.Terms.{NoDup}
use Rattle.area.specs.Entry.{Entry, reserved_by}
use Rattle.area.specs.Log.{Log, Machine}
use Rattle.encoding.specs.Entries.{entry_at, Entered, EnteredOld, SoundMachine}
use Rattle.machine.specs.Log.{wanted, Active}
use Rattle.machine.specs.Promote as refining

-- The index k is admitted where the place p of the entries is refined, in a job with d axes.
pub record Admitted (d : ℕ) (es : List Entry) (p : ℕ) (k : List ℕ) : Type 0 where
  -- it is a forward neighbour of the place's index, along one of the axes 1 to d (axis 1 is 0)
  pub axis : ℕ
  pub among : axis < d
  pub neighbour : k ≡ forward (entry_at es p).levels axis
  -- within the ceilings
  pub ceilings : Within k
  -- and all its own backward neighbours are old, the place's index counted as old
  pub behind : (a : ℕ) → a < d → 1 < level k a → EnteredOld es (backward k a) ⊎ (backward k a ≡ (entry_at es p).levels)

-- A list that has every index of a kind, once, and no other.
pub record Lists (Kind : List ℕ → Type 0) (ks : List (List ℕ)) : Type 0 where
  pub each : (k : List ℕ) → Memᴰ k ks → Kind k
  pub all : (k : List ℕ) → Kind k → Memᴰ k ks
  pub once : NoDup ks

-- f at each index of a list, added up.
unfoldable pub total_of : (List ℕ → ℕ) → List (List ℕ) → ℕ
total_of f [] = 0
total_of f (k ∷ ks) = f k + total_of f ks

-- ks are the indices that are admitted where the place p of the log is refined, each once.
abbrev pub ListsAdmitted : Log → ℕ → List (List ℕ) → Type 0
ListsAdmitted l p ks = Lists (Admitted l.settings.axes l.entries p) ks

-- With the indices ks besides, the held are above 512, or the reserved readings above the budget.
abbrev pub Exceeds : Log → List (List ℕ) → Type 0
Exceeds l ks = (512 < length l.entries + length ks) ⊎ (l.settings.budget < reserved_by l.entries + total_of block_size ks)

-- The place of an entry that has a level for each axis, as every index has.
pub record IndexPlace (l : Log) (p : ℕ) : Type 0 where
  pub inside : p < length l.entries
  pub levels : l.settings.axes ≤ length (entry_at l.entries p).levels

-- The indices ks are forward neighbours of k in axis order: the i-th along the i-th of some axes, which rise.
pub record InAxisOrder (k : List ℕ) (ks : List (List ℕ)) : Type 0 where
  pub axes : List ℕ
  pub along : ks ≡ map (forward k) axes
  pub rising : (i j : ℕ) → i < j → j < length axes → get_or axes i 0 < get_or axes j 0

-- Refining the place p makes its entry old, leaves every other as it was, and appends the indices ks, wanted: exactly the admitted, each once,
-- in axis order.
pub record Appends (l : Log) (p : ℕ) (ks : List (List ℕ)) : Type 0 where
  pub entries : refining.refine l.settings.axes l.entries p ≡ refining.make_old l.entries p ++ map wanted ks
  pub admitted : ListsAdmitted l p ks
  pub order : InAxisOrder (entry_at l.entries p).levels ks

-- Of refining any place, whatever selected it.
pub record AdmittedFacts : Type 0 where
  -- in a sound state every place of an entry is one, so there the premise `IndexPlace` below asks nothing
  pub sound_place : (m : Machine) (p : ℕ) → SoundMachine m → p < length m.log.entries → IndexPlace m.log p
  -- the admitted can be listed
  pub listed : (l : Log) (p : ℕ) → IndexPlace l p → (ks : List (List ℕ)) × ListsAdmitted l p ks
  -- and they are what is appended
  pub appends : (l : Log) (p : ℕ) → IndexPlace l p → (ks : List (List ℕ)) × Appends l p ks
  -- *spent* exactly if they would bring the held above 512 or the reserved above the budget
  pub spent : (l : Log) (p : ℕ) (ks : List (List ℕ)) → IndexPlace l p → ListsAdmitted l p ks → Exceeds l ks → (refining.promote_at l p).outcome ≡ refining.spent
  pub spent_only : (l : Log) (p : ℕ) (ks : List (List ℕ)) → IndexPlace l p → ListsAdmitted l p ks → (refining.promote_at l p).outcome ≡ refining.spent → Exceeds l ks
  -- and *promoted* otherwise
  pub promoted : (l : Log) (p : ℕ) (ks : List (List ℕ)) → IndexPlace l p → ListsAdmitted l p ks → (Exceeds l ks → ⊥) → (refining.promote_at l p).outcome ≡ refining.promoted
  -- in a sound state none that an active place admits is held
  pub none_held : (m : Machine) (p : ℕ) (k : List ℕ) → SoundMachine m → Active m.log.entries p
      → Admitted m.log.settings.axes m.log.entries p k → Entered m.log.entries k → ⊥
