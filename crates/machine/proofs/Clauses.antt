-- The clauses of soundness, those on each entry by itself apart from those on all together.
-- The idea: a step replaces one entry and appends wanted ones, so what is asked of each entry is shown of the new ones and carried over
-- for the rest.
-- Assumes nothing.
use mathlib.Core.Path.{◌≡◌, refl}
use mathlib.Core.List.{List, []}
use Prim.Native.Nat.{ℕ, ◌*◌, ◌^◌, ◌<◌, ◌≤◌}
use native.Mathlib.Omega.{arith}
use lib.IntN.{pos, nat_abs}
use lib.ListN.{length, get_or}
use Rattle.grid.specs.Index.{level, Index, root, backward}
use Rattle.grid.specs.Terms.{IsReading}
use Rattle.area.specs.declared.Settings.{Settings}
use Rattle.area.specs.Settings.{SettingsFit, reading_count}
use Rattle.area.specs.Entry.{Entry, delivered_of, reserved_by}
use Rattle.area.specs.Log.{Machine}
use Rattle.encoding.specs.Entries.{entry_at, Entered, EnteredOld, SoundMachine}
use Rattle.machine.specs.Log.{wanted}
use Rattle.machine.proofs.Sets.{Different, Last}

-- what is asked of an entry among others, of which some indices are old
pub record SoundEntry (g : Settings) (Old : List ℕ → Type 0) (e : Entry) : Type 0 where
  pub index : Index g.axes e.levels
  pub state : e.state ≤ 2
  pub idle : e.state ≡ 0 → e.indicator ≡ 0
  pub empty : e.state ≡ 0 → e.readings ≡ []
  pub whole : 1 ≤ e.state → length e.readings ≡ reading_count g e.levels
  pub readings : (n : ℕ) → 1 ≤ e.state → n < reading_count g e.levels → IsReading (get_or e.readings n (pos 0))
  pub behind : (a : ℕ) → a < g.axes → 1 < level e.levels a → Old (backward e.levels a)

-- where what was old stays old
pub sound_kept : {g : Settings} {Old New : List ℕ → Type 0} {e : Entry} → ((k : List ℕ) → Old k → New k) → SoundEntry g Old e → SoundEntry g New e
sound_kept {e = e} f r =
    record {
      index = r.index;
      state = r.state;
      idle = r.idle;
      empty = r.empty;
      whole = r.whole;
      readings = r.readings;
      behind = λ a h l. f (backward e.levels a) (r.behind a h l);
    }

-- an index just admitted
pub sound_wanted : {g : Settings} {Old : List ℕ → Type 0} (k : List ℕ) → Index g.axes k → ((a : ℕ) → a < g.axes → 1 < level k a → Old (backward k a)) → SoundEntry g Old (wanted k)
unfolding wanted
sound_wanted k i f =
    record {
      index = i;
      state = omega arith;
      idle = λ z. refl;
      empty = λ z. refl;
      whole = λ h. absurd (omega arith);
      readings = λ n h. absurd (omega arith);
      behind = f;
    }

-- what is asked of all together
module _ (m : Machine) where
  abbrev g : Settings
  g = m.log.settings

  abbrev es : List Entry
  es = m.log.entries

  pub record Joint : Type 0 where
    pub settings : SettingsFit g
    pub count : (1 ≤ length es) × (length es ≤ 512)
    pub different : Different es
    pub first : (entry_at es 0).levels ≡ root
    pub admissible : (k : List ℕ) → Index g.axes k → ((a : ℕ) → a < g.axes → 1 < level k a → EnteredOld es (backward k a)) → Entered es k
    pub last : Last es
    pub within_budget : reserved_by es ≤ g.budget
    pub mean : nat_abs m.mean ≤ length (delivered_of es) * 2 ^ 40

  abbrev pub EachSound : Type 0
  EachSound = (p : ℕ) → p < length es → SoundEntry g (EnteredOld es) (entry_at es p)

pub sound_at : {m : Machine} → SoundMachine m → EachSound m
sound_at v p h =
    record {
      index = v.index p h;
      state = v.states p h;
      idle = v.wanted_indicator_zero p h;
      empty = v.wanted_empty p h;
      whole = v.whole p h;
      readings = λ n. v.readings p n h;
      behind = λ a. v.behind p a h;
    }

pub sound_from : {m : Machine} → Joint m → EachSound m → SoundMachine m
sound_from j r =
    record {
      settings = j.settings;
      index = λ p h. (r p h).index;
      states = λ p h. (r p h).state;
      count = j.count;
      different = j.different;
      first = j.first;
      behind = λ p a h. (r p h).behind a;
      admissible = j.admissible;
      wanted_last = j.last;
      wanted_indicator_zero = λ p h. (r p h).idle;
      wanted_empty = λ p h. (r p h).empty;
      within_budget = j.within_budget;
      whole = λ p h. (r p h).whole;
      readings = λ p n h. (r p h).readings n;
      mean = j.mean;
    }
