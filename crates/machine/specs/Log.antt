-- What is asked of a log's entries: the first wanted one, and whether a place is active. The log itself is defined with the storage that
-- encodes it (crate `area`, specs/Log.antt).
use Rattle.std.specs.Prelude.{◌≡◌, Bool, cond, ◌&&◌, List, [], ◌∷◌, ℕ, suc, ◌<◌, ltb, eqb, length}
use Rattle.area.specs.Entry.{Entry}
use Rattle.encoding.specs.Entries.{entry_at}

-- An index just admitted: wanted, its block not yet delivered.
unfoldable pub wanted : List ℕ → Entry
wanted k = record { levels = k; state = 0; indicator = 0; readings = [] }

-- The place of the first wanted entry; the number of entries if none is wanted.
unfoldable pub first_wanted : List Entry → ℕ
first_wanted [] = 0
first_wanted (e ∷ es) = cond (eqb e.state 0) 0 (suc (first_wanted es))

-- Whether a block is wanted.
unfoldable pub any_wanted : List Entry → Bool
any_wanted es = ltb (first_wanted es) (length es)

-- The index of the first wanted block; no levels if none is wanted.
abbrev pub wanted_index : List Entry → List ℕ
wanted_index es = (entry_at es (first_wanted es)).levels

-- The place is that of an active index. It is any number: from the number of entries on there is no index.
pub record Active (es : List Entry) (p : ℕ) : Type 0 where
  pub place : p < length es
  pub active : (entry_at es p).state ≡ 1

-- Whether it is.
unfoldable pub active_at : List Entry → ℕ → Bool
active_at es p = ltb p (length es) && eqb (entry_at es p).state 1
