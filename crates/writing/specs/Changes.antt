-- Changes of a run of records: one record given another state or one link, and an index appended with links set both ways.
use Rattle.std.specs.Prelude.{cond, List, [], ◌∷◌, ◌++◌, ℕ, zero, suc, ◌+◌, ltb, eqb, get_or, set, take, replicate}
use Rattle.sums.specs.Lists.{tabulate}
use Rattle.grid.specs.Index.{level, root, forward, backward}
use Rattle.grid.specs.Block.{block_size}
use Rattle.area.specs.declared.IndexRecord.{IndexRecord}
use Rattle.area.specs.declared.Settings.{Settings}
use Rattle.area.specs.Settings.{reading_count}
use Rattle.area.specs.Records.{levels_of}
use Rattle.area.specs.Encoding.{none, place_of}
use Rattle.quadrature.specs.Readings.{record_at}

-- A record with another state and indicator; with the place n as its forward link along a.
unfoldable pub with_state : IndexRecord → (state indicator : ℕ) → IndexRecord
with_state r s i = record { levels = r.levels; state = s; indicator = i; first = r.first; links = r.links }

unfoldable pub with_forward_link : IndexRecord → (a n : ℕ) → IndexRecord
with_forward_link r a n = record { levels = r.levels; state = r.state; indicator = r.indicator; first = r.first; links = set r.links a n }

-- The record of an index just admitted, its block from f on.
unfoldable pub admitted_record : List ℕ → List ℕ → ℕ → IndexRecord
admitted_record links x f = record { levels = x; state = 0; indicator = 0; first = f; links = links }

-- The root as start leaves it: no neighbour is held.
unfoldable pub root_record : IndexRecord
root_record = admitted_record (replicate 16 none) root 0

-- The links of an index just admitted: no forward neighbour is held; every backward neighbour is, and is looked up.
unfoldable pub new_links : List (List ℕ) → List ℕ → List ℕ
new_links ls x = replicate 8 none ++ tabulate 8 (λ a. cond (ltb 1 (level x a)) (place_of ls (backward x a)) none)

-- Those whose backward link is in `links` get the place n as their forward link, along m axes from a on.
unfoldable pub named_from : ℕ → ℕ → List ℕ → ℕ → List IndexRecord → List IndexRecord
named_from zero a links n rs = rs
named_from (suc m) a links n rs =
    named_from m (a + 1) links n (cond (eqb (get_or links (8 + a) 0) none) rs (set rs (get_or links (8 + a) 0) (with_forward_link (record_at rs (get_or links (8 + a) 0)) a n)))

-- x is appended to the n held, its block from f on.
unfoldable pub appended : List IndexRecord → (n f : ℕ) → List ℕ → List IndexRecord
appended rs n f x = set (named_from 8 0 (new_links (levels_of (take n rs)) x) n rs) n (admitted_record (new_links (levels_of (take n rs)) x) x f)

-- k's forward neighbours along the axes are appended in turn, the readings of one after those of the other.
unfoldable pub appended_all : Settings → List IndexRecord → (n f : ℕ) → List ℕ → List ℕ → List IndexRecord
appended_all g rs n f k [] = rs
appended_all g rs n f k (a ∷ axes) = appended_all g (appended rs n f (forward k a)) (n + 1) (f + reading_count g (forward k a)) k axes

-- The sizes of their blocks together, in points.
unfoldable pub sizes_of : List ℕ → List ℕ → ℕ
sizes_of k [] = 0
sizes_of k (a ∷ axes) = block_size (forward k a) + sizes_of k axes
