-- Where a level list is held: the first place, or nowhere.
use Rattle.std.specs.Prelude.{cond, List, [], ◌∷◌, ℕ, ◌+◌, Option, Some, None}
use Rattle.grid.specs.Coefficient.{same_levels}
use Rattle.area.specs.declared.IndexRecord.{IndexRecord}

-- The first record with these levels, places counted from p.
unfoldable pub lookup_from : ℕ → List IndexRecord → List ℕ → Option ℕ
lookup_from p [] k = None
lookup_from p (r ∷ rs) k = cond (same_levels r.levels k) (Some p) (lookup_from (p + 1) rs k)

unfoldable pub lookup_in : List IndexRecord → List ℕ → Option ℕ
lookup_in rs k = lookup_from 0 rs k
