-- The search for the first wanted record.
-- The idea: past records that aren't wanted, what is left answers as the whole did, counted from its own start.
-- Assumes nothing.
use mathlib.Core.Path.{◌≡◌}
use mathlib.Core.Logic.{◌≢◌}
use mathlib.Core.List.{List}
use Prim.Native.Nat.{ℕ, zero, suc, ◌+◌, ◌<◌, ◌≤◌}
use native.Mathlib.Omega.{arith}
use lib.ListN.{length, drop, drop_of_length-le}
use lib.Seq.{drop-cons}
use borrow.Author.Tests.{eq-eqb, ne_eqb}
use Rattle.std.specs.Prelude.{Option, None, Some, MatchOption, IfSome, unwrap_or}
use Rattle.area.specs.declared.IndexRecord.{IndexRecord}
use Rattle.area.specs.Records.{blank}
use Rattle.quadrature.specs.Readings.{record_at}
use Rattle.machine.specs.Log.{first_wanted}
use Rattle.writing.specs.Heads.{head_of, heads_of}

module _ (rs : List IndexRecord) where
  abbrev state : ℕ → ℕ
  state p = (record_at rs p).state

  -- the first wanted of the records from place p on
  abbrev first_from : ℕ → ℕ
  first_from p = first_wanted (heads_of (drop p rs))

  -- it is wanted, it is not, or no record is left
  wanted_here : (p : ℕ) → p < length rs → state p ≡ 0 → first_from p ≡ 0
  unfolding first_wanted heads_of head_of
  wanted_here p h e = rw (drop-cons rs p blank h, eq-eqb (state p) 0 e)

  wanted-later : (p : ℕ) → p < length rs → state p ≢ 0 → first_from p ≡ suc (first_from (suc p))
  unfolding first_wanted heads_of head_of
  wanted-later p h e = rw (drop-cons rs p blank h, ne_eqb (state p) 0 e)

  wanted_end : (n : ℕ) → n ≡ length rs → first_from n ≡ 0
  unfolding first_wanted heads_of
  wanted_end n is = let none : length rs ≤ n = omega arith in rw (drop_of_length-le rs none)

  -- past p records, none of which is wanted
  passed : (p : ℕ) → p ≤ length rs → ((k : ℕ) → 0 ≤ k → k < p → state k ≢ 0) → first_wanted (heads_of rs) ≡ p + first_from p
  passed zero h others = omega arith
  passed (suc p) h others = omega (arith, passed p (omega arith) (λ k l i. others k l (omega arith)), wanted-later p (omega arith) (others p (omega arith) (omega arith)))

  -- what a search through the places finds
  module _ (n : ℕ) (is : n ≡ length rs) where
    pub found : (r : Option ℕ)
        → MatchOption r ((k : ℕ) → 0 ≤ k → k < n → state k ≢ 0) (λ i. (0 ≤ i) × (i < n) × (state i ≡ 0) × ((k : ℕ) → 0 ≤ k → k < i → state k ≢ 0))
        → (unwrap_or r (length rs) ≡ first_wanted (heads_of rs)) × IfSome r (λ p. p < length rs)
    found None others = (omega (arith, passed n (omega arith) others, wanted_end n is), search)
    found (Some i) here = (omega (arith, passed i (omega arith) here.3, wanted_here i (omega arith) here.2), omega arith)
