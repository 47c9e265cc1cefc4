-- Counts over the held records.
-- The idea: what is counted so far and what is still to be counted are the whole.
-- Assumes nothing.
use mathlib.Core.Path.{◌≡◌, refl, ap, ◌∙◌}
use mathlib.Core.Logic.{◌≢◌}
use mathlib.Core.Bool.{Bool, true, false, cond}
use mathlib.Core.List.{List, ◌∷◌}
use Prim.Native.Nat.{ℕ, zero, suc, ◌+◌, ◌<◌, ◌≤◌}
use native.Mathlib.Nat.{zero-add}
use native.Mathlib.Numerals.{add-one}
use native.Mathlib.Omega.{arith}
use lib.Dec.{eqb}
use lib.ListN.{length, drop, drop_of_length-le}
use lib.Seq.{drop-cons}
use borrow.Author.Tests.{eq-eqb, ne_eqb}
use Rattle.std.specs.List.{filter, range_with_len}
use Rattle.grid.specs.Index.{capped_axes}
use Rattle.area.specs.declared.IndexRecord.{IndexRecord}
use Rattle.area.specs.Records.{blank}
use Rattle.quadrature.specs.Readings.{record_at}
use Rattle.machine.specs.Counts.{count_of, ceiling_count}
use Rattle.writing.specs.Heads.{head_of, heads_of}

abbrev pub has_state : List IndexRecord → (s p : ℕ) → Bool
has_state rs s p = eqb (record_at rs p).state s

module _ (rs : List IndexRecord) where
  -- the first of the records left
  left : (p : ℕ) → p < length rs → drop p rs ≡ record_at rs p ∷ drop (p + 1) rs
  left p h = rw (drop-cons rs p blank h, add-one p)

  -- the places whose record has a state
  module _ (s : ℕ) where
    one_more : (b : Bool) (p : ℕ) (ps : List ℕ) → length (cond b (p ∷ ps) ps) ≡ cond b 1 0 + length ps
    one_more true p ps = omega arith
    one_more false p ps = omega arith

    counted_from : (m p : ℕ) → p + m ≡ length rs → length (filter (has_state rs s) (range_with_len p m)) ≡ count_of s (heads_of (drop p rs))
    unfolding count_of heads_of head_of
    counted_from zero p e = let none : length rs ≤ p = omega arith in rw (drop_of_length-le rs none) refl
    counted_from (suc m) p e =
        rw (left p (omega arith))
        (one_more (has_state rs s p) p (filter (has_state rs s) (range_with_len (p + 1) m)) ∙ ap (λ k. cond (has_state rs s p) 1 0 + k) (counted_from m (p + 1) (omega arith)))

    pub counted_all : (n : ℕ) → n ≡ length rs → length (filter (has_state rs s) (range_with_len 0 n)) ≡ count_of s (heads_of rs)
    counted_all n is = counted_from n 0 (omega arith)

  -- axes of old records that are at a ceiling
  module _ (d p : ℕ) where
    pub ceiling_old : p < length rs → (record_at rs p).state ≡ 2
        → ceiling_count d (heads_of (drop p rs)) ≡ capped_axes d (record_at rs p).levels + ceiling_count d (heads_of (drop (p + 1) rs))
    unfolding ceiling_count heads_of head_of
    ceiling_old h e = rw (left p h, eq-eqb (record_at rs p).state 2 e)

    pub ceiling_other : p < length rs → (record_at rs p).state ≢ 2 → ceiling_count d (heads_of (drop p rs)) ≡ ceiling_count d (heads_of (drop (p + 1) rs))
    unfolding ceiling_count heads_of head_of
    ceiling_other h e = rw (left p h, ne_eqb (record_at rs p).state 2 e) (zero-add _)

    pub ceiling_end : length rs ≤ p → ceiling_count d (heads_of (drop p rs)) ≡ 0
    unfolding ceiling_count heads_of
    ceiling_end h = rw (drop_of_length-le rs h)
