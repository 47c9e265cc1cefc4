-- The records of an `IndexRecords`, seen as a list, and the cells behind it; the words of a `HeldWords`, seen as words or none. Assumes nothing.
use mathlib.Core.Path.{◌≡◌, sym, ap, ◌∙◌}
use mathlib.Core.Bool.{Bool, true, cond}
use mathlib.Core.List.{List}
use Prim.Native.Nat.{ℕ, ◌+◌, ◌*◌, ◌-◌, ◌<◌, ◌≤◌}
use native.Mathlib.Omega.{arith}
use lib.ListN.{length, get_or, take, drop}
use lib.Seq.{get_or-take, take-take}
use Rattle.std.proofs.lemmas.List.{drop-take}
use Rattle.std.specs.Prelude.{Some, None}
use Rattle.area.specs.declared.IndexRecord.{IndexRecord}
use Rattle.area.specs.Records.{records_of, record_of, blank, held_in}
use Rattle.area.proofs.Records.{record_at_lem, eight_levels}
use Rattle.area.proofs.PackedRuns.{held_count, held_there}

-- a record reads no further than its 27 cells
pub record_short : (c : List ℕ) → record_of (take 27 c) ≡ record_of c
unfolding record_of
record_short c =
    let levels : take 8 (take 27 c) ≡ take 8 c = take-take 8 27 c (omega arith) in
    let state : get_or (take 27 c) 8 0 ≡ get_or c 8 0 = get_or-take 27 c 8 0 (omega arith) in
    let indicator : get_or (take 27 c) 9 0 ≡ get_or c 9 0 = get_or-take 27 c 9 0 (omega arith) in
    let first : get_or (take 27 c) 10 0 ≡ get_or c 10 0 = get_or-take 27 c 10 0 (omega arith) in
    let links : take 16 (drop 11 (take 27 c)) ≡ take 16 (drop 11 c) = ap (take 16) (drop-take 11 16 c) ∙ take-take 16 16 (drop 11 c) (omega arith) in
    rw (levels, state, indicator, first, links)

module _ (c : List ℕ) (n : ℕ) (rs : List IndexRecord) (room : n * 27 ≤ length c) (view : held_in c n ≡ rs) where
  -- there are as many as the count says
  pub count_is : length rs ≡ n
  count_is = ap length (sym view) ∙ held_count c n room

  module _ (p : ℕ) (h : p < length rs) where
    -- a place among them lies within the cells
    pub within_cells : p * 27 + 27 ≤ length c
    within_cells = omega (arith, h, count_is, room)

    -- and the record there is the cells'
    pub there : get_or (records_of c) p blank ≡ get_or rs p blank
    there = sym (held_there c n room p (omega (arith, h, count_is))) ∙ ap (λ (xs : List IndexRecord). get_or xs p blank) view

    pub row_is : record_of (take (p * 27 + 27 - p * 27) (drop (p * 27) c)) ≡ get_or rs p blank
    row_is =
        let e : p * 27 + 27 - p * 27 ≡ 27 = omega arith in
        ap (λ m. record_of (take m (drop (p * 27) c))) e ∙ record_short (drop (p * 27) c) ∙ sym (record_at_lem c p within_cells) ∙ there

    pub eight_seen : length (get_or rs p blank).levels ≡ 8
    eight_seen = ap (λ (r : IndexRecord). length r.levels) (sym there) ∙ eight_levels c p within_cells

-- words that are packed are seen
pub words_seen : (words : List ℕ) (are_packed : Bool) → are_packed ≡ true → cond are_packed (Some words) None ≡ Some words
words_seen words are_packed packed = ap (λ t. cond t (Some words) None) packed
