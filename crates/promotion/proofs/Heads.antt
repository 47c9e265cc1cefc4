-- Entries without readings, place by place.
-- Assumes nothing.
use mathlib.Core.Path.{◌≡◌, refl, sym, ap, ◌∙◌}
use mathlib.Core.List.{List, ◌∷◌}
use Prim.Native.Nat.{ℕ, ◌+◌, ◌<◌}
use native.Mathlib.Numerals.{add-one}
use native.Mathlib.Omega.{arith}
use lib.ListN.{length, get_or, drop, length-map, get_or-map}
use lib.Seq.{drop-cons}
use Rattle.area.specs.declared.IndexRecord.{IndexRecord}
use Rattle.area.specs.Records.{blank}
use Rattle.area.specs.Entry.{Entry}
use Rattle.quadrature.specs.Readings.{record_at}
use Rattle.encoding.specs.Entries.{no_entry, entry_at}
use Rattle.writing.specs.Heads.{head_of, heads_of}

module _ (rs : List IndexRecord) where
  pub heads_length : length (heads_of rs) ≡ length rs
  unfolding heads_of
  heads_length = length-map rs head_of

  -- the entry at a place is the record's
  head_at : (p : ℕ) → entry_at (heads_of rs) p ≡ head_of (record_at rs p)
  unfolding heads_of
  head_at p = ap (get_or (heads_of rs) p) past ∙ get_or-map head_of rs p blank
    where
      past : no_entry ≡ head_of blank
      past = unfold no_entry head_of blank in refl

  pub head_levels : (p : ℕ) → (entry_at (heads_of rs) p).levels ≡ (record_at rs p).levels
  unfolding head_of
  head_levels p = ap (λ (e : Entry). e.levels) (head_at p)

  pub head_state : (p : ℕ) → (entry_at (heads_of rs) p).state ≡ (record_at rs p).state
  unfolding head_of
  head_state p = ap (λ (e : Entry). e.state) (head_at p)

  pub head_indicator : (p : ℕ) → (entry_at (heads_of rs) p).indicator ≡ (record_at rs p).indicator
  unfolding head_of
  head_indicator p = ap (λ (e : Entry). e.indicator) (head_at p)

  -- one entry more at the front
  pub heads_front : (p : ℕ) → p < length rs → drop p (heads_of rs) ≡ entry_at (heads_of rs) p ∷ drop (p + 1) (heads_of rs)
  heads_front p h =
      drop-cons (heads_of rs) p no_entry (omega (arith, heads_length)) ∙ ap (λ n. entry_at (heads_of rs) p ∷ drop n (heads_of rs)) (sym (add-one p))
