-- The fields by their places: each is told by its first byte, and they lie one after the other.
-- Assumes nothing.
use mathlib.Core.Path.{◌≡◌, refl, sym, ap, ◌∙◌, subst}
use mathlib.Core.Logic.{◌⊎◌, inl, inr}
use mathlib.Core.Bool.{cond}
use mathlib.Core.List.{List}
use Prim.Native.Nat.{ℕ, ◌+◌, ◌*◌, ◌-◌, ◌/◌, ◌%◌, ◌<◌, ◌≤◌}
use native.Mathlib.Omega.{arith}
use native.Mathlib.Decide.{dec_lt}
use lib.Dec.{ltb, eqb}
use borrow.Author.Tests.{lt-ltb, le-ltb}
use Rattle.jobfile.specs.Form.{entry_count, entry_byte, readings_byte}
use Rattle.jobfile.specs.Fields.{Field, axes, budget, threshold, entries, table_offset, indicator, count, offset, reading, width, first_byte, total, HasField, Kept, KeptBefore}

-- ---- the field at a byte

header_at : ℕ → Field
header_at b = cond (eqb b 0) axes (cond (eqb b 4) budget (cond (eqb b 8) threshold (cond (eqb b 16) entries table_offset)))

entry_field_at : (i r : ℕ) → Field
entry_field_at i r = cond (eqb r 0) (indicator i) (cond (eqb r 4) (count i) (offset i))

-- in a file with n entries
field_at : (n b : ℕ) → Field
field_at n b =
    cond (ltb b 24) (header_at b)
    (cond (ltb b (entry_byte n)) (entry_field_at ((b - 24) / 12) ((b - 24) % 12)) (reading ((b - entry_byte n) / 4)))

in_table : (n i r : ℕ) → i < n → r < 12 → field_at n (entry_byte i + r) ≡ entry_field_at i r
unfolding field_at
in_table n i r h s =
    let place : (entry_byte i + r - 24) / 12 ≡ i = omega arith in
    let rest : (entry_byte i + r - 24) % 12 ≡ r = omega arith in
    rw (le-ltb (entry_byte i + r) 24 (omega arith), lt-ltb (entry_byte i + r) (entry_byte n) (omega arith), place, rest) refl

in_readings : (n k : ℕ) → field_at n (entry_byte n + 4 * k) ≡ reading k
unfolding field_at
in_readings n k =
    let place : (entry_byte n + 4 * k - entry_byte n) / 4 ≡ k = omega arith in
    rw (le-ltb (entry_byte n + 4 * k) 24 (omega arith), le-ltb (entry_byte n + 4 * k) (entry_byte n) (omega arith), place) refl

module _ (c : List ℕ) where
  told : (f : Field) → HasField c f → field_at (entry_count c) (first_byte c f) ≡ f
  unfolding field_at header_at entry_field_at
  told axes h = refl
  told budget h = refl
  told threshold h = refl
  told entries h = refl
  told table_offset h = refl
  told (indicator i) h = let same : entry_byte i ≡ entry_byte i + 0 = omega arith in ap (field_at (entry_count c)) same ∙ in_table (entry_count c) i 0 h (omega arith)
  told (count i) h = in_table (entry_count c) i 4 h (omega arith)
  told (offset i) h = in_table (entry_count c) i 8 h (omega arith)
  told (reading n) h = in_readings (entry_count c) n

  pub same_field : (f g : Field) → HasField c f → HasField c g → first_byte c f ≡ first_byte c g → f ≡ g
  same_field f g h k e = sym (told f h) ∙ ap (field_at (entry_count c)) e ∙ told g k

  -- ---- one after the other

  -- a field begins at a multiple of 4, and none begins within the threshold's 8 bytes
  record Aligned (f : Field) : Type 0 where
    fours : first_byte c f % 4 ≡ 0
    gap : first_byte c f ≡ 12 → ⊥
    wide : (width f ≡ 4) ⊎ ((first_byte c f ≡ 8) × (width f ≡ 8))

  aligned : (f : Field) → Aligned f
  aligned axes = record { fours = refl; gap = λ e. omega arith; wide = inl refl }
  aligned budget = record { fours = refl; gap = λ e. omega arith; wide = inl refl }
  aligned threshold = record { fours = refl; gap = λ e. omega arith; wide = inr (refl, refl) }
  aligned entries = record { fours = refl; gap = λ e. omega arith; wide = inl refl }
  aligned table_offset = record { fours = refl; gap = λ e. omega arith; wide = inl refl }
  aligned (indicator i) = record { fours = omega arith; gap = λ e. omega arith; wide = inl refl }
  aligned (count i) = record { fours = omega arith; gap = λ e. omega arith; wide = inl refl }
  aligned (offset i) = record { fours = omega arith; gap = λ e. omega arith; wide = inl refl }
  aligned (reading n) = record { fours = omega arith; gap = λ e. omega arith; wide = inl refl }

  -- no field begins within another
  none_within : (f g : Field) → first_byte c f ≤ first_byte c g → first_byte c g < first_byte c f + width f → first_byte c g ≡ first_byte c f
  none_within f g l h = by (aligned f).wide
    where
      by : (width f ≡ 4) ⊎ ((first_byte c f ≡ 8) × (width f ≡ 8)) → first_byte c g ≡ first_byte c f
      by (inl w) = omega (arith, l, h, w, (aligned f).fours, (aligned g).fours)
      by (inr (at, w)) = omega (arith, l, h, at, w, (aligned g).fours, (aligned g).gap)

  -- a kept field after the fields that are kept
  pub one_more : (f : Field) → HasField c f → KeptBefore c (first_byte c f) → Kept c f → KeptBefore c (first_byte c f + width f)
  one_more f has before kept g there h = by (dec_lt (first_byte c g) (first_byte c f))
    where
      by : Dec (first_byte c g < first_byte c f) → Kept c g
      by (yes l) = before g there l
      by (no l) = subst (Kept c) (same_field f g has there (sym (none_within f g (omega (arith, l)) h))) kept

  -- nothing begins before the first byte, and every field before the end of the readings
  pub none_before : KeptBefore c 0
  none_before f has h = absurd (omega (arith, h))

  pub before_end : (f : Field) → HasField c f → first_byte c f < readings_byte c + 4 * total c
  before_end axes h = omega arith
  before_end budget h = omega arith
  before_end threshold h = omega arith
  before_end entries h = omega arith
  before_end table_offset h = omega arith
  before_end (indicator i) h = omega arith
  before_end (count i) h = omega arith
  before_end (offset i) h = omega arith
  before_end (reading n) h = omega arith
