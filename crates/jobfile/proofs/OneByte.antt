-- The fields name one byte at most, and none of a file of the right form.
-- The idea: two fields that are the first not kept begin at the same byte, hence are one field.
-- Assumes nothing.
use mathlib.Core.Path.{◌≡◌, refl, sym, ap, ◌∙◌, subst}
use mathlib.Core.Logic.{inl, inr}
use mathlib.Core.List.{List}
use Prim.Native.Nat.{ℕ, ◌+◌, ◌<◌, ◌≤◌}
use native.Mathlib.Omega.{arith}
use native.Mathlib.Decide.{dec_lt}
use lib.ListN.{length}
use Rattle.jobfile.specs.Form.{Fault, Form, formed, broken, entry_count, form_of}
use Rattle.jobfile.specs.File.{total_before}
use Rattle.jobfile.specs.Facts.{FormedFile}
use Rattle.jobfile.specs.Fields.{Field, axes, budget, threshold, entries, table_offset, indicator, count, offset, reading, width, first_byte, HasField, Kept, KeptBefore, BreaksRule, EndsEarly, NamedByte}
use Rattle.jobfile.proofs.Formed.{formed_file, total-within}
use Rattle.jobfile.proofs.Places.{same_field}
use Rattle.jobfile.proofs.Named.{named_byte}

module _ (c : List ℕ) where
  -- ---- one byte

  -- the first field that is not kept
  record First (f : Field) : Type 0 where
    has : HasField c f
    before : KeptBefore c (first_byte c f)
    not : Kept c f → ⊥

  breaking : (b : ℕ) (x : BreaksRule c b) → First x.field
  breaking b x = record { has = x.has; before = x.before; not = λ k. x.breaks k.rule }

  ending : (b : ℕ) (x : EndsEarly c b) → First x.field
  ending b x = record { has = x.has; before = x.before; not = λ k. omega (arith, x.cut_off, k.inside) }

  one_field : (f g : Field) → First f → First g → f ≡ g
  one_field f g x y = same_field c f g x.has y.has (by (dec_lt (first_byte c f) (first_byte c g)) (dec_lt (first_byte c g) (first_byte c f)))
    where
      by : Dec (first_byte c f < first_byte c g) → Dec (first_byte c g < first_byte c f) → first_byte c f ≡ first_byte c g
      by (yes l) d = absurd (x.not (y.before f x.has l))
      by (no l) (yes k) = absurd (y.not (x.before g y.has k))
      by (no l) (no k) = omega (arith, l, k)

  apart : (a b : ℕ) → BreaksRule c a → EndsEarly c b → ⊥
  apart a b x y =
      let e = one_field x.field y.field (breaking a x) (ending b y) in
      omega (arith, subst (λ f. first_byte c f + width f ≤ length c) e x.inside, y.cut_off)

  pub one_byte : (a b : ℕ) → NamedByte c a → NamedByte c b → a ≡ b
  one_byte a b (inl x) (inl y) = x.named ∙ ap (first_byte c) (one_field x.field y.field (breaking a x) (breaking b y)) ∙ sym y.named
  one_byte a b (inl x) (inr (inl y)) = absurd (apart a b x y)
  one_byte a b (inl x) (inr (inr y)) = absurd ((breaking a x).not (y.kept x.field x.has))
  one_byte a b (inr (inl x)) (inl y) = absurd (apart b a y x)
  one_byte a b (inr (inl x)) (inr (inl y)) = x.named ∙ sym y.named
  one_byte a b (inr (inl x)) (inr (inr y)) = absurd ((ending a x).not (y.kept x.field x.has))
  one_byte a b (inr (inr x)) (inl y) = absurd ((breaking b y).not (x.kept y.field y.has))
  one_byte a b (inr (inr x)) (inr (inl y)) = absurd ((ending b y).not (x.kept y.field y.has))
  one_byte a b (inr (inr x)) (inr (inr y)) = x.named ∙ sym y.named

  -- ---- none of a file of the right form
  module _ (o : FormedFile c) where
    all_kept : (f : Field) → HasField c f → Kept c f
    all_kept axes h = record { inside = omega (arith, o.header_inside); rule = tt }
    all_kept budget h = record { inside = omega (arith, o.header_inside); rule = tt }
    all_kept threshold h = record { inside = omega (arith, o.header_inside); rule = tt }
    all_kept entries h = record { inside = omega (arith, o.header_inside); rule = o.entries_at_most }
    all_kept table_offset h = record { inside = o.header_inside; rule = o.table_at }
    all_kept (indicator i) h = record { inside = omega (arith, o.entry_inside i h); rule = tt }
    all_kept (count i) h =
        record {
          inside = omega (arith, o.entry_inside i h);
          rule = (o.readings_at_least i h, o.readings_at_most i h, unfold total_before in omega (arith, total-within c i (entry_count c) h, o.total_at_most));
        }
    all_kept (offset i) h = record { inside = omega (arith, o.entry_inside i h); rule = o.readings_from i h }
    all_kept (reading n) h = record { inside = omega (arith, o.size, h); rule = tt }

    none_named : (b : ℕ) → NamedByte c b → ⊥
    none_named b (inl x) = x.breaks (all_kept x.field x.has).rule
    none_named b (inr (inl x)) = omega (arith, x.cut_off, (all_kept x.field x.has).inside)
    none_named b (inr (inr x)) = omega (arith, x.named, x.more, o.size)

  pub named_back : (b : ℕ) → NamedByte c b → (f : Fault) × (form_of c ≡ broken f) × (f.byte ≡ b)
  named_back b x = by (form_of c) refl
    where
      by : (t : Form) → form_of c ≡ t → (f : Fault) × (form_of c ≡ broken f) × (f.byte ≡ b)
      by formed e = absurd (none_named (formed_file c e) b x)
      by (broken f) e = (f, e, one_byte f.byte b (named_byte c f e) x)
