-- Wanted entries appended: what is at each place, what is entered and old, which clauses stay, and what is delivered.
-- Assumes nothing.
use mathlib.Core.Path.{◌≡◌, refl, sym, ap, ◌∙◌, subst}
use mathlib.Core.Logic.{◌⊎◌, inl, inr}
use mathlib.Core.Bool.{cond}
use mathlib.Core.List.{List, [], ◌∷◌, ◌++◌}
use Prim.Native.Nat.{ℕ, suc, ◌+◌, ◌-◌, ◌<◌}
use native.Mathlib.Decide.{dec_lt}
use native.Mathlib.Omega.{arith}
use borrow.Author.Tests.{lt-leb}
use lib.Dec.{leb}
use lib.ListN.{length, length-append, get_or-append}
use lib.Seq.{get_or-append-add}
use Rattle.area.specs.Entry.{Entry, delivered_of}
use Rattle.encoding.specs.Entries.{no_entry, entry_at, Has, EnteredOld}
use Rattle.machine.proofs.Sets.{Different, Last}

module _ (xs ys : List Entry) where
  pub append_left : (p : ℕ) → p < length xs → entry_at (xs ++ ys) p ≡ entry_at xs p
  append_left p h = get_or-append xs ys no_entry p h

  pub append_right : (i : ℕ) → entry_at (xs ++ ys) (length xs + i) ≡ entry_at ys i
  append_right i = get_or-append-add xs ys i no_entry

  -- a place is one of the first, or as far past them as it is in the second
  abbrev pub Split : ℕ → Type 0
  Split p = (p < length xs) ⊎ ((i : ℕ) × (i < length ys) × (p ≡ length xs + i))

  pub append-split : (p : ℕ) → p < length (xs ++ ys) → Split p
  append-split p h = step (dec_lt p (length xs))
    where
      step : Dec (p < length xs) → Split p
      step (yes l) = inl l
      step (no l) = inr (p - length xs, omega (arith, length-append xs ys), omega arith)

  pub append-each : (P : Entry → Type 0) → ((p : ℕ) → p < length xs → P (entry_at xs p)) → ((i : ℕ) → i < length ys → P (entry_at ys i))
      → (p : ℕ) → p < length (xs ++ ys) → P (entry_at (xs ++ ys) p)
  append-each P first second p h = step (append-split p h)
    where
      step : Split p → P (entry_at (xs ++ ys) p)
      step (inl l) = subst P (sym (append_left p l)) (first p l)
      step (inr s) = subst (λ q. P (entry_at (xs ++ ys) q)) (sym s.2) (subst P (sym (append_right s.0)) (second s.0 s.1))

  pub has_left : (k : List ℕ) (p : ℕ) → Has xs k p → Has (xs ++ ys) k p
  has_left k p h = record { place = omega (arith, length-append xs ys, h.place); same = ap (λ (x : Entry). x.levels) (append_left p h.place) ∙ h.same }

  pub has_right : (k : List ℕ) (i : ℕ) → Has ys k i → Has (xs ++ ys) k (length xs + i)
  has_right k i h = record { place = omega (arith, length-append xs ys, h.place); same = ap (λ (x : Entry). x.levels) (append_right i) ∙ h.same }

  pub old_left : (k : List ℕ) → EnteredOld xs k → EnteredOld (xs ++ ys) k
  old_left k h = (h.0, has_left k h.0 h.1, ap (λ (x : Entry). x.state) (append_left h.0 h.1.place) ∙ h.2)

  pub different_append : Different xs → Different ys → ((p i : ℕ) → p < length xs → i < length ys → (entry_at xs p).levels ≡ (entry_at ys i).levels → ⊥)
      → Different (xs ++ ys)
  different_append u w apart p q hp hq e = step (append-split p hp) (append-split q hq)
    where
      left : (r : ℕ) → r < length xs → (entry_at (xs ++ ys) r).levels ≡ (entry_at xs r).levels
      left r l = ap (λ (x : Entry). x.levels) (append_left r l)

      right : (r i : ℕ) → r ≡ length xs + i → (entry_at (xs ++ ys) r).levels ≡ (entry_at ys i).levels
      right r i f = ap (λ n. (entry_at (xs ++ ys) n).levels) f ∙ ap (λ (x : Entry). x.levels) (append_right i)

      step : Split p → Split q → p ≡ q
      step (inl l) (inl m) = u p q l m (sym (left p l) ∙ e ∙ left q m)
      step (inl l) (inr t) = absurd (apart p t.0 l t.1 (sym (left p l) ∙ e ∙ right q t.0 t.2))
      step (inr s) (inl m) = absurd (apart q s.0 m s.1 (sym (left q m) ∙ sym e ∙ right p s.0 s.2))
      step (inr s) (inr t) =
          let i : s.0 ≡ t.0 = w s.0 t.0 s.1 t.1 (sym (right p s.0 s.2) ∙ e ∙ right q t.0 t.2) in
          omega (arith, s.2, t.2)

  module _ (wanted : (i : ℕ) → i < length ys → (entry_at ys i).state ≡ 0) where
    pub last_append : Last xs → Last (xs ++ ys)
    last_append last p q l h z = step (append-split q h)
      where
        step : Split q → (entry_at (xs ++ ys) q).state ≡ 0
        step (inl m) =
            ap (λ (x : Entry). x.state) (append_left q m) ∙ last p q l m (ap (λ (x : Entry). x.state) (sym (append_left p (omega arith))) ∙ z)
        step (inr s) =
            ap (λ n. (entry_at (xs ++ ys) n).state) s.2 ∙ ap (λ (x : Entry). x.state) (append_right s.0) ∙ wanted s.0 s.1

    pub old_before : (k : List ℕ) → EnteredOld (xs ++ ys) k → EnteredOld xs k
    old_before k h = step (append-split h.0 h.1.place)
      where
        step : Split h.0 → EnteredOld xs k
        step (inl l) = (
          h.0,
          record { place = l; same = sym (ap (λ (x : Entry). x.levels) (append_left h.0 l)) ∙ h.1.same },
          sym (ap (λ (x : Entry). x.state) (append_left h.0 l)) ∙ h.2,
        )
        step (inr s) =
            absurd
            (omega
            (arith, h.2, ap (λ n. (entry_at (xs ++ ys) n).state) s.2, ap (λ (x : Entry). x.state) (append_right s.0), wanted s.0 s.1))

-- ---- nothing wanted is delivered

none-delivered : (ys : List Entry) → ((i : ℕ) → i < length ys → (entry_at ys i).state ≡ 0) → delivered_of ys ≡ []
unfolding delivered_of
none-delivered [] w = refl
none-delivered (y ∷ ys) w = rw (lt-leb 1 y.state (omega (arith, w 0 (omega arith)))) (none-delivered ys (λ i h. w (suc i) (omega arith)))

pub delivered-append : (xs ys : List Entry) → ((i : ℕ) → i < length ys → (entry_at ys i).state ≡ 0) → delivered_of (xs ++ ys) ≡ delivered_of xs
unfolding delivered_of
delivered-append [] ys w = none-delivered ys w
delivered-append (x ∷ xs) ys w = ap (λ ls. cond (leb 1 x.state) (x.levels ∷ ls) ls) (delivered-append xs ys w)
