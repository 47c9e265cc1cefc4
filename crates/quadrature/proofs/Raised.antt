-- An index raised on a subset, reached along forward links: each step raises one marked axis, and where a link names no place
-- nothing above is held.
-- Assumes nothing.
use mathlib.Core.Path.{◌≡◌, refl, sym, ap, ◌∙◌, subst}
use mathlib.Core.Bool.{Bool, true, false}
use mathlib.Core.List.{List, [], ◌∷◌, ◌++◌}
use Prim.Native.Nat.{ℕ, zero, suc, ◌+◌, ◌-◌, ◌/◌, ◌^◌, ◌<◌, ◌≤◌}
use native.Mathlib.Decide.{dec_lt}
use native.Mathlib.Nat as NatL
use native.Mathlib.Omega.{arith}
use borrow.Author.Tests.{le-leb, lt-leb}
use lib.Bits.{bit_and}
use lib.ListN.{length, get_or, take, drop, set, take-append-drop}
use Rattle.grid.specs.Index.{level, forward, NowhereHigher}
use Rattle.grid.specs.Coefficient.{raised_on, marks}
use Rattle.grid.proofs.Levels.{higher_cons, higher_empty}
use Rattle.grid.proofs.LoopSteps.{raising, raising_in}
use Rattle.area.specs.declared.IndexRecord.{IndexRecord}
use Rattle.std.specs.Prelude.{Some, None}
use Rattle.area.specs.Records.{levels_of}
use Rattle.area.specs.Lookup.{lookup_in}
use Rattle.area.specs.Encoding.{none, place_from, place_of}
use Rattle.area.proofs.LookupPlaces.{found_from, place_le}
use Rattle.quadrature.specs.Readings.{record_at, place_in}
use Rattle.quadrature.specs.Linked.{Linked}
use Rattle.quadrature.proofs.Places.{place_levels, place_inside, below_none, higher_append}

-- ---- levels of at least 1

abbrev pub Positive : List ℕ → Type 0
Positive [] = Unit {0}
Positive (x ∷ xs) = (1 ≤ x) × Positive xs

positive_from : (l : List ℕ) → ((a : ℕ) → a < length l → 1 ≤ level l a) → Positive l
positive_from [] f = tt
positive_from (x ∷ l) f = (f 0 (omega arith), positive_from l (λ a h. f (suc a) (omega arith)))

positive_take : (a : ℕ) (l : List ℕ) → Positive l → Positive (take a l)
positive_take zero [] w = tt
positive_take zero (x ∷ l) w = tt
positive_take (suc a) [] w = tt
positive_take (suc a) (x ∷ l) w = (w.0, positive_take a l w.1)

positive_drop : (a : ℕ) (l : List ℕ) → Positive l → Positive (drop a l)
positive_drop zero [] w = tt
positive_drop zero (x ∷ l) w = w
positive_drop (suc a) [] w = tt
positive_drop (suc a) (x ∷ l) w = positive_drop a l w.1

positive_set : (l : List ℕ) (a x : ℕ) → 1 ≤ x → Positive l → Positive (set l a x)
positive_set [] zero x h w = tt
positive_set [] (suc a) x h w = tt
positive_set (y ∷ l) zero x h w = (h, w.1)
positive_set (y ∷ l) (suc a) x h w = (w.0, positive_set l a x h w.1)

positive_forward : (l : List ℕ) (a : ℕ) → Positive l → Positive (forward l a)
unfolding forward
positive_forward l a w = positive_set l a (level l a + 1) (omega arith) w

higher_self : (l : List ℕ) → Positive l → NowhereHigher l l
higher_self [] w = higher_empty
higher_self (x ∷ l) w = higher_cons x x l l w.0 (NatL.le_refl x) (higher_self l w.1)

-- ---- lookup as an answer and as a place

module _ (rs : List IndexRecord) (k : List ℕ) (few : length rs ≤ 512) where
  room : 0 + length rs ≤ none
  unfolding none
  room = omega arith

  pub found_place : place_in rs k < length rs → lookup_in rs k ≡ Some (place_in rs k)
  unfolding lookup_in place_of none
  found_place h = found_from 0 rs k room ∙ rw (lt-leb 4294967295 (place_from 0 (levels_of rs) k) (omega arith))

  -- a place is that of a record or none
  pub not_held : (place_in rs k < length rs → ⊥) → place_in rs k ≡ none
  unfolding place_of
  not_held f = step (dec_lt (place_in rs k) none)
    where
      step : Dec (place_in rs k < none) → place_in rs k ≡ none
      step (yes h) = absurd (f (place_inside rs k h))
      step (no h) = omega (arith, place_le 0 rs k room)

  pub found_nothing : (place_in rs k < length rs → ⊥) → lookup_in rs k ≡ None
  unfolding lookup_in place_of
  found_nothing f = found_from 0 rs k room ∙ rw (not_held f, le-leb none none (NatL.le_refl none))

  -- what an answer of the lookup says
  pub found_at : (q : ℕ) → lookup_in rs k ≡ Some q → (place_in rs k ≡ q) × (q < length rs)
  found_at q e = step (dec_lt (place_in rs k) (length rs))
    where
      step : Dec (place_in rs k < length rs) → (place_in rs k ≡ q) × (q < length rs)
      step (yes h) =
          let f : Some (place_in rs k) ≡ Some q = sym (found_place h) ∙ e in
          let z : place_in rs k ≡ q = cc in
          (z, subst (λ x. x < length rs) z h)
      step (no h) =
          let f : None ≡ Some q = sym (found_nothing h) ∙ e in
          let z : ◌≡◌ {A = ℕ} 0 1 = cc in
          absurd (omega arith)

  pub found_none : lookup_in rs k ≡ None → place_in rs k < length rs → ⊥
  found_none e h =
      let f : Some (place_in rs k) ≡ None = sym (found_place h) ∙ e in
      let z : ◌≡◌ {A = ℕ} 0 1 = cc in
      omega arith

-- ---- raised indices

positive_higher : (l : List ℕ) (S : List Bool) → Positive l → NowhereHigher l (raised_on l S)
unfolding raised_on
positive_higher [] S w = higher_empty
positive_higher (x ∷ l) [] w = higher_self (x ∷ l) w
positive_higher (x ∷ l) (false ∷ S) w = higher_cons x x l (raised_on l S) w.0 (NatL.le_refl x) (positive_higher l S w.1)
positive_higher (x ∷ l) (true ∷ S) w = higher_cons x (suc x) l (raised_on l S) w.0 (omega arith) (positive_higher l S w.1)

-- what is still to be raised lies nowhere below
raising_higher : (r : List ℕ) (m a : ℕ) → Positive r → NowhereHigher r (raising r m a)
unfolding raising
raising_higher r m a w =
    subst (λ x. NowhereHigher x (take a r ++ raised_on (drop a r) (marks (8 - a) (m / 2 ^ a)))) (take-append-drop a r)
    (higher_append (take a r) (take a r) (drop a r) (raised_on (drop a r) (marks (8 - a) (m / 2 ^ a))) (higher_self (take a r) (positive_take a r w)) (positive_higher (drop a r) (marks (8 - a) (m / 2 ^ a)) (positive_drop a r w)))

-- no mark, nothing raised
raised_none : (l : List ℕ) (n : ℕ) → raised_on l (marks n 0) ≡ l
unfolding raised_on marks
raised_none [] n = refl
raised_none (x ∷ l) zero = refl
raised_none (x ∷ l) (suc n) = ap (λ (ls : List ℕ). x ∷ ls) (raised_none l n)

no_bits : (m a : ℕ) → m < 2 ^ a → m / 2 ^ a ≡ 0
no_bits m a h = NatL.div-eq_of_lt h

pub raising_end : (r : List ℕ) (m a : ℕ) → m < 2 ^ a → raising r m a ≡ r
unfolding raising
raising_end r m a h = ap (λ x. take a r ++ raised_on (drop a r) (marks (8 - a) x)) (no_bits m a h) ∙ ap (λ x. take a r ++ x) (raised_none (drop a r) (8 - a)) ∙ take-append-drop a r

-- ---- one step along a link

module _ {d : ℕ} {rs : List IndexRecord} (linked : Linked d rs) (p : ℕ) (inside : p < length rs) where
  abbrev levels : List ℕ
  levels = (record_at rs p).levels

  pub positive_at : Positive levels
  positive_at = positive_from levels (λ a h. linked.low p a inside (subst (λ n. a < n) (linked.eight p inside) h))

  module _ (m a : ℕ) (b : a < 8) (bit : bit_and (m / 2 ^ a) 1 ≡ 1) where
    abbrev raised : List ℕ
    raised = forward levels a

    step_raises : raising levels m a ≡ raising raised m (a + 1)
    unfolding forward
    step_raises = raising_in levels m a b (linked.eight p inside) bit

    -- the link names a held place: it is that of the raised index
    pub step_held : (q : ℕ) → get_or (record_at rs p).links a none ≡ q → q < length rs → raising levels m a ≡ raising (record_at rs q).levels m (a + 1)
    step_held q e h =
        step_raises
        ∙ ap (λ r. raising r m (a + 1)) (sym (ap (λ x. (record_at rs x).levels) (sym e ∙ linked.ahead p a inside b) ∙ place_levels rs raised (below_none (at_512 h e))))
      where
        at_512 : q < length rs → get_or (record_at rs p).links a none ≡ q → place_in rs raised < 512
        at_512 h e = subst (λ x. x < 512) (sym e ∙ linked.ahead p a inside b) (NatL.lt_of_lt_of_le h linked.few)

    -- it names none: nothing above is held
    pub step_none : (q : ℕ) → get_or (record_at rs p).links a none ≡ q → length rs ≤ q → lookup_in rs (raising levels m a) ≡ None
    step_none q e h = found_nothing rs (raising levels m a) linked.few (λ held. not_held_here (below held))
      where
        not_held_here : place_in rs raised < length rs → ⊥
        not_held_here x = let z : place_in rs raised ≡ q = sym (linked.ahead p a inside b) ∙ e in omega arith

        raised_positive : Positive raised
        raised_positive = positive_forward levels a positive_at

        below : place_in rs (raising levels m a) < length rs → place_in rs raised < length rs
        below held =
            linked.lower (place_in rs (raising levels m a)) raised held
            (subst (λ x. NowhereHigher raised x) (sym step_raises ∙ sym (place_levels rs (raising levels m a) (below_none (NatL.lt_of_lt_of_le held linked.few)))) (raising_higher raised m (a + 1) raised_positive))
