-- The cause of a refused call is one of the call's own numbers, and an accepted call answers no refusal.
-- Assumes nothing.
use mathlib.Core.Path.{◌≡◌, refl, subst}
use mathlib.Core.Logic.{◌⊎◌, inl, inr}
use mathlib.Core.Bool.{Bool, true, false, cond}
use mathlib.Core.List.Memᴰ
use mathlib.Core.List.{List, [], ◌∷◌, map, Memᴰ}
use Prim.Native.Nat.{ℕ, ◌≤◌}
use native.Mathlib.Omega.{arith}
use Rattle.area.specs.Log.{Log, Machine}
use Rattle.machine.specs.Causes.{Cause, Lengths, first_cause, start_causes}
use Rattle.calls.specs.Replies.{refused}
use Rattle.calls.specs.Table.{Call, start, point, points, deliver, choose, promote, result, doubles, cross_total, check, row, causes_of, accepted_answer, refusal}
use Rattle.calls.specs.Facts.{numbers_of}

abbrev numbers : List Cause → List ℕ
numbers cs = map (λ (c : Cause). c.number) cs

-- the cause is one of the list's numbers, unless it is 0
numbered : (cs : List Cause) → (first_cause cs ≡ 0 → ⊥) → Memᴰ (first_cause cs) (numbers cs)
unfolding first_cause
numbered [] n = absurd (n refl)
numbered (c ∷ cs) n = step c.test (numbered cs) n
  where
    step : (t : Bool) → ((first_cause cs ≡ 0 → ⊥) → Memᴰ (first_cause cs) (numbers cs)) → (cond t c.number (first_cause cs) ≡ 0 → ⊥)
        → Memᴰ (cond t c.number (first_cause cs)) (c.number ∷ numbers cs)
    step true f n = Memᴰ.head refl
    step false f n = Memᴰ.tail (f n)

-- the numbers of a row's causes are the call's, whatever the tests say
pub row_numbers : (z : Lengths) (sound : Bool) (l : Log) (c : Call) → numbers (causes_of z sound l (row c)) ≡ numbers_of c
unfolding causes_of row numbers_of start_causes
row_numbers z sound l (start g) = refl
row_numbers z sound l (point n buffer) = refl
row_numbers z sound l (points n buffer) = refl
row_numbers z sound l (deliver rs i) = refl
row_numbers z sound l choose = refl
row_numbers z sound l (promote p) = refl
row_numbers z sound l result = refl
row_numbers z sound l doubles = refl
row_numbers z sound l cross_total = refl
row_numbers z sound l check = refl

pub cause_number : (z : Lengths) (sound : Bool) (l : Log) (c : Call) → (refusal z sound l c ≡ 0 → ⊥) → Memᴰ (refusal z sound l c) (numbers_of c)
unfolding refusal
cause_number z sound l c n = rw (← row_numbers z sound l c) (numbered (causes_of z sound l (row c)) n)

-- ---- no number is 0

abbrev Positive : List ℕ → Type 0
Positive [] = Unit {0}
Positive (n ∷ ns) = (1 ≤ n) × Positive ns

not_among : (ns : List ℕ) → Positive ns → Memᴰ 0 ns → ⊥
not_among [] p m = Memᴰ.not-nil m
not_among (n ∷ ns) p m = step (not_among ns p.1) (Memᴰ.cases_cons m)
  where
    step : (Memᴰ 0 ns → ⊥) → (0 ≡ n) ⊎ Memᴰ 0 ns → ⊥
    step later (inl e) = omega (arith, p.0, e)
    step later (inr q) = later q

positive : (c : Call) → Positive (numbers_of c)
unfolding numbers_of
positive (start g) = (omega arith, (omega arith, (omega arith, tt)))
positive (point n buffer) = (omega arith, (omega arith, (omega arith, (omega arith, tt))))
positive (points n buffer) = (omega arith, (omega arith, (omega arith, (omega arith, tt))))
positive (deliver rs i) = (omega arith, (omega arith, (omega arith, (omega arith, (omega arith, tt)))))
positive choose = (omega arith, (omega arith, (omega arith, tt)))
positive (promote p) = (omega arith, (omega arith, (omega arith, (omega arith, tt))))
positive result = (omega arith, (omega arith, tt))
positive doubles = (omega arith, (omega arith, tt))
positive cross_total = (omega arith, (omega arith, tt))
positive check = tt

pub never_zero : (z : Lengths) (sound : Bool) (l : Log) (c : Call) (x : Cause) → Memᴰ x (causes_of z sound l (row c)) → x.number ≡ 0 → ⊥
never_zero z sound l c x m e =
    not_among (numbers_of c) (positive c)
    (subst (λ n. Memᴰ n (numbers_of c)) e (subst (Memᴰ x.number) (row_numbers z sound l c) (Memᴰ.map (λ (y : Cause). y.number) m)))

-- what an accepted call answers is no refusal
pub accepted_reply : (fit : Bool) (m : Machine) (c : Call) (n : ℕ) → (accepted_answer fit m (row c)).reply ≡ refused n → ⊥
unfolding accepted_answer row
accepted_reply fit m (start g) n e = let y : ◌≡◌ {A = ℕ} 0 1 = cc in omega arith
accepted_reply fit m (point k buffer) n e = let y : ◌≡◌ {A = ℕ} 0 1 = cc in omega arith
accepted_reply fit m (points k buffer) n e = let y : ◌≡◌ {A = ℕ} 0 1 = cc in omega arith
accepted_reply fit m (deliver rs i) n e = let y : ◌≡◌ {A = ℕ} 0 1 = cc in omega arith
accepted_reply fit m choose n e = let y : ◌≡◌ {A = ℕ} 0 1 = cc in omega arith
accepted_reply fit m (promote p) n e = let y : ◌≡◌ {A = ℕ} 0 1 = cc in omega arith
accepted_reply fit m result n e = let y : ◌≡◌ {A = ℕ} 0 1 = cc in omega arith
accepted_reply fit m doubles n e = let y : ◌≡◌ {A = ℕ} 0 1 = cc in omega arith
accepted_reply fit m cross_total n e = let y : ◌≡◌ {A = ℕ} 0 1 = cc in omega arith
accepted_reply fit m check n e = let y : ◌≡◌ {A = ℕ} 0 1 = cc in omega arith
