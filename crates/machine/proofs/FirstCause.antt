-- The first cause of a list: the number of the one that applies with none before it, 0 where none applies.
-- Assumes nothing.
use mathlib.Core.Path.{◌≡◌, refl, sym, ap, ◌∙◌}
use mathlib.Core.Logic.{◌⊎◌, inl, inr}
use mathlib.Core.Bool.{Bool, true, false, cond}
use mathlib.Core.List.Memᴰ
use mathlib.Core.List.{List, [], ◌∷◌, ◌++◌, Memᴰ}
use Prim.Native.Nat.{ℕ}
use Rattle.machine.specs.Causes.{Cause, cause, first_cause}
use Rattle.machine.specs.Facts.{FirstToApply, CauseFacts}

abbrev NoneApplies : List Cause → Type 0
NoneApplies cs = (c : Cause) → Memᴰ c cs → c.test ≡ false

-- one more that does not apply
none_more : (x : Cause) (cs : List Cause) → x.test ≡ false → NoneApplies cs → NoneApplies (x ∷ cs)
none_more x cs e f c m = step (Memᴰ.cases_cons m)
  where
    step : (c ≡ x) ⊎ Memᴰ c cs → c.test ≡ false
    step (inl q) = ap (λ (y : Cause). y.test) q ∙ e
    step (inr q) = f c q

own_case : (cs : List Cause) (n : ℕ) → first_cause cs ≡ n → (n ≡ 0 → ⊥) → FirstToApply cs n
unfolding first_cause
own_case [] n e f = absurd (f (sym e))
own_case (c ∷ cs) n e f = step c.test c.number (λ q. own_case cs n q f) e
  where
    step : (t : Bool) (m : ℕ) → (first_cause cs ≡ n → FirstToApply cs n) → cond t m (first_cause cs) ≡ n → FirstToApply (cause t m ∷ cs) n
    step true m ih q = record { before = []; after = cs; split = ap (λ k. cause true k ∷ cs) q; none_before = λ x p. absurd (Memᴰ.not-nil p) }
    step false m ih q =
        let s : FirstToApply cs n = ih q in
        record {
          before = cause false m ∷ s.before;
          after = s.after;
          split = ap (λ xs. cause false m ∷ xs) s.split;
          none_before = none_more (cause false m) s.before refl s.none_before;
        }

-- those before it don't refuse
passed : (before rest : List Cause) → NoneApplies before → first_cause (before ++ rest) ≡ first_cause rest
unfolding first_cause
passed [] rest f = refl
passed (c ∷ before) rest f = rw (f c (Memᴰ.head refl)) (passed before rest (λ x m. f x (Memᴰ.tail m)))

no_other : (cs : List Cause) (n : ℕ) → FirstToApply cs n → first_cause cs ≡ n
no_other cs n s = ap first_cause s.split ∙ passed s.before (cause true n ∷ s.after) s.none_before ∙ unfold first_cause in refl

zero_there : (cs : List Cause) → NoneApplies cs → first_cause cs ≡ 0
unfolding first_cause
zero_there [] f = refl
zero_there (c ∷ cs) f = rw (f c (Memᴰ.head refl)) (zero_there cs (λ x m. f x (Memᴰ.tail m)))

none_applies : (cs : List Cause) → ((c : Cause) → Memᴰ c cs → c.number ≡ 0 → ⊥) → first_cause cs ≡ 0 → NoneApplies cs
unfolding first_cause
none_applies [] f e = λ c m. absurd (Memᴰ.not-nil m)
none_applies (x ∷ cs) f e = step x.test refl e (none_applies cs (λ c m. f c (Memᴰ.tail m)))
  where
    step : (t : Bool) → x.test ≡ t → cond t x.number (first_cause cs) ≡ 0 → (first_cause cs ≡ 0 → NoneApplies cs) → NoneApplies (x ∷ cs)
    step true q z ih = absurd (f x (Memᴰ.head refl) z)
    step false q z ih = none_more x cs q (ih z)

pub cause-facts : CauseFacts
cause-facts = record { own_case = own_case; no_other = no_other; none_applies = none_applies; zero = zero_there }
