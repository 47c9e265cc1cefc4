-- Two lists of the same indices, each once, have the same total.
-- The idea: what stands first in the one is taken out of the other.
-- Assumes nothing.
use mathlib.Core.Path.{◌≡◌, refl, sym, ap}
use mathlib.Core.Logic.{◌⊎◌, inl, inr}
use mathlib.Core.List.Memᴰ
use mathlib.Core.List.{List, [], ◌∷◌, ◌++◌, Memᴰ}
use Prim.Native.Nat.{ℕ, ◌+◌}
use native.Mathlib.Omega.{arith}
use lib.ListN.{length}
use Rattle.grid.specs.Terms.{NoDup}
use Rattle.machine.specs.Admitted.{total_of}

module _ (f : List ℕ → ℕ) where
  -- a list without one of its indices
  record TakenOut (x : List ℕ) (ys : List (List ℕ)) : Type 0 where
    rest : List (List ℕ)
    total : total_of f ys ≡ f x + total_of f rest
    sure : (k : List ℕ) → Memᴰ k rest → Memᴰ k ys
    back : (k : List ℕ) → Memᴰ k ys → (k ≡ x) ⊎ Memᴰ k rest
    once : NoDup ys → NoDup rest
    gone : NoDup ys → Memᴰ x rest → ⊥

  take_out : (x : List ℕ) (ys : List (List ℕ)) → Memᴰ x ys → TakenOut x ys
  unfolding total_of
  take_out x [] m = absurd (Memᴰ.not-nil m)
  take_out x (y ∷ ys) m = step (take_out x ys) (Memᴰ.cases_cons m)
    where
      same : (k : List ℕ) → x ≡ y → (k ≡ y) ⊎ Memᴰ k ys → (k ≡ x) ⊎ Memᴰ k ys
      same k e (inl i) = inl (rw e i)
      same k e (inr q) = inr q

      other : (w : TakenOut x ys) (k : List ℕ) → (k ≡ y) ⊎ Memᴰ k ys → (k ≡ x) ⊎ Memᴰ k (y ∷ w.rest)
      other w k (inl i) = inr (Memᴰ.head i)
      other w k (inr q) = later (w.back k q)
        where
          later : (k ≡ x) ⊎ Memᴰ k w.rest → (k ≡ x) ⊎ Memᴰ k (y ∷ w.rest)
          later (inl i) = inl i
          later (inr r) = inr (Memᴰ.tail r)

      kept : (w : TakenOut x ys) (k : List ℕ) → (k ≡ y) ⊎ Memᴰ k w.rest → Memᴰ k (y ∷ ys)
      kept w k (inl i) = Memᴰ.head i
      kept w k (inr q) = Memᴰ.tail (w.sure k q)

      not_there : (w : TakenOut x ys) → Memᴰ x ys → NoDup (y ∷ ys) → (x ≡ y) ⊎ Memᴰ x w.rest → ⊥
      not_there w q u (inl i) = u.0 (Memᴰ.cast (sym i) q)
      not_there w q u (inr r) = w.gone u.1 r

      step : (Memᴰ x ys → TakenOut x ys) → (x ≡ y) ⊎ Memᴰ x ys → TakenOut x (y ∷ ys)
      step ih (inl e) =
          record {
            rest = ys;
            total = ap (λ k. f k + total_of f ys) (sym e);
            sure = λ k q. Memᴰ.tail q;
            back = λ k q. same k e (Memᴰ.cases_cons q);
            once = λ u. u.1;
            gone = λ u q. u.0 (Memᴰ.cast (sym e) q);
          }
      step ih (inr q) =
          let w : TakenOut x ys = ih q in
          record {
            rest = y ∷ w.rest;
            total = omega (arith, w.total);
            sure = λ k r. kept w k (Memᴰ.cases_cons r);
            back = λ k r. other w k (Memᴰ.cases_cons r);
            once = λ u. (λ r. u.0 (w.sure y r), w.once u.1);
            gone = λ u r. not_there w q u (Memᴰ.cases_cons r);
          }

  pub total_same : (xs ys : List (List ℕ)) → NoDup xs → NoDup ys → ((k : List ℕ) → Memᴰ k xs → Memᴰ k ys) → ((k : List ℕ) → Memᴰ k ys → Memᴰ k xs)
      → total_of f xs ≡ total_of f ys
  unfolding total_of
  total_same [] [] u v there here = refl
  total_same [] (y ∷ ys) u v there here = absurd (Memᴰ.not-nil (here y (Memᴰ.head refl)))
  total_same (x ∷ xs) ys u v there here =
      let w : TakenOut x ys = take_out x ys (there x (Memᴰ.head refl)) in
      omega (arith, w.total, total_same xs w.rest u.1 (w.once v) (λ k m. still m (w.back k (there k (Memᴰ.tail m)))) (λ k m. also w m (Memᴰ.cases_cons (here k (w.sure k m)))))
    where
      still : {k : List ℕ} {rest : List (List ℕ)} → Memᴰ k xs → (k ≡ x) ⊎ Memᴰ k rest → Memᴰ k rest
      still m (inl e) = absurd (u.0 (Memᴰ.cast (sym e) m))
      still m (inr q) = q

      also : (w : TakenOut x ys) {k : List ℕ} → Memᴰ k w.rest → (k ≡ x) ⊎ Memᴰ k xs → Memᴰ k xs
      also w m (inl e) = absurd (w.gone v (Memᴰ.cast (sym e) m))
      also w m (inr q) = q

  pub total-append : (xs ys : List (List ℕ)) → total_of f (xs ++ ys) ≡ total_of f xs + total_of f ys
  unfolding total_of
  total-append [] ys = omega arith
  total-append (x ∷ xs) ys = omega (arith, total-append xs ys)

-- how many there are is such a total
pub total-length : (ks : List (List ℕ)) → total_of (λ k. 1) ks ≡ length ks
unfolding total_of
total-length [] = refl
total-length (k ∷ ks) = omega (arith, total-length ks)
