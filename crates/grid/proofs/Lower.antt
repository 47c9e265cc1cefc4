-- The indices nowhere higher: what the list holds, that it holds each once, and sums over it axis by axis.
-- The idea: the list for one axis more is one copy of the list for the rest for each level in front.
-- Assumes nothing.
use mathlib.Core.Path.{◌≡◌, refl, sym, ap, ap₂, ◌∙◌, subst}
use mathlib.Core.Logic.{◌⊎◌, inl, inr, ⊎_elim}
use mathlib.Core.List.{List, [], ◌∷◌, ◌++◌, map, head-eq_of_cons-eq, tail-eq_of_cons-eq}
use mathlib.Core.List.Memᴰ
use mathlib.Core.List.{Memᴰ}
use Prim.Native.Nat.{ℕ, zero, suc, ◌<◌}
use native.Mathlib.Nat.{eq-or-lt_of_le}
use native.Mathlib.Omega.{arith}
use lib.IntN.{ℤ, ◌+ℤ◌}
use Rattle.sums.specs.Sums.{sum_to, sum_of}
use Rattle.sums.proofs.Sums.{sum_to-suc, sum_of-append, sum_of-map}
use Rattle.grid.specs.Index.{NowhereHigher, in_front, lower}
use Rattle.grid.specs.Terms.{NoDup}
use Rattle.grid.proofs.Levels.{higher_nil, higher_cons, higher_empty, higher_not_empty, higher_head_low, higher_head_high, higher_tail}

-- ---- sums

front_sum : (n : ℕ) (ls : List (List ℕ)) (G : List ℕ → ℤ) → sum_of (in_front n ls) G ≡ sum_to n (λ i. sum_of ls (λ l. G (suc i ∷ l)))
unfolding in_front
front_sum zero ls G = unfold sum_of sum_to in refl
front_sum (suc n) ls G =
    sum_of-append (in_front n ls) (map (λ (l : List ℕ). suc n ∷ l) ls) G
    ∙ ap₂ ◌+ℤ◌ (front_sum n ls G) (sum_of-map (λ (l : List ℕ). suc n ∷ l) ls G)
    ∙ sym (sum_to-suc n (λ i. sum_of ls (λ l. G (suc i ∷ l))))

pub lower_sum : (k : ℕ) (ks : List ℕ) (G : List ℕ → ℤ) → sum_of (lower (k ∷ ks)) G ≡ sum_to k (λ i. sum_of (lower ks) (λ l. G (suc i ∷ l)))
unfolding lower
lower_sum k ks G = front_sum k (lower ks) G

-- ---- members

pub map_in : {A B : Type 0} (f : A → B) (x : A) (l : List A) → Memᴰ x l → Memᴰ (f x) (map f l)
map_in f x [] m = absurd (Memᴰ.not-nil m)
map_in f x (y ∷ l) m = ⊎_elim (λ e. Memᴰ.head (ap f e)) (λ q. Memᴰ.tail (map_in f x l q)) (Memᴰ.cases_cons m)

pub in_map : {A B : Type 0} (f : A → B) (y : B) (l : List A) → Memᴰ y (map f l) → (x : A) × Memᴰ x l × (y ≡ f x)
in_map f y [] m = absurd (Memᴰ.not-nil m)
in_map {A = A} f y (x ∷ l) m = ⊎_elim (λ e. (x, Memᴰ.head refl, e)) (λ q. later (in_map f y l q)) (Memᴰ.cases_cons m)
  where
    later : (z : A) × Memᴰ z l × (y ≡ f z) → (z : A) × Memᴰ z (x ∷ l) × (y ≡ f z)
    later (z, q, e) = (z, Memᴰ.tail q, e)

-- a member of the copies: its first level and the rest
pub record Fronted (n : ℕ) (ls : List (List ℕ)) (x : List ℕ) : Type 0 where
  pub first : ℕ
  pub rest : List ℕ
  pub bound : first < n
  pub member : Memᴰ rest ls
  pub is : x ≡ suc first ∷ rest

in_front_lem : (n : ℕ) (ls : List (List ℕ)) (x : List ℕ) → Memᴰ x (in_front n ls) → Fronted n ls x
unfolding in_front
in_front_lem zero ls x m = absurd (Memᴰ.not-nil m)
in_front_lem (suc n) ls x m = ⊎_elim (λ q. wider (in_front_lem n ls x q)) (λ q. last (in_map (λ (l : List ℕ). suc n ∷ l) x ls q)) (Memᴰ.append_cases (in_front n ls) m)
  where
    wider : Fronted n ls x → Fronted (suc n) ls x
    wider f = record { first = f.first; rest = f.rest; bound = omega (arith, f.bound); member = f.member; is = f.is }

    last : (l : List ℕ) × Memᴰ l ls × (x ≡ suc n ∷ l) → Fronted (suc n) ls x
    last (l, q, e) = record { first = n; rest = l; bound = omega arith; member = q; is = e }

front_in : (n : ℕ) (ls : List (List ℕ)) (i : ℕ) (l : List ℕ) → i < n → Memᴰ l ls → Memᴰ (suc i ∷ l) (in_front n ls)
unfolding in_front
front_in zero ls i l h m = absurd (omega arith)
front_in (suc n) ls i l h m = step (λ q. front_in n ls i l q m) (decided i n h)
  where
    decided : (i n : ℕ) → i < suc n → (i < n) ⊎ (i ≡ n)
    decided i n h = ⊎_elim (λ e. inr e) (λ q. inl q) (eq-or-lt_of_le (omega arith))

    step : (i < n → Memᴰ (suc i ∷ l) (in_front n ls)) → (i < n) ⊎ (i ≡ n) → Memᴰ (suc i ∷ l) (in_front n ls ++ map (λ (l : List ℕ). suc n ∷ l) ls)
    step ih (inl q) = Memᴰ.append_left (map (λ (l : List ℕ). suc n ∷ l) ls) (ih q)
    step ih (inr e) = Memᴰ.append_right (in_front n ls) (Memᴰ.cast (ap (λ j. suc j ∷ l) e) (map_in (λ (l : List ℕ). suc n ∷ l) l ls m))

pub lower_sure : (k l : List ℕ) → Memᴰ l (lower k) → NowhereHigher l k
unfolding lower
lower_sure [] l m = subst (λ x. NowhereHigher x []) (sym (Memᴰ.eq_of_singleton m)) higher_empty
lower_sure (k ∷ ks) l m = step (in_front_lem k (lower ks) l m) (λ r q. lower_sure ks r q)
  where
    step : Fronted k (lower ks) l → ((r : List ℕ) → Memᴰ r (lower ks) → NowhereHigher r ks) → NowhereHigher l (k ∷ ks)
    step f ih =
        subst (λ x. NowhereHigher x (k ∷ ks)) (sym f.is)
        (higher_cons (suc f.first) k f.rest ks (omega arith) f.bound (ih f.rest f.member))

pub lower_back : (k l : List ℕ) → NowhereHigher l k → Memᴰ l (lower k)
unfolding lower
lower_back [] l h = Memᴰ.head (higher_nil l h)
lower_back (k ∷ ks) [] h = absurd (higher_not_empty k ks h)
lower_back (k ∷ ks) (zero ∷ l) h = absurd (omega (arith, higher_head_low zero k l ks h))
lower_back (k ∷ ks) (suc i ∷ l) h = front_in k (lower ks) i l (higher_head_high (suc i) k l ks h) (lower_back ks l (higher_tail (suc i) k l ks h))

-- ---- each once

pub nodup_append : (xs ys : List (List ℕ)) → NoDup xs → NoDup ys → ((x : List ℕ) → Memᴰ x xs → Memᴰ x ys → ⊥) → NoDup (xs ++ ys)
nodup_append [] ys u v f = v
nodup_append (x ∷ xs) ys u v f = (
  λ m. ⊎_elim u.0 (f x (Memᴰ.head refl)) (Memᴰ.append_cases xs m),
  nodup_append xs ys u.1 v (λ y q. f y (Memᴰ.tail q)),
)

nodup_front : (i : ℕ) (ls : List (List ℕ)) → NoDup ls → NoDup (map (λ (l : List ℕ). i ∷ l) ls)
nodup_front i [] u = tt
nodup_front i (l ∷ ls) u = (λ m. u.0 (again (in_map (λ (l : List ℕ). i ∷ l) (i ∷ l) ls m)), nodup_front i ls u.1)
  where
    again : (x : List ℕ) × Memᴰ x ls × (i ∷ l ≡ i ∷ x) → Memᴰ l ls
    again (x, q, e) = Memᴰ.cast (tail-eq_of_cons-eq e) q

in_front_once : (n : ℕ) (ls : List (List ℕ)) → NoDup ls → NoDup (in_front n ls)
unfolding in_front
in_front_once zero ls u = tt
in_front_once (suc n) ls u =
    nodup_append (in_front n ls) (map (λ (l : List ℕ). suc n ∷ l) ls) (in_front_once n ls u) (nodup_front (suc n) ls u) (λ x p q.
    apart (in_front_lem n ls x p) (in_map (λ (l : List ℕ). suc n ∷ l) x ls q))
  where
    apart : {x : List ℕ} → Fronted n ls x → (l : List ℕ) × Memᴰ l ls × (x ≡ suc n ∷ l) → ⊥
    apart f (l, q, e) = let h : suc f.first ≡ suc n = head-eq_of_cons-eq (sym f.is ∙ e) in omega (arith, f.bound)

pub lower_once : (k : List ℕ) → NoDup (lower k)
unfolding lower
lower_once [] = (Memᴰ.not-nil, tt)
lower_once (k ∷ ks) = in_front_once k (lower ks) (lower_once ks)
