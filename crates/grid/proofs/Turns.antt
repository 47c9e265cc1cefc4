-- The direction of an axis: it rises where the rank of the earlier axes' point is even, and falls where it is odd.
-- The idea: only the parity of the rank counts, and to fall is to rise counted from the other end.
-- Assumes nothing.
use mathlib.Core.Path.{◌≡◌, sym, ap, ◌∙◌, subst}
use mathlib.Core.Logic.{◌⊎◌, inl, inr, ⊎_elim}
use mathlib.Core.Bool.{cond}
use mathlib.Core.List.{List, [], ◌∷◌, reverse_aux}
use Prim.Native.Nat.{ℕ, suc, ◌+◌, ◌*◌, ◌-◌, ◌/◌, ◌%◌, ◌<◌}
use native.Mathlib.Nat as NatL
use native.Mathlib.Nat.{div-add-mod'}
use native.Mathlib.Decide.{ℕ_discrete, dec_lt}
use native.Mathlib.Omega.{arith}
use borrow.Author.Tests.{eq-eqb, ne_eqb}
use lib.Dec.{eqb}
use lib.ListN.{length, get_or, length-reverse}
use Rattle.grid.specs.Block.{directed, turned}

pub even_or_odd : (r : ℕ) → (r % 2 ≡ 0) ⊎ (r % 2 ≡ 1)
even_or_odd r = step (ℕ_discrete (r % 2) 0)
  where
    step : Dec (r % 2 ≡ 0) → (r % 2 ≡ 0) ⊎ (r % 2 ≡ 1)
    step (yes e) = inl e
    step (no n) = inr (omega arith)

pub turned_even : (r c q : ℕ) → r % 2 ≡ 0 → turned r c q ≡ q
unfolding turned
turned_even r c q e = rw (eq-eqb (r % 2) 0 e)

pub turned-odd : (r c q : ℕ) → r % 2 ≡ 1 → turned r c q ≡ c - 1 - q
unfolding turned
turned-odd r c q e = rw (ne_eqb (r % 2) 0 (λ z. omega (arith, e, z)))

-- what is visited is a new point, and what is turned twice is as it was
pub turned_below : (r c q : ℕ) → q < c → turned r c q < c
turned_below r c q h =
    ⊎_elim (λ e. subst (λ x. x < c) (sym (turned_even r c q e)) h) (λ e. subst (λ x. x < c) (sym (turned-odd r c q e)) (omega arith)) (even_or_odd r)

pub turned_twice : (r c q : ℕ) → q < c → turned r c (turned r c q) ≡ q
turned_twice r c q h = step (even_or_odd r)
  where
    step : (r % 2 ≡ 0) ⊎ (r % 2 ≡ 1) → turned r c (turned r c q) ≡ q
    step (inl e) = turned_even r c (turned r c q) e ∙ turned_even r c q e
    step (inr e) = turned-odd r c (turned r c q) e ∙ ap (λ x. c - 1 - x) (turned-odd r c q e) ∙ omega (arith, h)

pub turned_same : (r s c q : ℕ) → r % 2 ≡ s % 2 → turned r c q ≡ turned s c q
unfolding turned
turned_same r s c q e = ap (λ x. cond (eqb x 0) q (c - 1 - q)) e

-- the other parity takes the other end
pub turned_back : (r c q : ℕ) → q < c → turned r c (c - 1 - q) ≡ turned (suc r) c q
turned_back r c q h = step (even_or_odd r)
  where
    step : (r % 2 ≡ 0) ⊎ (r % 2 ≡ 1) → turned r c (c - 1 - q) ≡ turned (suc r) c q
    step (inl e) = turned_even r c (c - 1 - q) e ∙ sym (turned-odd (suc r) c q (omega (arith, e)))
    step (inr e) = turned-odd r c (c - 1 - q) e ∙ (omega arith) ∙ sym (turned_even (suc r) c q (omega (arith, e)))

-- ---- the parity of the next rank

-- a product by halves of its first factor
halved : (r c : ℕ) → r * c ≡ r / 2 * c * 2 + r % 2 * c
halved r c = ap (λ x. x * c) (sym (div-add-mod' r 2)) ∙ NatL.add-mul (r / 2 * 2) (r % 2) c ∙ ap (λ x. x + r % 2 * c) (NatL.mul_right_comm (r / 2) 2 c)

twice_less : (x y a q : ℕ) → (x * 2 + a + q) % 2 ≡ (y * 2 + a + q) % 2
twice_less x y a q = omega arith

pub next_parity : (r s c q : ℕ) → r % 2 ≡ s % 2 → (r * c + q) % 2 ≡ (s * c + q) % 2
next_parity r s c q e =
    ap (λ x. (x + q) % 2) (halved r c)
    ∙ twice_less (r / 2 * c) (s / 2 * c) (r % 2 * c) q
    ∙ ap (λ x. (s / 2 * c * 2 + x * c + q) % 2) e
    ∙ ap (λ x. (x + q) % 2) (sym (halved s c))

-- ---- the positions in their order

reverse_past : (l r : List ℕ) (n : ℕ) → get_or (reverse_aux l r) (length l + n) 0 ≡ get_or r n 0
reverse_past [] r n = ap (λ m. get_or r m 0) (NatL.zero-add n)
reverse_past (x ∷ l) r n = ap (λ m. get_or (reverse_aux l (x ∷ r)) m 0) (omega arith) ∙ reverse_past l (x ∷ r) (suc n)

reverse_at : (l r : List ℕ) (n : ℕ) → n < length l → get_or (reverse_aux l r) n 0 ≡ get_or l (length l - 1 - n) 0
reverse_at [] r n h = absurd (omega arith)
reverse_at (x ∷ l) r n h = step (reverse_at l (x ∷ r) n) (dec_lt n (length l))
  where
    step : (n < length l → get_or (reverse_aux l (x ∷ r)) n 0 ≡ get_or l (length l - 1 - n) 0) → Dec (n < length l)
        → get_or (reverse_aux l (x ∷ r)) n 0 ≡ get_or (x ∷ l) (length (x ∷ l) - 1 - n) 0
    step shorter (yes k) = shorter k ∙ ap (λ m. get_or (x ∷ l) m 0) {x = suc (length l - 1 - n)} {y = suc (length l) - 1 - n} (omega arith)
    step shorter (no k) =
        ap (λ m. get_or (reverse_aux l (x ∷ r)) m 0) {x = n} {y = length l + 0} (omega arith)
        ∙ reverse_past l (x ∷ r) 0
        ∙ ap (λ m. get_or (x ∷ l) m 0) {x = 0} {y = suc (length l) - 1 - n} (omega arith)

pub directed-length : (r : ℕ) (xs : List ℕ) → length (directed r xs) ≡ length xs
directed-length r xs = step (even_or_odd r)
  where
    step : (r % 2 ≡ 0) ⊎ (r % 2 ≡ 1) → length (directed r xs) ≡ length xs
    step (inl e) = unfold directed in rw (eq-eqb (r % 2) 0 e)
    step (inr e) = unfold directed in (rw (ne_eqb (r % 2) 0 (λ z. omega (arith, e, z))) (length-reverse xs))

pub directed_at : (r : ℕ) (xs : List ℕ) (q : ℕ) → q < length xs → get_or (directed r xs) q 0 ≡ get_or xs (turned r (length xs) q) 0
directed_at r xs q h = step (even_or_odd r)
  where
    step : (r % 2 ≡ 0) ⊎ (r % 2 ≡ 1) → get_or (directed r xs) q 0 ≡ get_or xs (turned r (length xs) q) 0
    step (inl e) = unfold directed in (rw (eq-eqb (r % 2) 0 e) (ap (λ m. get_or xs m 0) (sym (turned_even r (length xs) q e))))
    step (inr e) =
        unfold directed in (rw (ne_eqb (r % 2) 0 (λ z. omega (arith, e, z))) (reverse_at xs [] q h ∙ ap (λ m. get_or xs m 0) (sym (turned-odd r (length xs) q e))))
