-- The ring laws of ℤ that the library lacks, and rulesets that prove polynomial identities: `simp ring`.
-- The idea: a product over a sum by induction on the first summand, through its successor and its predecessor.
-- Assumes nothing.
use mathlib.Core.Path.{◌≡◌, refl, sym, ap, ap₂, ◌∙◌}
use Prim.Native.Nat.{ℕ, zero, suc, ◌*◌, ◌<◌}
use native.Mathlib.Omega.{arith}
use lib.IntN.{ℤ, pos, negsuc, suc_ℤ, pred_ℤ, neg_ℤ, nat_abs, one, ◌+ℤ◌, ◌-ℤ◌, ◌*ℤ◌}
use lib.IntN.{+ℤ_assoc, +ℤ_comm, +ℤ_idl, +ℤ_idr, +ℤ_invr, +ℤ_invl, neg_ℤ-+ℤ, neg_ℤ-neg_ℤ, -ℤ-+ℤ_cancel}
use lib.IntN.{suc_ℤ-+ℤ, pred_ℤ-+ℤ, suc_ℤ-*ℤ, pred_ℤ-*ℤ, zero-*ℤ, *ℤ-zero, *ℤ_comm, *ℤ-one, *ℤ-negsuc}

-- ---- sums

pub +ℤ-left : (a b c : ℤ) → a +ℤ (b +ℤ c) ≡ b +ℤ (a +ℤ c)
+ℤ-left a b c = sym (+ℤ_assoc a b c) ∙ ap (λ x. x +ℤ c) (+ℤ_comm a b) ∙ +ℤ_assoc b a c

-- sorts sums
pub ruleset sums = (+ℤ_assoc, +ℤ-left, +ℤ_comm)

swap_last : (x y z : ℤ) → x +ℤ y +ℤ z ≡ x +ℤ z +ℤ y
swap_last x y z = simp sums

pub cancel_left : (a b : ℤ) → a +ℤ (neg_ℤ a +ℤ b) ≡ b
cancel_left a b = sym (+ℤ_assoc a (neg_ℤ a) b) ∙ ap (λ z. z +ℤ b) (+ℤ_invr a) ∙ +ℤ_idl b

pub cancel_neg_left : (a b : ℤ) → neg_ℤ a +ℤ (a +ℤ b) ≡ b
cancel_neg_left a b = sym (+ℤ_assoc (neg_ℤ a) a b) ∙ ap (λ z. z +ℤ b) (+ℤ_invl a) ∙ +ℤ_idl b

-- x + y ≡ 0 makes y the negation of x
pub neg_unique : (x y : ℤ) → x +ℤ y ≡ pos zero → y ≡ neg_ℤ x
neg_unique x y h = sym (cancel_neg_left x y) ∙ ap (λ z. neg_ℤ x +ℤ z) h ∙ +ℤ_idr (neg_ℤ x)

pub sub-zero_eq : (a b : ℤ) → a -ℤ b ≡ pos 0 → a ≡ b
sub-zero_eq a b e = sym (-ℤ-+ℤ_cancel a b) ∙ ap (λ x. x +ℤ b) e ∙ +ℤ_idl b

-- ---- products over sums

distr_suc : (a b c : ℤ) → (a +ℤ b) *ℤ c ≡ a *ℤ c +ℤ b *ℤ c → (suc_ℤ a +ℤ b) *ℤ c ≡ suc_ℤ a *ℤ c +ℤ b *ℤ c
distr_suc a b c h = rw (suc_ℤ-+ℤ a b, suc_ℤ-*ℤ (a +ℤ b) c, suc_ℤ-*ℤ a c, h) (swap_last (a *ℤ c) (b *ℤ c) c)

distr_pred : (a b c : ℤ) → (a +ℤ b) *ℤ c ≡ a *ℤ c +ℤ b *ℤ c → (pred_ℤ a +ℤ b) *ℤ c ≡ pred_ℤ a *ℤ c +ℤ b *ℤ c
distr_pred a b c h =
    rw (pred_ℤ-+ℤ a b, pred_ℤ-*ℤ (a +ℤ b) c, pred_ℤ-*ℤ a c, h) (swap_last (a *ℤ c) (b *ℤ c) (neg_ℤ c))

pub distr : (a b c : ℤ) → (a +ℤ b) *ℤ c ≡ a *ℤ c +ℤ b *ℤ c
distr (pos zero) b c = simp (+ℤ_idl, zero-*ℤ)
distr (pos (suc n)) b c = distr_suc (pos n) b c (distr (pos n) b c)
distr (negsuc zero) b c = distr_pred (pos zero) b c (simp (+ℤ_idl, zero-*ℤ))
distr (negsuc (suc n)) b c = distr_pred (negsuc n) b c (distr (negsuc n) b c)

pub distl : (a b c : ℤ) → a *ℤ (b +ℤ c) ≡ a *ℤ b +ℤ a *ℤ c
distl a b c = rw (*ℤ_comm a (b +ℤ c), *ℤ_comm a b, *ℤ_comm a c) (distr b c a)

pub neg_ℤ-*ℤ : (a b : ℤ) → neg_ℤ a *ℤ b ≡ neg_ℤ (a *ℤ b)
neg_ℤ-*ℤ a b =
    neg_unique (a *ℤ b) (neg_ℤ a *ℤ b) (sym (distr a (neg_ℤ a) b) ∙ ap (λ z. z *ℤ b) (+ℤ_invr a) ∙ zero-*ℤ b)

pub *ℤ-neg_ℤ : (a b : ℤ) → a *ℤ neg_ℤ b ≡ neg_ℤ (a *ℤ b)
*ℤ-neg_ℤ a b = rw (*ℤ_comm a (neg_ℤ b), *ℤ_comm a b) (neg_ℤ-*ℤ b a)

-- ---- products

mul_suc : (a b c : ℤ) → (a *ℤ b) *ℤ c ≡ a *ℤ (b *ℤ c) → (suc_ℤ a *ℤ b) *ℤ c ≡ suc_ℤ a *ℤ (b *ℤ c)
mul_suc a b c h = rw (suc_ℤ-*ℤ a b, distr (a *ℤ b) b c, h, suc_ℤ-*ℤ a (b *ℤ c))

mul_pred : (a b c : ℤ) → (a *ℤ b) *ℤ c ≡ a *ℤ (b *ℤ c) → (pred_ℤ a *ℤ b) *ℤ c ≡ pred_ℤ a *ℤ (b *ℤ c)
mul_pred a b c h = rw (pred_ℤ-*ℤ a b, distr (a *ℤ b) (neg_ℤ b) c, h, pred_ℤ-*ℤ a (b *ℤ c), neg_ℤ-*ℤ b c)

pub *ℤ-assoc : (a b c : ℤ) → (a *ℤ b) *ℤ c ≡ a *ℤ (b *ℤ c)
*ℤ-assoc (pos zero) b c = simp zero-*ℤ
*ℤ-assoc (pos (suc n)) b c = mul_suc (pos n) b c (*ℤ-assoc (pos n) b c)
*ℤ-assoc (negsuc zero) b c = mul_pred (pos zero) b c (simp zero-*ℤ)
*ℤ-assoc (negsuc (suc n)) b c = mul_pred (negsuc n) b c (*ℤ-assoc (negsuc n) b c)

pub *ℤ-left : (a b c : ℤ) → a *ℤ (b *ℤ c) ≡ b *ℤ (a *ℤ c)
*ℤ-left a b c = sym (*ℤ-assoc a b c) ∙ ap (λ x. x *ℤ c) (*ℤ_comm a b) ∙ *ℤ-assoc b a c

pub one-*ℤ : (a : ℤ) → pos 1 *ℤ a ≡ a
unfolding one
one-*ℤ a = *ℤ_comm (pos 1) a ∙ *ℤ-one a

pub mul_one : (a : ℤ) → a *ℤ pos 1 ≡ a
unfolding one
mul_one a = *ℤ-one a

-- sorts products
pub ruleset products = (*ℤ-assoc, *ℤ-left, *ℤ_comm)

-- the whole normal form: products multiplied out and sorted, negations inside, sums sorted and cancelled
pub ruleset ring = (
  distr,
  distl,
  *ℤ-assoc,
  *ℤ-left,
  *ℤ_comm,
  neg_ℤ-*ℤ,
  *ℤ-neg_ℤ,
  neg_ℤ-+ℤ,
  neg_ℤ-neg_ℤ,
  zero-*ℤ,
  *ℤ-zero,
  one-*ℤ,
  mul_one,
  +ℤ_assoc,
  +ℤ-left,
  +ℤ_comm,
  +ℤ_idl,
  +ℤ_idr,
  +ℤ_invr,
  +ℤ_invl,
  cancel_left,
  cancel_neg_left,
)

-- what `simp ring` proves
ring_products : (a b c d : ℤ) → (a +ℤ b) *ℤ (c -ℤ d) ≡ c *ℤ b -ℤ d *ℤ b +ℤ a *ℤ c -ℤ a *ℤ d
ring_products a b c d = simp ring

ring_squares : (a b : ℤ) → (a +ℤ b) *ℤ (a -ℤ b) ≡ a *ℤ a -ℤ b *ℤ b
ring_squares a b = simp ring

-- ---- numeral factors, which `ring` leaves: products are sorted first, which brings a numeral to the right

pub *ℤ-two : (a : ℤ) → a *ℤ pos 2 ≡ a +ℤ a
*ℤ-two a = distl a (pos 1) (pos 1) ∙ simp mul_one

pub *ℤ-three : (a : ℤ) → a *ℤ pos 3 ≡ a +ℤ (a +ℤ a)
*ℤ-three a = distl a (pos 1) (pos 2) ∙ ap₂ ◌+ℤ◌ (mul_one a) (*ℤ-two a)

pub *ℤ-four : (a : ℤ) → a *ℤ pos 4 ≡ a +ℤ (a +ℤ (a +ℤ a))
*ℤ-four a = distl a (pos 1) (pos 3) ∙ ap₂ ◌+ℤ◌ (mul_one a) (*ℤ-three a)

-- small numerals as sums
pub ruleset small = (*ℤ-negsuc, *ℤ-two, *ℤ-three, *ℤ-four)

ring_numerals : (a b : ℤ) → (a -ℤ b) *ℤ (a -ℤ b) ≡ a *ℤ a -ℤ pos 2 *ℤ a *ℤ b +ℤ b *ℤ b
ring_numerals a b = simp (ring, small)

-- ---- a positive factor cancels

zero_of : (n : ℕ) (x : ℤ) → 0 < n → pos n *ℤ x ≡ pos 0 → x ≡ pos 0
zero_of n (pos m) h e = ap pos (none m (ap nat_abs e))
  where
    none : (m : ℕ) → n * m ≡ 0 → m ≡ 0
    none zero e = refl
    none (suc m) e = omega arith
zero_of n (negsuc m) h e = absurd (clash (ap nat_abs (sym (neg_ℤ-neg_ℤ (pos (n * suc m))) ∙ ap neg_ℤ e)))
  where
    clash : n * suc m ≡ 0 → ⊥
    clash e = omega arith

mul_sub : (n a b : ℤ) → n *ℤ (a -ℤ b) ≡ n *ℤ a -ℤ n *ℤ b
mul_sub n a b = simp ring

pub mul_cancel : (n : ℕ) (a b : ℤ) → 0 < n → pos n *ℤ a ≡ pos n *ℤ b → a ≡ b
mul_cancel n a b h e =
    sub-zero_eq a b
    (zero_of n (a -ℤ b) h (mul_sub (pos n) a b ∙ ap (λ x. x -ℤ pos n *ℤ b) e ∙ +ℤ_invr (pos n *ℤ b)))
