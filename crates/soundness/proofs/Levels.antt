-- Laws on the levels of an index of d axes and of its neighbours, beside those of `grid`.
-- Assumes nothing.
use mathlib.Core.Path.{◌≡◌, refl, sym, ap, ◌∙◌}
use mathlib.Core.Logic.{◌≢◌, ◌⊎◌, inl, inr}
use mathlib.Core.List.{List}
use Prim.Native.Nat.{ℕ, zero, suc, ◌+◌, ◌-◌, ◌<◌, ◌≤◌}
use native.Mathlib.Decide.{ℕ_discrete, dec_lt}
use native.Mathlib.Omega.{arith}
use lib.ListN.{length, set}
use lib.Seq.{set_comm, ext_get_or}
use Rattle.grid.specs.Index.{level, excess, Index, root, forward, backward}
use Rattle.grid.proofs.Neighbours.{root-level, forward_length, forward_level, forward_other, backward_other, forward_excess}

pub forward_same : (k : List ℕ) (a : ℕ) → a < length k → level (forward k a) a ≡ level k a + 1
forward_same k a h = omega (arith, forward_level k a h)

-- along different axes the two go in either order
pub forward-backward_other : (k : List ℕ) (a b : ℕ) → b ≢ a → forward (backward k b) a ≡ backward (forward k a) b
unfolding backward forward
forward-backward_other k a b h =
    ap (λ (l : ℕ). set (backward k b) a (l + 1)) (backward_other k b a (λ e. h (sym e)))
    ∙ set_comm k b a (level k b - 1) (level k a + 1) h
    ∙ ap (λ (l : ℕ). set (forward k a) b (l - 1)) (sym (forward_other k a b h))

-- ---- a search below n
pub find : (n : ℕ) (P : ℕ → Type 0) → ((a : ℕ) → Dec (P a)) → ((a : ℕ) × (a < n) × P a) ⊎ ((a : ℕ) → a < n → P a → ⊥)
find zero P test = inr (λ a h x. omega arith)
find (suc n) P test = step (find n P test) (test n)
  where
    last : ((a : ℕ) → a < n → P a → ⊥) → (P n → ⊥) → (a : ℕ) → a < suc n → P a → ⊥
    last f g a h x = pick (ℕ_discrete a n)
      where
        pick : Dec (a ≡ n) → ⊥
        pick (yes e) = g (rw e at x)
        pick (no e) = f a (omega arith) x

    step : ((a : ℕ) × (a < n) × P a) ⊎ ((a : ℕ) → a < n → P a → ⊥) → Dec (P n) → ((a : ℕ) × (a < suc n) × P a) ⊎ ((a : ℕ) → a < suc n → P a → ⊥)
    step (inl s) t = inl (s.0, omega arith, s.2)
    step (inr f) (yes x) = inl (n, omega arith, x)
    step (inr f) (no g) = inr (last f g)

-- ---- indices

root-length : length root ≡ 8
unfolding root
root-length = refl

module _ (d : ℕ) (k : List ℕ) (i : Index d k) where
  pub at_least : (a : ℕ) → a < 8 → 1 ≤ level k a
  at_least a h = i.ceilings.low a (omega (arith, i.eight))

  pub at_most : (a : ℕ) → a < 8 → level k a ≤ 8
  at_most a h = i.ceilings.high a (omega (arith, i.eight))

  -- an axis above level 1 is one of the d
  pub axis_of : (a : ℕ) → a < 8 → 1 < level k a → a < d
  axis_of a h l = step (dec_lt a d)
    where
      step : Dec (a < d) → a < d
      step (yes m) = m
      step (no m) = absurd (omega (arith, i.beyond a (omega arith) h))

  -- the root, or an axis above level 1
  pub root_or : (k ≡ root) ⊎ ((a : ℕ) × (a < 8) × (1 < level k a))
  root_or = step (find 8 (λ a. 1 < level k a) (λ a. dec_lt 1 (level k a)))
    where
      step : ((a : ℕ) × (a < 8) × (1 < level k a)) ⊎ ((a : ℕ) → a < 8 → 1 < level k a → ⊥) → (k ≡ root) ⊎ ((a : ℕ) × (a < 8) × (1 < level k a))
      step (inl s) = inr s
      step (inr f) =
          inl
          (ext_get_or 0 k root (i.eight ∙ sym root-length)
          (λ a h. let h8 : a < 8 = omega (arith, i.eight) in
          let u : 1 < level k a → ⊥ = f a h8 in
          let e : level root a ≡ 1 = root-level a h8 in omega (arith, at_least a h8)))

  module _ (most : d ≤ 8) (a : ℕ) (ha : a < d) where
    in_k : a < length k
    in_k = omega (arith, i.eight)

    -- raising stays within the ceilings exactly below both
    pub index_forward : level k a < 8 → excess k < 12 → Index d (forward k a)
    index_forward l e =
        record {
          eight = forward_length k a ∙ i.eight;
          ceilings =
              record {
                low = λ b h. low b (omega (arith, forward_length k a, i.eight)) (ℕ_discrete b a);
                high = λ b h. high b (omega (arith, forward_length k a, i.eight)) (ℕ_discrete b a);
                small = omega (arith, forward_excess k a in_k (at_least a (omega arith)));
              };
          beyond = λ b hd h8. forward_other k a b (omega arith) ∙ i.beyond b hd h8;
        }
      where
        low : (b : ℕ) → b < 8 → Dec (b ≡ a) → 1 ≤ level (forward k a) b
        low b h (yes e) = rw (e, forward_same k a in_k) (omega arith)
        low b h (no n) = rw (forward_other k a b n) (at_least b h)

        high : (b : ℕ) → b < 8 → Dec (b ≡ a) → level (forward k a) b ≤ 8
        high b h (yes e) = rw (e, forward_same k a in_k) (omega arith)
        high b h (no n) = rw (forward_other k a b n) (at_most b h)

    pub forward_index : Index d (forward k a) → (level k a < 8) × (excess k < 12)
    forward_index j = (
      omega (arith, j.ceilings.high a (omega (arith, forward_length k a, i.eight)), forward_same k a in_k),
      omega (arith, j.ceilings.small, forward_excess k a in_k (at_least a (omega arith))),
    )
