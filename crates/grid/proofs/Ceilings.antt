-- When the forward neighbour of an index passes a ceiling, along how many axes, and along any at all.
-- The idea: raising a level raises the excess, so it passes one exactly if the excess is 12 already or the level 8.
-- Assumes nothing.
use mathlib.Core.Path.{◌≡◌, refl, sym, ap, ◌∙◌}
use mathlib.Core.Logic.{◌⊎◌, inl, inr}
use mathlib.Core.Bool.{Bool, true, false, cond, ◌||◌}
use mathlib.Core.List.{List}
use Prim.Native.Nat.{ℕ, zero, suc, ◌+◌, ◌<◌, ◌≤◌}
use native.Mathlib.Decide.{ℕ_discrete, dec_lt}
use native.Mathlib.Nat.{add-zero}
use native.Mathlib.Numerals.{add-one}
use native.Mathlib.Omega.{arith}
use borrow.Author.Tests.{lt-ltb, lt-leb, le-leb}
use lib.Dec.{ltb}
use lib.ListN.{length, take}
use Rattle.std.specs.List.{count_by, list_any}
use lib.Seq.{take_all}
use Rattle.std.proofs.lemmas.List.Folds.{list_any_more}
use Rattle.std.proofs.lemmas.List.Sums.{count_by_more_no, count_by_more_yes}
use Rattle.std.proofs.Common.{nat_le}
use Rattle.grid.specs.Index.{level, excess, Within, within, Index, forward, capped_axes, at_ceiling}
use Rattle.grid.specs.Facts.{CeilingFacts}
use Rattle.grid.proofs.Facts.{index_facts}

no_way : false ≡ true → ⊥
no_way e = let z : ◌≡◌ {A = ℕ} 0 1 = cc in omega arith

-- what is not within the ceilings fails the test
fails : (k : List ℕ) → (Within k → ⊥) → within k ≡ false
fails k f = step (within k) refl
  where
    step : (t : Bool) → within k ≡ t → within k ≡ false
    step false e = e
    step true e = absurd (f (index_facts.within_sure k e))

-- one more axis
module _ (k : List ℕ) (a : ℕ) where
  pub capped_more : within (forward k a) ≡ false → capped_axes (a + 1) k ≡ capped_axes a k + 1
  unfolding capped_axes
  capped_more e = rw (add-one a, e)

  pub capped_same : within (forward k a) ≡ true → capped_axes (a + 1) k ≡ capped_axes a k
  unfolding capped_axes
  capped_same e = rw (add-one a, e) (add-zero _)

module _ (k : List ℕ) (eight : length k ≡ 8) (w : Within k) where
  module _ (a : ℕ) (h : a < 8) where
    low : 1 ≤ level k a
    low = w.low a (omega (arith, eight))

    raised_excess : excess (forward k a) ≡ suc (excess k)
    raised_excess = index_facts.forward_excess k a (omega (arith, eight)) low

    raised_level : level (forward k a) a ≡ suc (level k a)
    raised_level = index_facts.forward_level k a (omega (arith, eight))

    pub full_excess : 12 ≤ excess k → within (forward k a) ≡ false
    full_excess f = fails (forward k a) (λ v. omega (arith, f, v.small, raised_excess))

    pub full_level : 8 ≤ level k a → within (forward k a) ≡ false
    full_level f = fails (forward k a) (λ v. omega (arith, f, raised_level, v.high a (omega (arith, eight, index_facts.forward_length k a))))

    pub not_full : excess k < 12 → level k a < 8 → within (forward k a) ≡ true
    not_full e l =
        index_facts.within_back (forward k a)
        (record { low = λ b r. at_least b (omega (arith, r, eight, index_facts.forward_length k a)) (ℕ_discrete b a); high = λ b r. at_most b (omega (arith, r, eight, index_facts.forward_length k a)) (ℕ_discrete b a); small = omega (arith, e, raised_excess) })
      where
        at_least : (b : ℕ) → b < 8 → Dec (b ≡ a) → 1 ≤ level (forward k a) b
        at_least b r (yes q) = rw q (omega (arith, raised_level))
        at_least b r (no q) = omega (arith, index_facts.forward_other k a b q, w.low b (omega (arith, r, eight)))

        at_most : (b : ℕ) → b < 8 → Dec (b ≡ a) → level (forward k a) b ≤ 8
        at_most b r (yes q) = rw q (omega (arith, raised_level, l))
        at_most b r (no q) = omega (arith, index_facts.forward_other k a b q, w.high b (omega (arith, r, eight)))

  one_more : {n m k : ℕ} → n ≡ m → k ≡ n + 1 → k ≡ suc m
  one_more e f = omega (arith, e, f)

  pub capped_all : 12 ≤ excess k → (n : ℕ) → n ≤ 8 → capped_axes n k ≡ n
  capped_all f zero h = unfold capped_axes in refl
  capped_all f (suc n) h =
      one_more (capped_all f n (omega arith)) (rw (← add-one n) (capped_more k n (full_excess n (omega arith) f)))

  -- below an excess of 12 it is the axes at level 8
  pub capped_count : excess k < 12 → (n : ℕ) → n ≤ 8 → count_by (λ l. nat_le 8 l) (take n k) ≡ capped_axes n k
  capped_count e zero h = unfold capped_axes in refl
  capped_count e (suc n) h = step (dec_lt (level k n) 8) (capped_count e n (omega arith))
    where
      inside : n < length k
      inside = omega (arith, eight)

      step : Dec (level k n < 8) → count_by (λ l. nat_le 8 l) (take n k) ≡ capped_axes n k → count_by (λ l. nat_le 8 l) (take (suc n) k) ≡ capped_axes (suc n) k
      step (yes l) ih =
          rw (← (add-one n))
          (count_by_more_no (λ l. nat_le 8 l) k n 0 inside (lt-leb 8 (level k n) l) ∙ ih ∙ sym (capped_same k n (not_full n (omega arith) e l)))
      step (no l) ih =
          rw (← (add-one n))
          (count_by_more_yes (λ l. nat_le 8 l) k n 0 inside (le-leb 8 (level k n) (omega arith)) ∙ ap (λ x. x + 1) ih ∙ sym (capped_more k n (full_level n (omega arith) (omega arith))))

-- ---- at a ceiling: along some axis

ceiling_sure : (d : ℕ) (k : List ℕ) → at_ceiling d k ≡ true → (a : ℕ) × (a < d) × (Within (forward k a) → ⊥)
unfolding at_ceiling
ceiling_sure zero k e = absurd (no_way e)
ceiling_sure (suc n) k e = step (within (forward k n)) refl e (ceiling_sure n k)
  where
    step : (t : Bool) → within (forward k n) ≡ t → cond t (at_ceiling n k) true ≡ true
        → (at_ceiling n k ≡ true → (a : ℕ) × (a < n) × (Within (forward k a) → ⊥)) → (a : ℕ) × (a < suc n) × (Within (forward k a) → ⊥)
    step true f g ih = let (a, h, p) = ih g in (a, omega (arith, h), p)
    step false f g ih = (n, omega arith, λ w. no_way (sym f ∙ index_facts.within_back (forward k n) w))

pub ceiling_back : (d : ℕ) (k : List ℕ) (a : ℕ) → a < d → within (forward k a) ≡ false → at_ceiling d k ≡ true
unfolding at_ceiling
ceiling_back zero k a h f = absurd (omega arith)
ceiling_back (suc n) k a h f = step (ℕ_discrete a n) (λ l. ceiling_back n k a l f)
  where
    either : (t : Bool) → at_ceiling n k ≡ true → cond t (at_ceiling n k) true ≡ true
    either true e = e
    either false e = refl

    step : Dec (a ≡ n) → (a < n → at_ceiling n k ≡ true) → cond (within (forward k n)) (at_ceiling n k) true ≡ true
    step (yes q) ih = rw (← q, f)
    step (no q) ih = either (within (forward k n)) (ih (omega (arith, q, h)))

-- below an excess of 12 it is so where some level is 8
module _ (k : List ℕ) (eight : length k ≡ 8) (w : Within k) (e : excess k < 12) where
  any_below : (n : ℕ) → n ≤ 8 → list_any (λ l. nat_le 8 l) (take n k) ≡ at_ceiling n k
  unfolding at_ceiling
  any_below zero h = refl
  any_below (suc n) h =
      ap (λ m. list_any (λ l. nat_le 8 l) (take m k)) (sym (add-one n)) ∙ list_any_more (λ l. nat_le 8 l) k n 0 (omega (arith, eight))
      ∙ ap (λ t. t || nat_le 8 (level k n)) (any_below n (omega arith)) ∙ step (dec_lt (level k n) 8)
    where
      or-true : (t : Bool) → (t || true) ≡ true
      or-true true = refl
      or-true false = refl

      or-false : (t : Bool) → (t || false) ≡ t
      or-false true = refl
      or-false false = refl

      step : Dec (level k n < 8) → (at_ceiling n k || nat_le 8 (level k n)) ≡ cond (within (forward k n)) (at_ceiling n k) true
      step (yes l) = rw (lt-leb 8 (level k n) l, not_full k eight w n (omega arith) e l) (or-false (at_ceiling n k))
      step (no l) = rw (le-leb 8 (level k n) (omega arith), full_level k eight w n (omega arith) (omega arith)) (or-true (at_ceiling n k))

  pub ceiling_any : list_any (λ l. nat_le 8 l) k ≡ at_ceiling 8 k
  ceiling_any = ap (list_any (λ l. nat_le 8 l)) (sym (take_all 8 k (omega (arith, eight)))) ∙ any_below 8 (omega arith)

counted : (d : ℕ) (k : List ℕ) → at_ceiling d k ≡ ltb 0 (capped_axes d k)
unfolding at_ceiling capped_axes
counted zero k = refl
counted (suc n) k = step (within (forward k n)) (counted n k)
  where
    step : (t : Bool) → at_ceiling n k ≡ ltb 0 (capped_axes n k) → cond t (at_ceiling n k) true ≡ ltb 0 (capped_axes n k + cond t 0 1)
    step true e = e ∙ ap (ltb 0) (sym (add-zero (capped_axes n k)))
    step false e = sym (lt-ltb 0 (capped_axes n k + 1) (omega arith))

-- what is past one ceiling has level 9 or an excess of 13
module _ (k : List ℕ) (a : ℕ) (eight : length k ≡ 8) (h : a < 8) (w : Within k) where
  nine_or_thirteen : (Within (forward k a) → ⊥) → (level (forward k a) a ≡ 9) ⊎ (excess (forward k a) ≡ 13)
  nine_or_thirteen f = step (dec_lt (level k a) 8) (dec_lt (excess k) 12)
    where
      step : Dec (level k a < 8) → Dec (excess k < 12) → (level (forward k a) a ≡ 9) ⊎ (excess (forward k a) ≡ 13)
      step (no l) e = inl (omega (arith, l, raised_level k eight w a h, w.high a (omega (arith, eight, h))))
      step (yes l) (no e) = inr (omega (arith, e, raised_excess k eight w a h, w.small))
      step (yes l) (yes e) = absurd (f (index_facts.within_sure (forward k a) (not_full k eight w a h e l)))

module _ (d : ℕ) (k : List ℕ) (some : 1 ≤ d) (few : d ≤ 8) (i : Index d k) where
  axes_alike : at_ceiling 8 k ≡ at_ceiling d k
  axes_alike = step (at_ceiling 8 k) (at_ceiling d k) refl refl
    where
      -- what stops it along an axis from d on is the excess, and that stops it along the first
      along : (a : ℕ) → a < 8 → (Within (forward k a) → ⊥) → Dec (a < d) → at_ceiling d k ≡ true
      along a h f (yes l) = ceiling_back d k a l (fails (forward k a) f)
      along a h f (no l) =
          ceiling_back d k 0 (omega (arith, some)) (full_excess k i.eight i.ceilings 0 (omega arith) (by (nine_or_thirteen k a i.eight h i.ceilings f)))
        where
          by : (level (forward k a) a ≡ 9) ⊎ (excess (forward k a) ≡ 13) → 12 ≤ excess k
          by (inl e) = absurd (omega (arith, e, raised_level k i.eight i.ceilings a h, i.beyond a (omega (arith, l)) h))
          by (inr e) = omega (arith, e, raised_excess k i.eight i.ceilings a h)

      step : (t u : Bool) → at_ceiling 8 k ≡ t → at_ceiling d k ≡ u → at_ceiling 8 k ≡ at_ceiling d k
      step true u e f = let (a, h, p) = ceiling_sure 8 k e in e ∙ sym (along a h p (dec_lt a d))
      step false false e f = e ∙ sym f
      step false true e f =
          let (a, h, p) = ceiling_sure d k f in
          absurd (no_way (sym e ∙ ceiling_back 8 k a (omega (arith, h, few)) (fails (forward k a) p)))

pub ceiling_facts : CeilingFacts
ceiling_facts =
    record {
      sure = ceiling_sure;
      back = λ d k a h f. ceiling_back d k a h (fails (forward k a) f);
      nine_or_thirteen = nine_or_thirteen;
      counted = counted;
      axes_alike = axes_alike;
    }
