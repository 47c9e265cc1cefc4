-- The sixteen links of an index about to be appended, gathered axis by axis; and one turn of naming back.
-- The idea: the axes passed have their link, the others none.
-- Assumes nothing.
use mathlib.Core.Path.{◌≡◌, sym, ap, ◌∙◌}
use mathlib.Core.List.{List}
use Prim.Native.Nat.{ℕ, suc, ◌+◌, ◌-◌, ◌<◌, ◌≤◌}
use native.Mathlib.Decide.{ℕ_discrete, dec_lt}
use native.Mathlib.Omega.{arith}
use lib.ListN.{length, get_or, set, replicate, length-set, length-replicate, get_or-replicate}
use lib.Seq.{ext_get_or, get_or-set_same, get_or-set_other}
use borrow.Author.Tests.{eq-eqb, ne_eqb}
use Rattle.area.specs.declared.IndexRecord.{IndexRecord}
use Rattle.area.specs.Encoding.{none}
use Rattle.quadrature.specs.Readings.{record_at}
use Rattle.writing.specs.Changes.{with_forward_link, new_links, named_from}
use Rattle.writing.proofs.Links.{new_length, new_forward}

-- ---- gathering
pub record SoFar (ls : List (List ℕ)) (x : List ℕ) (axis : ℕ) (links : List ℕ) : Type 0 where
  pub sixteen : length links ≡ 16
  pub front : (i : ℕ) → i < 8 → get_or links i 0 ≡ none
  pub passed : (a : ℕ) → a < axis → a < 8 → get_or links (8 + a) 0 ≡ get_or (new_links ls x) (8 + a) 0
  pub left : (a : ℕ) → axis ≤ a → a < 8 → get_or links (8 + a) 0 ≡ none

module _ (ls : List (List ℕ)) (x : List ℕ) where
  abbrev due : ℕ → ℕ
  due a = get_or (new_links ls x) (8 + a) 0

  pub so_far_start : SoFar ls x 0 (replicate 16 none)
  so_far_start =
      record {
        sixteen = length-replicate 16 none;
        front = λ i h. get_or-replicate 16 i none 0 (omega arith);
        passed = λ a h l. absurd (omega arith);
        left = λ a h l. get_or-replicate 16 (8 + a) none 0 (omega arith);
      }

  module _ (axis : ℕ) (links : List ℕ) (here : axis < 8) (s : SoFar ls x axis links) where
    pub so_far_skip : due axis ≡ none → SoFar ls x (axis + 1) links
    so_far_skip e =
        record {
          sixteen = s.sixteen;
          front = s.front;
          passed = λ a h l. step a h l (ℕ_discrete a axis);
          left = λ a h l. s.left a (omega arith) l;
        }
      where
        step : (a : ℕ) → a < axis + 1 → a < 8 → Dec (a ≡ axis) → get_or links (8 + a) 0 ≡ due a
        step a h l (yes i) = rw i (s.left axis (omega arith) here ∙ sym e)
        step a h l (no i) = s.passed a (omega arith) l

    pub so_far_put : (q : ℕ) → q ≡ due axis → SoFar ls x (axis + 1) (set links (8 + axis) q)
    so_far_put q e =
        record {
          sixteen = length-set links (8 + axis) q ∙ s.sixteen;
          front = λ i h. get_or-set_other links (8 + axis) i q 0 (omega arith) ∙ s.front i h;
          passed = λ a h l. step a h l (ℕ_discrete a axis);
          left = λ a h l. get_or-set_other links (8 + axis) (8 + a) q 0 (omega arith) ∙ s.left a (omega arith) l;
        }
      where
        step : (a : ℕ) → a < axis + 1 → a < 8 → Dec (a ≡ axis) → get_or (set links (8 + axis) q) (8 + a) 0 ≡ due a
        step a h l (yes i) = rw i (get_or-set_same links (8 + axis) q 0 (omega (arith, s.sixteen)) ∙ e)
        step a h l (no i) = get_or-set_other links (8 + axis) (8 + a) q 0 (omega arith) ∙ s.passed a (omega arith) l

  pub so_far_end : (axis : ℕ) (links : List ℕ) → 8 ≤ axis → SoFar ls x axis links → links ≡ new_links ls x
  so_far_end axis links h s = ext_get_or 0 links (new_links ls x) (s.sixteen ∙ sym (new_length ls x)) (λ i l. at i (omega (arith, s.sixteen)) (dec_lt i 8))
    where
      at : (i : ℕ) → i < 16 → Dec (i < 8) → get_or links i 0 ≡ get_or (new_links ls x) i 0
      at i l (yes b) = s.front i b ∙ sym (new_forward ls x 0 i b)
      at i l (no b) = let e : i ≡ 8 + (i - 8) = omega arith in rw e (s.passed (i - 8) (omega arith) (omega arith))

-- ---- one turn of naming back
one_more : (a : ℕ) → a < 8 → 8 - a ≡ suc (8 - (a + 1))
one_more a h = omega arith

no_more : (a : ℕ) → 8 ≤ a → 8 - a ≡ 0
no_more a h = omega arith

module _ (a : ℕ) (links : List ℕ) (n : ℕ) (rs : List IndexRecord) where
  turn-none : (m : ℕ) → get_or links (8 + a) 0 ≡ none → named_from (suc m) a links n rs ≡ named_from m (a + 1) links n rs
  unfolding named_from
  turn-none m e = rw (eq-eqb (get_or links (8 + a) 0) none e)

  turn_one : (m : ℕ) → (get_or links (8 + a) 0 ≡ none → ⊥)
      → named_from (suc m) a links n rs ≡ named_from m (a + 1) links n (set rs (get_or links (8 + a) 0) (with_forward_link (record_at rs (get_or links (8 + a) 0)) a n))
  unfolding named_from
  turn_one m e = rw (ne_eqb (get_or links (8 + a) 0) none e)

  pub named_none : a < 8 → get_or links (8 + a) 0 ≡ none → named_from (8 - a) a links n rs ≡ named_from (8 - (a + 1)) (a + 1) links n rs
  named_none h e = ap (λ m. named_from m a links n rs) (one_more a h) ∙ turn-none (8 - (a + 1)) e

  pub named-one : a < 8 → (get_or links (8 + a) 0 ≡ none → ⊥)
      → named_from (8 - a) a links n rs ≡ named_from (8 - (a + 1)) (a + 1) links n (set rs (get_or links (8 + a) 0) (with_forward_link (record_at rs (get_or links (8 + a) 0)) a n))
  named-one h e = ap (λ m. named_from m a links n rs) (one_more a h) ∙ turn_one (8 - (a + 1)) e

  pub named_end : 8 ≤ a → named_from (8 - a) a links n rs ≡ rs
  unfolding named_from
  named_end h = rw (no_more a h)
