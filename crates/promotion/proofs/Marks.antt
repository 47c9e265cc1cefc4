-- Marks set axis by axis, and read back.
-- The idea: the axes passed have their mark, the others none.
-- Assumes nothing.
use mathlib.Core.Path.{◌≡◌, refl, sym, ap, ap₂, ◌∙◌}
use mathlib.Core.Bool.{Bool, true, false, cond, ◌&&◌}
use mathlib.Core.List.{List, [], ◌∷◌}
use Prim.Native.Nat.{ℕ, zero, suc, ◌+◌, ◌-◌, ◌<◌, ◌≤◌}
use native.Mathlib.Decide.{ℕ_discrete, dec_lt}
use native.Mathlib.Omega.{arith}
use lib.Dec.{ltb}
use lib.ListN.{length, get_or, set, replicate, length-set, length-replicate, get_or-replicate, take, drop}
use Rattle.std.proofs.Common.{add-one, count_by, filter}
use Rattle.std.proofs.lemmas.List.Sums.{length-filter}
use lib.Seq.{drop-cons, ext_get_or, get_or-set_same, get_or-set_other}
use borrow.Author.Tests.{lt-ltb, le-ltb}
use Rattle.sums.specs.Lists.{tabulate}
use Rattle.sums.proofs.Lists.{length-tabulate, get_d_tabulate}
use Rattle.machine.specs.Promote.{passing}
use Rattle.promotion.specs.Marks.{marks_of, marked_axes}

pub record SoFar (f : ℕ → Bool) (axis : ℕ) (marks : List Bool) : Type 0 where
  pub eight : length marks ≡ 8
  pub passed : (a : ℕ) → a < axis → get_or marks a false ≡ f a
  pub left : (a : ℕ) → axis ≤ a → a < 8 → get_or marks a false ≡ false

module _ (f : ℕ → Bool) where
  pub so_far_start : SoFar f 0 (replicate 8 false)
  so_far_start = record { eight = length-replicate 8 false; passed = λ a h. absurd (omega arith); left = λ a h l. get_or-replicate 8 a false false l }

  module _ (axis : ℕ) (marks : List Bool) (here : axis < 8) (s : SoFar f axis marks) where
    pub so_far_skip : f axis ≡ false → SoFar f (axis + 1) marks
    so_far_skip e = record { eight = s.eight; passed = λ a h. step a h (ℕ_discrete a axis); left = λ a h l. s.left a (omega arith) l }
      where
        step : (a : ℕ) → a < axis + 1 → Dec (a ≡ axis) → get_or marks a false ≡ f a
        step a h (yes i) = rw i (s.left axis (omega arith) here ∙ sym e)
        step a h (no i) = s.passed a (omega arith)

    pub so_far_put : f axis ≡ true → SoFar f (axis + 1) (set marks axis true)
    so_far_put e =
        record {
          eight = length-set marks axis true ∙ s.eight;
          passed = λ a h. step a h (ℕ_discrete a axis);
          left = λ a h l. get_or-set_other marks axis a true false (omega arith) ∙ s.left a (omega arith) l;
        }
      where
        step : (a : ℕ) → a < axis + 1 → Dec (a ≡ axis) → get_or (set marks axis true) a false ≡ f a
        step a h (yes i) = rw i (get_or-set_same marks axis true false (omega (arith, s.eight)) ∙ sym e)
        step a h (no i) = get_or-set_other marks axis a true false (omega arith) ∙ s.passed a (omega arith)

  pub so_far_end : (d : ℕ) (marks : List Bool) → d ≤ 8 → SoFar f d marks → marks ≡ marks_of d f
  unfolding marks_of
  so_far_end d marks h s =
      ext_get_or false marks (tabulate 8 (λ a. ltb a d && f a)) (s.eight ∙ sym (length-tabulate 8 (λ a. ltb a d && f a)))
      (λ a l. at a (omega (arith, s.eight)) (dec_lt a d) ∙ sym (get_d_tabulate 8 (λ b. ltb b d && f b) a false (omega (arith, s.eight))))
    where
      at : (a : ℕ) → a < 8 → Dec (a < d) → get_or marks a false ≡ (ltb a d && f a)
      at a l (yes b) = rw (lt-ltb a d b) (s.passed a b)
      at a l (no b) = rw (le-ltb a d (omega arith)) (s.left a (omega arith) l)

-- ---- the marked axes from one on
module _ (marks : List Bool) where
  abbrev pub marked : ℕ → Bool
  marked a = get_or marks a false

  one_left : (d a : ℕ) → a < d → d - a ≡ suc (d - (a + 1))
  one_left d a h = omega arith

  none_left : (d a : ℕ) → d ≤ a → d - a ≡ 0
  none_left d a h = omega arith

  turn_on_lem : (m a : ℕ) → marked a ≡ true → passing (suc m) a marked ≡ a ∷ passing m (a + 1) marked
  unfolding passing
  turn_on_lem m a e = rw e

  turn_off : (m a : ℕ) → marked a ≡ false → passing (suc m) a marked ≡ passing m (a + 1) marked
  unfolding passing
  turn_off m a e = rw e

  pub passing_on : (d a : ℕ) → a < d → marked a ≡ true → passing (d - a) a marked ≡ a ∷ passing (d - (a + 1)) (a + 1) marked
  passing_on d a h e = ap (λ m. passing m a marked) (one_left d a h) ∙ turn_on_lem (d - (a + 1)) a e

  pub passing_off : (d a : ℕ) → a < d → marked a ≡ false → passing (d - a) a marked ≡ passing (d - (a + 1)) (a + 1) marked
  passing_off d a h e = ap (λ m. passing m a marked) (one_left d a h) ∙ turn_off (d - (a + 1)) a e

  pub passing_end : (d a : ℕ) → d ≤ a → passing (d - a) a marked ≡ []
  unfolding passing
  passing_end d a h = rw (none_left d a h)

  pub passing_all : (d : ℕ) → passing (d - 0) 0 marked ≡ marked_axes d marks
  unfolding marked_axes
  passing_all d = ap (λ m. passing m 0 marked) (omega arith)

-- as many axes are marked as there are marks
count_on : (t : Bool) (a : ℕ) (axes : List ℕ) (marks : List Bool) → length axes ≡ length marks → length (cond t (a ∷ axes) axes) ≡ length (cond t (t ∷ marks) marks)
count_on true a axes marks e = rw e
count_on false a axes marks e = e

passing_count : (marks : List Bool) (d a : ℕ) → a + d ≤ length marks → length (passing d a (marked marks)) ≡ length (filter (λ b. b) (take d (drop a marks)))
unfolding passing
passing_count marks zero a h = refl
passing_count marks (suc d) a h =
    count_on (marked marks a) a (passing d (a + 1) (marked marks)) (filter (λ b. b) (take d (drop (a + 1) marks))) (passing_count marks d (a + 1) (omega arith))
    ∙ sym (ap (λ bs. length (filter (λ b. b) (take (suc d) bs))) (drop-cons marks a false (omega arith) ∙ ap (λ n. marked marks a ∷ drop n marks) (sym (add-one a))))

pub marked_count : (marks : List Bool) (d : ℕ) → d ≤ length marks → length (marked_axes d marks) ≡ count_by (λ b. b) (take d marks)
unfolding marked_axes
marked_count marks d h = passing_count marks d 0 (omega arith) ∙ length-filter (λ b. b) (take d marks)

-- ---- what is read back from marks

passing_same : (f g : ℕ → Bool) (n a : ℕ) → ((b : ℕ) → a ≤ b → b < a + n → f b ≡ g b) → passing n a f ≡ passing n a g
unfolding passing
passing_same f g zero a e = refl
passing_same f g (suc n) a e =
    ap₂ (λ t l. cond t (a ∷ l) l) (e a (omega arith) (omega arith)) (passing_same f g n (a + 1) (λ b l u. e b (omega arith) (omega arith)))

module _ (d : ℕ) (f : ℕ → Bool) (few : d ≤ 8) where
  mark_at : (a : ℕ) → a < d → get_or (marks_of d f) a false ≡ f a
  unfolding marks_of
  mark_at a h = get_d_tabulate 8 (λ b. ltb b d && f b) a false (omega arith) ∙ rw (lt-ltb a d h)

  pub marked_passes : (a : ℕ) → a < d → get_or (marks_of d f) a false ≡ true → f a ≡ true
  marked_passes a h e = sym (mark_at a h) ∙ e

  pub marked_are : marked_axes d (marks_of d f) ≡ passing d 0 f
  unfolding marked_axes
  marked_are = passing_same (marked (marks_of d f)) f d 0 (λ a l u. mark_at a (omega arith))
