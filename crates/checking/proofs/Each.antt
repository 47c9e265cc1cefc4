-- What `all` and `any` answer, over the numbers below n or a list, where the closure computes a test.
-- Assumes nothing.
use mathlib.Core.Path.{◌≡◌, refl, ap, ◌∙◌}
use mathlib.Core.Bool.{Bool, true, false, ◌&&◌, ◌||◌, cond}
use mathlib.Core.List.{List}
use Prim.Native.Nat.{ℕ, zero, suc, ◌+◌, ◌-◌, ◌≤◌}
use native.Mathlib.Omega.{arith}
use lib.ListN.{length, get_or, take, drop}
use lib.Seq.{drop-cons}
use native.Mathlib.Numerals.{add-one}
use denote.Param.Members.{Mut}
use Rattle.std.proofs.iter.Yields.{nat_range_steps}
use Rattle.std.proofs.lemmas.Iterator.{YieldsList-from_range}
use Rattle.std.proofs.lemmas.Iterator.Search.{all_from_yields_List, any_from_yields_List}
use Rattle.std.specs.Fn.{Called}
use Rattle.std.specs.Iterator.{YieldsThen}
use Rattle.std.specs.List.{FoldsTo, range_with_len, list_all, list_any}
use Rattle.std.specs.Prelude.{Option, MatchOption}
use Rattle.std.specs.declared.ops.Range.{Range}
use Rattle.soundness.specs.Test.{all_from, any_from}

any_step : (b x y : Bool) → x ≡ y → (b || x) ≡ cond b true y
any_step true x y e = refl
any_step false x y e = e

module _ (test : ℕ → Bool) where
  all_listed : (n i : ℕ) → list_all test (range_with_len i n) ≡ all_from n i test
  unfolding all_from
  all_listed zero i = refl
  all_listed (suc n) i = ap (λ b. test i && b) (all_listed n (i + 1))

  any_listed : (n i : ℕ) → list_any test (range_with_len i n) ≡ any_from n i test
  unfolding any_from
  any_listed zero i = refl
  any_listed (suc n) i = any_step (test i) _ _ (any_listed n (i + 1))

  module _ {F : Type 0} {g : Mut F (ℕ × Unit {0}) Bool} (n : ℕ) (u : Range ℕ) (f : F) (r : Bool) where
    pub all_below : (xs : List ℕ) × (o : Option ℕ) × (j : F) × YieldsThen nat_range_steps (record { start = 0; end = n }) xs o u
        × FoldsTo (λ p x q. Called g p (x, tt) true q) f xs j × MatchOption o (r ≡ true) (λ x. (r ≡ false) × ((h : F) × Called g j (x, tt) false h))
        → ((x : ℕ) (b : Bool) (q : F) → Called g f (x, tt) b q → (q ≡ f) × (b ≡ test x)) → r ≡ all_from n 0 test
    all_below ran computes = all_from_yields_List test u f r ran (YieldsList-from_range 0 n n refl (omega arith)) computes ∙ all_listed n 0

    pub any_below : (xs : List ℕ) × (o : Option ℕ) × (j : F) × YieldsThen nat_range_steps (record { start = 0; end = n }) xs o u
        × FoldsTo (λ p x q. Called g p (x, tt) false q) f xs j × MatchOption o (r ≡ false) (λ x. (r ≡ true) × ((h : F) × Called g j (x, tt) true h))
        → ((x : ℕ) (b : Bool) (q : F) → Called g f (x, tt) b q → (q ≡ f) × (b ≡ test x)) → r ≡ any_from n 0 test
    any_below ran computes = any_from_yields_List test u f r ran (YieldsList-from_range 0 n n refl (omega arith)) computes ∙ any_listed n 0

-- the elements of a list that a slice from i to m has, which their places name
module _ {X : Type 0} (test : X → Bool) (xs : List X) (d : X) where
  listed_from : (n i : ℕ) → i + n ≤ length xs → list_all test (take n (drop i xs)) ≡ all_from n i (λ a. test (get_or xs a d))
  unfolding all_from
  listed_from zero i h = refl
  listed_from (suc n) i h = rw (drop-cons xs i d (omega arith), ← add-one i) (ap (λ b. test (get_or xs i d) && b) (listed_from n (i + 1) (omega arith)))

  pub all_in_slice : (i m n : ℕ) → m - i ≡ n → i + n ≤ length xs → list_all test (take (m - i) (drop i xs)) ≡ all_from n i (λ a. test (get_or xs a d))
  all_in_slice i m n e h = ap (λ k. list_all test (take k (drop i xs))) e ∙ listed_from n i h
