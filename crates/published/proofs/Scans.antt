-- The scan over the axes: the forward neighbours that Fig. 1 joins are those that promote admits, in the same order.
-- The idea: joining leaves the old set, so the test of each axis is that of the set before the scan.
-- Assumes nothing.
use mathlib.Core.Path.{◌≡◌, refl, ap, ap₂, ◌∙◌}
use mathlib.Core.Bool.{Bool, true, false, cond, ◌&&◌}
use mathlib.Core.List.{List, [], ◌∷◌, map, Memᴰ}
use Prim.Native.Nat.{ℕ, zero, suc, ◌+◌}
use lib.Dec.{leb}
use Rattle.grid.specs.Index.{level, within, forward, backward}
use Rattle.grid.specs.Coefficient.{is_in}
use Rattle.grid.proofs.Members.{in_sure, in_back}
use Rattle.area.specs.Entry.{Entry}
use Rattle.soundness.specs.Test.{all_from}
use Rattle.soundness.proofs.Exactly.{same_answer}
use Rattle.encoding.specs.Entries.{EnteredOld}
use Rattle.machine.specs.Promote.{is_old, backward_old, admits, passing, admitted_axes}
use Rattle.machine.proofs.Old.{reads_old}
use Rattle.published.specs.Figure.{Problem, Figure, admissible, joined, scanned}

-- ---- indices joined in turn

unfoldable pub joined_all : Problem → List (List ℕ) → Figure → Figure
joined_all P [] s = s
joined_all P (k ∷ ks) s = joined_all P ks (joined P k s)

joined_test : (P : Problem) (s : Figure) (j k : List ℕ) → admissible P (joined P j s) k ≡ admissible P s k
unfolding admissible joined
joined_test P s j k = refl

module _ (P : Problem) (k : List ℕ) (f : ℕ → Bool) where
  -- the test is f before the scan, so it is f at each axis
  pub scanned_joins : (n a : ℕ) (s : Figure) → ((c : ℕ) → admissible P s (forward k c) ≡ f c) → scanned P k n a s ≡ joined_all P (map (forward k) (passing n a f)) s
  unfolding scanned passing joined_all
  scanned_joins zero a s h = refl
  scanned_joins (suc n) a s h = ap (λ t. scanned P k n (a + 1) (cond t (joined P (forward k a) s) s)) (h a) ∙ step (f a) (scanned_joins n (a + 1))
    where
      rest : List ℕ
      rest = passing n (a + 1) f

      step : (t : Bool) → ((r : Figure) → ((c : ℕ) → admissible P r (forward k c) ≡ f c) → scanned P k n (a + 1) r ≡ joined_all P (map (forward k) rest) r)
          → scanned P k n (a + 1) (cond t (joined P (forward k a) s) s) ≡ joined_all P (map (forward k) (cond t (a ∷ rest) rest)) s
      step true ih = ih (joined P (forward k a) s) (λ c. joined_test P s (forward k a) (forward k c) ∙ h c)
      step false ih = ih s h

-- ---- the test, where the old sets are the same

all_same : (f g : ℕ → Bool) → ((c : ℕ) → f c ≡ g c) → (n i : ℕ) → all_from n i f ≡ all_from n i g
unfolding all_from
all_same f g h zero i = refl
all_same f g h (suc n) i = ap₂ ◌&&◌ (h i) (all_same f g h n (i + 1))

module _ (P : Problem) (s : Figure) (es : List Entry) (there : (k : List ℕ) → EnteredOld es k → Memᴰ k s.old) (here : (k : List ℕ) → Memᴰ k s.old → EnteredOld es k) where
  old_same : (k : List ℕ) → is_in s.old k ≡ is_old es k
  old_same k =
      same_answer (is_in s.old k) (is_old es k) (record { sure = λ e. here k (in_sure s.old k e); back = λ h. in_back s.old k (there k h) }) (reads_old es k)

  test_same : (k : List ℕ) (a : ℕ) → admissible P s (forward k a) ≡ admits P.axes es k a
  unfolding admissible admits backward_old
  test_same k a =
      ap (λ t. within j && t)
      (all_same (λ q. cond (leb (level j q) 1) true (is_in s.old (backward j q))) (backward_old es j) (λ q. ap (λ t. cond (leb (level j q) 1) true t) (old_same (backward j q))) P.axes 0)
    where
      j : List ℕ
      j = forward k a

  pub scan_admits : (k : List ℕ) → scanned P k P.axes 0 s ≡ joined_all P (map (forward k) (admitted_axes P.axes es k)) s
  unfolding admitted_axes
  scan_admits k = scanned_joins P k (admits P.axes es k) P.axes 0 s (test_same k)
