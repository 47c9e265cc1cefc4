-- Lists that are read and written one element after the other.
-- The idea: what is read so far is a prefix, and what is written so far is a list laid over another from a place on.
-- Assumes nothing.
use mathlib.Core.Path.{◌≡◌, refl, sym, ◌∙◌}
use borrow.Rule.Slice.PartMut.{put_mid}
use mathlib.Core.List.{List, [], ◌∷◌, ◌++◌, append_assoc}
use Prim.Native.Nat.{ℕ, suc, ◌+◌, ◌≤◌}
use native.Mathlib.Nat.{add-suc, suc-add, add_assoc}
use native.Mathlib.Omega.{arith}
use lib.ListN.{length, take, drop, set, length-drop}
use lib.Seq.{drop-set-lt, sets, sets-eq, take-add, drop-drop}

module _ {A : Type 0} where
  -- what is written past the first n elements
  pub sets_past : (n : ℕ) (l : List A) (i : ℕ) (vs : List A) → n + (i + length vs) ≤ length l
      → sets l (n + i) vs ≡ take n l ++ sets (drop n l) i vs
  sets_past n l i vs h =
      let hd : i + length vs ≤ length (drop n l) = simp length-drop (omega arith) in
      sets-eq vs l (n + i) (omega arith)
      ∙ rw (sets-eq vs (drop n l) i hd, take-add n i l, drop-drop, add_assoc) (simp append_assoc)

  -- what lies past what is written
  pub drop-sets : (n : ℕ) (l : List A) (i : ℕ) (vs : List A) → i + length vs ≤ n → drop n (sets l i vs) ≡ drop n l
  drop-sets n l i [] h = refl
  drop-sets n l i (a ∷ vs) h =
      let k : suc i + length vs ≤ n = simp (suc-add, ← add-suc) h in
      drop-sets n (set l i a) (suc i) vs k ∙ drop-set-lt n l i a (omega arith)

  -- a run of elements copied over others
  pub put_mid-sets : (l : List A) (i k : ℕ) (vs : List A) → k ≡ length vs → i + length vs ≤ length l → put_mid i k l vs ≡ sets l i vs
  put_mid-sets l i k vs e h = rw (e, drop-drop) (sym (append_assoc (take i l) vs (drop (i + length vs) l))) ∙ sym (sets-eq vs l i h)
