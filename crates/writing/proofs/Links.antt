-- Sixteen links by axis: those that the encoding makes of an index, and those of an index just admitted.
-- Assumes nothing.
use mathlib.Core.Path.{◌≡◌, refl, sym, ap, ap₂, ◌∙◌, subst}
use mathlib.Core.Logic.{◌⊎◌, inl}
use mathlib.Core.Bool.{Bool, true, false, cond}
use mathlib.Core.List.{List}
use Prim.Native.Nat.{ℕ, ◌+◌, ◌-◌, ◌<◌, ◌≤◌}
use native.Mathlib.Decide.{dec_lt}
use native.Mathlib.Omega.{arith}
use borrow.Author.Tests.{lt-ltb, le-ltb}
use lib.Dec.{ltb}
use lib.ListN.{length, get_or, replicate, length-append, get_or-replicate, get_or-append}
use lib.Seq.{ext_get_or, get_or-append-add}
use Rattle.sums.specs.Lists.{tabulate}
use Rattle.sums.proofs.Lists.{length-tabulate, get_d_tabulate}
use Rattle.grid.specs.Index.{level, forward, backward}
use Rattle.area.specs.Encoding.{none, place_of, links_of}
use Rattle.encoding.proofs.Links.{forward_at, backward_at}
use Rattle.writing.specs.Changes.{new_links}
use Rattle.writing.proofs.Places.{place_bounded}

module _ (ls : List (List ℕ)) (k : List ℕ) where
  pub links_length : length (links_of ls k) ≡ 16
  unfolding links_of
  links_length =
      length-append (tabulate 8 (λ a. place_of ls (forward k a))) (tabulate 8 (λ a. place_of ls (backward k a)))
      ∙ ap₂ ◌+◌ (length-tabulate 8 (λ a. place_of ls (forward k a))) (length-tabulate 8 (λ a. place_of ls (backward k a)))

  -- sixteen links are an index's if they are its neighbours' places
  pub links_are : (m : List ℕ) → length m ≡ 16 → ((a : ℕ) → a < 8 → get_or m a none ≡ place_of ls (forward k a))
      → ((a : ℕ) → a < 8 → get_or m (8 + a) none ≡ place_of ls (backward k a)) → m ≡ links_of ls k
  links_are m e f b = ext_get_or none m (links_of ls k) (e ∙ sym links_length) (λ i h. each i (omega arith) (dec_lt i 8))
    where
      each : (i : ℕ) → i < 16 → Dec (i < 8) → get_or m i none ≡ get_or (links_of ls k) i none
      each i h (yes l) = f i l ∙ sym (forward_at ls k i l)
      each i h (no l) =
          let s : i ≡ 8 + (i - 8) = omega arith in
          rw s (b (i - 8) (omega arith) ∙ sym (backward_at ls k (i - 8) (omega arith)))

-- ---- an index just admitted

module _ (ls : List (List ℕ)) (x : List ℕ) where
  abbrev behind : ℕ → ℕ
  behind a = cond (ltb 1 (level x a)) (place_of ls (backward x a)) none

  pub new_length : length (new_links ls x) ≡ 16
  unfolding new_links
  new_length = length-append (replicate 8 none) (tabulate 8 behind) ∙ ap (λ n. 8 + n) (length-tabulate 8 behind)

  -- whatever stands for a missing link
  pub new_forward : (d a : ℕ) → a < 8 → get_or (new_links ls x) a d ≡ none
  unfolding new_links
  new_forward d a h = get_or-append (replicate 8 none) (tabulate 8 behind) d a h ∙ get_or-replicate 8 a none d h

  new_backward : (d a : ℕ) → a < 8 → get_or (new_links ls x) (8 + a) d ≡ behind a
  unfolding new_links
  new_backward d a h = get_or-append-add (replicate 8 none) (tabulate 8 behind) a d ∙ get_d_tabulate 8 behind a d h

  pub new_above : (d a : ℕ) → a < 8 → 1 < level x a → get_or (new_links ls x) (8 + a) d ≡ place_of ls (backward x a)
  new_above d a h l = new_backward d a h ∙ rw (lt-ltb 1 (level x a) l)

  pub new_none : (d a : ℕ) → a < 8 → level x a ≤ 1 → get_or (new_links ls x) (8 + a) d ≡ none
  new_none d a h l = new_backward d a h ∙ rw (le-ltb 1 (level x a) l)

  -- each backward link is none or one of the places
  pub new_bounded : (a : ℕ) → a < 8 → (get_or (new_links ls x) (8 + a) 0 ≡ none) ⊎ (get_or (new_links ls x) (8 + a) 0 < length ls)
  new_bounded a h = subst (λ q. (q ≡ none) ⊎ (q < length ls)) (sym (new_backward 0 a h)) (step (ltb 1 (level x a)))
    where
      step : (t : Bool) → (cond t (place_of ls (backward x a)) none ≡ none) ⊎ (cond t (place_of ls (backward x a)) none < length ls)
      step true = place_bounded (backward x a) ls
      step false = inl refl
