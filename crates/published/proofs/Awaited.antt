-- Indices joined in turn, and entries of which some are wanted: what there is of 𝒪 and 𝒜, of η and of r.
-- Assumes nothing.
use mathlib.Core.Path.{◌≡◌, refl, sym, ap, ◌∙◌}
use mathlib.Core.Bool.{Bool, true, false, cond}
use mathlib.Core.Logic.{◌≢◌, ◌⊎◌, inl, inr}
use mathlib.Core.List.Memᴰ
use mathlib.Core.List.{List, [], ◌∷◌, ◌++◌, map, append-nil, Memᴰ}
use Prim.Native.Nat.{ℕ, suc, ◌+◌, ◌<◌, ◌≤◌}
use native.Mathlib.Omega.{arith}
use borrow.Author.Tests.{eq-eqb, ne_eqb, eqb-true, eqb-false}
use lib.Dec.{eqb}
use lib.IntN.{◌+ℤ◌, +ℤ_idr, +ℤ_assoc}
use lib.ListN.{length}
use lib.Seq.{append_snoc}
use Rattle.sums.specs.Sums.{sum_of}
use Rattle.grid.specs.Block.{block_size}
use Rattle.grid.specs.Terms.{NoDup}
use Rattle.area.specs.Entry.{Entry, reserved_by, pending_of}
use Rattle.encoding.specs.Entries.{entry_at, Has}
use Rattle.machine.specs.Log.{wanted}
use Rattle.machine.specs.Admitted.{total_of}
use Rattle.machine.proofs.Sets.{Different}
use Rattle.published.specs.Figure.{Problem, Figure, increment, joined}
use Rattle.published.specs.Turns.{active_of, wanted_of, not_old_of}
use Rattle.published.proofs.Scans.{joined_all}
use Rattle.published.proofs.Joins.{active-append}

-- ---- indices joined in turn

module _ (P : Problem) where
  pub joins_old : (ks : List (List ℕ)) (s : Figure) → (joined_all P ks s).old ≡ s.old
  unfolding joined_all joined
  joins_old [] s = refl
  joins_old (k ∷ ks) s = joins_old ks (joined P k s)

  pub joins_active : (ks : List (List ℕ)) (s : Figure) → (joined_all P ks s).active ≡ s.active ++ ks
  unfolding joined_all joined
  joins_active [] s = sym (append-nil s.active)
  joins_active (k ∷ ks) s = joins_active ks (joined P k s) ∙ append_snoc s.active k ks

  pub joins_estimate : (ks : List (List ℕ)) (s : Figure) → (joined_all P ks s).estimate ≡ s.estimate + total_of P.indicator ks
  unfolding joined_all joined total_of
  joins_estimate [] s = omega arith
  joins_estimate (k ∷ ks) s = omega (arith, joins_estimate ks (joined P k s))

  pub joins_carried : (ks : List (List ℕ)) (s : Figure) → (joined_all P ks s).carried ≡ s.carried
  unfolding joined_all joined
  joins_carried [] s = refl
  joins_carried (k ∷ ks) s = joins_carried ks (joined P k s)

  pub joins_result : (ks : List (List ℕ)) (s : Figure) → (joined_all P ks s).result ≡ s.result +ℤ sum_of ks (increment P)
  unfolding joined_all joined sum_of
  joins_result [] s = sym (+ℤ_idr s.result)
  joins_result (k ∷ ks) s = joins_result ks (joined P k s) ∙ +ℤ_assoc s.result (increment P k) (sum_of ks (increment P))

-- ---- wanted entries alone

active-none : (ks : List (List ℕ)) → active_of (map wanted ks) ≡ []
unfolding active_of wanted
active-none [] = refl
active-none (k ∷ ks) = active-none ks

wanted_all : (ks : List (List ℕ)) → wanted_of (map wanted ks) ≡ ks
unfolding wanted_of wanted
wanted_all [] = refl
wanted_all (k ∷ ks) = ap (λ xs. k ∷ xs) (wanted_all ks)

not_old_all : (ks : List (List ℕ)) → not_old_of (map wanted ks) ≡ ks
unfolding not_old_of wanted
not_old_all [] = refl
not_old_all (k ∷ ks) = ap (λ xs. k ∷ xs) (not_old_all ks)

-- ---- after delivered ones

-- every entry is active or old
abbrev pub EachDelivered : List Entry → Type 0
EachDelivered es = (p : ℕ) → p < length es → (1 ≤ (entry_at es p).state) × ((entry_at es p).state ≤ 2)

later : (e : Entry) (es : List Entry) → EachDelivered (e ∷ es) → EachDelivered es
later e es f p h = f (suc p) (omega arith)

pub active_before : (es : List Entry) (ks : List (List ℕ)) → active_of (es ++ map wanted ks) ≡ active_of es
active_before es ks = active-append es (map wanted ks) ∙ ap (λ xs. active_of es ++ xs) (active-none ks) ∙ append-nil (active_of es)

pub pending_before : (es : List Entry) (ks : List (List ℕ)) → pending_of (es ++ map wanted ks) ≡ pending_of es
unfolding pending_of wanted
pending_before [] [] = refl
pending_before [] (k ∷ ks) = omega (arith, pending_before [] ks)
pending_before (e ∷ es) ks = omega (arith, pending_before es ks)

pub reserved_both : (es : List Entry) (ks : List (List ℕ)) → reserved_by (es ++ map wanted ks) ≡ reserved_by es + total_of block_size ks
unfolding reserved_by wanted total_of
reserved_both [] [] = refl
reserved_both [] (k ∷ ks) = omega (arith, reserved_both [] ks)
reserved_both (e ∷ es) ks = omega (arith, reserved_both es ks)

pub wanted_after : (es : List Entry) (ks : List (List ℕ)) → EachDelivered es → wanted_of (es ++ map wanted ks) ≡ ks
unfolding wanted_of
wanted_after [] ks f = wanted_all ks
wanted_after (e ∷ es) ks f = rw (ne_eqb e.state 0 (λ z. omega (arith, (f 0 (omega arith)).0))) (wanted_after es ks (later e es f))

-- what is not old is active or wanted
pub not_old_both : (es : List Entry) (ks : List (List ℕ)) → EachDelivered es → not_old_of (es ++ map wanted ks) ≡ active_of es ++ ks
unfolding not_old_of active_of
not_old_both [] ks f = not_old_all ks
not_old_both (e ∷ es) ks f = step (eqb e.state 1) refl (not_old_both es ks (later e es f))
  where
    step : (t : Bool) → eqb e.state 1 ≡ t → not_old_of (es ++ map wanted ks) ≡ active_of es ++ ks
        → cond (eqb e.state 2) (not_old_of (es ++ map wanted ks)) (e.levels ∷ not_old_of (es ++ map wanted ks)) ≡ cond t (e.levels ∷ active_of es) (active_of es) ++ ks
    step true q ih = rw (ne_eqb e.state 2 (λ z. omega (arith, eqb-true e.state 1 q))) (ap (λ xs. e.levels ∷ xs) ih)
    step false q ih = rw (eq-eqb e.state 2 (two (eqb-false e.state 1 q) (f 0 (omega arith)))) ih
      where
        two : (e.state ≡ 1 → ⊥) → (1 ≤ e.state) × (e.state ≤ 2) → e.state ≡ 2
        two n b = omega (arith, b.0, b.1)

-- ---- the indices that are not old

-- each is that of an entry that is not old
pub not_old_sure : (es : List Entry) (k : List ℕ) → Memᴰ k (not_old_of es) → (p : ℕ) × Has es k p × ((entry_at es p).state ≢ 2)
unfolding not_old_of
not_old_sure [] k m = absurd (Memᴰ.not-nil m)
not_old_sure (e ∷ es) k m = step (eqb e.state 2) refl m (not_old_sure es k)
  where
    next : (p : ℕ) × Has es k p × ((entry_at es p).state ≢ 2) → (p : ℕ) × Has (e ∷ es) k p × ((entry_at (e ∷ es) p).state ≢ 2)
    next (p, h, n) = (suc p, record { place = omega (arith, h.place); same = h.same }, n)

    step : (t : Bool) → eqb e.state 2 ≡ t → Memᴰ k (cond t (not_old_of es) (e.levels ∷ not_old_of es))
        → (Memᴰ k (not_old_of es) → (p : ℕ) × Has es k p × ((entry_at es p).state ≢ 2)) → (p : ℕ) × Has (e ∷ es) k p × ((entry_at (e ∷ es) p).state ≢ 2)
    step true q m ih = next (ih m)
    step false q m ih = first (Memᴰ.cases_cons m)
      where
        first : (k ≡ e.levels) ⊎ Memᴰ k (not_old_of es) → (p : ℕ) × Has (e ∷ es) k p × ((entry_at (e ∷ es) p).state ≢ 2)
        first (inl i) = (0, record { place = omega arith; same = sym i }, eqb-false e.state 2 q)
        first (inr r) = next (ih r)

pub not_old_once : (es : List Entry) → Different es → NoDup (not_old_of es)
unfolding not_old_of
not_old_once [] u = tt
not_old_once (e ∷ es) u =
    step (eqb e.state 2) (not_old_once es (λ p q hp hq i. let z : suc p ≡ suc q = u (suc p) (suc q) (omega arith) (omega arith) i in omega arith))
  where
    out : Memᴰ e.levels (not_old_of es) → ⊥
    out m =
        let x = not_old_sure es e.levels m in
        let z : 0 ≡ suc x.0 = u 0 (suc x.0) (omega arith) (omega (arith, x.1.place)) (sym x.1.same) in
        omega arith

    step : (t : Bool) → NoDup (not_old_of es) → NoDup (cond t (not_old_of es) (e.levels ∷ not_old_of es))
    step true n = n
    step false n = (out, n)
