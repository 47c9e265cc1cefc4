-- Whether an index has an old entry, and whether a forward neighbour is admitted, read as statements.
-- Assumes nothing.
use mathlib.Core.Path.{◌≡◌}
use mathlib.Core.Logic.{◌⊎◌, inl, inr}
use mathlib.Core.List.{List, [], ◌∷◌}
use Prim.Native.Nat.{ℕ, zero, suc, ◌<◌}
use native.Mathlib.Omega.{arith}
use Rattle.grid.specs.Index.{level, Within, forward, backward}
use Rattle.grid.proofs.Levels.{within_sure, within_back}
use Rattle.area.specs.Entry.{Entry}
use Rattle.soundness.specs.Sound.{Exactly}
use Rattle.soundness.proofs.Exactly.{reads_as, reads_eq, reads_le, reads_true, reads_and, reads_cond, reads_or, reads_all, reads_same}
use Rattle.encoding.specs.Entries.{entry_at, Has, EnteredOld}
use Rattle.machine.specs.Promote.{is_old, backward_old, admits}

pub reads_old : (es : List Entry) (k : List ℕ) → Exactly (is_old es k) (EnteredOld es k)
unfolding is_old
reads_old [] k = record { sure = λ e. absurd (let z : ◌≡◌ {A = ℕ} 0 1 = cc in omega arith); back = λ h. absurd (omega (arith, h.1.place)) }
reads_old (e ∷ es) k =
    reads_as there (λ h. here h.0 h.1 h.2)
    (reads_or _ _ (reads_and _ _ (reads_same e.levels k) (reads_eq e.state 2)) (reads_old es k))
  where
    there : ((e.levels ≡ k) × (e.state ≡ 2)) ⊎ EnteredOld es k → EnteredOld (e ∷ es) k
    there (inl x) = (0, record { place = omega arith; same = x.0 }, x.1)
    there (inr h) = (suc h.0, record { place = omega (arith, h.1.place); same = h.1.same }, h.2)

    here : (p : ℕ) → Has (e ∷ es) k p → (entry_at (e ∷ es) p).state ≡ 2 → ((e.levels ≡ k) × (e.state ≡ 2)) ⊎ EnteredOld es k
    here zero h s = inl (h.same, s)
    here (suc p) h s = inr (p, record { place = omega (arith, h.place); same = h.same }, s)

pub reads_backward : (es : List Entry) (k : List ℕ) (b : ℕ) → Exactly (backward_old es k b) (1 < level k b → EnteredOld es (backward k b))
unfolding backward_old
reads_backward es k b =
    reads_as (λ x l. x.1 (λ m. omega arith)) (λ x. (λ m. tt, λ m. x (omega arith)))
    (reads_cond _ _ _ (reads_le (level k b) 1) reads_true (reads_old es (backward k b)))

-- when k's forward neighbour along a is admitted
pub record Admits (d : ℕ) (es : List Entry) (k : List ℕ) (a : ℕ) : Type 0 where
  pub ceilings : Within (forward k a)
  pub behind : (b : ℕ) → b < d → 1 < level (forward k a) b → EnteredOld es (backward (forward k a) b)

pub reads_admits : (d : ℕ) (es : List Entry) (k : List ℕ) (a : ℕ) → Exactly (admits d es k a) (Admits d es k a)
unfolding admits
reads_admits d es k a =
    reads_as (λ x. record { ceilings = x.0; behind = x.1 }) (λ x. (x.ceilings, x.behind))
    (reads_and _ _ (record { sure = within_sure (forward k a); back = within_back (forward k a) })
    (reads_all (backward_old es (forward k a)) (λ b. 1 < level (forward k a) b → EnteredOld es (backward (forward k a) b)) d (λ b h. reads_backward es (forward k a) b)))
