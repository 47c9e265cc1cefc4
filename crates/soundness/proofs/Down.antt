-- The delivered indices of a sound area: within the ceilings, none twice, downward closed.
-- Assumes nothing.
use mathlib.Core.Path.{◌≡◌, sym, subst}
use mathlib.Core.Bool.{Bool, true, false, cond}
use mathlib.Core.List.{List, [], ◌∷◌, Memᴰ}
use Prim.Native.Nat.{ℕ, suc, ◌<◌}
use native.Mathlib.Omega.{arith}
use lib.Dec.{leb}
use lib.ListN.{length}
use Rattle.grid.specs.Index.{level, Index, backward}
use Rattle.grid.specs.Terms.{NoDup, DownSet}
use Rattle.area.specs.declared.IndexRecord.{IndexRecord}
use Rattle.quadrature.specs.Linked.{delivered_in}
use Rattle.quadrature.proofs.Delivered.{delivered_sure, delivered_back}
use Rattle.soundness.specs.Held.{levels_at, HeldOld}
use Rattle.soundness.specs.Sound.{Structure}
use Rattle.soundness.proofs.Levels.{axis_of}

once : (rs : List IndexRecord) → ((p q : ℕ) → p < length rs → q < length rs → levels_at rs p ≡ levels_at rs q → p ≡ q) → NoDup (delivered_in rs)
unfolding delivered_in
once [] u = tt
once (r ∷ rs) u =
    step (leb 1 r.state) (once rs (λ p q hp hq e. let z : suc p ≡ suc q = u (suc p) (suc q) (omega arith) (omega arith) e in omega arith))
  where
    out : Memᴰ r.levels (delivered_in rs) → ⊥
    out m =
        let x = delivered_sure rs r.levels m in
        let z : 0 ≡ suc x.place = u 0 (suc x.place) (omega arith) (omega (arith, x.inside)) (sym x.levels) in
        omega arith

    step : (t : Bool) → NoDup (delivered_in rs) → NoDup (cond t (r.levels ∷ delivered_in rs) (delivered_in rs))
    step true n = (out, n)
    step false n = n

module _ (d : ℕ) (rs : List IndexRecord) (s : Structure d rs) where
  index_of : (k : List ℕ) → Memᴰ k (delivered_in rs) → Index d k
  index_of k m = let x = delivered_sure rs k m in subst (Index d) x.levels (s.index x.place x.inside)

  pub delivered-down : DownSet (delivered_in rs)
  delivered-down =
      record {
        eight = λ k m. (index_of k m).eight;
        ceilings = λ k m. (index_of k m).ceilings;
        once = once rs s.different;
        closed = λ k a m h l.
            let x = delivered_sure rs k m in
            let ax : a < d = axis_of d k (index_of k m) a h l in
            let y : HeldOld rs (backward k a) =
            subst (λ z. HeldOld rs (backward z a)) x.levels (s.behind x.place a x.inside ax (subst (λ z. 1 < level z a) (sym x.levels) l)) in
            subst (λ z. Memᴰ z (delivered_in rs)) y.1.same (delivered_back rs y.0 y.1.place (omega (arith, y.2)));
      }
