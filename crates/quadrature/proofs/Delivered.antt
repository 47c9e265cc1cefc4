-- The delivered indices among the records: an index stands among them exactly if the record at its place is delivered.
-- Assumes nothing.
use mathlib.Core.Path.{◌≡◌, refl, sym, ap, ◌∙◌, subst}
use mathlib.Core.Logic.{⊎_elim}
use mathlib.Core.Bool.{Bool, true, false, cond}
use mathlib.Core.List.Memᴰ
use mathlib.Core.List.{List, [], ◌∷◌, Memᴰ}
use Prim.Native.Nat.{ℕ, zero, suc, ◌<◌, ◌≤◌}
use native.Mathlib.Nat as NatL
use native.Mathlib.Omega.{arith}
use borrow.Author.Tests.{leb-true, le-leb}
use lib.Dec.{leb}
use lib.ListN.{length}
use Rattle.grid.specs.Coefficient.{is_in}
use Rattle.grid.proofs.Members.{in_back, in_no}
use Rattle.area.specs.declared.IndexRecord.{IndexRecord}
use Rattle.quadrature.specs.Readings.{record_at, place_in}
use Rattle.quadrature.specs.Linked.{delivered_in, Linked}
use Rattle.quadrature.proofs.Places.{place_levels, below_none}

-- a delivered index with its place
pub record Delivered (rs : List IndexRecord) (k : List ℕ) : Type 0 where
  pub place : ℕ
  pub inside : place < length rs
  pub levels : (record_at rs place).levels ≡ k
  pub delivered : 1 ≤ (record_at rs place).state

pub delivered_sure : (rs : List IndexRecord) (k : List ℕ) → Memᴰ k (delivered_in rs) → Delivered rs k
unfolding delivered_in
delivered_sure [] k m = absurd (Memᴰ.not-nil m)
delivered_sure (r ∷ rs) k m = step (leb 1 r.state) refl m (delivered_sure rs k)
  where
    later : Delivered rs k → Delivered (r ∷ rs) k
    later x = record { place = suc x.place; inside = omega (arith, x.inside); levels = x.levels; delivered = x.delivered }

    step : (t : Bool) → leb 1 r.state ≡ t → Memᴰ k (cond t (r.levels ∷ delivered_in rs) (delivered_in rs)) → (Memᴰ k (delivered_in rs) → Delivered rs k) → Delivered (r ∷ rs) k
    step true e m ih =
        ⊎_elim (λ q. record { place = 0; inside = omega arith; levels = sym q; delivered = leb-true 1 r.state e }) (λ q. later (ih q)) (Memᴰ.cases_cons m)
    step false e m ih = later (ih m)

pub delivered_back : (rs : List IndexRecord) (p : ℕ) → p < length rs → 1 ≤ (record_at rs p).state → Memᴰ (record_at rs p).levels (delivered_in rs)
unfolding delivered_in
delivered_back [] p h d = absurd (omega arith)
delivered_back (r ∷ rs) zero h d = rw (le-leb 1 r.state d) (Memᴰ.head refl)
delivered_back (r ∷ rs) (suc p) h d = step (leb 1 r.state) (delivered_back rs p (omega arith) d)
  where
    step : (t : Bool) → Memᴰ (record_at rs p).levels (delivered_in rs) → Memᴰ (record_at rs p).levels (cond t (r.levels ∷ delivered_in rs) (delivered_in rs))
    step true m = Memᴰ.tail m
    step false m = m

module _ {d : ℕ} {rs : List IndexRecord} (linked : Linked d rs) (k : List ℕ) where
  -- the place of a delivered index is the one found
  same_place : (x : Delivered rs k) → place_in rs k ≡ x.place
  same_place x = ap (place_in rs) (sym x.levels) ∙ linked.own x.place x.inside

  pub in_delivered : place_in rs k < length rs → 1 ≤ (record_at rs (place_in rs k)).state → is_in (delivered_in rs) k ≡ true
  in_delivered h s =
      in_back (delivered_in rs) k
      (subst (λ l. Memᴰ l (delivered_in rs)) (place_levels rs k (below_none (NatL.lt_of_lt_of_le h linked.few))) (delivered_back rs (place_in rs k) h s))

  pub out_wanted : (record_at rs (place_in rs k)).state ≡ 0 → is_in (delivered_in rs) k ≡ false
  out_wanted e =
      in_no (delivered_in rs) k (λ m.
      let x = delivered_sure rs k m in
      let s : 1 ≤ (record_at rs (place_in rs k)).state = subst (λ p. 1 ≤ (record_at rs p).state) (sym (same_place x)) x.delivered in
      omega arith)

  pub out_absent : (place_in rs k < length rs → ⊥) → is_in (delivered_in rs) k ≡ false
  out_absent f = in_no (delivered_in rs) k (λ m. let x = delivered_sure rs k m in f (subst (λ p. p < length rs) (sym (same_place x)) x.inside))
