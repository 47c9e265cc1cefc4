-- The readings that are found are those that the area encodes: an index is looked up among the held, and what lies in the store from
-- its first reading on is what its entry has.
-- Assumes nothing.
use mathlib.Core.Path.{◌≡◌, refl, sym, ap, ◌∙◌, subst}
use mathlib.Core.Bool.{Bool, true, false, cond}
use mathlib.Core.List.{List, [], ◌∷◌, map}
use Prim.Native.Nat.{ℕ, zero, suc, ◌+◌, ◌<◌, ◌≤◌}
use native.Mathlib.Nat as NatL
use native.Mathlib.Omega.{arith}
use borrow.Author.Tests.{le-leb}
use lib.Dec.{leb}
use lib.IntN.{ℤ, pos}
use lib.ListN.{length, get_or, take, drop, length-take}
use lib.Seq.{get_or-take, get_or-drop}
use Rattle.grid.specs.Index.{root, forward, NowhereHigher}
use Rattle.grid.specs.Block.{block_size}
use Rattle.grid.specs.Coefficient.{same_levels}
use Rattle.grid.specs.Terms.{Agree, IsReading}
use Rattle.area.specs.declared.IndexRecord.{IndexRecord}
use Rattle.area.specs.declared.Settings.{Settings}
use Rattle.area.specs.Records.{blank, levels_of}
use Rattle.area.specs.Entry.{Entry, delivered_of, readings_of, reading_in}
use Rattle.area.specs.Encoding.{none, place_from, place_of, entry_of}
use Rattle.area.specs.Settings.{reading_count}
use Rattle.area.proofs.Readings.{reading_facts}
use Rattle.quadrature.specs.Readings.{record_at, place_in, stored_reading}
use Rattle.quadrature.specs.Ready.{Ready}
use Rattle.quadrature.specs.Linked.{delivered_in}
use Rattle.quadrature.proofs.Places.{place_inside, place_levels, below_none}

-- ---- the held records among all

place-take : (h p : ℕ) (rs : List IndexRecord) (k : List ℕ) → place_from p (levels_of (take h rs)) k < none → place_from p (levels_of rs) k ≡ place_from p (levels_of (take h rs)) k
unfolding place_from levels_of
place-take zero p [] k q = refl
place-take zero p (r ∷ rs) k q = absurd (omega arith)
place-take (suc h) p [] k q = refl
place-take (suc h) p (r ∷ rs) k q = step (same_levels r.levels k) q (λ x. place-take h (p + 1) rs k x)
  where
    step : (t : Bool) → cond t p (place_from (p + 1) (levels_of (take h rs)) k) < none
        → (place_from (p + 1) (levels_of (take h rs)) k < none → place_from (p + 1) (levels_of rs) k ≡ place_from (p + 1) (levels_of (take h rs)) k)
        → cond t p (place_from (p + 1) (levels_of rs) k) ≡ cond t p (place_from (p + 1) (levels_of (take h rs)) k)
    step true x ih = refl
    step false x ih = ih x

module _ (h : ℕ) (rs : List IndexRecord) (k : List ℕ) (found : place_in (take h rs) k < none) where
  place_same : place_in rs k ≡ place_in (take h rs) k
  unfolding place_of
  place_same = place-take h 0 rs k found

  record_same : record_at rs (place_in rs k) ≡ record_at (take h rs) (place_in (take h rs) k)
  record_same = ap (record_at rs) place_same ∙ sym (get_or-take h rs (place_in (take h rs) k) blank inside)
    where
      inside : place_in (take h rs) k < h
      inside = omega (arith, place_inside (take h rs) k found, length-take h rs)

  fetched_same : (s : List ℤ) (n : ℕ) → stored_reading rs s k n ≡ stored_reading (take h rs) s k n
  unfolding stored_reading
  fetched_same s n = ap (λ (r : IndexRecord). get_or s (r.first + n) (pos 0)) record_same

-- an index that is ready among the held is ready among all records
module _ {d : ℕ} (h : ℕ) (rs : List IndexRecord) {s : List ℤ} {k : List ℕ} (ready : Ready d (take h rs) s k) where
  some : (l : List ℕ) → NowhereHigher l k → place_in (take h rs) l < none
  some l w = below_none (ready.found l w)

  pub held_agree : Agree k (stored_reading rs s) (stored_reading (take h rs) s)
  held_agree l n w q = fetched_same h rs l (some l w) s n

  pub held_ready : Ready d rs s k
  held_ready =
      record {
        axes = ready.axes;
        eight = ready.eight;
        ceilings = ready.ceilings;
        beyond = ready.beyond;
        root_place = place_same h rs root (subst (λ p. p < none) (sym ready.root_place) (below_none (omega arith))) ∙ ready.root_place;
        found = λ l w. subst (λ p. p < 512) (sym (place_same h rs l (some l w))) (ready.found l w);
        delivered = λ l w. subst (λ (r : IndexRecord). 1 ≤ r.state) (sym (record_same h rs l (some l w))) (ready.delivered l w);
        room = λ l w. subst (λ (r : IndexRecord). r.first + block_size l ≤ length s) (sym (record_same h rs l (some l w))) (ready.room l w);
        range = λ l n w q. subst IsReading (sym (held_agree l n w q)) (ready.range l n w q);
        ahead = λ l a b w f. ap (λ (r : IndexRecord). get_or r.links a none) (record_same h rs l (some l w)) ∙ ready.ahead l a b w f ∙ sym (place_same h rs (forward l a) (some (forward l a) f));
      }

-- ---- records and entries

module _ (g : Settings) (s : List ℤ) where
  abbrev entries : List IndexRecord → List Entry
  entries rs = map (entry_of g s) rs

  -- an index that is found, and the readings of the first entry that has it
  record Read (rs : List IndexRecord) (k : List ℕ) (p place : ℕ) : Type 0 where
    at : ℕ
    is : place ≡ p + at
    readings : readings_of (entries rs) k ≡ (entry_of g s (record_at rs at)).readings

  read_at : (p : ℕ) (rs : List IndexRecord) (k : List ℕ) → place_from p (levels_of rs) k < none → Read rs k p (place_from p (levels_of rs) k)
  unfolding place_from levels_of readings_of entry_of
  read_at p [] k h = absurd (omega arith)
  read_at p (r ∷ rs) k h = step (same_levels r.levels k) refl h (λ q. read_at (p + 1) rs k q)
    where
      step : (t : Bool) → same_levels r.levels k ≡ t → cond t p (place_from (p + 1) (levels_of rs) k) < none
          → (place_from (p + 1) (levels_of rs) k < none → Read rs k (p + 1) (place_from (p + 1) (levels_of rs) k))
          → Read (r ∷ rs) k p (cond t p (place_from (p + 1) (levels_of rs) k))
      step true e q ih = record { at = 0; is = omega arith; readings = rw e refl }
      step false e q ih =
          let f = ih q in
          record { at = suc f.at; is = omega (arith, f.is); readings = rw e f.readings }

  readings_are : (rs : List IndexRecord) (k : List ℕ) → place_in rs k < none → readings_of (entries rs) k ≡ (entry_of g s (record_at rs (place_in rs k))).readings
  unfolding place_of
  readings_are rs k h =
      let f = read_at 0 rs k h in
      f.readings ∙ ap (λ p. (entry_of g s (record_at rs p)).readings) (sym (f.is ∙ NatL.zero-add f.at))

  -- a delivered index's readings, by number
  entry_reading : (r : IndexRecord) (n : ℕ) → 1 ≤ r.state → n < block_size r.levels → get_or (entry_of g s r).readings n (pos 0) ≡ get_or s (r.first + n) (pos 0)
  unfolding entry_of
  entry_reading r n d h =
      rw (le-leb 1 r.state d) (get_or-take (reading_count g r.levels) (drop r.first s) n (pos 0) (rw (reading_facts.single g r.levels) h) ∙ get_or-drop r.first s n (pos 0))

  pub delivered_same : (rs : List IndexRecord) → delivered_in rs ≡ delivered_of (entries rs)
  unfolding delivered_in delivered_of entry_of
  delivered_same [] = refl
  delivered_same (r ∷ rs) = ap (λ ls. cond (leb 1 r.state) (r.levels ∷ ls) ls) (delivered_same rs)

-- the readings of an index that is ready, and those of the entries
module _ (g : Settings) {d : ℕ} {rs : List IndexRecord} {s : List ℤ} {k : List ℕ} (ready : Ready d rs s k) where
  pub entries_agree : Agree k (stored_reading rs s) (reading_in (map (entry_of g s) rs))
  unfolding stored_reading reading_in
  entries_agree l n w q =
      let found = below_none (ready.found l w) in
      sym
      (ap (λ x. get_or x n (pos 0)) (readings_are g s rs l found)
      ∙ entry_reading g s (record_at rs (place_in rs l)) n (ready.delivered l w) (subst (λ m. n < block_size m) (sym (place_levels rs l found)) q))
