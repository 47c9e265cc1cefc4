-- Entries and records by place: the entries read from records, and the records of entries.
-- The idea: what lies past the records reads as no entry, so records and the entries read from them agree at every place. Records are
-- those of the entries read from them exactly if their links are those of their levels and each first reading is the sum of the
-- readings of the blocks before it.
-- Assumes nothing.
use mathlib.Core.Path.{◌≡◌, refl, sym, ap, ◌∙◌}
use mathlib.Core.List.{List, [], ◌∷◌, map}
use Prim.Native.Nat.{ℕ, zero, suc, ◌+◌, ◌<◌}
use native.Mathlib.Nat.{zero-add}
use native.Mathlib.Omega.{arith}
use lib.IntN.{ℤ}
use lib.ListN.{length, get_or, length-map, get_or-map}
use lib.Seq.{ext_get_or}
use Rattle.sums.specs.Sums.{nat_sum_to}
use Rattle.sums.proofs.Sizes.{nat_sum_to_cong}
use Rattle.area.specs.declared.IndexRecord.{IndexRecord}
use Rattle.area.specs.declared.Settings.{Settings}
use Rattle.area.specs.Settings.{reading_count}
use Rattle.area.specs.Records.{blank, levels_of}
use Rattle.area.specs.Entry.{Entry, indices_of}
use Rattle.area.specs.Encoding.{entry_of, links_of, encoded, encoded_from, records_for}
use Rattle.quadrature.specs.Readings.{record_at}
use Rattle.soundness.specs.Held.{levels_at, state_at, Holds, HeldOld}
use Rattle.encoding.specs.Entries.{no_entry, entry_at, Has, EnteredOld}

-- ---- the entries read from records

module _ (g : Settings) (s : List ℤ) where
  past : entry_of g s blank ≡ no_entry
  unfolding entry_of blank no_entry
  past = refl

  module _ (rs : List IndexRecord) where
    abbrev es : List Entry
    es = map (entry_of g s) rs

    pub entry_at_lem : (p : ℕ) → entry_at es p ≡ entry_of g s (record_at rs p)
    entry_at_lem p = ap (get_or es p) (sym past) ∙ get_or-map (entry_of g s) rs p blank

    pub levels_at_lem : (p : ℕ) → (entry_at es p).levels ≡ levels_at rs p
    unfolding entry_of
    levels_at_lem p = ap (λ (e : Entry). e.levels) (entry_at_lem p)

    pub state_at_lem : (p : ℕ) → (entry_at es p).state ≡ state_at rs p
    unfolding entry_of
    state_at_lem p = ap (λ (e : Entry). e.state) (entry_at_lem p)

    pub indicator_at : (p : ℕ) → (entry_at es p).indicator ≡ (record_at rs p).indicator
    unfolding entry_of
    indicator_at p = ap (λ (e : Entry). e.indicator) (entry_at_lem p)

    pub entries_length : length es ≡ length rs
    entries_length = length-map rs (entry_of g s)

    -- a place has an index exactly if it holds it
    pub has : (k : List ℕ) (p : ℕ) → Holds rs k p → Has es k p
    has k p h = record { place = omega (arith, entries_length, h.place); same = levels_at_lem p ∙ h.same }

    pub holds : (k : List ℕ) (p : ℕ) → Has es k p → Holds rs k p
    holds k p h = record { place = omega (arith, entries_length, h.place); same = sym (levels_at_lem p) ∙ h.same }

    pub entered_old : (k : List ℕ) → HeldOld rs k → EnteredOld es k
    entered_old k h = (h.0, has k h.0 h.1, state_at_lem h.0 ∙ h.2)

    pub held_old : (k : List ℕ) → EnteredOld es k → HeldOld rs k
    held_old k h = (h.0, holds k h.0 h.1, sym (state_at_lem h.0) ∙ h.2)

  pub indices_levels : (rs : List IndexRecord) → indices_of (map (entry_of g s) rs) ≡ levels_of rs
  unfolding indices_of levels_of entry_of
  indices_levels [] = refl
  indices_levels (r ∷ rs) = ap (λ ls. r.levels ∷ ls) (indices_levels rs)

-- ---- the records of entries

sum_front : (n : ℕ) (f : ℕ → ℕ) → nat_sum_to (suc n) f ≡ f 0 + nat_sum_to n (λ i. f (suc i))
unfolding nat_sum_to
sum_front zero f = omega arith
sum_front (suc n) f = omega (arith, sum_front n f)

encoded-length : (g : Settings) (ls : List (List ℕ)) (f : ℕ) (es : List Entry) → length (encoded_from g ls f es) ≡ length es
unfolding encoded_from
encoded-length g ls f [] = refl
encoded-length g ls f (e ∷ es) = ap suc (encoded-length g ls (f + reading_count g e.levels) es)

pub records-length : (g : Settings) (es : List Entry) → length (records_for g es) ≡ length es
unfolding records_for
records-length g es = encoded-length g (indices_of es) 0 es

-- the readings before a place
abbrev before : Settings → List Entry → ℕ → ℕ
before g es p = nat_sum_to p (λ q. reading_count g (entry_at es q).levels)

encoded_at : (g : Settings) (ls : List (List ℕ)) (f : ℕ) (es : List Entry) (p : ℕ) → p < length es → record_at (encoded_from g ls f es) p ≡ encoded ls (f + before g es p) (entry_at es p)
unfolding encoded_from
encoded_at g ls f [] p h = absurd (omega arith)
encoded_at g ls f (e ∷ es) zero h = ap (λ n. encoded ls n e) (unfold nat_sum_to in omega arith)
encoded_at g ls f (e ∷ es) (suc p) h =
    encoded_at g ls (f + reading_count g e.levels) es p (omega arith)
    ∙ ap (λ n. encoded ls n (entry_at es p)) (omega (arith, sum_front p (λ q. reading_count g (entry_at (e ∷ es) q).levels)))

pub record_at_lem : (g : Settings) (es : List Entry) (p : ℕ) → p < length es → record_at (records_for g es) p ≡ encoded (indices_of es) (before g es p) (entry_at es p)
unfolding records_for
record_at_lem g es p h = encoded_at g (indices_of es) 0 es p h ∙ ap (λ n. encoded (indices_of es) n (entry_at es p)) (zero-add (before g es p))

-- ---- records that are those of the entries read from them

pub record Recorded (g : Settings) (rs : List IndexRecord) : Type 0 where
  pub links : (p : ℕ) → p < length rs → (record_at rs p).links ≡ links_of (levels_of rs) (levels_at rs p)
  pub first : (p : ℕ) → p < length rs → (record_at rs p).first ≡ nat_sum_to p (λ q. reading_count g (levels_at rs q))

module _ (g : Settings) (s : List ℤ) (rs : List IndexRecord) where
  abbrev read : List Entry
  read = map (entry_of g s) rs

  -- what the encoding makes of the entries, at a place
  encoded-read : (p : ℕ) → p < length rs
      → ◌≡◌ {A = IndexRecord} (record_at (records_for g read) p) (record {
        levels = levels_at rs p;
        state = state_at rs p;
        indicator = (record_at rs p).indicator;
        first = nat_sum_to p (λ q. reading_count g (levels_at rs q));
        links = links_of (levels_of rs) (levels_at rs p);
      })
  unfolding encoded
  encoded-read p h =
      record_at_lem g read p (omega (arith, entries_length g s rs))
      ∙ λ i. record {
        levels = levels_at_lem g s rs p i;
        state = state_at_lem g s rs p i;
        indicator = indicator_at g s rs p i;
        first = nat_sum_to_cong p {f = λ q. reading_count g (entry_at read q).levels} (λ q. ap (reading_count g) (levels_at_lem g s rs q)) i;
        links = links_of (indices_levels g s rs i) (levels_at_lem g s rs p i);
      }

  pub recorded_is : Recorded g rs → records_for g read ≡ rs
  recorded_is r =
      ext_get_or blank (records_for g read) rs (records-length g read ∙ entries_length g s rs)
      (λ p h. each p (omega (arith, records-length g read, entries_length g s rs)))
    where
      each : (p : ℕ) → p < length rs → record_at (records_for g read) p ≡ record_at rs p
      each p h =
          encoded-read p h
          ∙ λ i. record {
            levels = levels_at rs p;
            state = state_at rs p;
            indicator = (record_at rs p).indicator;
            first = sym (r.first p h) i;
            links = sym (r.links p h) i;
          }

  pub is_recorded : records_for g read ≡ rs → Recorded g rs
  is_recorded e =
      record {
        links = λ p h. ap (λ (x : IndexRecord). x.links) (sym (ap (λ x. record_at x p) e) ∙ encoded-read p h);
        first = λ p h. ap (λ (x : IndexRecord). x.first) (sym (ap (λ x. record_at x p) e) ∙ encoded-read p h);
      }
