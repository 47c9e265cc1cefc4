-- The cells of records, and the records of those cells again.
-- The idea: 27 cells in front of others are one record in front of theirs, and 27 cells dropped are one record dropped.
-- Assumes nothing.
use mathlib.Core.Path.{◌≡◌, refl, ap, sym, ◌∙◌}
use mathlib.Core.List.{List, [], ◌∷◌, ◌++◌, append_assoc, append-nil}
use Prim.Native.Nat.{ℕ, zero, suc, ◌+◌, ◌≤◌, ◌<◌, ◌-◌, ◌*◌, ◌/◌}
use native.Mathlib.Nat.{zero-add, suc-add}
use native.Mathlib.Omega.{arith}
use lib.ListN.{length, get_or, drop, length-drop, length-append}
use lib.Seq.{drop-drop, drop-append-add, drop_at}
use Rattle.area.specs.declared.IndexRecord.{IndexRecord}
use Rattle.area.specs.Records.{records, records_of, record_cells, cells_for, cells_of, Run, blank, run_of}
use Rattle.area.proofs.Records.{record_front, record_words}

-- records of eight levels and sixteen links
abbrev pub AllFormed : List IndexRecord → Type 0
AllFormed rs = (p : ℕ) → p < length rs → (length (get_or rs p blank).levels ≡ 8) × (length (get_or rs p blank).links ≡ 16)

later_formed : (r : IndexRecord) (rs : List IndexRecord) → AllFormed (r ∷ rs) → AllFormed rs
later_formed r rs f p h = f (suc p) (omega (arith, h))

module _ (r : IndexRecord) (hl : length r.levels ≡ 8) (hk : length r.links ≡ 16) where
  pub one-length : length (record_cells r) ≡ 27
  unfolding record_cells
  one-length = rw (length-append r.levels (r.state ∷ r.indicator ∷ r.first ∷ r.links), hl, hk)

pub cells-length : (rs : List IndexRecord) → AllFormed rs → length (cells_for rs) ≡ length rs * 27
unfolding cells_for
cells-length [] f = refl
cells-length (r ∷ rs) f =
    length-append (record_cells r) (cells_for rs)
    ∙ omega (arith, one-length r (f 0 (omega arith)).0 (f 0 (omega arith)).1, cells-length rs (later_formed r rs f))

-- as many records as stand in front
front-records : (rs : List IndexRecord) (n : ℕ) (c : List ℕ) → AllFormed rs → records (length rs + n) (cells_for rs ++ c) ≡ rs ++ records n c
unfolding cells_for records
front-records [] n c f = ap (λ m. records m c) (zero-add n)
front-records (r ∷ rs) n c f =
    let hl = (f 0 (omega arith)).0 in
    let hk = (f 0 (omega arith)).1 in
    let one : length (record_cells r) ≡ 27 = one-length r hl hk in
    let x : List ℕ = cells_for rs ++ c in
    let e : (record_cells r ++ cells_for rs) ++ c ≡ record_cells r ++ x = append_assoc (record_cells r) (cells_for rs) c in
    rw (suc-add (length rs) n, e, record_front (record_cells r) x (omega (arith, one)), record_words r hl hk, drop_at (record_cells r) x 27 one)
    (ap (λ (l : List IndexRecord). r ∷ l) (front-records rs n c (later_formed r rs f)))

module _ (rs : List IndexRecord) (c : List ℕ) (f : AllFormed rs) where
  count : length (cells_for rs ++ c) / 27 ≡ length rs + length c / 27
  count = omega (arith, length-append (cells_for rs) c, cells-length rs f)

  rest_place : length (cells_for rs ++ c) / 27 * 27 ≡ length (cells_for rs) + length c / 27 * 27
  rest_place = omega (arith, count, cells-length rs f)

  -- records in front of cells
  pub cells_run : run_of (cells_for rs ++ c) ≡ record { records = rs ++ records_of c; rest = (run_of c).rest }
  unfolding records_of
  cells_run i = record { records = (ap (λ n. records n (cells_for rs ++ c)) count ∙ front-records rs (length c / 27) c f) i; rest = (ap (λ n. drop n (cells_for rs ++ c)) rest_place ∙ drop-append-add (cells_for rs) c (length c / 27 * 27)) i }

-- records dropped
dropped_records : (n m : ℕ) (c : List ℕ) → records m (drop (n * 27) c) ≡ drop n (records (n + m) c)
unfolding records
dropped_records zero m c = ap (λ n. records n c) (sym (zero-add m))
dropped_records (suc n) m c =
    let e : suc n * 27 ≡ 27 + n * 27 = omega arith in
    rw (e, suc-add n m, ← drop-drop (n * 27) 27 c) (dropped_records n m (drop 27 c))

module _ (n : ℕ) (c : List ℕ) (h : n * 27 ≤ length c) where
  left : length (drop (n * 27) c) / 27 ≡ length c / 27 - n
  left = omega (arith, length-drop (n * 27) c, h)

  pub run_drop : run_of (drop (n * 27) c) ≡ record { records = drop n (records_of c); rest = (run_of c).rest }
  unfolding records_of
  run_drop i =
      record {
        records = (ap (λ m. records m (drop (n * 27) c)) left ∙ dropped_records n (length c / 27 - n) c ∙ ap (λ m. drop n (records m c)) (together)) i;
        rest = (drop-drop (length (drop (n * 27) c) / 27 * 27) (n * 27) c ∙ ap (λ m. drop m c) (place)) i;
      }
    where
      together : n + (length c / 27 - n) ≡ length c / 27
      together = omega (arith, h)

      place : n * 27 + length (drop (n * 27) c) / 27 * 27 ≡ length c / 27 * 27
      place = omega (arith, left, h)

-- ---- a run and its cells

no_records : (c : List ℕ) → length c < 27 → run_of c ≡ record { records = []; rest = c }
unfolding records_of records
no_records c h i = record { records = ap (λ n. records n c) none i; rest = ap (λ n. drop (n * 27) c) none i }
  where
    none : length c / 27 ≡ 0
    none = omega (arith, h)

pub forth : (u : Run) → AllFormed u.records → length u.rest < 27 → run_of (cells_of u) ≡ u
unfolding cells_of
forth u f h = cells_run u.records u.rest f ∙ ap (λ (v : Run). record { records = u.records ++ v.records; rest = v.rest }) (no_records u.rest h) ∙ end
  where
    end : record { records = u.records ++ []; rest = u.rest } ≡ u
    end i = record { records = append-nil u.records i; rest = u.rest }
