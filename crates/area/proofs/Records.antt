-- Cells and the records that they hold: each field of a record in its cell, one record written, and cells from records back.
-- The idea: a record at place p is read from the cells past 27·p; 27 words written there replace that record and no other.
-- Assumes nothing.
use mathlib.Core.Path.{◌≡◌, refl, ap, sym, ◌∙◌}
use mathlib.Core.List.{List, ◌∷◌, ◌++◌, append_assoc}
use Prim.Native.Nat.{ℕ, zero, suc, ◌+◌, ◌≤◌, ◌<◌, ◌-◌, ◌*◌, ◌/◌, ◌^◌}
use native.Mathlib.Nat.{add_assoc}
use native.Mathlib.Omega.{arith}
use Rattle.std.proofs.lemmas.List.{get_or_default}
use lib.ListN.{length, get_or, take, drop, set, length-take, length-drop, length-append, take-append-drop, get_or-append}
use lib.Seq.{take_all, drop-append-add, drop-cons, length-take-le, get_or-drop, get_or-take, sets, sets-eq, length-sets, take-add, drop-drop, take_at, drop_at, take-append-le, drop-append-le, get_or-append-add}
use Rattle.area.specs.Encoding.{none}
use Rattle.area.specs.declared.IndexRecord.{IndexRecord}
use Rattle.area.specs.Records.{record_of, records, records_of, record_cells, cells_for, cells_of, blank, run_of, stored}
use Rattle.sums.proofs.Lists.{sets-append}
use Rattle.area.proofs.Slices.{sets_past, drop-sets}

-- ---- records from cells

pub length-records : (n : ℕ) (c : List ℕ) → length (records n c) ≡ n
unfolding records
length-records zero c = refl
length-records (suc n) c = ap suc (length-records n (drop 27 c))

pub length-records_of : (c : List ℕ) → length (records_of c) ≡ length c / 27
unfolding records_of
length-records_of c = length-records (length c / 27) c

get_d_records : (n : ℕ) (c : List ℕ) (p : ℕ) (d : IndexRecord) → p < n → get_or (records n c) p d ≡ record_of (drop (p * 27) c)
unfolding records
get_d_records zero c p d h = absurd (omega arith)
get_d_records (suc n) c zero d h = refl
get_d_records (suc n) c (suc p) d h =
    let e : suc p * 27 ≡ 27 + p * 27 = omega arith in
    rw (e, ← drop-drop (p * 27) 27 c) (get_d_records n (drop 27 c) p d (omega arith))

pub record_at_lem : (c : List ℕ) (p : ℕ) → p * 27 + 27 ≤ length c → get_or (records_of c) p blank ≡ record_of (drop (p * 27) c)
unfolding records_of
record_at_lem c p h = get_d_records (length c / 27) c p blank (omega arith)

-- ---- the fields in their cells

module _ (c : List ℕ) (p : ℕ) (h : p * 27 + 27 ≤ length c) where
  pub levels_in : take 8 (drop (p * 27) c) ≡ (get_or (records_of c) p blank).levels
  unfolding record_of
  levels_in = rw (record_at_lem c p h)

  pub level_in : (a : ℕ) → a < 8 → get_or c (p * 27 + a) 0 ≡ get_or (get_or (records_of c) p blank).levels a 0
  unfolding record_of
  level_in a b = rw (record_at_lem c p h) (sym (get_or-take 8 (drop (p * 27) c) a 0 b ∙ get_or-drop (p * 27) c a 0))

  pub state_in : get_or c (p * 27 + 8) 0 ≡ (get_or (records_of c) p blank).state
  unfolding record_of
  state_in = rw (record_at_lem c p h) (sym (get_or-drop (p * 27) c 8 0))

  pub indicator_in : get_or c (p * 27 + 9) 0 ≡ (get_or (records_of c) p blank).indicator
  unfolding record_of
  indicator_in = rw (record_at_lem c p h) (sym (get_or-drop (p * 27) c 9 0))

  pub first_in : get_or c (p * 27 + 10) 0 ≡ (get_or (records_of c) p blank).first
  unfolding record_of
  first_in = rw (record_at_lem c p h) (sym (get_or-drop (p * 27) c 10 0))

  pub links_in : take 16 (drop (p * 27 + 11) c) ≡ (get_or (records_of c) p blank).links
  unfolding record_of
  links_in = rw (record_at_lem c p h, drop-drop 11 (p * 27) c)

  -- a record put together from its parts
  pub load_is : record {
    levels = (get_or (records_of c) p blank).levels;
    state = get_or c (p * 27 + 8) 0;
    indicator = get_or c (p * 27 + 9) 0;
    first = get_or c (p * 27 + 10) 0;
    links = take 16 (drop (p * 27 + 11) c);
  } ≡ get_or (records_of c) p blank
  load_is = rw (state_in, indicator_in, first_in, links_in)

  -- every record has eight levels and sixteen links
  pub eight_levels : length (get_or (records_of c) p blank).levels ≡ 8
  eight_levels = ap length (sym levels_in) ∙ length-take-le 8 (drop (p * 27) c) (rw (length-drop (p * 27) c) (omega arith))

  pub sixteen_links : length (get_or (records_of c) p blank).links ≡ 16
  sixteen_links = ap length (sym links_in) ∙ length-take-le 16 (drop (p * 27 + 11) c) (rw (length-drop (p * 27 + 11) c) (omega arith))

  -- a link that is there, whatever one would stand for a missing one
  link_zero : (i : ℕ) → i < 16 → get_or c (p * 27 + 11 + i) 0 ≡ get_or (get_or (records_of c) p blank).links i 0
  unfolding record_of
  link_zero i b =
      rw (record_at_lem c p h)
      (sym (get_or-take 16 (drop 11 (drop (p * 27) c)) i 0 b ∙ get_or-drop 11 (drop (p * 27) c) i 0 ∙ get_or-drop (p * 27) c (11 + i) 0 ∙ ap (λ n. get_or c n 0) (sym (add_assoc (p * 27) 11 i))))

  pub link_in : (i : ℕ) → i < 16 → get_or c (p * 27 + 11 + i) 0 ≡ get_or (get_or (records_of c) p blank).links i none
  link_in i b = link_zero i b ∙ get_or_default (get_or (records_of c) p blank).links i 0 none (omega (arith, sixteen_links, b))

-- cells are 32-bit numbers in the code, and so are then the indicators of the first n records
pub indicators_small : (c : List ℕ) (n : ℕ) → ((i : ℕ) → get_or c i 0 < 2 ^ 32) → (p : ℕ) → p < length (take n (records_of c))
    → (get_or (take n (records_of c)) p blank).indicator < 2 ^ 32
indicators_small c n words p h =
    let l = length-take n (records_of c) in
    let here : p * 27 + 27 ≤ length c = omega (arith, l, h, length-records_of c) in
    omega (arith, words (p * 27 + 9), indicator_in c p here, ap (λ (r : IndexRecord). r.indicator) (get_or-take n (records_of c) p blank (omega (arith, l, h))))

-- ---- one record written

-- a record is read from its 27 words
pub record_front : (xs t : List ℕ) → 27 ≤ length xs → record_of (xs ++ t) ≡ record_of xs
unfolding record_of
record_front xs t h =
    let h8 : 8 ≤ length xs = omega arith in
    let h11 : 11 ≤ length xs = omega arith in
    let h16 : 16 ≤ length (drop 11 xs) = simp length-drop (omega arith) in
    rw (take-append-le 8 xs t h8, get_or-append xs t 0 8 (omega arith), get_or-append xs t 0 9 (omega arith), get_or-append xs t 0 10 (omega arith), drop-append-le 11 xs t h11, take-append-le 16 (drop 11 xs) t h16)

-- the first records are those of the first cells
records-front : (n m : ℕ) (c : List ℕ) → n ≤ m → n * 27 ≤ length c → records n (take (n * 27) c) ≡ take n (records m c)
unfolding records
records-front zero m c h hc = refl
records-front (suc n) zero c h hc = absurd (omega arith)
records-front (suc n) (suc m) c h hc =
    let e : suc n * 27 ≡ 27 + n * 27 = omega arith in
    let hl : length (take 27 c) ≡ 27 = length-take-le 27 c (omega arith) in
    let hd : length (drop 27 c) ≡ length c - 27 = length-drop 27 c in
    let x : List ℕ = take (n * 27) (drop 27 c) in
    let f : record_of (take 27 c) ≡ record_of c = rw (take-append-drop 27 c) at (sym (record_front (take 27 c) (drop 27 c) (omega arith))) in
    rw (e, take-add 27 (n * 27) c, record_front (take 27 c) x (omega arith), drop_at (take 27 c) x 27 hl, f, records-front n m (drop 27 c) (omega arith) (omega arith))

pub records-take : (n : ℕ) (c : List ℕ) → n * 27 ≤ length c → records_of (take (n * 27) c) ≡ take n (records_of c)
unfolding records_of
records-take n c h =
    let e : length (take (n * 27) c) / 27 ≡ n = omega (arith, length-take-le (n * 27) c h) in
    rw e (records-front n (length c / 27) c (omega arith) h)

records-sets : (n : ℕ) (c : List ℕ) (p : ℕ) (ws : List ℕ) → p < n → n * 27 ≤ length c → length ws ≡ 27
    → records n (sets c (p * 27) ws) ≡ set (records n c) p (record_of ws)
unfolding records
records-sets zero c p ws h hc hw = absurd (omega arith)
records-sets (suc n) c zero ws h hc hw =
    rw (sets-eq ws c 0 (omega arith), hw, record_front ws (drop 27 c) (omega arith), drop_at ws (drop 27 c) 27 hw)
records-sets (suc n) c (suc p) ws h hc hw =
    let e : suc p * 27 ≡ 27 + p * 27 = omega arith in
    let hl : length (take 27 c) ≡ 27 = length-take-le 27 c (omega arith) in
    let hd : length (drop 27 c) ≡ length c - 27 = length-drop 27 c in
    let x : List ℕ = sets (drop 27 c) (p * 27) ws in
    let f : record_of (take 27 c) ≡ record_of c = rw (take-append-drop 27 c) at (sym (record_front (take 27 c) (drop 27 c) (omega arith))) in
    rw (e, sets_past 27 c (p * 27) ws (omega arith), record_front (take 27 c) x (omega arith), drop_at (take 27 c) x 27 hl, f, records-sets n (drop 27 c) p ws (omega arith) (omega arith) hw)

-- 27 words written at a record's place
run_stored : (c : List ℕ) (p : ℕ) (ws : List ℕ) → p * 27 + 27 ≤ length c → length ws ≡ 27
    → run_of (sets c (p * 27) ws) ≡ stored (run_of c) p (record_of ws)
unfolding records_of
run_stored c p ws h hw =
    let k : p < length c / 27 = omega arith in
    rw (length-sets c (p * 27) ws, records-sets (length c / 27) c p ws k (omega arith) hw, drop-sets (length c / 27 * 27) c (p * 27) ws (omega arith))

pub record_words : (r : IndexRecord) → length r.levels ≡ 8 → length r.links ≡ 16 → record_of (record_cells r) ≡ r
unfolding record_of record_cells
record_words r hl hk =
    let t : List ℕ = r.state ∷ r.indicator ∷ r.first ∷ r.links in
    let a8 : get_or (r.levels ++ t) 8 0 ≡ r.state = rw hl at (get_or-append-add r.levels t 0 0) in
    let a9 : get_or (r.levels ++ t) 9 0 ≡ r.indicator = rw hl at (get_or-append-add r.levels t 1 0) in
    let a10 : get_or (r.levels ++ t) 10 0 ≡ r.first = rw hl at (get_or-append-add r.levels t 2 0) in
    let k : drop 11 (r.levels ++ t) ≡ r.links = rw hl at (drop-append-add r.levels t 3) in
    rw (take_at r.levels t 8 hl, a8, a9, a10, k, take_all 16 r.links (omega arith))

-- a record written piece by piece
pub run_pieces : (c : List ℕ) (p : ℕ) (r : IndexRecord) → p * 27 + 27 ≤ length c → length r.levels ≡ 8 → length r.links ≡ 16
    → run_of (sets (set (set (set (sets c (p * 27) r.levels) (p * 27 + 8) r.state) (p * 27 + 9) r.indicator) (p * 27 + 10) r.first) (p * 27 + 11) r.links)
    ≡ stored (run_of c) p r
unfolding record_cells
run_pieces c p r h hl hk =
    let b = p * 27 in
    let t : List ℕ = r.state ∷ r.indicator ∷ r.first ∷ r.links in
    let hw : length (record_cells r) ≡ 27 = rw (length-append r.levels t, hl, hk) in
    let e : sets c b (record_cells r) ≡ sets (sets c b r.levels) (b + 8) t = rw hl at (sets-append c b r.levels t) in
    let e9 : suc (b + 8) ≡ b + 9 = omega arith in
    let e10 : suc (b + 9) ≡ b + 10 = omega arith in
    let e11 : suc (b + 10) ≡ b + 11 = omega arith in
    let f : sets (sets c b r.levels) (b + 8) t ≡ sets (set (set (set (sets c b r.levels) (b + 8) r.state) (b + 9) r.indicator) (b + 10) r.first) (b + 11) r.links = rw (e9, e10, e11) in
    rw (← f, ← e, run_stored c p (record_cells r) h hw, record_words r hl hk)

-- ---- cells from records back

words_back : (c : List ℕ) → 27 ≤ length c → record_cells (record_of c) ≡ take 27 c
unfolding record_cells record_of
words_back c h =
    rw (take-add 8 19 c, drop-cons c 8 0 (omega arith), drop-cons c 9 0 (omega arith), drop-cons c 10 0 (omega arith))

cells_back : (n : ℕ) (c : List ℕ) → n * 27 ≤ length c → cells_for (records n c) ++ drop (n * 27) c ≡ c
unfolding cells_for records
cells_back zero c h = refl
cells_back (suc n) c h =
    let e : suc n * 27 ≡ 27 + n * 27 = omega arith in
    let hd : length (drop 27 c) ≡ length c - 27 = length-drop 27 c in
    append_assoc (record_cells (record_of c)) (cells_for (records n (drop 27 c))) (drop (suc n * 27) c)
    ∙ rw (e, ← drop-drop (n * 27) 27 c, cells_back n (drop 27 c) (omega arith), words_back c (omega arith)) (take-append-drop 27 c)

pub whole : (c : List ℕ) → cells_of (run_of c) ≡ c
unfolding records_of cells_of
whole c = cells_back (length c / 27) c (omega arith)

-- the records and the rest determine the cells
pub run_determines : (c d : List ℕ) → run_of c ≡ run_of d → c ≡ d
run_determines c d e = sym (whole c) ∙ ap cells_of e ∙ whole d
