-- The words of a run of records: a search by words finds what the search by levels does, and one record more has one word more.
-- The idea: at every place the two searches ask the same, since equal words have equal levels (`pack-facts`).
-- Assumes nothing.
use mathlib.Core.Path.{◌≡◌, refl, sym, ap, ap₂, ◌∙◌, subst}
use mathlib.Core.Logic.{◌≢◌, ⊎_elim}
use mathlib.Core.Bool.{Bool, true, cond, ◌&&◌}
use mathlib.Core.List.{List, [], ◌∷◌, ◌++◌, map-append}
use Prim.Native.Nat.{ℕ, zero, suc, ◌+◌, ◌*◌, ◌<◌, ◌≤◌}
use native.Mathlib.Decide.{dec_lt}
use native.Mathlib.Numerals.{add-one}
use native.Mathlib.Omega.{arith}
use borrow.Author.Tests.{eq-eqb, ne_eqb}
use lib.Dec.{eqb}
use lib.ListN.{length, get_or, set, take, drop, length-map, length-append, length-set, drop_of_length-le, get_or-map, get_or-append}
use lib.Seq.{drop-cons, get_or-take, get_or_at, get_or-set_same, get_or-set_other, length-take-le, take-suc}
use Rattle.grid.specs.Coefficient.{same_levels}
use Rattle.grid.proofs.Members.{same_or, same_refl}
use Rattle.area.specs.declared.IndexRecord.{IndexRecord}
use Rattle.std.specs.Prelude.{Option, Some, None, option_map}
use Rattle.area.specs.Records.{records_of, blank, held_in, levels_of}
use Rattle.area.specs.Lookup.{lookup_from, lookup_in}
use Rattle.area.specs.Packed.{packed, FitsByte, fits_byte, all_fit_byte, words_with, PackedRun, PackedWords, word_from}
use Rattle.area.proofs.Records.{length-records_of, eight_levels}
use Rattle.area.proofs.Packs.{pack_facts}

-- ---- the search

pub same_words : (k l : List ℕ) → length k ≡ length l → FitsByte k → FitsByte l → same_levels k l ≡ eqb (packed k) (packed l)
same_words k l h f g =
    ⊎_elim
    (λ e. subst (λ x. same_levels k x ≡ true) e (same_refl k) ∙ sym (eq-eqb (packed k) (packed l) (ap packed e)))
    (λ n. n.1 ∙ sym (ne_eqb (packed k) (packed l) (λ e. n.0 ((pack_facts.exactly k l h f g).0 e))))
    (same_or k l)

found_words : (p : ℕ) (ws : List ℕ) (rs : List IndexRecord) (k : List ℕ) → length rs ≤ length ws → FitsByte k
    → ((q : ℕ) → q < length rs → (length (get_or rs q blank).levels ≡ length k) × FitsByte (get_or rs q blank).levels × (get_or ws q 0 ≡ packed (get_or rs q blank).levels))
    → lookup_from p rs k ≡ word_from p (take (length rs) ws) (packed k)
unfolding lookup_from word_from
found_words p [] [] k h f u = refl
found_words p (v ∷ ws) [] k h f u = refl
found_words p [] (r ∷ rs) k h f u = absurd (omega (arith, h))
found_words p (v ∷ ws) (r ∷ rs) k h f u =
    let t = u 0 (omega arith) in
    ap₂ (λ (t : Bool) (x : Option ℕ). cond t (Some p) x)
    (same_words r.levels k t.0 t.1 f ∙ ap (λ n. eqb n (packed k)) (sym t.2))
    (found_words (p + 1) ws rs k (omega (arith, h)) f (λ q l. u (suc q) (omega (arith, l))))

module _ (c : List ℕ) (n : ℕ) (room : n * 27 ≤ length c) where
  pub held_count : length (held_in c n) ≡ n
  unfolding held_in
  held_count = length-take-le n (records_of c) (omega (arith, length-records_of c, room))

  pub held_there : (p : ℕ) → p < n → get_or (held_in c n) p blank ≡ get_or (records_of c) p blank
  unfolding held_in
  held_there p h = get_or-take n (records_of c) p blank h

pub found_packed : (ws : List ℕ) (rs : List IndexRecord) (k : List ℕ) → length k ≡ 8 → ((p : ℕ) → p < length rs → length (get_or rs p blank).levels ≡ 8) → PackedRun ws rs → FitsByte k
    → lookup_in rs k ≡ word_from 0 (take (length rs) ws) (packed k)
unfolding lookup_in
found_packed ws rs k e eight u f = found_words 0 ws rs k (omega (arith, u.room, u.few)) f (λ q l. (eight q l ∙ sym e, u.fit q l, u.word q l))

-- the same over the first n records of cells: each has eight levels, and the words searched are the first n
pub found_packed_in_cells : (c : List ℕ) (n : ℕ) → n * 27 ≤ length c → (ws k : List ℕ) → length k ≡ 8 → PackedRun ws (held_in c n) → FitsByte k
    → lookup_in (held_in c n) k ≡ word_from 0 (take n ws) (packed k)
found_packed_in_cells c n room ws k e u f =
    found_packed ws (held_in c n) k e
    (λ p h. ap (λ (r : IndexRecord). length r.levels) (held_there c n room p (omega (arith, h, held_count c n room))) ∙ eight_levels c p (omega (arith, h, held_count c n room, room)))
    u f
    ∙ ap (λ m. word_from 0 (take m ws) (packed k)) (held_count c n room)

-- the words left to search from a place on
module _ (ws : List ℕ) (p w : ℕ) where
  pub word_head : p < length ws → word_from p (drop p ws) w ≡ cond (eqb (get_or ws p 0) w) (Some p) (word_from (p + 1) (drop (p + 1) ws) w)
  unfolding word_from
  word_head h = rw (drop-cons ws p 0 h, add-one p)

  pub word_end : length ws ≤ p → word_from p (drop p ws) w ≡ None
  unfolding word_from
  word_end h = rw (drop_of_length-le ws h)

-- ---- one record more

levels_there : (rs : List IndexRecord) (p : ℕ) → get_or (levels_of rs) p [] ≡ (get_or rs p blank).levels
unfolding levels_of blank
levels_there rs p = get_or-map (λ (r : IndexRecord). r.levels) rs p blank

levels_length : (rs : List IndexRecord) → length (levels_of rs) ≡ length rs
unfolding levels_of
levels_length rs = length-map rs (λ (r : IndexRecord). r.levels)

-- only the levels matter
pub packed_alike : (ws : List ℕ) (rs qs : List IndexRecord) → levels_of rs ≡ levels_of qs → PackedRun ws rs → PackedRun ws qs
packed_alike ws rs qs e u =
    record {
      few = omega (arith, count, u.few);
      room = u.room;
      fit = λ p h. subst FitsByte (same p) (u.fit p (omega (arith, h, count)));
      word = λ p h. u.word p (omega (arith, h, count)) ∙ ap packed (same p);
    }
  where
    count : length rs ≡ length qs
    count = sym (levels_length rs) ∙ ap length e ∙ levels_length qs

    same : (p : ℕ) → (get_or rs p blank).levels ≡ (get_or qs p blank).levels
    same p = sym (levels_there rs p) ∙ ap (λ ls. get_or ls p []) e ∙ levels_there qs p

pub levels_take : (n : ℕ) (rs : List IndexRecord) → levels_of (take n rs) ≡ take n (levels_of rs)
unfolding levels_of
levels_take zero [] = refl
levels_take zero (r ∷ rs) = refl
levels_take (suc n) [] = refl
levels_take (suc n) (r ∷ rs) = ap (λ (ls : List (List ℕ)). r.levels ∷ ls) (levels_take n rs)

pub packed_kept : (ws c d : List ℕ) (n : ℕ) → levels_of (records_of c) ≡ levels_of (records_of d) → PackedRun ws (held_in c n) → PackedRun ws (held_in d n)
unfolding held_in
packed_kept ws c d n e u = packed_alike ws (held_in c n) (held_in d n) (levels_take n (records_of c) ∙ ap (take n) e ∙ sym (levels_take n (records_of d))) u

module _ (ws : List ℕ) (rs qs : List IndexRecord) (k : List ℕ) (e : levels_of qs ≡ levels_of rs ++ (k ∷ [])) where
  count : length qs ≡ length rs + 1
  count = sym (levels_length qs) ∙ ap length e ∙ length-append (levels_of rs) (k ∷ []) ∙ ap (λ n. n + 1) (levels_length rs)

  earlier : (p : ℕ) → p < length rs → (get_or qs p blank).levels ≡ (get_or rs p blank).levels
  earlier p h =
      sym (levels_there qs p) ∙ ap (λ ls. get_or ls p []) e ∙ get_or-append (levels_of rs) (k ∷ []) [] p (omega (arith, h, levels_length rs))
      ∙ levels_there rs p

  last : (p : ℕ) → length rs ≡ p → (get_or qs p blank).levels ≡ k
  last p h = sym (levels_there qs p) ∙ ap (λ ls. get_or ls p []) e ∙ get_or_at (levels_of rs) k [] [] p (levels_length rs ∙ h)

  packed_more : length rs < 512 → PackedRun ws rs → FitsByte k → PackedRun (set ws (length rs) (packed k)) qs
  packed_more few u f =
      record {
        few = omega (arith, count, few);
        room = length-set ws (length rs) (packed k) ∙ u.room;
        fit = λ p h. at_fit p h (dec_lt p (length rs));
        word = λ p h. at_word_lem p h (dec_lt p (length rs));
      }
    where
      at_fit : (p : ℕ) → p < length qs → Dec (p < length rs) → FitsByte (get_or qs p blank).levels
      at_fit p h (yes l) = subst FitsByte (sym (earlier p l)) (u.fit p l)
      at_fit p h (no l) = subst FitsByte (sym (last p (omega (arith, h, count)))) f

      at_word_lem : (p : ℕ) → p < length qs → Dec (p < length rs) → get_or (set ws (length rs) (packed k)) p 0 ≡ packed (get_or qs p blank).levels
      at_word_lem p h (yes l) =
          let other : p ≢ length rs = λ x. omega (arith, l, x) in
          get_or-set_other ws (length rs) p (packed k) 0 other ∙ u.word p l ∙ ap packed (sym (earlier p l))
      at_word_lem p h (no l) =
          let here : length rs ≡ p = omega (arith, h, count) in
          ap (λ n. get_or (set ws n (packed k)) p 0) here ∙ get_or-set_same ws p (packed k) 0 (omega (arith, here, few, u.room)) ∙ ap packed (sym (last p here))

  -- the same where the word is written by the test
  pub packed_next : (n : ℕ) → length rs ≡ n → n < 512 → PackedRun ws rs → FitsByte k → PackedRun (words_with ws n k) qs
  unfolding words_with
  packed_next n h few u f =
      rw ((pack_facts.tested k).1 f)
      (subst (λ m. PackedRun (set ws m (packed k)) qs) h (packed_more (omega (arith, h, few)) u f))

-- the words that are held, changed where there are any
pub packed_map : (w : Option (List ℕ)) (f : List ℕ → List ℕ) {rs qs : List IndexRecord} → ((ws : List ℕ) → PackedRun ws rs → PackedRun (f ws) qs)
    → PackedWords w rs → PackedWords (option_map f w) qs
packed_map None f g u = tt
packed_map (Some ws) f g u = g ws u

-- ---- the records in turn

module _ (rs : List IndexRecord) (p : ℕ) where
  pub fit_head : p < length rs → all_fit_byte (drop p rs) ≡ (fits_byte (get_or rs p blank).levels && all_fit_byte (drop (p + 1) rs))
  unfolding all_fit_byte
  fit_head h = rw (drop-cons rs p blank h, add-one p)

  pub fit_end : length rs ≤ p → all_fit_byte (drop p rs) ≡ true
  unfolding all_fit_byte
  fit_end h = rw (drop_of_length-le rs h)

-- no record, and one place more
pub packed_none : (ws : List ℕ) (rs : List IndexRecord) → length ws ≡ 512 → PackedRun ws (take 0 rs)
packed_none ws rs e = record { few = omega arith; room = e; fit = λ p h. absurd (omega (arith, h)); word = λ p h. absurd (omega (arith, h)) }

pub packed-place : (ws : List ℕ) (rs : List IndexRecord) (p : ℕ) → p < length rs → p < 512 → PackedRun ws (take p rs) → FitsByte (get_or rs p blank).levels
    → PackedRun (words_with ws p (get_or rs p blank).levels) (take (p + 1) rs)
unfolding levels_of
packed-place ws rs p room few u f =
    packed_next ws (take p rs) (take (p + 1) rs) (get_or rs p blank).levels next p (length-take-le p rs (omega (arith, room))) few u f
  where
    next : levels_of (take (p + 1) rs) ≡ levels_of (take p rs) ++ ((get_or rs p blank).levels ∷ [])
    next =
        ap (λ m. levels_of (take m rs)) (add-one p) ∙ ap levels_of (take-suc rs p blank room)
        ∙ map-append (λ (r : IndexRecord). r.levels) (take p rs) (get_or rs p blank ∷ [])
