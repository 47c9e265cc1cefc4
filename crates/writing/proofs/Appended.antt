-- One index appended: its record, and its place named by those that it lies ahead of, are what the encoding makes of one more entry.
-- The idea: looked up among one more index, only that index has another place. Every entered index has its backward neighbours
-- entered, so nothing lies ahead of an index that is not; and it lies ahead of exactly those that its own backward links name.
-- Assumes nothing.
use mathlib.Core.Path.{◌≡◌, refl, sym, ap, ap₂, ◌∙◌, subst}
use mathlib.Core.Logic.{◌≢◌, ◌⊎◌, inl, inr, ⊎_elim}
use mathlib.Core.List.{List, [], ◌∷◌, ◌++◌, append_assoc}
use Prim.Native.Nat.{ℕ, ◌+◌, ◌<◌, ◌≤◌}
use native.Mathlib.Nat.{zero-add}
use native.Mathlib.Decide.{dec_lt}
use native.Mathlib.Omega.{arith}
use lib.ListN.{length, get_or, set, take, drop, length-map}
use lib.Seq.{ext_get_or, take_at, set_at}
use Rattle.grid.specs.Index.{level, Index, forward, backward}
use Rattle.grid.proofs.Members.{same_or}
use Rattle.grid.proofs.Neighbours.{forward_level, backward-level, backward_forward, forward_backward}
use Rattle.area.specs.declared.IndexRecord.{IndexRecord}
use Rattle.area.specs.declared.Settings.{Settings}
use Rattle.area.specs.Settings.{readings_for}
use Rattle.area.specs.Records.{blank, levels_of}
use Rattle.area.specs.Entry.{Entry, indices_of, reserved_by}
use Rattle.area.specs.Encoding.{none, place_of, links_of, encoded, encoded_from, records_for}
use Rattle.quadrature.specs.Readings.{record_at}
use Rattle.soundness.proofs.Levels.{at_least, axis_of}
use Rattle.soundness.proofs.Forth.{none_far}
use Rattle.encoding.specs.Entries.{entry_at, Has, Entered}
use Rattle.encoding.proofs.Places.{records-length}
use Rattle.encoding.proofs.Links.{forward_at, backward_at}
use Rattle.machine.specs.Log.{wanted}
use Rattle.writing.specs.Changes.{admitted_record, new_links, named_from, appended}
use Rattle.writing.proofs.Places.{place_absent, place-first, place_other, place_new}
use Rattle.writing.proofs.Links.{links_length, links_are, new_length, new_forward, new_above, new_none, new_bounded}
use Rattle.writing.proofs.Named.{named-length, named_levels, named_state, named_indicator, named-first, named_links_length, named_other, named_hit, named_rest}
use Rattle.writing.proofs.Entries.{encoded_levels, encoded-length, encoded_links, encoded-append, encoded_same, indices_append}

-- Entries whose backward neighbours are entered. This holds between two appends too, when not all admissible indices are entered yet.
pub record Based (d : ℕ) (es : List Entry) : Type 0 where
  pub index : (p : ℕ) → p < length es → Index d (entry_at es p).levels
  pub different : (p q : ℕ) → p < length es → q < length es → (entry_at es p).levels ≡ (entry_at es q).levels → p ≡ q
  pub behind : (p a : ℕ) → p < length es → a < d → 1 < level (entry_at es p).levels a → Entered es (backward (entry_at es p).levels a)

-- An index that may be appended to them.
pub record Next (d : ℕ) (es : List Entry) (x : List ℕ) : Type 0 where
  pub index : Index d x
  pub absent : Entered es x → ⊥
  pub behind : (a : ℕ) → a < d → 1 < level x a → Entered es (backward x a)

indices_length : (es : List Entry) → length (indices_of es) ≡ length es
unfolding indices_of
indices_length es = length-map es (λ (e : Entry). e.levels)

module _ (settings : Settings) (d : ℕ) (es : List Entry) (b : Based d es) where
  place_has : (k : List ℕ) (p : ℕ) → Has es k p → place_of (indices_of es) k ≡ p
  place_has k p h =
      place-first k es p h
      (λ r l e. let z : r ≡ p = b.different r p (omega (arith, h.place)) h.place (e ∙ sym h.same) in omega arith)

  -- an entered index has levels of at least 1, and its backward neighbours are entered
  entered_index : (k : List ℕ) → Entered es k → Index d k
  entered_index k t = subst (Index d) t.1.same (b.index t.0 t.1.place)

  entered-behind : (k : List ℕ) (a : ℕ) → a < 8 → Entered es k → 1 < level k a → Entered es (backward k a)
  entered-behind k a g t u =
      subst (λ y. Entered es (backward y a)) t.1.same
      (b.behind t.0 a t.1.place (axis_of d k (entered_index k t) a g u) (subst (λ y. 1 < level y a) (sym t.1.same) u))

  module _ (few : length es ≤ 512) (x : List ℕ) (m : Next d es x) where
    abbrev ls : List (List ℕ)
    ls = indices_of es

    abbrev more : List (List ℕ)
    more = ls ++ (x ∷ [])

    abbrev new : List ℕ
    new = new_links ls x

    in_x : (a : ℕ) → a < 8 → a < length x
    in_x a g = omega (arith, m.index.eight)

    -- ---- the links of the new index

    -- no forward neighbour is entered: x would be
    no_forward : (a : ℕ) → a < 8 → Entered es (forward x a) → ⊥
    no_forward a g t =
        m.absent
        (subst (Entered es) (backward_forward x a (in_x a g))
        (entered-behind (forward x a) a g t (omega (arith, forward_level x a (in_x a g), at_least d x m.index a g))))

    -- lowered at level 1 it is no index
    no_backward : (a : ℕ) → a < 8 → level x a ≤ 1 → Entered es (backward x a) → ⊥
    no_backward a g u t =
        omega (arith, backward-level x a (in_x a g), at_least d (backward x a) (entered_index (backward x a) t) a g)

    not_above : (a : ℕ) → a < 8 → x ≢ forward x a
    not_above a g e = omega (arith, forward_level x a (in_x a g), ap (λ k. level k a) e)

    not_below : (a : ℕ) → a < 8 → x ≢ backward x a
    not_below a g e = omega (arith, backward-level x a (in_x a g), ap (λ k. level k a) e, at_least d x m.index a g)

    new_links_lem : new ≡ links_of more x
    new_links_lem =
        links_are more x new (new_length ls x)
        (λ a g. new_forward ls x none a g ∙ sym (place_other (forward x a) ls x (not_above a g) ∙ place_absent (forward x a) es (no_forward a g)))
        (λ a g. step a g (dec_lt 1 (level x a)) ∙ sym (place_other (backward x a) ls x (not_below a g)))
      where
        step : (a : ℕ) → a < 8 → Dec (1 < level x a) → get_or new (8 + a) none ≡ place_of ls (backward x a)
        step a g (yes u) = new_above ls x none a g u
        step a g (no u) = new_none ls x none a g (omega arith) ∙ sym (place_absent (backward x a) es (no_backward a g (omega arith)))

    -- ---- the links of an entry

    abbrev rs : List IndexRecord
    rs = records_for settings es

    abbrev named : List IndexRecord
    named = named_from 8 0 new (length es) rs

    module _ (p : ℕ) (h : p < length es) where
      abbrev k : List ℕ
      k = (entry_at es p).levels

      in_k : (a : ℕ) → a < 8 → a < length k
      in_k a g = omega (arith, (b.index p h).eight)

      -- x is no backward neighbour of k
      not_behind : (a : ℕ) → a < 8 → x ≢ backward k a
      not_behind a g e = step (dec_lt 1 (level k a))
        where
          step : Dec (1 < level k a) → ⊥
          step (yes u) = m.absent (subst (Entered es) (sym e) (b.behind p a h (axis_of d k (b.index p h) a g u) u))
          step (no u) = omega (arith, backward-level k a (in_k a g), ap (λ y. level y a) e, at_least d x m.index a g)

      -- k's place is x's backward link along the axis along which x is k's forward neighbour
      ahead_hit : (a : ℕ) → a < 8 → x ≡ forward k a → get_or new (8 + a) 0 ≡ p
      ahead_hit a g e =
          new_above ls x 0 a g (omega (arith, forward_level k a (in_k a g), ap (λ y. level y a) e, at_least d k (b.index p h) a g))
          ∙ ap (place_of ls) (ap (λ y. backward y a) e ∙ backward_forward k a (in_k a g))
          ∙ place_has k p (record { place = h; same = refl })

      -- and along no other
      ahead_miss : (a : ℕ) → a < 8 → x ≢ forward k a → get_or new (8 + a) 0 ≢ p
      ahead_miss a g n q = step (dec_lt 1 (level x a))
        where
          step : Dec (1 < level x a) → ⊥
          step (yes u) =
              let t = m.behind a (axis_of d x m.index a g u) u in
              let at_p : t.0 ≡ p = sym (place_has (backward x a) t.0 t.1) ∙ sym (new_above ls x 0 a g u) ∙ q in
              let same : k ≡ backward x a = ap (λ r. (entry_at es r).levels) (sym at_p) ∙ t.1.same in
              n (sym (ap (λ y. forward y a) same ∙ forward_backward x a (in_x a g) u))
          step (no u) = omega (arith, none_far, sym (new_none ls x 0 a g (omega arith)) ∙ q)

      own_links : (record_at rs p).links ≡ links_of ls k
      unfolding records_for
      own_links = encoded_links settings ls 0 es p h

      named_links : (record_at named p).links ≡ links_of more k
      named_links =
          links_are more k (record_at named p).links (named_links_length new (length es) 8 0 rs p ∙ sixteen)
          (λ a g. ⊎_elim (ahead a g) (λ n. not_ahead a g n.0) (same_or x (forward k a)))
          (λ a g. named_other new (length es) 8 0 rs p (8 + a) (inr (inl (omega arith))) ∙ ap (λ l. get_or l (8 + a) none) own_links ∙ backward_at ls k a g
          ∙ sym (place_other (backward k a) ls x (not_behind a g)))
        where
          sixteen : length (record_at rs p).links ≡ 16
          sixteen = ap length own_links ∙ links_length ls k

          ahead : (a : ℕ) → a < 8 → x ≡ forward k a → get_or (record_at named p).links a none ≡ place_of more (forward k a)
          ahead a g e =
              named_hit new (length es) 8 0 rs p a (omega arith) (omega arith) (ahead_hit a g e) (λ z. omega (arith, none_far)) (omega (arith, records-length settings es))
              (omega (arith, sixteen))
              ∙ sym (ap (place_of more) (sym e) ∙ place_new x es m.absent)

          not_ahead : (a : ℕ) → a < 8 → x ≢ forward k a → get_or (record_at named p).links a none ≡ place_of more (forward k a)
          not_ahead a g n =
              named_other new (length es) 8 0 rs p a (inr (inr (ahead_miss a g n))) ∙ ap (λ l. get_or l a none) own_links ∙ forward_at ls k a g
              ∙ sym (place_other (forward k a) ls x n)

    -- ---- the records

    named-records : named ≡ encoded_from settings more 0 es
    named-records =
        ext_get_or blank named (encoded_from settings more 0 es) (named-length new (length es) 8 0 rs ∙ records-length settings es ∙ sym (encoded-length settings more 0 es))
        (λ p h. each p (omega (arith, named-length new (length es) 8 0 rs, records-length settings es)))
      where
        same : {A : Type 0} (h : IndexRecord → A) → ((f : ℕ) (e : Entry) → h (encoded ls f e) ≡ h (encoded more f e)) → (p : ℕ)
            → h (record_at rs p) ≡ h (record_at (encoded_from settings more 0 es) p)
        same h e p = unfold records_for in encoded_same settings ls more h e 0 es p

        each : (p : ℕ) → p < length es → record_at named p ≡ record_at (encoded_from settings more 0 es) p
        each p h = λ i. record {
          levels = (named_levels new (length es) 8 0 rs p ∙ same (λ (r : IndexRecord). r.levels) (λ f e. unfold encoded in refl) p) i;
          state = (named_state new (length es) 8 0 rs p ∙ same (λ (r : IndexRecord). r.state) (λ f e. unfold encoded in refl) p) i;
          indicator = (named_indicator new (length es) 8 0 rs p ∙ same (λ (r : IndexRecord). r.indicator) (λ f e. unfold encoded in refl) p) i;
          first = (named-first new (length es) 8 0 rs p ∙ same (λ (r : IndexRecord). r.first) (λ f e. unfold encoded in refl) p) i;
          links = (named_links p h ∙ sym (encoded_links settings more 0 es p h)) i;
        }

    new_record : encoded more (0 + readings_for settings (reserved_by es)) (wanted x) ≡ admitted_record new x (readings_for settings (reserved_by es))
    unfolding encoded wanted admitted_record
    new_record = λ i. record { levels = x; state = 0; indicator = 0; first = zero-add (readings_for settings (reserved_by es)) i; links = sym new_links_lem i }

    append-records : records_for settings (es ++ (wanted x ∷ [])) ≡ named ++ (admitted_record new x (readings_for settings (reserved_by es)) ∷ [])
    unfolding records_for
    append-records =
        ap (λ l. encoded_from settings l 0 (es ++ (wanted x ∷ []))) (indices_append es x)
        ∙ encoded-append settings more 0 es (wanted x)
        ∙ ap₂ (λ l r. l ++ (r ∷ [])) (sym named-records) new_record

    -- ---- the run of records, which goes on past those of the entries

    pub append_run : (rest : List IndexRecord) → 1 ≤ length rest
        → appended (rs ++ rest) (length es) (readings_for settings (reserved_by es)) x ≡ records_for settings (es ++ (wanted x ∷ [])) ++ drop 1 rest
    unfolding appended
    append_run rest h =
        ap (λ l. set (named_from 8 0 (new_links l x) (length es) (rs ++ rest)) (length es) (admitted_record (new_links l x) x (readings_for settings (reserved_by es)))) levels_are
        ∙ ap (λ l. set l (length es) record_new) (named_rest new (length es) 8 0 rs rest bounded)
        ∙ set_past rest h
        ∙ ap (λ l. l ++ drop 1 rest) (sym append-records)
      where
        record_new : IndexRecord
        record_new = admitted_record new x (readings_for settings (reserved_by es))

        levels_are : levels_of (take (length es) (rs ++ rest)) ≡ ls
        levels_are = ap levels_of (take_at rs rest (length es) (records-length settings es)) ∙ unfold records_for in encoded_levels settings ls 0 es

        bounded : (a : ℕ) → a < 0 + 8 → (get_or new (8 + a) 0 ≡ none) ⊎ (get_or new (8 + a) 0 < length rs)
        bounded a g = ⊎_elim inl (λ l. inr (omega (arith, records-length settings es, indices_length es))) (new_bounded ls x a (omega arith))

        set_past : (rest : List IndexRecord) → 1 ≤ length rest → set (named ++ rest) (length es) record_new ≡ (named ++ (record_new ∷ [])) ++ drop 1 rest
        set_past [] l = absurd (omega arith)
        set_past (r ∷ rest) l =
            set_at named r rest record_new (length es) (named-length new (length es) 8 0 rs ∙ records-length settings es) ∙ sym (append_assoc named (record_new ∷ []) rest)
