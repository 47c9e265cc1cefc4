-- Indices appended in turn: the forward neighbours of an index along several axes.
-- The idea: an appended index leaves the entries fit for the next append, and the others that may be appended still may, being different.
-- Assumes nothing.
use mathlib.Core.Path.{◌≡◌, refl, sym, ap, ap₂, ◌∙◌, subst}
use mathlib.Core.Logic.{◌≢◌, ◌⊎◌, inl, inr}
use mathlib.Core.List.{List, [], ◌∷◌, ◌++◌, append_assoc, append-nil}
use Prim.Native.Nat.{ℕ, suc, ◌+◌, ◌<◌, ◌≤◌}
use native.Mathlib.Decide.{dec_lt}
use native.Mathlib.Omega.{arith}
use lib.ListN.{length, drop, length-append, length-drop, get_or-append}
use lib.Seq.{drop-nil, get_or-append_seam}
use Rattle.grid.specs.Index.{level, Index, forward, backward}
use Rattle.grid.specs.Block.{block_size}
use Rattle.area.specs.declared.IndexRecord.{IndexRecord}
use Rattle.area.specs.declared.Settings.{Settings}
use Rattle.area.specs.Settings.{readings_for, reading_count}
use Rattle.area.proofs.Readings.{reading_facts}
use Rattle.area.specs.Entry.{Entry, reserved_by}
use Rattle.area.specs.Encoding.{records_for}
use Rattle.encoding.specs.Entries.{no_entry, entry_at, Entered}
use Rattle.machine.specs.Log.{wanted}
use Rattle.writing.specs.Changes.{appended_all, sizes_of}
use Rattle.writing.proofs.Entries.{ahead, reserved_ahead}
use Rattle.writing.proofs.Appended.{Based, Next, append_run}

-- ---- one more entry

module _ (es : List Entry) (x : List ℕ) where
  abbrev more : List Entry
  more = es ++ (wanted x ∷ [])

  more_length : length more ≡ length es + 1
  more_length = length-append es (wanted x ∷ [])

  levels_before : (q : ℕ) → q < length es → (entry_at more q).levels ≡ (entry_at es q).levels
  levels_before q h = ap (λ (e : Entry). e.levels) (get_or-append es (wanted x ∷ []) no_entry q h)

  levels_last : (q : ℕ) → length es ≤ q → q < length more → (entry_at more q).levels ≡ x
  unfolding wanted
  levels_last q l h =
      let e : q ≡ length es = omega (arith, more_length) in
      ap (λ p. (entry_at more p).levels) e ∙ ap (λ (y : Entry). y.levels) (get_or-append_seam es (wanted x) [] no_entry)

  entered_before : (k : List ℕ) → Entered es k → Entered more k
  entered_before k h = (h.0, record { place = omega (arith, more_length, h.1.place); same = levels_before h.0 h.1.place ∙ h.1.same })

  entered_or : (k : List ℕ) → Entered more k → Entered es k ⊎ (x ≡ k)
  entered_or k h = step (dec_lt h.0 (length es))
    where
      step : Dec (h.0 < length es) → Entered es k ⊎ (x ≡ k)
      step (yes l) = inl (h.0, record { place = l; same = sym (levels_before h.0 l) ∙ h.1.same })
      step (no l) = inr (sym (levels_last h.0 (omega arith) h.1.place) ∙ h.1.same)

  module _ (d : ℕ) (b : Based d es) (m : Next d es x) where
    -- an index of one more entry is one of the former, or x
    which : (q : ℕ) → q < length more → (P : List ℕ → Type 0) → (q < length es → P (entry_at es q).levels) → P x → P (entry_at more q).levels
    which q h P f y = step (dec_lt q (length es))
      where
        step : Dec (q < length es) → P (entry_at more q).levels
        step (yes l) = subst P (sym (levels_before q l)) (f l)
        step (no l) = subst P (sym (levels_last q (omega arith) h)) y

    based_more : Based d more
    based_more =
        record {
          index = λ q h. which q h (Index d) (λ l. b.index q l) m.index;
          different = λ p q hp hq e. different p q hp hq e (dec_lt p (length es)) (dec_lt q (length es));
          behind = λ q a h g.
              which q h (λ k. 1 < level k a → Entered more (backward k a))
              (λ l u. entered_before (backward (entry_at es q).levels a) (b.behind q a l g u)) (λ u. entered_before (backward x a) (m.behind a g u));
        }
      where
        different : (p q : ℕ) → p < length more → q < length more → (entry_at more p).levels ≡ (entry_at more q).levels → Dec (p < length es) → Dec (q < length es) → p ≡ q
        different p q hp hq e (yes l) (yes n) = b.different p q l n (sym (levels_before p l) ∙ e ∙ levels_before q n)
        different p q hp hq e (yes l) (no n) =
            absurd (m.absent (p, record { place = l; same = sym (levels_before p l) ∙ e ∙ levels_last q (omega arith) hq }))
        different p q hp hq e (no l) (yes n) =
            absurd (m.absent (q, record { place = n; same = sym (levels_before q n) ∙ sym e ∙ levels_last p (omega arith) hp }))
        different p q hp hq e (no l) (no n) = omega (arith, more_length)

  -- another index that may be appended still may
  pub next_more : (d : ℕ) (y : List ℕ) → x ≢ y → Next d es y → Next d more y
  next_more d y n m =
      record {
        index = m.index;
        absent = λ h. step (entered_or y h);
        behind = λ a g u. entered_before (backward y a) (m.behind a g u);
      }
    where
      step : Entered es y ⊎ (x ≡ y) → ⊥
      step (inl h) = m.absent h
      step (inr e) = n e

-- ---- all in turn

-- The forward neighbours along the axes may be appended one after the other.
abbrev pub Nexts : ℕ → List Entry → List ℕ → List ℕ → Type 0
Nexts d es k [] = Unit {0}
Nexts d es k (a ∷ axes) = Next d es (forward k a) × Nexts d (es ++ (wanted (forward k a) ∷ [])) k axes

drop-one : (n : ℕ) (rs : List IndexRecord) → drop n (drop 1 rs) ≡ drop (suc n) rs
drop-one n [] = drop-nil n
drop-one n (r ∷ rs) = refl

pub append_all : (settings : Settings) (d : ℕ) (k axes : List ℕ) (es : List Entry) → Based d es → Nexts d es k axes → (rest : List IndexRecord)
    → length es + length axes ≤ 512 → length axes ≤ length rest
    → appended_all settings (records_for settings es ++ rest) (length es) (readings_for settings (reserved_by es)) k axes
    ≡ records_for settings (es ++ ahead k axes) ++ drop (length axes) rest
unfolding appended_all
append_all settings d k [] es b m rest few room = ap (λ l. records_for settings l ++ rest) (sym (append-nil es))
append_all settings d k (a ∷ axes) es b m rest few room =
    ap (λ l. appended_all settings l (length es + 1) (readings_for settings (reserved_by es) + reading_count settings x) k axes)
    (append_run settings d es b (omega arith) x m.0 rest (omega arith))
    ∙ ap₂ (λ n f. appended_all settings (records_for settings next ++ drop 1 rest) n f k axes) (sym (more_length es x)) (sym further)
    ∙ append_all settings d k axes next (based_more es x d b m.0) m.1 (drop 1 rest) (omega (arith, more_length es x)) (omega (arith, length-drop 1 rest))
    ∙ ap₂ (λ l t. records_for settings l ++ t) (append_assoc es (wanted x ∷ []) (ahead k axes)) (drop-one (length axes) rest)
  where
    x : List ℕ
    x = forward k a

    next : List Entry
    next = es ++ (wanted x ∷ [])

    larger : reserved_by next ≡ reserved_by es + block_size x
    larger = reserved_ahead k es (a ∷ []) ∙ unfold sizes_of in omega arith

    further : readings_for settings (reserved_by next) ≡ readings_for settings (reserved_by es) + reading_count settings x
    further =
        ap (readings_for settings) larger ∙ reading_facts.sum settings (reserved_by es) (block_size x)
        ∙ ap (λ n. readings_for settings (reserved_by es) + n) (sym (reading_facts.count settings x))
