-- What the encoding makes of changed entries: one entry replaced by another with the same index, and wanted entries appended.
-- The idea: links and first readings look at the indices only, so a replaced entry changes its own record's state and indicator; a wanted
-- entry has no readings and indicator 0.
-- Assumes nothing.
use mathlib.Core.Path.{◌≡◌, refl, sym, ap, ap₂, ◌∙◌}
use mathlib.Core.Bool.{cond}
use mathlib.Core.List.{List, [], ◌∷◌, ◌++◌, map}
use Prim.Native.Nat.{ℕ, zero, suc, ◌+◌, ◌<◌}
use native.Mathlib.Nat.{add-zero}
use native.Mathlib.Omega.{arith}
use lib.Dec.{eqb}
use lib.ListN.{length, set}
use lib.Seq.{map-set_same}
use Rattle.grid.specs.Index.{forward}
use Rattle.grid.specs.Block.{block_size}
use Rattle.area.specs.declared.IndexRecord.{IndexRecord}
use Rattle.area.specs.declared.Settings.{Settings}
use Rattle.area.specs.Settings.{readings_for, reading_count}
use Rattle.area.proofs.Readings.{reading_facts}
use Rattle.area.specs.Records.{blank, levels_of}
use Rattle.area.specs.Entry.{Entry, indices_of, reserved_by, pending_of}
use Rattle.area.specs.Encoding.{links_of, encoded, encoded_from, records_for, store_for}
use Rattle.quadrature.specs.Readings.{record_at}
use Rattle.encoding.specs.Entries.{no_entry, entry_at}
use Rattle.machine.specs.Log.{wanted}
use Rattle.writing.specs.Changes.{with_state, sizes_of}
use Rattle.writing.proofs.Fields.{mapped_at}

-- ---- one entry replaced

indices_set : (es : List Entry) (p : ℕ) (e : Entry) → e.levels ≡ (entry_at es p).levels → indices_of (set es p e) ≡ indices_of es
unfolding indices_of
indices_set es p e same = map-set_same (λ (x : Entry). x.levels) es p e no_entry same

pub levels_set : (es : List Entry) (p : ℕ) (e : Entry) → e.levels ≡ (entry_at es p).levels → (q : ℕ) → (entry_at (set es p e) q).levels ≡ (entry_at es q).levels
unfolding indices_of
levels_set es p e same = mapped_at (λ (x : Entry). x.levels) no_entry (set es p e) es (indices_set es p e same)

with_state-from : (g : Settings) (ls : List (List ℕ)) (f : ℕ) (es : List Entry) (p : ℕ) (e : Entry) → e.levels ≡ (entry_at es p).levels
    → encoded_from g ls f (set es p e) ≡ set (encoded_from g ls f es) p (with_state (record_at (encoded_from g ls f es) p) e.state e.indicator)
unfolding encoded_from encoded with_state
with_state-from g ls f [] p e same = refl
with_state-from g ls f (x ∷ es) zero e same =
    ap {B = List IndexRecord}
    (λ (k : List ℕ). (record { levels = k; state = e.state; indicator = e.indicator; first = f; links = links_of ls k }) ∷ encoded_from g ls (f + reading_count g k) es) same
with_state-from g ls f (x ∷ es) (suc p) e same = ap (λ (rs : List IndexRecord). encoded ls f x ∷ rs) (with_state-from g ls (f + reading_count g x.levels) es p e same)

pub with_state-records : (g : Settings) (es : List Entry) (p : ℕ) (e : Entry) → e.levels ≡ (entry_at es p).levels
    → records_for g (set es p e) ≡ set (records_for g es) p (with_state (record_at (records_for g es) p) e.state e.indicator)
unfolding records_for
with_state-records g es p e same =
    ap (λ ls. encoded_from g ls 0 (set es p e)) (indices_set es p e same) ∙ with_state-from g (indices_of es) 0 es p e same

pub reserved_set : (es : List Entry) (p : ℕ) (e : Entry) → e.levels ≡ (entry_at es p).levels → reserved_by (set es p e) ≡ reserved_by es
unfolding reserved_by
reserved_set [] p e same = refl
reserved_set (x ∷ es) zero e same = ap (λ k. block_size k + reserved_by es) same
reserved_set (x ∷ es) (suc p) e same = ap (λ n. block_size x.levels + n) (reserved_set es p e same)

-- an entry's part in the pending error
abbrev pub pending_at : Entry → ℕ
pending_at e = cond (eqb e.state 1) e.indicator 0

pub pending_set : (es : List Entry) (p : ℕ) (e : Entry) → p < length es → pending_of (set es p e) + pending_at (entry_at es p) ≡ pending_of es + pending_at e
unfolding pending_of
pending_set [] p e h = absurd (omega arith)
pending_set (x ∷ es) zero e h = omega arith
pending_set (x ∷ es) (suc p) e h = omega (arith, pending_set es p e (omega arith))

pub store-set : (es : List Entry) (p : ℕ) (e : Entry) → e.readings ≡ (entry_at es p).readings → store_for (set es p e) ≡ store_for es
unfolding store_for
store-set [] p e same = refl
store-set (x ∷ es) zero e same = ap (λ r. r ++ store_for es) same
store-set (x ∷ es) (suc p) e same = ap (λ s. x.readings ++ s) (store-set es p e same)

-- ---- wanted entries appended

module _ (k : List ℕ) where
  abbrev pub ahead : List ℕ → List Entry
  ahead axes = map (λ a. wanted (forward k a)) axes

  ahead_reserved : (axes : List ℕ) → reserved_by (ahead axes) ≡ sizes_of k axes
  unfolding reserved_by sizes_of wanted
  ahead_reserved [] = refl
  ahead_reserved (a ∷ axes) = ap (λ n. block_size (forward k a) + n) (ahead_reserved axes)

  pub reserved_ahead : (es : List Entry) (axes : List ℕ) → reserved_by (es ++ ahead axes) ≡ reserved_by es + sizes_of k axes
  unfolding reserved_by
  reserved_ahead [] axes = omega (arith, ahead_reserved axes)
  reserved_ahead (e ∷ es) axes = omega (arith, reserved_ahead es axes)

  pub pending_ahead : (es : List Entry) (axes : List ℕ) → pending_of (es ++ ahead axes) ≡ pending_of es
  unfolding pending_of wanted
  pending_ahead [] [] = refl
  pending_ahead [] (a ∷ axes) = omega (arith, pending_ahead [] axes)
  pending_ahead (e ∷ es) axes = omega (arith, pending_ahead es axes)

  pub store_ahead : (es : List Entry) (axes : List ℕ) → store_for (es ++ ahead axes) ≡ store_for es
  unfolding store_for wanted
  store_ahead [] [] = refl
  store_ahead [] (a ∷ axes) = store_ahead [] axes
  store_ahead (e ∷ es) axes = ap (λ s. e.readings ++ s) (store_ahead es axes)

-- ---- the records of entries, by field

module _ (g : Settings) (ls : List (List ℕ)) where
  pub encoded_levels : (f : ℕ) (es : List Entry) → levels_of (encoded_from g ls f es) ≡ indices_of es
  unfolding levels_of encoded_from encoded indices_of
  encoded_levels f [] = refl
  encoded_levels f (e ∷ es) = ap (λ l. e.levels ∷ l) (encoded_levels (f + reading_count g e.levels) es)

  pub encoded-length : (f : ℕ) (es : List Entry) → length (encoded_from g ls f es) ≡ length es
  unfolding encoded_from
  encoded-length f [] = refl
  encoded-length f (e ∷ es) = ap suc (encoded-length (f + reading_count g e.levels) es)

  pub encoded_links : (f : ℕ) (es : List Entry) (p : ℕ) → p < length es → (record_at (encoded_from g ls f es) p).links ≡ links_of ls (entry_at es p).levels
  unfolding encoded_from encoded
  encoded_links f [] p h = absurd (omega arith)
  encoded_links f (e ∷ es) zero h = refl
  encoded_links f (e ∷ es) (suc p) h = encoded_links (f + reading_count g e.levels) es p (omega arith)

  pub encoded-append : (f : ℕ) (es : List Entry) (e : Entry) → encoded_from g ls f (es ++ (e ∷ [])) ≡ encoded_from g ls f es ++ (encoded ls (f + readings_for g (reserved_by es)) e ∷ [])
  unfolding encoded_from reserved_by
  encoded-append f [] e = ap (λ n. encoded ls n e ∷ []) (sym (ap (λ n. f + n) (reading_facts.none g) ∙ add-zero f))
  encoded-append f (x ∷ es) e =
      ap (λ rs. encoded ls f x ∷ rs)
      (encoded-append (f + reading_count g x.levels) es e ∙ ap (λ n. encoded_from g ls (f + reading_count g x.levels) es ++ (encoded ls n e ∷ [])) further)
    where
      further : f + reading_count g x.levels + readings_for g (reserved_by es) ≡ f + readings_for g (block_size x.levels + reserved_by es)
      further = omega (arith, reading_facts.count g x.levels, reading_facts.sum g (block_size x.levels) (reserved_by es))

  -- what is no link does not depend on what the links are looked up in
  module _ (ms : List (List ℕ)) {A : Type 0} (h : IndexRecord → A) (same : (f : ℕ) (e : Entry) → h (encoded ls f e) ≡ h (encoded ms f e)) where
    encoded-map : (f : ℕ) (es : List Entry) → map h (encoded_from g ls f es) ≡ map h (encoded_from g ms f es)
    unfolding encoded_from
    encoded-map f [] = refl
    encoded-map f (e ∷ es) = ap₂ (λ x (xs : List A). x ∷ xs) (same f e) (encoded-map (f + reading_count g e.levels) es)

    pub encoded_same : (f : ℕ) (es : List Entry) (p : ℕ) → h (record_at (encoded_from g ls f es) p) ≡ h (record_at (encoded_from g ms f es) p)
    encoded_same f es p = mapped_at h blank (encoded_from g ls f es) (encoded_from g ms f es) (encoded-map f es) p

pub indices_append : (es : List Entry) (x : List ℕ) → indices_of (es ++ (wanted x ∷ [])) ≡ indices_of es ++ (x ∷ [])
unfolding indices_of wanted
indices_append [] x = refl
indices_append (e ∷ es) x = ap (λ ls. e.levels ∷ ls) (indices_append es x)
