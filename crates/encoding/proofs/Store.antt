-- The readings of entries in the store: read back from where they were written, and written back from where they were read.
-- The idea: delivered entries come first, each with its whole block, and wanted ones come last with no readings. So on the delivered
-- ones the running sum of block sizes is where the readings lie, one block after the other.
-- Assumes nothing.
use mathlib.Core.Path.{◌≡◌, refl, sym, ap, ap₂, ◌∙◌}
use mathlib.Core.Logic.{◌⊎◌, inl, inr}
use mathlib.Core.List.{List, [], ◌∷◌, ◌++◌, map, append_assoc}
use Prim.Native.Nat.{ℕ, suc, ◌+◌, ◌<◌, ◌≤◌}
use native.Mathlib.Nat.{add-zero, zero-add}
use native.Mathlib.Decide.{ℕ_discrete}
use native.Mathlib.Omega.{arith}
use borrow.Author.Tests.{le-leb, lt-leb}
use lib.IntN.{ℤ, pos}
use lib.ListN.{length, get_or, take, drop, length-append, take-append-drop}
use lib.Seq.{take_at, drop_at, drop-drop, get_or-take, get_or-drop}
use Rattle.area.specs.declared.IndexRecord.{IndexRecord}
use Rattle.area.specs.declared.Settings.{Settings}
use Rattle.area.specs.Settings.{reading_count}
use Rattle.area.specs.Entry.{Entry, indices_of}
use Rattle.area.specs.Log.{Machine}
use Rattle.area.specs.Encoding.{entry_of, encoded, encoded_from, records_for, store_for, store_with}
use Rattle.encoding.specs.Entries.{no_entry, entry_at, SoundMachine}

-- ---- delivered entries with their blocks, then wanted ones

abbrev pub AllWanted : List Entry → Type 0
AllWanted [] = Unit {0}
AllWanted (e ∷ es) = (e.state ≡ 0) × (e.readings ≡ []) × AllWanted es

abbrev pub Blocks : Settings → List Entry → Type 0
Blocks g [] = Unit {0}
Blocks g (e ∷ es) = ((1 ≤ e.state) × (length e.readings ≡ reading_count g e.levels) × Blocks g es) ⊎ AllWanted (e ∷ es)

module _ (g : Settings) (es : List Entry) where
  abbrev Last : Type 0
  Last = (p q : ℕ) → p ≤ q → q < length es → (entry_at es p).state ≡ 0 → (entry_at es q).state ≡ 0

  abbrev Empty : Type 0
  Empty = (p : ℕ) → p < length es → (entry_at es p).state ≡ 0 → (entry_at es p).readings ≡ []

  abbrev Whole : Type 0
  Whole = (p : ℕ) → p < length es → 1 ≤ (entry_at es p).state → length (entry_at es p).readings ≡ reading_count g (entry_at es p).levels

all_wanted : (g : Settings) (es : List Entry) → ((p : ℕ) → p < length es → (entry_at es p).state ≡ 0) → Empty g es → AllWanted es
all_wanted g [] w m = tt
all_wanted g (e ∷ es) w m = (
  w 0 (omega arith),
  m 0 (omega arith) (w 0 (omega arith)),
  all_wanted g es (λ p h. w (suc p) (omega arith)) (λ p h z. m (suc p) (omega arith) z),
)

blocks : (g : Settings) (es : List Entry) → Last g es → Empty g es → Whole g es → Blocks g es
blocks g [] l m f = tt
blocks g (e ∷ es) l m f =
    step (ℕ_discrete e.state 0)
    (blocks g es (λ p q h g z. l (suc p) (suc q) (omega arith) (omega arith) z) (λ p h z. m (suc p) (omega arith) z) (λ p h z. f (suc p) (omega arith) z))
  where
    step : Dec (e.state ≡ 0) → Blocks g es → Blocks g (e ∷ es)
    step (yes z) r = inr (all_wanted g (e ∷ es) (λ q h. l 0 q (omega arith) h z) m)
    step (no z) r = inl (omega arith, f 0 (omega arith) (omega arith), r)

pub blocks_of : {m : Machine} → SoundMachine m → Blocks m.log.settings m.log.entries
blocks_of {m} v = blocks m.log.settings m.log.entries v.wanted_last v.wanted_empty v.whole

-- ---- the readings of an entry

module _ (g : Settings) (s : List ℤ) (r : IndexRecord) where
  pub wanted-readings : r.state ≡ 0 → (entry_of g s r).readings ≡ []
  unfolding entry_of
  wanted-readings z = rw (lt-leb 1 r.state (omega arith))

  pub delivered-readings : 1 ≤ r.state → (entry_of g s r).readings ≡ take (reading_count g r.levels) (drop r.first s)
  unfolding entry_of
  delivered-readings h = rw (le-leb 1 r.state h)

  pub delivered_reading : (n : ℕ) → 1 ≤ r.state → n < reading_count g r.levels → get_or (entry_of g s r).readings n (pos 0) ≡ get_or s (r.first + n) (pos 0)
  delivered_reading n h l =
      ap (λ x. get_or x n (pos 0)) (delivered-readings h) ∙ get_or-take (reading_count g r.levels) (drop r.first s) n (pos 0) l ∙ get_or-drop r.first s n (pos 0)

-- ---- read back

-- a record of an entry is read as the entry where its readings are
entry_is : (g : Settings) (s : List ℤ) (ls : List (List ℕ)) (f : ℕ) (e : Entry) → (entry_of g s (encoded ls f e)).readings ≡ e.readings → entry_of g s (encoded ls f e) ≡ e
unfolding entry_of encoded
entry_is g s ls f e h = ap {B = Entry} (λ (x : List ℤ). record { levels = e.levels; state = e.state; indicator = e.indicator; readings = x }) h

wanted_back : (g : Settings) (s : List ℤ) (ls : List (List ℕ)) (f : ℕ) (es : List Entry) → AllWanted es → map (entry_of g s) (encoded_from g ls f es) ≡ es
unfolding encoded_from
wanted_back g s ls f [] w = refl
wanted_back g s ls f (e ∷ es) w =
    ap₂ (λ (x : Entry) (xs : List Entry). x ∷ xs) (entry_is g s ls f e (unfold encoded in wanted-readings g s (encoded ls f e) w.0 ∙ sym w.1))
    (wanted_back g s ls (f + reading_count g e.levels) es w.2)

-- pre is what lies before the blocks
entries_back : (g : Settings) (ls : List (List ℕ)) (es : List Entry) (f : ℕ) (pre rest : List ℤ) → length pre ≡ f → Blocks g es
    → map (entry_of g (pre ++ (store_for es ++ rest))) (encoded_from g ls f es) ≡ es
unfolding encoded_from store_for
entries_back g ls [] f pre rest h b = refl
entries_back g ls (e ∷ es) f pre rest h (inr w) = unfold encoded_from in wanted_back g (pre ++ (store_for (e ∷ es) ++ rest)) ls f (e ∷ es) w
entries_back g ls (e ∷ es) f pre rest h (inl b) =
    ap₂ (λ (x : Entry) (xs : List Entry). x ∷ xs) head
    (ap (λ (s : List ℤ). map (entry_of g s) (encoded_from g ls (f + reading_count g e.levels) es)) shift
    ∙ entries_back g ls es (f + reading_count g e.levels) (pre ++ e.readings) rest (length-append pre e.readings ∙ ap₂ ◌+◌ h b.1) b.2)
  where
    shift : pre ++ ((e.readings ++ store_for es) ++ rest) ≡ (pre ++ e.readings) ++ (store_for es ++ rest)
    shift = ap (λ (s : List ℤ). pre ++ s) (append_assoc e.readings (store_for es) rest) ∙ sym (append_assoc pre e.readings (store_for es ++ rest))

    head : entry_of g (pre ++ ((e.readings ++ store_for es) ++ rest)) (encoded ls f e) ≡ e
    head =
        entry_is g (pre ++ ((e.readings ++ store_for es) ++ rest)) ls f e
        (unfold encoded in delivered-readings g (pre ++ ((e.readings ++ store_for es) ++ rest)) (encoded ls f e) b.0
        ∙ ap (take (reading_count g e.levels)) (drop_at pre ((e.readings ++ store_for es) ++ rest) f h ∙ append_assoc e.readings (store_for es) rest)
        ∙ take_at e.readings (store_for es ++ rest) (reading_count g e.levels) b.1)

pub read_back : (g : Settings) (s : List ℤ) (es : List Entry) → Blocks g es → map (entry_of g (store_with s es)) (records_for g es) ≡ es
unfolding store_with records_for
read_back g s es b = entries_back g (indices_of es) es 0 [] (drop (length (store_for es)) s) refl b

-- ---- written back

no_readings : (es : List Entry) → AllWanted es → store_for es ≡ []
unfolding store_for
no_readings [] w = refl
no_readings (e ∷ es) w = ap₂ (λ (r s : List ℤ). r ++ s) w.1 (no_readings es w.2)

readings_is : (g : Settings) (s : List ℤ) (ls : List (List ℕ)) (f : ℕ) (e : Entry) → 1 ≤ e.state → entry_of g s (encoded ls f e) ≡ e → e.readings ≡ take (reading_count g e.levels) (drop f s)
unfolding encoded
readings_is g s ls f e h q = sym (ap (λ (x : Entry). x.readings) q) ∙ delivered-readings g s (encoded ls f e) h

store_back : (g : Settings) (s : List ℤ) (ls : List (List ℕ)) (f : ℕ) (es : List Entry) → map (entry_of g s) (encoded_from g ls f es) ≡ es → Blocks g es
    → store_for es ++ drop (f + length (store_for es)) s ≡ drop f s
unfolding encoded_from store_for
store_back g s ls f [] q b = ap (λ n. drop n s) (add-zero f)
store_back g s ls f (e ∷ es) q (inr w) =
    ap (λ (t : List ℤ). t ++ drop (f + length t) s) (no_readings (e ∷ es) w) ∙ ap (λ n. drop n s) (add-zero f)
store_back g s ls f (e ∷ es) q (inl b) =
    append_assoc e.readings S (drop (f + length (e.readings ++ S)) s)
    ∙ ap (λ n. e.readings ++ (S ++ drop n s)) far
    ∙ ap (λ (t : List ℤ). e.readings ++ t) (store_back g s ls (f + reading_count g e.levels) es (ap (drop 1) q) b.2)
    ∙ ap₂ (λ (t u : List ℤ). t ++ u) (readings_is g s ls f e b.0 (ap (λ x. get_or x 0 no_entry) q)) (sym (drop-drop (reading_count g e.levels) f s))
    ∙ take-append-drop (reading_count g e.levels) (drop f s)
  where
    S : List ℤ
    S = store_for es

    far : f + length (e.readings ++ S) ≡ f + reading_count g e.levels + length S
    far = omega (arith, length-append e.readings S, b.1)

pub written_back : (g : Settings) (s : List ℤ) (es : List Entry) → map (entry_of g s) (records_for g es) ≡ es → Blocks g es → s ≡ store_with s es
unfolding store_with records_for
written_back g s es q b = sym (ap (λ n. store_for es ++ drop n s) (sym (zero-add (length (store_for es)))) ∙ store_back g s (indices_of es) 0 es q b)
