-- Searches and counts do not look at readings: entries that differ in nothing else give the same answers.
-- The idea: each search says of entries whose readings are taken away what it says of the entries themselves.
-- Assumes nothing.
use mathlib.Core.Path.{◌≡◌, refl, sym, ap, ◌∙◌, fun_ext}
use mathlib.Core.Bool.{true, cond, ◌&&◌}
use mathlib.Core.List.{List, [], ◌∷◌, map}
use Prim.Native.Nat.{ℕ, zero, suc, ◌+◌}
use lib.Dec.{leb, eqb}
use lib.IntN.{ℤ}
use lib.ListN.{set, get_or-map}
use Rattle.grid.specs.Index.{level, within, forward, backward, capped_axes}
use Rattle.grid.specs.Coefficient.{same_levels}
use Rattle.area.specs.declared.IndexRecord.{IndexRecord}
use Rattle.area.specs.declared.JobRecord.{JobRecord}
use Rattle.area.specs.declared.Settings.{Settings}
use Rattle.area.specs.Records.{held_in}
use Rattle.area.specs.Entry.{Entry}
use Rattle.area.specs.Encoding.{area_of, entry_of, entries_of}
use Rattle.soundness.specs.Test.{all_from}
use Rattle.encoding.specs.Entries.{no_entry, entry_at}
use Rattle.machine.specs.Log.{first_wanted}
use Rattle.machine.specs.Choose.{largest, first_active, selected}
use Rattle.machine.specs.Promote.{made_old, make_old, is_old, backward_old, admits, passing, admitted_axes}
use Rattle.machine.specs.Counts.{count_of, ceiling_count}
use Rattle.writing.specs.Heads.{head_of, heads_of}

-- an entry without its readings
abbrev pub unread : Entry → Entry
unread e = record { levels = e.levels; state = e.state; indicator = e.indicator; readings = [] }

-- entries that differ in readings at most
abbrev pub Alike : List Entry → List Entry → Type 0
Alike es fs = map unread es ≡ map unread fs

-- entries read from the same records, whatever the stores
heads_alike : (g : Settings) (s : List ℤ) (rs : List IndexRecord) → Alike (heads_of rs) (map (entry_of g s) rs)
unfolding heads_of head_of entry_of
heads_alike g s [] = refl
heads_alike g s (r ∷ rs) = ap (λ (es : List Entry). unread (entry_of g s r) ∷ es) (heads_alike g s rs)

-- what a scan of cells sees, and what the area holds
pub heads_are : (j : JobRecord) (c : List ℕ) (s : List ℤ) → Alike (heads_of (held_in c j.held)) (entries_of (area_of j c s))
unfolding held_in entries_of
heads_are j c s = heads_alike j.settings s (held_in c j.held)

-- ---- each search, of entries without their readings

unread_wanted : (es : List Entry) → first_wanted (map unread es) ≡ first_wanted es
unfolding first_wanted
unread_wanted [] = refl
unread_wanted (e ∷ es) = ap (λ n. cond (eqb e.state 0) 0 (suc n)) (unread_wanted es)

unread_largest : (es : List Entry) → largest (map unread es) ≡ largest es
unfolding largest
unread_largest [] = refl
unread_largest (e ∷ es) = ap (λ n. cond (eqb e.state 1 && leb n e.indicator) e.indicator n) (unread_largest es)

unread_active : (i : ℕ) (es : List Entry) → first_active i (map unread es) ≡ first_active i es
unfolding first_active
unread_active i [] = refl
unread_active i (e ∷ es) = ap (λ n. cond (eqb e.state 1 && eqb e.indicator i) 0 (suc n)) (unread_active i es)

unread_selected : (es : List Entry) → selected (map unread es) ≡ selected es
unfolding selected
unread_selected es = ap (λ i. first_active i (map unread es)) (unread_largest es) ∙ unread_active (largest es) es

unread_old : (k : List ℕ) (es : List Entry) → is_old (map unread es) k ≡ is_old es k
unfolding is_old
unread_old k [] = refl
unread_old k (e ∷ es) = ap (λ t. cond (same_levels e.levels k && eqb e.state 2) true t) (unread_old k es)

unread_count : (s : ℕ) (es : List Entry) → count_of s (map unread es) ≡ count_of s es
unfolding count_of
unread_count s [] = refl
unread_count s (e ∷ es) = ap (λ n. cond (eqb e.state s) 1 0 + n) (unread_count s es)

unread_ceiling : (d : ℕ) (es : List Entry) → ceiling_count d (map unread es) ≡ ceiling_count d es
unfolding ceiling_count
unread_ceiling d [] = refl
unread_ceiling d (e ∷ es) = ap (λ n. cond (eqb e.state 2) (capped_axes d e.levels) 0 + n) (unread_ceiling d es)

map-set : (es : List Entry) (p : ℕ) (e : Entry) → map unread (set es p e) ≡ set (map unread es) p (unread e)
map-set [] p e = refl
map-set (x ∷ es) zero e = refl
map-set (x ∷ es) (suc p) e = ap (λ (l : List Entry). unread x ∷ l) (map-set es p e)

unread_make_old : (p : ℕ) (es : List Entry) → map unread (make_old es p) ≡ make_old (map unread es) p
unfolding make_old made_old no_entry
unread_make_old p es =
    map-set es p (made_old (entry_at es p)) ∙ ap (λ (e : Entry). set (map unread es) p (made_old e)) (sym (get_or-map unread es p no_entry))

-- ---- so alike entries give the same

module _ (es fs : List Entry) (same : Alike es fs) where
  answer : {A : Type 0} (f : List Entry → A) → ((l : List Entry) → f (map unread l) ≡ f l) → f es ≡ f fs
  answer f e = sym (e es) ∙ ap f same ∙ e fs

  pub alike_wanted : first_wanted es ≡ first_wanted fs
  alike_wanted = answer first_wanted unread_wanted

  pub alike_selected : selected es ≡ selected fs
  alike_selected = answer selected unread_selected

  pub alike_count : (s : ℕ) → count_of s es ≡ count_of s fs
  alike_count s = answer (count_of s) (unread_count s)

  pub alike_ceiling : (d : ℕ) → ceiling_count d es ≡ ceiling_count d fs
  alike_ceiling d = answer (ceiling_count d) (unread_ceiling d)

  pub alike_make_old : (p : ℕ) → Alike (make_old es p) (make_old fs p)
  alike_make_old p = unread_make_old p es ∙ ap (λ l. make_old l p) same ∙ sym (unread_make_old p fs)

  pub alike_old : (k : List ℕ) → is_old es k ≡ is_old fs k
  alike_old k = answer (λ l. is_old l k) (unread_old k)

  pub alike_admits : (d : ℕ) (k : List ℕ) (a : ℕ) → admits d es k a ≡ admits d fs k a
  unfolding admits backward_old
  alike_admits d k a =
      ap (λ f. within (forward k a) && all_from d 0 f) (fun_ext (λ b. ap (λ t. cond (leb (level (forward k a) b) 1) true t) (alike_old (backward (forward k a) b))))

  pub alike_axes : (d : ℕ) (k : List ℕ) → admitted_axes d es k ≡ admitted_axes d fs k
  unfolding admitted_axes
  alike_axes d k = ap (passing d 0) (fun_ext (alike_admits d k))
