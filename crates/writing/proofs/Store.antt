-- Delivering at the first wanted place: the readings go to the store where the others end, and the pending error grows by the indicator.
-- The idea: before the first wanted place every entry has its whole block, and from it on none has readings, so the block's first
-- reading is the number of readings stored.
-- Assumes nothing.
use mathlib.Core.Path.{◌≡◌, refl, sym, ap, ap₂, ◌∙◌}
use mathlib.Core.Bool.{Bool, true, false, cond}
use mathlib.Core.List.{List, [], ◌∷◌, ◌++◌, append_assoc, append-nil}
use Prim.Native.Nat.{ℕ, zero, suc, ◌+◌, ◌<◌, ◌≤◌}
use native.Mathlib.Nat.{add-zero, zero-add}
use native.Mathlib.Omega.{arith}
use borrow.Author.Tests.{eqb-true, eqb-false}
use lib.Dec.{eqb}
use lib.IntN.{ℤ}
use lib.ListN.{length, set, take, drop, length-append}
use lib.Seq.{take_at, sets, sets-eq}
use Rattle.area.specs.declared.Settings.{Settings}
use Rattle.area.specs.Settings.{reading_count}
use Rattle.area.specs.Entry.{Entry, indices_of, pending_of}
use Rattle.area.specs.Log.{Machine}
use Rattle.area.specs.Encoding.{encoded, encoded_from, records_for, store_for, store_with}
use Rattle.quadrature.specs.Readings.{record_at}
use Rattle.encoding.specs.Entries.{entry_at, SoundMachine}
use Rattle.machine.specs.Log.{first_wanted}
use Rattle.machine.specs.Steps.{delivered, deliver_at}
use Rattle.writing.proofs.Entries.{pending_at, pending_set}

-- ---- the first wanted place

pub wanted_state : (es : List Entry) → first_wanted es < length es → (entry_at es (first_wanted es)).state ≡ 0
unfolding first_wanted
wanted_state [] h = absurd (omega arith)
wanted_state (e ∷ es) h = step (eqb e.state 0) refl h (wanted_state es)
  where
    step : (t : Bool) → eqb e.state 0 ≡ t → cond t 0 (suc (first_wanted es)) < suc (length es) → (first_wanted es < length es → (entry_at es (first_wanted es)).state ≡ 0)
        → (entry_at (e ∷ es) (cond t 0 (suc (first_wanted es)))).state ≡ 0
    step true q l f = eqb-true e.state 0 q
    step false q l f = f (omega arith)

pub before_wanted : (es : List Entry) (q : ℕ) → q < first_wanted es → 1 ≤ (entry_at es q).state
unfolding first_wanted
before_wanted [] q h = absurd (omega arith)
before_wanted (e ∷ es) q h = step (eqb e.state 0) refl q h (before_wanted es)
  where
    step : (t : Bool) → eqb e.state 0 ≡ t → (q : ℕ) → q < cond t 0 (suc (first_wanted es)) → ((q : ℕ) → q < first_wanted es → 1 ≤ (entry_at es q).state)
        → 1 ≤ (entry_at (e ∷ es) q).state
    step true s q l f = absurd (omega arith)
    step false s zero l f = let n : e.state ≡ 0 → ⊥ = eqb-false e.state 0 s in omega arith
    step false s (suc q) l f = f q (omega arith)

-- ---- the store

empty_store : (es : List Entry) → ((q : ℕ) → q < length es → (entry_at es q).readings ≡ []) → store_for es ≡ []
unfolding store_for
empty_store [] w = refl
empty_store (e ∷ es) w = ap₂ (λ (r s : List ℤ). r ++ s) (w 0 (omega arith)) (empty_store es (λ q h. w (suc q) (omega arith)))

-- from w on nothing is stored
abbrev EmptyFrom : List Entry → ℕ → Type 0
EmptyFrom es w = (q : ℕ) → w ≤ q → q < length es → (entry_at es q).readings ≡ []

-- before w whole blocks are
abbrev WholeBefore : Settings → List Entry → ℕ → Type 0
WholeBefore g es w = (q : ℕ) → q < w → length (entry_at es q).readings ≡ reading_count g (entry_at es q).levels

store-set_last : (es : List Entry) (w : ℕ) (e : Entry) → w < length es → EmptyFrom es w → store_for (set es w e) ≡ store_for es ++ e.readings
unfolding store_for
store-set_last [] w e h m = absurd (omega arith)
store-set_last (x ∷ es) zero e h m =
    ap (λ s. e.readings ++ s) (empty_store es (λ q l. m (suc q) (omega arith) (omega arith)))
    ∙ append-nil e.readings
    ∙ sym (ap (λ s. s ++ e.readings) (empty_store (x ∷ es) (λ q l. m q (omega arith) l)))
store-set_last (x ∷ es) (suc w) e h m =
    ap (λ s. x.readings ++ s) (store-set_last es w e (omega arith) (λ q l u. m (suc q) (omega arith) (omega arith)))
    ∙ sym (append_assoc x.readings (store_for es) e.readings)

first_free_from : (g : Settings) (ls : List (List ℕ)) (f : ℕ) (es : List Entry) (w : ℕ) → w < length es → EmptyFrom es w → WholeBefore g es w
    → (record_at (encoded_from g ls f es) w).first ≡ f + length (store_for es)
unfolding encoded_from encoded store_for
first_free_from g ls f [] w h m l = absurd (omega arith)
first_free_from g ls f (x ∷ es) zero h m l = sym (ap (λ s. f + length s) (empty_store (x ∷ es) (λ q u. m q (omega arith) u)) ∙ add-zero f)
first_free_from g ls f (x ∷ es) (suc w) h m l =
    first_free_from g ls (f + reading_count g x.levels) es w (omega arith) (λ q u g. m (suc q) (omega arith) (omega arith)) (λ q u. l (suc q) (omega arith))
    ∙ omega (arith, length-append x.readings (store_for es), l 0 (omega arith))

module _ (m : Machine) (v : SoundMachine m) (some : first_wanted m.log.entries < length m.log.entries) where
  abbrev g : Settings
  g = m.log.settings

  abbrev es : List Entry
  es = m.log.entries

  abbrev w : ℕ
  w = first_wanted es

  empty_from : EmptyFrom es w
  empty_from q h l = v.wanted_empty q l (v.wanted_last w q h l (wanted_state es some))

  pub first_free : (record_at (records_for g es) w).first ≡ length (store_for es)
  unfolding records_for
  first_free =
      first_free_from g (indices_of es) 0 es w some empty_from (λ q h. v.whole q (omega arith) (before_wanted es q h)) ∙ zero-add (length (store_for es))

  module _ (rs : List ℤ) (i : ℕ) where
    pub deliver_pending : pending_of (deliver_at es w rs i) ≡ pending_of es + i
    unfolding deliver_at
    deliver_pending =
        omega (arith, pending_set es w (delivered (entry_at es w) rs i) some, was, now)
      where
        was : pending_at (entry_at es w) ≡ 0
        was = rw (wanted_state es some)

        now : pending_at (delivered (entry_at es w) rs i) ≡ i
        now = unfold delivered in refl

    -- laid over a store that begins with the readings of the entries
    pub deliver_store : (s : List ℤ) → s ≡ store_with s es → length (store_for es) + length rs ≤ length s
        → store_with s (deliver_at es w rs i) ≡ sets s (length (store_for es)) rs
    unfolding store_with deliver_at
    deliver_store s e room =
        ap (λ t. t ++ drop (length t) s) stored
        ∙ ap₂ (λ t n. t ++ rs ++ drop n s) (sym begins) (length-append (store_for es) rs)
        ∙ sym (sets-eq rs s (length (store_for es)) room)
      where
        stored : store_for (set es w (delivered (entry_at es w) rs i)) ≡ store_for es ++ rs
        stored = store-set_last es w (delivered (entry_at es w) rs i) some empty_from ∙ unfold delivered in refl

        begins : take (length (store_for es)) s ≡ store_for es
        begins = ap (take (length (store_for es))) e ∙ take_at (store_for es) (drop (length (store_for es)) s) (length (store_for es)) refl
