-- Entries that have the state of Fig. 1, and those that are wanted after them; one more delivered entry is one more joined index.
-- Assumes nothing.
use mathlib.Core.Path.{◌≡◌, refl, sym, ap, ◌∙◌, subst}
use mathlib.Core.Logic.{inl, inr}
use mathlib.Core.Bool.{Bool, true, false, cond}
use mathlib.Core.List.{List, [], ◌∷◌, ◌++◌, map, append-nil, Memᴰ}
use Prim.Native.Nat.{ℕ, zero, suc, ◌+◌, ◌<◌, ◌≤◌}
use native.Mathlib.Omega.{arith}
use lib.Dec.{eqb}
use lib.ListN.{length, length-append}
use Rattle.grid.specs.Block.{block, block_size}
use Rattle.grid.specs.Terms.{NoDup}
use Rattle.area.specs.Entry.{Entry, reserved_by, pending_of, carried_of}
use Rattle.area.specs.Log.{Machine}
use Rattle.area.proofs.Carried.{carried_facts}
use Rattle.encoding.specs.Entries.{entry_at, EnteredOld}
use Rattle.machine.specs.Log.{wanted}
use Rattle.machine.specs.Admitted.{total_of}
use Rattle.machine.proofs.Totals.{total-append}
use Rattle.machine.proofs.Appends.{Split, append_left, append_right, append-split, append-each, old_left}
use Rattle.published.specs.Figure.{Problem, Figure, joined}
use Rattle.published.specs.Turns.{active_of, SettingsMatch, Supplied, Simulates}

-- the delivered entry of an index
unfoldable pub entry_for : Problem → List ℕ → Entry
entry_for P k = record { levels = k; state = 1; indicator = P.indicator k; readings = map P.integrand (block k) }

-- the entries stand where Fig. 1 stands
pub record Agrees (P : Problem) (es : List Entry) (s : Figure) : Type 0 where
  pub supplied : Supplied P es
  pub old_there : (k : List ℕ) → EnteredOld es k → Memᴰ k s.old
  pub old_here : (k : List ℕ) → Memᴰ k s.old → EnteredOld es k
  pub active : active_of es ≡ s.active
  pub pending : pending_of es ≡ s.estimate
  pub carried : carried_of P.axes es ≡ s.carried
  pub held : length es ≡ length s.old + length s.active
  pub reserved : reserved_by es ≡ total_of block_size s.old + total_of block_size s.active
  pub once : NoDup s.old

-- and those of the indices ks are wanted after them
pub record Waiting (P : Problem) (m : Machine) (es : List Entry) (ks : List (List ℕ)) (s : Figure) : Type 0 where
  pub posed : SettingsMatch m.log.settings P
  pub entries : m.log.entries ≡ es ++ map wanted ks
  pub agrees : Agrees P es s
  pub result : m.mean ≡ s.result

-- where none is wanted, the machine stands there
pub waiting_none : (P : Problem) (m : Machine) (es : List Entry) (s : Figure) → Waiting P m es [] s → Simulates P m s
waiting_none P m es s w =
    record {
      posed = w.posed;
      supplied = a.supplied;
      old_there = a.old_there;
      old_here = a.old_here;
      active = a.active;
      result = w.result;
      pending = a.pending;
      carried = ap (λ d. carried_of d m.log.entries) (sym w.posed.axes) ∙ a.carried;
      held = a.held;
      reserved = a.reserved;
      once = a.once;
    }
  where
    a : Agrees P m.log.entries s
    a = subst (λ xs. Agrees P xs s) (sym (w.entries ∙ append-nil es)) w.agrees

-- ---- one entry more

pub active-append : (xs ys : List Entry) → active_of (xs ++ ys) ≡ active_of xs ++ active_of ys
unfolding active_of
active-append [] ys = refl
active-append (x ∷ xs) ys = step (eqb x.state 1) (active-append xs ys)
  where
    step : (t : Bool) → active_of (xs ++ ys) ≡ active_of xs ++ active_of ys
        → cond t (x.levels ∷ active_of (xs ++ ys)) (active_of (xs ++ ys)) ≡ cond t (x.levels ∷ active_of xs) (active_of xs) ++ active_of ys
    step true ih = ap (λ ks. x.levels ∷ ks) ih
    step false ih = ih

pub pending_append : (xs ys : List Entry) → pending_of (xs ++ ys) ≡ pending_of xs + pending_of ys
unfolding pending_of
pending_append [] ys = omega arith
pending_append (x ∷ xs) ys = omega (arith, pending_append xs ys)

pub reserved_append : (xs ys : List Entry) → reserved_by (xs ++ ys) ≡ reserved_by xs + reserved_by ys
unfolding reserved_by
reserved_append [] ys = omega arith
reserved_append (x ∷ xs) ys = omega (arith, reserved_append xs ys)

module _ (P : Problem) (es : List Entry) (k : List ℕ) where
  abbrev new : List Entry
  new = entry_for P k ∷ []

  new_state : (i : ℕ) → i < 1 → (entry_at new i).state ≡ 1
  unfolding entry_for
  new_state zero h = refl
  new_state (suc i) h = absurd (omega arith)

  one_supplied : Supplied P new
  unfolding entry_for
  one_supplied = record { delivered = λ p h. omega (arith, new_state p h); readings = readings; indicators = indicators }
    where
      readings : (p : ℕ) → p < 1 → (entry_at new p).readings ≡ map P.integrand (block (entry_at new p).levels)
      readings zero h = refl
      readings (suc p) h = absurd (omega arith)

      indicators : (p : ℕ) → p < 1 → (entry_at new p).indicator ≡ P.indicator (entry_at new p).levels
      indicators zero h = refl
      indicators (suc p) h = absurd (omega arith)

  pub more_supplied : Supplied P es → Supplied P (es ++ new)
  more_supplied v =
      record {
        delivered = append-each es new (λ e. 1 ≤ e.state) v.delivered one_supplied.delivered;
        readings = append-each es new (λ e. e.readings ≡ map P.integrand (block e.levels)) v.readings one_supplied.readings;
        indicators = append-each es new (λ e. e.indicator ≡ P.indicator e.levels) v.indicators one_supplied.indicators;
      }

  -- nothing becomes old
  more_old : (l : List ℕ) → EnteredOld (es ++ new) l → EnteredOld es l
  more_old l h = step (append-split es new h.0 h.1.place)
    where
      step : Split es new h.0 → EnteredOld es l
      step (inl q) = (
        h.0,
        record { place = q; same = sym (ap (λ (e : Entry). e.levels) (append_left es new h.0 q)) ∙ h.1.same },
        sym (ap (λ (e : Entry). e.state) (append_left es new h.0 q)) ∙ h.2,
      )
      step (inr x) =
          absurd
          (omega
          (arith, h.2, ap (λ n. (entry_at (es ++ new) n).state) x.2, ap (λ (e : Entry). e.state) (append_right es new x.0), new_state x.0 x.1))

  pub more_agrees : (s : Figure) → Agrees P es s → Agrees P (es ++ new) (joined P k s)
  unfolding joined entry_for active_of pending_of reserved_by total_of
  more_agrees s a =
      record {
        supplied = more_supplied a.supplied;
        old_there = λ l h. a.old_there l (more_old l h);
        old_here = λ l h. old_left es new l (a.old_here l h);
        active = active-append es new ∙ ap (λ ks. ks ++ k ∷ []) a.active;
        pending = omega (arith, pending_append es new, a.pending);
        carried = omega (arith, carried_facts.append P.axes es new, carried_facts.not_old P.axes (entry_for P k) (λ e. omega (arith, e)), a.carried);
        held = omega (arith, length-append es new, length-append s.active (k ∷ []), a.held);
        reserved = omega (arith, reserved_append es new, total-append block_size s.active (k ∷ []), a.reserved);
        once = a.once;
      }
