-- What the log has of Fig. 1 where it is led by the indices made old: its state but for what is wanted, and its state where nothing is.
-- The idea: the sums over 𝒪 and 𝒜 are those of the entries, in which the wanted have no part yet.
-- Assumes nothing.
use mathlib.Core.Path.{◌≡◌, refl, sym, ap, ◌∙◌}
use mathlib.Core.Bool.{Bool, true, false, cond, ◌&&◌}
use mathlib.Core.List.{List, [], ◌∷◌, append-nil, Memᴰ}
use Prim.Native.Nat.{ℕ, suc, ◌+◌, ◌<◌, ◌≤◌}
use native.Mathlib.Decide.{ℕ_discrete}
use native.Mathlib.Omega.{arith}
use borrow.Author.Tests.{eq-eqb, ne_eqb}
use lib.Dec.{eqb}
use lib.IntN.{pos, ◌+ℤ◌, +ℤ_idr}
use lib.ListN.{length}
use Rattle.sums.specs.Sums.{sum_of}
use Rattle.grid.specs.Index.{at_ceiling}
use Rattle.grid.specs.Block.{block_size}
use Rattle.area.specs.Entry.{Entry, indices_of, pending_of, carried_of}
use Rattle.area.specs.Log.{Machine}
use Rattle.encoding.specs.Entries.{entry_at, EnteredOld, SoundMachine}
use Rattle.machine.specs.Log.{any_wanted}
use Rattle.machine.specs.Counts.{count_of}
use Rattle.machine.specs.Admitted.{total_of}
use Rattle.machine.specs.Means.{mean_of}
use Rattle.machine.proofs.Wanted.{wanted-facts}
use Rattle.machine.proofs.Totals.{total_same, total-length}
use Rattle.published.specs.Figure.{Problem, Figure, increment, led}
use Rattle.published.specs.Turns.{active_of, wanted_of, not_old_of, SettingsMatch, ReadingValued, Supplied, SuppliedSoFar, Simulates}
use Rattle.published.proofs.Awaited.{EachDelivered, wanted_after, not_old_both}
use Rattle.published.proofs.Sums.{sum_facts}
use Rattle.published.proofs.Problems as problems
use Rattle.published.proofs.Led.{led_old}
use Rattle.published.proofs.HeldSets.{old_of, old_sure, old_back, old_once, total_held, held_total, reserved_total, sum_held}
use Rattle.published.proofs.Course.{Stands, Course}

-- ---- the errors of entries, as totals

-- each entry is wanted, active or old
data Three (n : ℕ) : Type 0 where
  is_wanted : n ≡ 0 → Three n
  is_active : n ≡ 1 → Three n
  is_old_lem : n ≡ 2 → Three n

three : (n : ℕ) → n ≤ 2 → Three n
three n h = step (ℕ_discrete n 0) (ℕ_discrete n 1)
  where
    step : Dec (n ≡ 0) → Dec (n ≡ 1) → Three n
    step (yes e) d = is_wanted e
    step (no e) (yes f) = is_active f
    step (no e) (no f) = is_old_lem (omega (arith, h, e, f))

module _ (g : List ℕ → ℕ) where
  -- every entry of a state has the indicator of its index
  abbrev Given : ℕ → List Entry → Type 0
  Given s es = (p : ℕ) → p < length es → (entry_at es p).state ≡ s → (entry_at es p).indicator ≡ g (entry_at es p).levels

  -- the pending error and the indicators of the wanted are those of all that are not old
  pending_held : (es : List Entry) → ((p : ℕ) → p < length es → (entry_at es p).state ≤ 2) → Given 1 es → pending_of es + total_of g (wanted_of es) ≡ total_of g (not_old_of es)
  unfolding pending_of wanted_of not_old_of total_of
  pending_held [] b f = refl
  pending_held (e ∷ es) b f =
      step (three e.state (b 0 (omega arith))) (f 0 (omega arith)) (pending_held es (λ p h. b (suc p) (omega arith)) (λ p h. f (suc p) (omega arith)))
    where
      step : Three e.state → (e.state ≡ 1 → e.indicator ≡ g e.levels) → pending_of es + total_of g (wanted_of es) ≡ total_of g (not_old_of es)
          → cond (eqb e.state 1) e.indicator 0 + pending_of es + total_of g (cond (eqb e.state 0) (e.levels ∷ wanted_of es) (wanted_of es))
          ≡ total_of g (cond (eqb e.state 2) (not_old_of es) (e.levels ∷ not_old_of es))
      step (is_wanted q) i ih =
          rw (ne_eqb e.state 1 (λ z. omega (arith, z, q)), eq-eqb e.state 0 q, ne_eqb e.state 2 (λ z. omega (arith, z, q))) (omega (arith, ih))
      step (is_active q) i ih =
          rw (eq-eqb e.state 1 q, ne_eqb e.state 0 (λ z. omega (arith, z, q)), ne_eqb e.state 2 (λ z. omega (arith, z, q))) (omega (arith, ih, i q))
      step (is_old_lem q) i ih =
          rw (ne_eqb e.state 1 (λ z. omega (arith, z, q)), ne_eqb e.state 0 (λ z. omega (arith, z, q)), eq-eqb e.state 2 q) (omega (arith, ih))

  -- the carried error is that of the old
  carried_held : (d : ℕ) (es : List Entry) → Given 2 es → carried_of d es ≡ total_of (λ k. cond (at_ceiling d k) (g k) 0) (old_of es)
  unfolding carried_of old_of total_of
  carried_held d [] f = refl
  carried_held d (e ∷ es) f = step (ℕ_discrete e.state 2) (f 0 (omega arith)) (carried_held d es (λ p h. f (suc p) (omega arith)))
    where
      own : ℕ → ℕ
      own i = cond (at_ceiling d e.levels) i 0

      step : Dec (e.state ≡ 2) → (e.state ≡ 2 → e.indicator ≡ g e.levels) → carried_of d es ≡ total_of (λ k. cond (at_ceiling d k) (g k) 0) (old_of es)
          → cond (eqb e.state 2 && at_ceiling d e.levels) e.indicator 0 + carried_of d es
          ≡ total_of (λ k. cond (at_ceiling d k) (g k) 0) (cond (eqb e.state 2) (e.levels ∷ old_of es) (old_of es))
      step (yes q) i ih = rw (eq-eqb e.state 2 q) (omega (arith, ap own (i q), ih))
      step (no q) i ih = rw (ne_eqb e.state 2 q) (omega (arith, ih))

-- ---- at any moment

-- the state s of Fig. 1 but for what is wanted
pub record Underway (P : Problem) (m : Machine) (s : Figure) : Type 0 where
  pub old_there : (k : List ℕ) → EnteredOld m.log.entries k → Memᴰ k s.old
  pub old_here : (k : List ℕ) → Memᴰ k s.old → EnteredOld m.log.entries k
  pub not_old : not_old_of m.log.entries ≡ s.active
  pub pending : pending_of m.log.entries + total_of P.indicator (wanted_of m.log.entries) ≡ s.estimate
  pub carried : carried_of m.log.settings.axes m.log.entries ≡ s.carried
  pub result : mean_of m.log.entries +ℤ sum_of (wanted_of m.log.entries) (increment P) ≡ s.result

module _ (m : Machine) (v : SoundMachine m) (is : List (List ℕ)) (c : Course m.log is) (P : Problem) (posed : SettingsMatch m.log.settings P) where
  abbrev es : List Entry
  es = m.log.entries

  abbrev s : Figure
  s = led P is

  abbrev x : Stands P m.log.entries (led P is)
  x = c P posed.axes

  pub course_underway : SuppliedSoFar P m.log.entries → Underway P m (led P is)
  course_underway given =
      record {
        old_there = x.old_there;
        old_here = x.old_here;
        not_old = x.not_old;
        pending = pending_held P.indicator es v.states (λ p h q. given.indicators p h (omega (arith, q))) ∙ sym x.estimate;
        carried =
            ap (λ d. carried_of d es) (sym posed.axes)
            ∙ carried_held P.indicator P.axes es (λ p h q. given.indicators p h (omega (arith, q)))
            ∙ sym x.carried;
        result =
            ap (λ r. r +ℤ sum_of (wanted_of es) (increment P)) (sum_facts.sum m P v given.readings)
            ∙ sum_held (increment P) es
            ∙ sym x.result;
      }

  -- ---- where nothing is wanted

  -- totals over the old, in whichever order
  old_total : (f : List ℕ → ℕ) → total_of f (old_of es) ≡ total_of f s.old
  old_total f =
      total_same f (old_of es) s.old (old_once es v.different) x.once (λ k h. x.old_there k (old_sure es k h)) (λ k h. old_back es k (x.old_here k h))

  held_both : (f : List ℕ → ℕ) → total_of f (indices_of es) ≡ total_of f s.old + total_of f s.active
  held_both f = omega (arith, total_held f es, old_total f, ap (total_of f) x.not_old)

  module _ (given : Supplied P m.log.entries) where
    each : EachDelivered es
    each p h = (given.delivered p h, v.states p h)

    -- what is not old is active
    active_same : active_of es ≡ s.active
    active_same = sym (append-nil (active_of es)) ∙ sym (not_old_both es [] each) ∙ ap not_old_of (append-nil es) ∙ x.not_old

    none : wanted_of es ≡ []
    none = ap wanted_of (sym (append-nil es)) ∙ wanted_after es [] each

    pub course_simulates : m.mean ≡ mean_of m.log.entries → Simulates P m (led P is)
    unfolding sum_of total_of
    course_simulates mean =
        let u : Underway P m s = course_underway (record { readings = λ p h q. given.readings p h; indicators = λ p h q. given.indicators p h }) in
        record {
          posed = posed;
          supplied = given;
          old_there = x.old_there;
          old_here = x.old_here;
          active = active_same;
          result = mean ∙ sym (+ℤ_idr (mean_of es)) ∙ ap (λ ks. mean_of es +ℤ sum_of ks (increment P)) (sym none) ∙ u.result;
          pending = omega (arith, u.pending, ap (total_of P.indicator) none);
          carried = u.carried;
          held = omega (arith, held_total es, held_both (λ k. 1), total-length s.old, total-length s.active);
          reserved = reserved_total es ∙ held_both block_size;
          once = x.once;
        }

-- ---- any sound state

-- where nothing is wanted it is a state of Fig. 1, on a problem with its readings and indicators and with the recorded mean as r
pub some_state : (m : Machine) → SoundMachine m → (any_wanted m.log.entries ≡ true → ⊥) → (P : Problem) × (s : Figure) × ReadingValued P × Simulates P m s
some_state m v none = (x.0, s, x.2, simulates)
  where
    all : (p : ℕ) → p < length m.log.entries → 1 ≤ (entry_at m.log.entries p).state
    all p h = step (ℕ_discrete (entry_at m.log.entries p).state 0)
      where
        step : Dec ((entry_at m.log.entries p).state ≡ 0) → 1 ≤ (entry_at m.log.entries p).state
        step (yes z) = absurd (none (wanted-facts.back m.log.entries p h z).0)
        step (no z) = omega (arith, z)

    x : (P : Problem) × SettingsMatch m.log.settings P × ReadingValued P × Supplied P m.log.entries
    x = problems.posed v all

    s : Figure
    s = record { old = old_of m.log.entries; active = active_of m.log.entries; result = m.mean; estimate = pending_of m.log.entries; carried = carried_of m.log.settings.axes m.log.entries }

    -- what is not old is active
    active_same : not_old_of m.log.entries ≡ active_of m.log.entries
    active_same = ap not_old_of (sym (append-nil m.log.entries)) ∙ not_old_both m.log.entries [] (λ p h. (all p h, v.states p h)) ∙ append-nil (active_of m.log.entries)

    held_both : (f : List ℕ → ℕ) → total_of f (indices_of m.log.entries) ≡ total_of f (old_of m.log.entries) + total_of f (active_of m.log.entries)
    held_both f = omega (arith, total_held f m.log.entries, ap (total_of f) active_same)

    simulates : Simulates x.0 m s
    simulates =
        record {
          posed = x.1;
          supplied = x.3;
          old_there = λ k h. old_back m.log.entries k h;
          old_here = λ k h. old_sure m.log.entries k h;
          active = refl;
          result = refl;
          pending = refl;
          carried = refl;
          held = omega (arith, held_total m.log.entries, held_both (λ k. 1), total-length (old_of m.log.entries), total-length (active_of m.log.entries));
          reserved = reserved_total m.log.entries ∙ held_both block_size;
          once = old_once m.log.entries v.different;
        }

-- as many indices were made old as there are old entries
count_old : (es : List Entry) → count_of 2 es ≡ length (old_of es)
unfolding count_of old_of
count_old [] = refl
count_old (e ∷ es) = step (eqb e.state 2) (count_old es)
  where
    step : (t : Bool) → count_of 2 es ≡ length (old_of es) → cond t 1 0 + count_of 2 es ≡ length (cond t (e.levels ∷ old_of es) (old_of es))
    step true ih = omega (arith, ih)
    step false ih = omega (arith, ih)

pub course_count : (m : Machine) → SoundMachine m → (is : List (List ℕ)) → Course m.log is → length is ≡ count_of 2 m.log.entries
course_count m v is c =
    omega
    (arith, ap length (led_old P is), total-length (led P is).old, old_total m v is c P posed (λ k. 1), total-length (old_of m.log.entries), count_old m.log.entries)
  where
    -- any problem with these settings
    P : Problem
    P = record { axes = m.log.settings.axes; tolerance = m.log.settings.threshold; integrand = λ x. pos 0; indicator = λ k. 0 }

    posed : SettingsMatch m.log.settings P
    posed = record { axes = refl; tolerance = refl }
