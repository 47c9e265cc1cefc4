-- Where each promoted place was the one that choose would have answered, what was made old is what Fig. 1 selects itself, and its loop's test held
-- before each turn.
-- The idea: where nothing is wanted the log has the state of Fig. 1, whose selection is choose's.
-- Assumes nothing.
use mathlib.Core.Path.{◌≡◌, refl, sym, ap, ◌∙◌, subst}
use mathlib.Core.Bool.{true}
use mathlib.Core.List.{List, [], ◌∷◌, ◌++◌, map}
use Prim.Native.Nat.{ℕ, suc, ◌<◌, ◌≤◌}
use native.Mathlib.Decide.{ℕ_discrete}
use native.Mathlib.Omega.{arith}
use lib.IntN.{ℤ}
use lib.ListN.{length, length-set, length-append}
use Rattle.grid.specs.Index.{forward}
use Rattle.grid.specs.Block.{block}
use Rattle.area.specs.declared.Settings.{Settings}
use Rattle.area.specs.Entry.{Entry}
use Rattle.area.specs.Log.{Log, Machine}
use Rattle.encoding.specs.Entries.{entry_at, SoundMachine}
use Rattle.machine.specs.Log.{wanted, first_wanted, Active}
use Rattle.machine.specs.Choose.{place, choose}
use Rattle.machine.specs.Promote.{made_old, make_old, admitted_axes, refine}
use Rattle.machine.specs.Steps.{start_log, delivered, deliver_at, deliver_log}
use Rattle.machine.specs.Means.{mean_of}
use Rattle.machine.proofs.Wanted.{first_is, none-wanted}
use Rattle.machine.proofs.Sets.{set_here, set_there}
use Rattle.machine.proofs.Appends.{append_left}
use Rattle.machine.proofs.Admitted.{make_old-length}
use Rattle.machine.proofs.Answers.{refined_log}
use Rattle.published.specs.Figure.{Problem, loop_condition, select, turns, led, selections}
use Rattle.published.specs.Turns.{SettingsMatch, Supplied, SuppliedSoFar, Simulates}
use Rattle.published.proofs.Outcomes.{place_only}
use Rattle.published.proofs.Led.{led_itself}
use Rattle.published.proofs.Course.{Course}
use Rattle.published.proofs.Standing.{course_simulates}

-- ---- what is delivered so far, before and after

-- a delivered entry has the integrand's readings and the function's indicator; a wanted one is free
abbrev Matches : Problem → Entry → Type 0
Matches P e = 1 ≤ e.state → (e.readings ≡ map P.integrand (block e.levels)) × (e.indicator ≡ P.indicator e.levels)

module _ (P : Problem) where
  each : (es : List Entry) → SuppliedSoFar P es → (p : ℕ) → p < length es → Matches P (entry_at es p)
  each es g p h s = (g.readings p h s, g.indicators p h s)

  from_each : (es : List Entry) → ((p : ℕ) → p < length es → Matches P (entry_at es p)) → SuppliedSoFar P es
  from_each es f = record { readings = λ p h s. (f p h s).0; indicators = λ p h s. (f p h s).1 }

  -- the delivered entries before a delivery are among those after
  before_delivery : (es : List Entry) (rs : List ℤ) (i : ℕ) → first_wanted es < length es → SuppliedSoFar P (deliver_at es (first_wanted es) rs i) → SuppliedSoFar P es
  unfolding deliver_at
  before_delivery es rs i some g =
      from_each es (λ q h s.
      subst (Matches P) (set_there es p e some q (λ z. omega (arith, s, first_is es some, ap (λ r. (entry_at es r).state) z)))
      (each (deliver_at es p rs i) g q (omega (arith, h, length-set es p e))) s)
    where
      p : ℕ
      p = first_wanted es

      e : Entry
      e = delivered (entry_at es p) rs i

  -- a promotion leaves readings and indicators
  before_promotion : (es : List Entry) (p d : ℕ) → Active es p → SuppliedSoFar P (refine d es p) → SuppliedSoFar P es
  unfolding refine make_old made_old
  before_promotion es p d a g = from_each es (λ q h. step q h (ℕ_discrete q p))
    where
      new : List Entry
      new = map (λ c. wanted (forward (entry_at es p).levels c)) (admitted_axes d (make_old es p) (entry_at es p).levels)

      kept : (r : ℕ) → r < length es → Matches P (entry_at (make_old es p) r)
      kept r l =
          subst (Matches P) (append_left (make_old es p) new r (omega (arith, l, make_old-length es p a.place)))
          (each (refine d es p) g r (omega (arith, l, make_old-length es p a.place, length-append (make_old es p) new)))

      step : (q : ℕ) → q < length es → Dec (q ≡ p) → Matches P (entry_at es q)
      step q h (yes i) = subst (λ r. Matches P (entry_at es r)) (sym i) (λ s. subst (Matches P) (set_here es p (made_old (entry_at es p)) a.place) (kept p a.place) (omega arith))
      step q h (no n) = subst (Matches P) (set_there es p (made_old (entry_at es p)) a.place q n) (kept q h)

-- ---- Fig. 1 itself, on every problem that gives what is delivered so far

pub record OwnTurns (P : Problem) (is : List (List ℕ)) : Type 0 where
  pub own : is ≡ selections P (length is)
  pub went_on : (n : ℕ) → n < length is → loop_condition P (turns P n) ≡ true

abbrev pub ByRule : Log → List (List ℕ) → Type 0
ByRule l is = (P : Problem) → SettingsMatch l.settings P → SuppliedSoFar P l.entries → OwnTurns P is

pub start_rule : (g : Settings) → ByRule (start_log g) []
unfolding selections
start_rule g P posed given = record { own = refl; went_on = λ n h. absurd (omega (arith, h)) }

pub deliver_rule : (l : Log) (rs : List ℤ) (i : ℕ) (is : List (List ℕ)) → first_wanted l.entries < length l.entries → ByRule l is → ByRule (deliver_log l rs i) is
deliver_rule l rs i is some r P posed given = r P posed (before_delivery P l.entries rs i some given)

module _ (m : Machine) (v : SoundMachine m) (mean : m.mean ≡ mean_of m.log.entries) (free : length m.log.entries ≤ first_wanted m.log.entries) (is : List (List ℕ)) (c : Course m.log is) (r : ByRule m.log is)
    (p : ℕ) (a : Active m.log.entries p) (e : choose m.log ≡ place p) where
  abbrev es : List Entry
  es = m.log.entries

  abbrev k : List ℕ
  k = (entry_at es p).levels

  module _ (P : Problem) (posed : SettingsMatch m.log.settings P) (given : SuppliedSoFar P es) where
    before : OwnTurns P is
    before = r P posed given

    all : Supplied P es
    all =
        let d = none-wanted es free in
        record { delivered = d; readings = λ q h. given.readings q h (d q h); indicators = λ q h. given.indicators q h (d q h) }

    stands : Simulates P m (led P is)
    stands = course_simulates m v is c P posed all mean

    itself : led P is ≡ turns P (length is)
    itself = ap (led P) before.own ∙ led_itself P (length is)

    chosen : (loop_condition P (led P is) ≡ true) × Active es p × (k ≡ select P (led P is))
    chosen = place_only P m (led P is) stands p e

    more : length (is ++ k ∷ []) ≡ suc (length is)
    more = omega (arith, length-append is (k ∷ []))

    next : OwnTurns P (is ++ k ∷ [])
    unfolding selections
    next =
        record {
          own =
              ap (λ xs. xs ++ k ∷ []) before.own
              ∙ ap (λ j. selections P (length is) ++ j ∷ []) (chosen.2 ∙ ap (select P) itself)
              ∙ ap (selections P) (sym more);
          went_on = λ n h. step n h (ℕ_discrete n (length is));
        }
      where
        step : (n : ℕ) → n < length (is ++ k ∷ []) → Dec (n ≡ length is) → loop_condition P (turns P n) ≡ true
        step n h (yes q) = ap (λ j. loop_condition P (turns P j)) q ∙ ap (loop_condition P) (sym itself) ∙ chosen.0
        step n h (no q) = before.went_on n (omega (arith, h, q, more))

  pub promote_rule : ByRule (refined_log m.log p) (is ++ (entry_at m.log.entries p).levels ∷ [])
  promote_rule P posed given = next P posed (before_promotion P es p m.log.settings.axes a given)
