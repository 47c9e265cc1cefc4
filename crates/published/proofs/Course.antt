-- Where Fig. 1 stands beside the log when it is led by the indices made old, on whatever problem with the job's axes.
-- The idea: 𝒪 and 𝒜 follow from the list of these indices alone, and r, η and the carried error are sums over them, whatever was delivered. A
-- delivery changes neither what is old nor what is not; a promotion moves its place's index and appends what the scan joins.
-- Assumes nothing.
use mathlib.Core.Path.{◌≡◌, refl, sym, ap, ◌∙◌, subst}
use mathlib.Core.Logic.{◌≢◌, ⊎_elim}
use mathlib.Core.Bool.{cond}
use mathlib.Core.List.Memᴰ
use mathlib.Core.List.{List, [], ◌∷◌, ◌++◌, map, Memᴰ, map-map}
use Prim.Native.Nat.{ℕ, ◌+◌, ◌<◌}
use native.Mathlib.Omega.{arith}
use lib.IntN.{ℤ, ◌+ℤ◌, +ℤ_idr}
use lib.ListN.{length}
use Rattle.sums.specs.Sums.{sum_of}
use Rattle.sums.proofs.Sums.{sum_of-append}
use Rattle.grid.specs.Index.{root, forward, at_ceiling}
use Rattle.grid.specs.Terms.{NoDup}
use Rattle.grid.proofs.Lower.{nodup_append}
use Rattle.area.specs.declared.Settings.{Settings}
use Rattle.area.specs.Entry.{Entry, indices_of}
use Rattle.area.specs.Log.{Log, Machine}
use Rattle.encoding.specs.Entries.{entry_at, EnteredOld, SoundMachine}
use Rattle.machine.specs.Log.{wanted, first_wanted, Active}
use Rattle.machine.specs.Promote.{made_old, make_old, admitted_axes, refine}
use Rattle.machine.specs.Admitted.{total_of}
use Rattle.machine.specs.Steps.{start_log, delivered, deliver_at, deliver_log}
use Rattle.machine.proofs.Wanted.{first_is}
use Rattle.machine.proofs.Sets.{old_set, set_old}
use Rattle.machine.proofs.Appends.{old_left, old_before}
use Rattle.machine.proofs.Admitted.{not_old}
use Rattle.machine.proofs.Answers.{refined_log}
use Rattle.machine.proofs.Totals.{total-append}
use Rattle.published.specs.Figure.{Problem, Figure, increment, initial, without, moved, turn_at, led_from, led}
use Rattle.published.specs.Turns.{not_old_of}
use Rattle.published.proofs.MakesOld.{make_old_there, make_old_here}
use Rattle.published.proofs.Scans.{joined_all, scan_admits}
use Rattle.published.proofs.Awaited.{joins_old, joins_active, joins_estimate, joins_carried, joins_result}
use Rattle.published.proofs.Supplies.{all_wanted}
use Rattle.published.proofs.Led.{led_more}
use Rattle.published.proofs.HeldSets.{old_of, indices_set, not_old_set, old_set_other, not_old_make_old, total-not_old, total_old, indices_append, not_old_append, old_append}

-- the indicator of an index that is carried
abbrev pub carried_by : Problem → List ℕ → ℕ
carried_by P k = cond (at_ceiling P.axes k) (P.indicator k) 0

pub record Stands (P : Problem) (es : List Entry) (s : Figure) : Type 0 where
  pub old_there : (k : List ℕ) → EnteredOld es k → Memᴰ k s.old
  pub old_here : (k : List ℕ) → Memᴰ k s.old → EnteredOld es k
  pub once : NoDup s.old
  pub not_old : not_old_of es ≡ s.active
  pub result : s.result ≡ sum_of (indices_of es) (increment P)
  pub estimate : s.estimate ≡ total_of P.indicator (not_old_of es)
  pub carried : s.carried ≡ total_of (carried_by P) (old_of es)

-- on every problem with the job's number of axes
abbrev pub Course : Log → List (List ℕ) → Type 0
Course l is = (P : Problem) → P.axes ≡ l.settings.axes → Stands P l.entries (led P is)

-- ---- start

pub start_course : (g : Settings) → Course (start_log g) []
unfolding led led_from initial not_old_of old_of indices_of sum_of total_of wanted
start_course g P axes =
    record {
      old_there = λ k h. absurd (omega (arith, h.2, all_wanted (root ∷ []) h.0 h.1.place));
      old_here = λ k h. absurd (Memᴰ.not-nil h);
      once = tt;
      not_old = refl;
      result = sym (+ℤ_idr (increment P root));
      estimate = omega arith;
      carried = refl;
    }

-- ---- deliver

module _ (l : Log) (rs : List ℤ) (i : ℕ) (some : first_wanted l.entries < length l.entries) where
  abbrev es : List Entry
  es = l.entries

  abbrev w : ℕ
  w = first_wanted es

  abbrev e : Entry
  e = delivered (entry_at es w) rs i

  before : (entry_at es w).state ≢ 2
  before z = omega (arith, z, first_is es some)

  after : e.state ≢ 2
  unfolding delivered
  after z = omega (arith, z)

  same : e.levels ≡ (entry_at es w).levels
  unfolding delivered
  same = refl

  pub deliver_course : (is : List (List ℕ)) → Course l is → Course (deliver_log l rs i) is
  unfolding deliver_at
  deliver_course is c P axes =
      let x : Stands P es (led P is) = c P axes in
      record {
        old_there = λ k h. x.old_there k (⊎_elim (λ o. o) (λ n. absurd (after n.1)) (set_old es w e some same k h));
        old_here = λ k h. old_set es w e some same (λ z. absurd (before z)) k (x.old_here k h);
        once = x.once;
        not_old = not_old_set es w e same before after ∙ x.not_old;
        result = x.result ∙ ap (λ ks. sum_of ks (increment P)) (sym (indices_set es w e same));
        estimate = x.estimate ∙ ap (total_of P.indicator) (sym (not_old_set es w e same before after));
        carried = x.carried ∙ ap (total_of (carried_by P)) (sym (old_set_other es w e before after));
      }

-- ---- promote

module _ (m : Machine) (v : SoundMachine m) (p : ℕ) (a : Active m.log.entries p) where
  abbrev now : List Entry
  now = m.log.entries

  abbrev k : List ℕ
  k = (entry_at now p).levels

  abbrev kept : List Entry
  kept = make_old now p

  not_yet : (entry_at now p).state ≢ 2
  not_yet z = omega (arith, z, a.active)

  module _ (P : Problem) (axes : P.axes ≡ m.log.settings.axes) (s : Figure) (x : Stands P m.log.entries s) where
    -- the admitted indices
    abbrev ks : List (List ℕ)
    ks = map (forward k) (admitted_axes P.axes kept k)

    after_is : refine m.log.settings.axes now p ≡ kept ++ map wanted ks
    unfolding refine
    after_is =
        ap (λ d. refine d now p) (sym axes) ∙ ap (λ ws. kept ++ ws) (sym (map-map wanted (forward k) (admitted_axes P.axes kept k)))

    old_there : (j : List ℕ) → EnteredOld kept j → Memᴰ j (moved P k s).old
    unfolding moved
    old_there = make_old_there now p a.place s.old x.old_there

    old_here : (j : List ℕ) → Memᴰ j (moved P k s).old → EnteredOld kept j
    unfolding moved
    old_here = make_old_here now p a.place s.old x.old_here

    turn_joins : turn_at P k s ≡ joined_all P ks (moved P k s)
    unfolding turn_at
    turn_joins = scan_admits P (moved P k s) kept old_there old_here k

    turn_old : (turn_at P k s).old ≡ (moved P k s).old
    turn_old = ap (λ (r : Figure). r.old) turn_joins ∙ joins_old P ks (moved P k s)

    once : NoDup (s.old ++ k ∷ [])
    once =
        nodup_append s.old (k ∷ []) x.once (Memᴰ.not-nil, tt) (λ j h q.
        not_old v p a.place a.active (x.old_here k (Memᴰ.cast (sym (Memᴰ.eq_of_singleton q)) h)))

    not_old_after : not_old_of (refine m.log.settings.axes now p) ≡ (turn_at P k s).active
    unfolding moved
    not_old_after =
        ap not_old_of after_is
        ∙ not_old_append kept ks
        ∙ ap (λ xs. xs ++ ks) (not_old_make_old now p v.different a.place not_yet ∙ ap (λ xs. without xs k) x.not_old)
        ∙ sym (ap (λ (r : Figure). r.active) turn_joins ∙ joins_active P ks (moved P k s))

    result_after : (turn_at P k s).result ≡ sum_of (indices_of (refine m.log.settings.axes now p)) (increment P)
    unfolding moved make_old made_old
    result_after =
        ap (λ (r : Figure). r.result) turn_joins
        ∙ joins_result P ks (moved P k s)
        ∙ ap (λ r. r +ℤ sum_of ks (increment P)) (x.result ∙ ap (λ xs. sum_of xs (increment P)) (sym (indices_set now p (made_old (entry_at now p)) refl)))
        ∙ sym (sum_of-append (indices_of kept) ks (increment P))
        ∙ ap (λ xs. sum_of xs (increment P)) (sym (ap indices_of after_is ∙ indices_append kept ks))

    estimate_after : (turn_at P k s).estimate ≡ total_of P.indicator (not_old_of (refine m.log.settings.axes now p))
    unfolding moved
    estimate_after =
        omega (
          arith,
          ap (λ (r : Figure). r.estimate) turn_joins,
          joins_estimate P ks (moved P k s),
          x.estimate,
          total-not_old P.indicator now p a.place not_yet,
          ap (λ xs. total_of P.indicator (not_old_of xs)) after_is,
          ap (total_of P.indicator) (not_old_append kept ks),
          total-append P.indicator (not_old_of kept) ks,
        )

    carried_after : (turn_at P k s).carried ≡ total_of (carried_by P) (old_of (refine m.log.settings.axes now p))
    unfolding moved
    carried_after =
        ap (λ (r : Figure). r.carried) turn_joins
        ∙ joins_carried P ks (moved P k s)
        ∙ ap (λ c. c + carried_by P k) x.carried
        ∙ sym (total_old (carried_by P) now p a.place not_yet)
        ∙ ap (total_of (carried_by P)) (sym (ap old_of after_is ∙ old_append kept ks))

    stands_after : Stands P (refine m.log.settings.axes now p) (turn_at P k s)
    stands_after =
        record {
          old_there = λ j h. subst (Memᴰ j) (sym turn_old) (old_there j (old_before kept (map wanted ks) (all_wanted ks) j (subst (λ xs. EnteredOld xs j) after_is h)));
          old_here = λ j h. subst (λ xs. EnteredOld xs j) (sym after_is) (old_left kept (map wanted ks) j (old_here j (subst (Memᴰ j) turn_old h)));
          once = subst NoDup (sym turn_old) (unfold moved in once);
          not_old = not_old_after;
          result = result_after;
          estimate = estimate_after;
          carried = carried_after;
        }

  pub promote_course : (is : List (List ℕ)) → Course m.log is → Course (refined_log m.log p) (is ++ (entry_at m.log.entries p).levels ∷ [])
  promote_course is c P axes =
      subst (Stands P (refine m.log.settings.axes now p)) (sym (led_more P is k)) (stands_after P axes (led P is) (c P axes))
