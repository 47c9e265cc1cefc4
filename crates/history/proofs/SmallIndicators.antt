-- Where deliveries have 32-bit indicators, every indicator in the log is a 32-bit number.
-- The idea: a start leaves 0, a delivery writes its own, and a promotion leaves indicators as they are and adds zeros.
-- Assumes nothing.
use mathlib.Core.Path.{◌≡◌, refl, sym, subst}
use mathlib.Core.List.{List, [], ◌∷◌, ◌++◌, map}
use Prim.Native.Nat.{ℕ, zero, suc, ◌^◌, ◌<◌}
use native.Mathlib.Omega.{arith}
use lib.IntN.{ℤ}
use lib.ListN.{set}
use Rattle.grid.specs.Index.{forward}
use Rattle.area.specs.declared.Settings.{Settings}
use Rattle.area.specs.Entry.{Entry}
use Rattle.area.specs.Log.{Log}
use Rattle.encoding.specs.Entries.{no_entry, entry_at}
use Rattle.machine.specs.Log.{wanted, first_wanted}
use Rattle.machine.specs.Promote as refining
use Rattle.machine.specs.Steps.{start_log, delivered, deliver_at, deliver_log}
use Rattle.calls.specs.Table.{Call, start, point, points, deliver, choose, promote, result, doubles, cross_total, check}
use Rattle.history.specs.LentCalls.{LentCall}
use Rattle.history.specs.Logged.{log_step, log_after, AcceptedBy}
use Rattle.history.specs.TypedCalls.{IndicatorFits, AllFit}
use Rattle.machine.proofs.Answers.{either_log}
use Rattle.history.proofs.LogSteps.{promote_accepted, log_facts, either_way}

-- ---- entries with indicators of 32 bits

abbrev pub AllSmall : List Entry → Type 0
AllSmall [] = Unit {0}
AllSmall (e ∷ es) = (e.indicator < 2 ^ 32) × AllSmall es

pub small_at : (es : List Entry) → AllSmall es → (p : ℕ) → (entry_at es p).indicator < 2 ^ 32
small_at [] s p = unfold no_entry in omega arith
small_at (e ∷ es) s zero = s.0
small_at (e ∷ es) s (suc p) = small_at es s.1 p

small_set : (es : List Entry) (p : ℕ) (y : Entry) → AllSmall es → y.indicator < 2 ^ 32 → AllSmall (set es p y)
small_set [] p y s h = tt
small_set (e ∷ es) zero y s h = (h, s.1)
small_set (e ∷ es) (suc p) y s h = (s.0, small_set es p y s.1 h)

small_append : (es fs : List Entry) → AllSmall es → AllSmall fs → AllSmall (es ++ fs)
small_append [] fs s t = t
small_append (e ∷ es) fs s t = (s.0, small_append es fs s.1 t)

small_wanted : (k : ℕ → List ℕ) (axes : List ℕ) → AllSmall (map (λ a. wanted (k a)) axes)
small_wanted k [] = tt
small_wanted k (a ∷ axes) = (unfold wanted in omega arith, small_wanted k axes)

-- ---- start, deliver and promote

pub started_small : (g : Settings) → AllSmall (start_log g).entries
started_small g = (unfold wanted in omega arith, tt)

module _ (l : Log) (s : AllSmall l.entries) where
  pub delivered_small : (rs : List ℤ) (i : ℕ) → i < 2 ^ 32 → AllSmall (deliver_log l rs i).entries
  unfolding deliver_at delivered
  delivered_small rs i h = small_set l.entries (first_wanted l.entries) (delivered (entry_at l.entries (first_wanted l.entries)) rs i) s h

  refined : (p : ℕ) → AllSmall (refining.refine l.settings.axes l.entries p)
  unfolding refining.refine refining.make_old refining.made_old
  refined p =
      small_append (refining.make_old l.entries p) (map (λ a. wanted (forward (entry_at l.entries p).levels a)) (refining.admitted_axes l.settings.axes (refining.make_old l.entries p) (entry_at l.entries p).levels))
      (small_set l.entries p (refining.made_old (entry_at l.entries p)) s (small_at l.entries s p))
      (small_wanted (forward (entry_at l.entries p).levels) (refining.admitted_axes l.settings.axes (refining.make_old l.entries p) (entry_at l.entries p).levels))

  pub promoted_small : (p : ℕ) → AllSmall (refining.promote_at l p).log.entries
  promoted_small p = either_log l.settings.budget l p (λ (x : Log). AllSmall x.entries) (λ e. refined p) s

-- ---- a call, and a list of calls

abbrev Small : Log → Type 0
Small l = AllSmall l.entries

step_small : (l : Log) → Small l → (x : LentCall) → IndicatorFits x.call → Small (log_step l x)
step_small l s x h = either_way Small l x s (by x.call h refl)
  where
    by : (c : Call) → IndicatorFits c → x.call ≡ c → AcceptedBy l x → Small (log_step l x)
    by (start g) f is none = subst Small (sym (log_facts.accepted_start l x g is none)) (started_small g)
    by (point n buffer) f is none = subst Small (sym (log_facts.after_point l x n buffer is)) s
    by (points n buffer) f is none = subst Small (sym (log_facts.after_points l x n buffer is)) s
    by (deliver rs i) f is none = subst Small (sym (log_facts.accepted_deliver l x rs i is none)) (delivered_small l s rs i f)
    by choose f is none = subst Small (sym (log_facts.after_choose l x is)) s
    by (promote p) f is none = subst Small (sym (promote_accepted l x p is none)) (promoted_small l s p)
    by result f is none = subst Small (sym (log_facts.after_result l x is)) s
    by doubles f is none = subst Small (sym (log_facts.after_doubles l x is)) s
    by cross_total f is none = subst Small (sym (log_facts.after_cross l x is)) s
    by check f is none = subst Small (sym (log_facts.after_check l x is)) s

pub after_small : (l : Log) → AllSmall l.entries → (xs : List LentCall) → AllFit xs → AllSmall (log_after l xs).entries
unfolding log_after
after_small l s [] f = s
after_small l s (x ∷ xs) f = after_small (log_step l x) (step_small l s x f.0) xs f.1
