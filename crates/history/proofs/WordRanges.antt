-- Along a list of exported calls the threshold stays below 2^64 and every indicator below 2^32, so the job record's words read back.
-- The idea: start and deliver are handed such numbers, a promotion leaves the settings, and what each does to the indicators is `SmallIndicators`.
-- Assumes nothing.
use mathlib.Core.Path.{◌≡◌, refl, sym, subst}
use mathlib.Core.List.{List}
use Prim.Native.Nat.{ℕ, ◌+◌, ◌^◌, ◌<◌}
use native.Mathlib.Omega.{arith}
use lib.IntN.{ℤ}
use Rattle.sums.proofs.Words.{small_fits}
use Rattle.area.specs.declared.Settings.{Settings}
use Rattle.area.specs.Settings.{settings_of}
use Rattle.area.specs.Log.{Log, Machine}
use Rattle.area.specs.Entry.{pending_of, carried_of}
use Rattle.area.specs.Encoding.{job_with}
use Rattle.area.proofs.Carried.{carried_facts}
use Rattle.encoding.specs.Entries.{no_entry, SoundMachine}
use Rattle.encoding.proofs.Ranges.{delivered_few}
use Rattle.machine.specs.Promote as refining
use Rattle.machine.specs.Steps.{start_log, deliver_log}
use Rattle.machine.proofs.Answers.{promoted_settings}
use Rattle.wihupya.specs.Words.{job_of, words_of}
use Rattle.wihupya.proofs.Facts.{word-facts}
use Rattle.history.specs.Logged.{log_step, AcceptedBy}
use Rattle.history.specs.OnExports.{ExportCall, start, point, points, deliver, choose, promote, result, doubles, cross_total, check, call_of, Typed, LentExport, lent_call}
use Rattle.history.proofs.LogSteps.{promote_accepted, log_facts, either_way}
use Rattle.history.proofs.SmallIndicators.{AllSmall, small_at, started_small, delivered_small, promoted_small}

-- ---- a log in range

pub record InRange (l : Log) : Type 0 where
  pub threshold : l.settings.threshold < 2 ^ 64
  pub indicators : AllSmall l.entries

-- the words of a state in range read back as its job record
pub reads_back : (m : Machine) → SoundMachine m → InRange m.log → job_of (words_of (job_with m)) ≡ job_with m
reads_back m v r =
    word-facts.job_round_trip (job_with m) (unfold job_with in r.threshold)
    (unfold job_with in omega (arith, errors)) (unfold job_with in omega (arith, errors))
    (unfold job_with in small_fits m.mean (omega (arith, v.mean, delivered_few m.log.entries, v.count.1)))
  where
    errors : pending_of m.log.entries + carried_of m.log.settings.axes m.log.entries < 2 ^ 41
    errors = carried_facts.together m.log.settings.axes m.log.entries no_entry v.count.1 (λ p inside. small_at m.log.entries r.indicators p)

-- ---- the steps

module _ (l : Log) (r : InRange l) where
  delivered_range : (rs : List ℤ) (i : ℕ) → i < 2 ^ 32 → InRange (deliver_log l rs i)
  delivered_range rs i h = record { threshold = r.threshold; indicators = delivered_small l r.indicators rs i h }

  promoted_range : (p : ℕ) → InRange (refining.promote_at l p).log
  promoted_range p =
      record {
        threshold = subst (λ (g : Settings). g.threshold < 2 ^ 64) (sym (promoted_settings l.settings.budget l p)) r.threshold;
        indicators = promoted_small l r.indicators p;
      }

-- an accepted start, whatever was there
pub started_range : (axes threshold budget : ℕ) → threshold < 2 ^ 64 → InRange (start_log (settings_of axes threshold budget))
started_range axes threshold budget h = record { threshold = h; indicators = started_small (settings_of axes threshold budget) }

pub step_range : (l : Log) → InRange l → (x : LentExport) → Typed x.call → InRange (log_step l (lent_call x))
unfolding call_of
step_range l r x h = either_way InRange l (lent_call x) r (by x.call h refl)
  where
    by : (c : ExportCall) → Typed c → call_of x.call ≡ call_of c → AcceptedBy l (lent_call x) → InRange (log_step l (lent_call x))
    by (start axes threshold budget) t is none = subst InRange (sym (log_facts.accepted_start l (lent_call x) (settings_of axes threshold budget) is none)) (started_range axes threshold budget t)
    by (point n buffer) t is none = subst InRange (sym (log_facts.after_point l (lent_call x) n buffer is)) r
    by (points n given buffer) t is none = subst InRange (sym (log_facts.after_points l (lent_call x) n buffer is)) r
    by (deliver rs i) t is none = subst InRange (sym (log_facts.accepted_deliver l (lent_call x) rs i is none)) (delivered_range l r rs i t)
    by (choose given) t is none = subst InRange (sym (log_facts.after_choose l (lent_call x) is)) r
    by (promote p outcome) t is none = subst InRange (sym (promote_accepted l (lent_call x) p is none)) (promoted_range l r p)
    by (result given) t is none = subst InRange (sym (log_facts.after_result l (lent_call x) is)) r
    by (doubles given) t is none = subst InRange (sym (log_facts.after_doubles l (lent_call x) is)) r
    by (cross_total given) t is none = subst InRange (sym (log_facts.after_cross l (lent_call x) is)) r
    by check t is none = subst InRange (sym (log_facts.after_check l (lent_call x) is)) r
