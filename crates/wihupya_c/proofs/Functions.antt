-- The contracts of the lists of calls (`history`, specs/OnExports.antt) are the exports' own. `history` says it of the functions that the exports call
-- (specs/Functions.antt); here it is said of the exports themselves, field by field the same. It stands here and not in specs/, since it names what the
-- prover makes of the exports' clauses, as `Learnt`, and a crate's own specs/ may not name that.
use Rattle.std.specs.Prelude.{[], Bool, cond, ℕ}
use contract.Lifetimes.{Lfts}
use denote.Triple.Clauses.{AtExit}
use borrow.Fn.Kinds.{Dens, ended_of}
use Rattle.wihupya_c.proofs.wihupya_start.Kinds as start-kinds
use Rattle.wihupya_c.proofs.wihupya_start.Reads as start-reads
use Rattle.wihupya_c.proofs.wihupya_point.Kinds as point-kinds
use Rattle.wihupya_c.proofs.wihupya_point.Reads as point-reads
use Rattle.wihupya_c.proofs.wihupya_points.Kinds as points-kinds
use Rattle.wihupya_c.proofs.wihupya_points.Reads as points-reads
use Rattle.wihupya_c.proofs.wihupya_deliver.Kinds as deliver-kinds
use Rattle.wihupya_c.proofs.wihupya_deliver.Reads as deliver-reads
use Rattle.wihupya_c.proofs.wihupya_choose.Kinds as choose-kinds
use Rattle.wihupya_c.proofs.wihupya_choose.Reads as choose-reads
use Rattle.wihupya_c.proofs.wihupya_promote.Kinds as promote-kinds
use Rattle.wihupya_c.proofs.wihupya_promote.Reads as promote-reads
use Rattle.wihupya_c.proofs.wihupya_result.Kinds as result-kinds
use Rattle.wihupya_c.proofs.wihupya_result.Reads as result-reads
use Rattle.wihupya_c.proofs.wihupya_doubles.Kinds as doubles-kinds
use Rattle.wihupya_c.proofs.wihupya_doubles.Reads as doubles-reads
use Rattle.wihupya_c.proofs.wihupya_cross_total.Kinds as cross-kinds
use Rattle.wihupya_c.proofs.wihupya_cross_total.Reads as cross-reads
use Rattle.wihupya_c.proofs.wihupya_check.Kinds as check-kinds
use Rattle.wihupya_c.proofs.wihupya_check.Reads as check-reads
use Rattle.history.specs.OnExports.{start, point, points, deliver, choose, promote, result, doubles, cross_total, check, Contract}
use mathlib.Core.Path.{refl, ap}

pub record ExportContracts : Type 0 where
  -- wihupya_start: job, axes, threshold, budget, cells, store
  pub of_start : (κs : Lfts 3) (a : Dens κs start-kinds.ps) (r : ℕ) (s : AtExit (ended_of 3 start-kinds.ps start-kinds.r) κs) → start-reads.Learnt κs a r s
      → Contract a.0.now a.1.1.1.1.0.now a.1.1.1.1.1.0.now (start a.1.0 a.1.1.0 a.1.1.1.0)
      (record { number = r; job = s.0.now; cells = s.1.1.1.1.0.now; store = a.1.1.1.1.1.0.now; words = []; buffer = [] })
  -- wihupya_point: job, n, cells, store, buffer
  pub of_point : (κs : Lfts 4) (a : Dens κs point-kinds.ps) (r : ℕ) (s : AtExit (ended_of 4 point-kinds.ps point-kinds.r) κs) → point-reads.Learnt κs a r s
      → Contract a.0.now a.1.1.0.now a.1.1.1.0.now (point a.1.0 a.1.1.1.1.0.now)
      (record { number = r; job = a.0.now; cells = a.1.1.0.now; store = a.1.1.1.0.now; words = []; buffer = s.1.1.1.1.0.now })
  -- wihupya_points: job, n, counts, cells, store, buffer
  pub of_points : (κs : Lfts 5) (a : Dens κs points-kinds.ps) (r : ℕ) (s : AtExit (ended_of 5 points-kinds.ps points-kinds.r) κs) → points-reads.Learnt κs a r s
      → Contract a.0.now a.1.1.1.0.now a.1.1.1.1.0.now (points a.1.0 a.1.1.0.now a.1.1.1.1.1.0.now)
      (record { number = r; job = a.0.now; cells = a.1.1.1.0.now; store = a.1.1.1.1.0.now; words = s.1.1.0.now; buffer = s.1.1.1.1.1.0.now })
  -- wihupya_deliver: job, readings, indicator, cells, store
  pub of_deliver : (κs : Lfts 4) (a : Dens κs deliver-kinds.ps) (r : ℕ) (s : AtExit (ended_of 4 deliver-kinds.ps deliver-kinds.r) κs) → deliver-reads.Learnt κs a r s
      → Contract a.0.now a.1.1.1.0.now a.1.1.1.1.0.now (deliver a.1.0.now a.1.1.0)
      (record { number = r; job = s.0.now; cells = s.1.1.1.0.now; store = s.1.1.1.1.0.now; words = []; buffer = [] })
  -- wihupya_choose: job, choice, cells, store
  pub of_choose : (κs : Lfts 4) (a : Dens κs choose-kinds.ps) (r : ℕ) (s : AtExit (ended_of 4 choose-kinds.ps choose-kinds.r) κs) → choose-reads.Learnt κs a r s
      → Contract a.0.now a.1.1.0.now a.1.1.1.0.now (choose a.1.0.now)
      (record { number = r; job = a.0.now; cells = a.1.1.0.now; store = a.1.1.1.0.now; words = s.1.0.now; buffer = [] })
  -- wihupya_promote: job, place, outcome, cells, store
  pub of_promote : (κs : Lfts 4) (a : Dens κs promote-kinds.ps) (r : ℕ) (s : AtExit (ended_of 4 promote-kinds.ps promote-kinds.r) κs) → promote-reads.Learnt κs a r s
      → Contract a.0.now a.1.1.1.0.now a.1.1.1.1.0.now (promote a.1.0 a.1.1.0.now)
      (record { number = r; job = s.0.now; cells = s.1.1.1.0.now; store = a.1.1.1.1.0.now; words = s.1.1.0.now; buffer = [] })
  -- wihupya_result: job, counts, cells, store
  pub of_result : (κs : Lfts 4) (a : Dens κs result-kinds.ps) (r : ℕ) (s : AtExit (ended_of 4 result-kinds.ps result-kinds.r) κs) → result-reads.Learnt κs a r s
      → Contract a.0.now a.1.1.0.now a.1.1.1.0.now (result a.1.0.now)
      (record { number = r; job = a.0.now; cells = a.1.1.0.now; store = a.1.1.1.0.now; words = s.1.0.now; buffer = [] })
  -- wihupya_doubles: job, report, cells, store
  pub of_doubles : (κs : Lfts 4) (a : Dens κs doubles-kinds.ps) (r : ℕ) (s : AtExit (ended_of 4 doubles-kinds.ps doubles-kinds.r) κs) → doubles-reads.Learnt κs a r s
      → Contract a.0.now a.1.1.0.now a.1.1.1.0.now (doubles a.1.0.now)
      (record { number = r; job = a.0.now; cells = a.1.1.0.now; store = a.1.1.1.0.now; words = s.1.0.now; buffer = [] })
  -- wihupya_cross_total: job, total, cells, store
  pub of_cross : (κs : Lfts 4) (a : Dens κs cross-kinds.ps) (r : ℕ) (s : AtExit (ended_of 4 cross-kinds.ps cross-kinds.r) κs) → cross-reads.Learnt κs a r s
      → Contract a.0.now a.1.1.0.now a.1.1.1.0.now (cross_total a.1.0.now)
      (record { number = r; job = a.0.now; cells = a.1.1.0.now; store = a.1.1.1.0.now; words = s.1.0.now; buffer = [] })
  -- wihupya_check: job, cells, store
  pub of_check : (κs : Lfts 3) (a : Dens κs check-kinds.ps) (r : Bool) (s : AtExit (ended_of 3 check-kinds.ps check-kinds.r) κs) → check-reads.Learnt κs a r s
      → Contract a.0.now a.1.0.now a.1.1.0.now check
      (record { number = cond r 1 0; job = a.0.now; cells = a.1.0.now; store = a.1.1.0.now; words = []; buffer = [] })

-- What a caller of an export learns is the contract of that call.
pub export_contracts : ExportContracts
export_contracts =
    record {
      of_start = λ κs a r s m. (m.0, m.1, refl, refl, refl);
      of_point = λ κs a r s m. (m.0, m.1, (refl, refl, refl), refl);
      of_points = λ κs a r s m. (m.0, m.1, m.2, (refl, refl, refl));
      of_deliver = λ κs a r s m. (m.0, m.1, refl, refl);
      of_choose = λ κs a r s m. (m.0, m.1, (refl, refl, refl), refl);
      of_promote = λ κs a r s m. (m.0, m.1.0, m.1.1, refl, refl);
      of_result = λ κs a r s m. (m.0, m.1, (refl, refl, refl), refl);
      of_doubles = λ κs a r s m. (m.0, m.1, (refl, refl, refl), refl);
      of_cross = λ κs a r s m. (m.0, m.1, (refl, refl, refl), refl);
      of_check = λ κs a r s m. (ap (λ (b : Bool). cond {A = ℕ} b 1 0) m, (refl, refl, refl), refl, refl);
    }
