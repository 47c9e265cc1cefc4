-- The third demand over lent records.
-- The idea: what is found in the cells of the records is found in the records; the demand on cells is cited, not proved again.
-- Assumes nothing.
use mathlib.Core.Path.{◌≡◌, ap, sym, ◌∙◌, subst}
use mathlib.Core.List.{◌∷◌, map, Memᴰ}
use native.Mathlib.Omega.{arith}
use Rattle.area.specs.Records.{Run, cells_for}
use Rattle.area.specs.Encoding.{Area, area_of, entries_of}
use Rattle.area.proofs.Cells.{cells-length}
use Rattle.encoding.specs.Encodes.{WellFormed}
use Rattle.area.specs.Log.{Log}
use Rattle.machine.specs.Steps.{start_log}
use Rattle.soundness.specs.Clauses.{checked}
use Rattle.calls.specs.Replies.{accepted}
use Rattle.calls.specs.Table.{start, result, doubles, cross_total, answer}
use Rattle.calls.specs.Calls.{call_on}
use Rattle.records.specs.Lent.{area_on}
use Rattle.records.proofs.Unwritten.{unwritten}
use Rattle.history.specs.Logged.{log_after}
use Rattle.history.specs.Storage.{Storage, area_lent, AllLent}
use Rattle.history.specs.Found.{Found, LinksAgree, Demand}
use Rattle.history.specs.OnRecords.{RecordStorage, in_cells, call_in_cells, records_after, RecordsFound, ThirdDemandOnRecords, ThirdDemandOnTypedRecords}
use Rattle.history.proofs.Demand.{third_demand}
use Rattle.history.proofs.Published.{means_follow}
use Rattle.history.proofs.Moments.{steps_follow, rule_follows}
use Rattle.history.proofs.Spent.{spent_exactly}
use Rattle.history.proofs.RecordCells.{cells_run, in_storage, lent-cells, lent_area, all_lent, together}

-- what is found in the cells of the records is found in the records
module _ (w : RecordStorage) (l : Log) (f : WellFormed w.records) (found : Found (in_storage w) l) where
  same_area : area_of w.job (cells_for w.records) w.store ≡ area_on w.job w.records w.store
  same_area = ap (λ (u : Run). record { job = w.job; run = u; store = w.store }) (cells_run w.records f)

  in_records : RecordsFound w l
  in_records =
      record {
        entries = ap entries_of (sym same_area) ∙ found.entries;
        wanted_indicator_zero = found.wanted_indicator_zero;
        job = found.job;
        sound = ap checked (sym same_area) ∙ found.sound;
        neighbours = found.neighbours;
        links = subst (LinksAgree l.entries) (ap (λ (u : Run). u.records) (cells_run w.records f)) found.links;
        enough = (omega (arith, cells-length w.records f, found.enough.0), found.enough.1);
        result = λ x lent long room. ap (λ (a : Area). (call_on a result).answer) (sym (lent_area w x f lent)) ∙ found.result (in_cells x) (lent-cells w x f lent) (omega (arith, long)) room;
        doubles = λ x lent long room. ap (λ (a : Area). (call_on a doubles).answer) (sym (lent_area w x f lent)) ∙ found.doubles (in_cells x) (lent-cells w x f lent) (omega (arith, long)) room;
        cross = λ x lent long room. ap (λ (a : Area). (call_on a cross_total).answer) (sym (lent_area w x f lent)) ∙ found.cross (in_cells x) (lent-cells w x f lent) (omega (arith, long)) room;
        mean = found.mean;
        whole_result = ap (λ (a : Area). (call_on a result).answer) (sym same_area) ∙ found.whole_result;
        whole_doubles = ap (λ (a : Area). (call_on a doubles).answer) (sym same_area) ∙ found.whole_doubles;
        whole_cross = ap (λ (a : Area). (call_on a cross_total).answer) (sym same_area) ∙ found.whole_cross;
        alike = found.alike;
        report = found.report;
      }

pub third_demand_on_records : ThirdDemandOnRecords
third_demand_on_records w first later g f lent is taken =
    let both = together w (first ∷ later) f lent in
    let all : AllLent (in_storage w) (map call_in_cells (first ∷ later)) = all_lent w (first ∷ later) f lent in
    let begun : (call_on (area_lent (in_storage w) (in_cells first.part)) (start g)).answer ≡ answer accepted
    = ap (λ (a : Area). (call_on a (start g)).answer) (lent_area w first.part f lent.0) ∙ taken in
    let demand : Demand (in_storage w) (call_in_cells first) (map call_in_cells later) g
    = third_demand (in_storage w) (call_in_cells first) (map call_in_cells later) g all is begun in
    record {
      answers = sym both.answers ∙ demand.answers;
      never_unsound = λ y m. demand.never_unsound y (subst (Memᴰ y) (sym both.answers) m);
      records = both.records;
      store = both.store;
      found = in_records (records_after w (first ∷ later)) (log_after (start_log g) (map call_in_cells later)) both.well_formed
          (subst (λ (v : Storage). Found v (log_after (start_log g) (map call_in_cells later))) both.after demand.found);
      means = means_follow (in_storage w) (call_in_cells first) (map call_in_cells later) g all is begun;
      steps = steps_follow (in_storage w) (call_in_cells first) (map call_in_cells later) g all is begun;
      by_rule = rule_follows (in_storage w) (call_in_cells first) (map call_in_cells later) g all is begun;
      admissions = spent_exactly (in_storage w) (call_in_cells first) (map call_in_cells later) g all is begun;
    }

pub third_demand_on_typed_records : ThirdDemandOnTypedRecords
third_demand_on_typed_records w first later g typed = third_demand_on_records w first later g (unwritten.typed_run w.records typed)
