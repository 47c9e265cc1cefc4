-- What promote appends and when it is *spent*, for any active place and after every list of calls: by the indices that it would admit, which are
-- told by their levels alone (crate `machine`, specs/Admitted.antt).
use Rattle.std.specs.Prelude.{◌≡◌, true, List, ◌∷◌, ℕ, ◌≤◌}
use Rattle.area.specs.declared.Settings.{Settings}
use Rattle.area.specs.Settings.{least_store}
use Rattle.area.specs.Log.{Log}
use Rattle.encoding.specs.Entries.{Entered}
use Rattle.machine.specs.Log.{any_wanted, Active}
use Rattle.machine.specs.Promote as refining
use Rattle.machine.specs.Admitted.{Admitted, ListsAdmitted, Exceeds, Appends}
use Rattle.machine.specs.Steps.{start_log}
use Rattle.machine.specs.Causes.{Lengths}
use Rattle.calls.specs.Replies.{accepted, promotion}
use Rattle.calls.specs.Table.{start, promote, answer}
use Rattle.calls.specs.Calls.{call_on}
use Rattle.history.specs.LentCalls.{LentCall}
use Rattle.history.specs.Logged.{log_after, answer_by}
use Rattle.history.specs.Storage.{Storage, area_lent, AllLent}

pub record Admissions (l : Log) : Type 0 where
  -- what any active place would admit can be listed, each index once
  pub listed : (p : ℕ) → Active l.entries p → (ks : List (List ℕ)) × ListsAdmitted l p ks
  -- and it is what refining the place appends, wanted, in axis order
  pub appends : (p : ℕ) → Active l.entries p → (ks : List (List ℕ)) × Appends l p ks
  -- none of it is held yet
  pub none_held : (p : ℕ) (k : List ℕ) → Active l.entries p → Admitted l.settings.axes l.entries p k → Entered l.entries k → ⊥
  -- promote of the place, called next with nothing wanted in storage that is long enough, is *spent* exactly if what it would admit brings the
  -- held above 512 or the reserved above the budget, whatever the threshold and the indicators
  pub spent : (z : Lengths) (p : ℕ) (ks : List (List ℕ)) → 512 ≤ z.records → least_store l.settings ≤ z.readings → (any_wanted l.entries ≡ true → ⊥)
      → Active l.entries p → ListsAdmitted l p ks → Exceeds l ks → answer_by z l (promote p) ≡ answer (promotion refining.spent)
  pub spent_only : (z : Lengths) (p : ℕ) (ks : List (List ℕ)) → ListsAdmitted l p ks → answer_by z l (promote p) ≡ answer (promotion refining.spent)
      → Active l.entries p × Exceeds l ks
  -- and *promoted* otherwise
  pub promoted : (z : Lengths) (p : ℕ) (ks : List (List ℕ)) → 512 ≤ z.records → least_store l.settings ≤ z.readings → (any_wanted l.entries ≡ true → ⊥)
      → Active l.entries p → ListsAdmitted l p ks → (Exceeds l ks → ⊥) → answer_by z l (promote p) ≡ answer (promotion refining.promoted)
  pub promoted_only : (z : Lengths) (p : ℕ) (ks : List (List ℕ)) → ListsAdmitted l p ks → answer_by z l (promote p) ≡ answer (promotion refining.promoted)
      → Active l.entries p × (Exceeds l ks → ⊥)
  -- so where nothing is admitted
  pub none_admitted : (z : Lengths) (p : ℕ) → 512 ≤ z.records → least_store l.settings ≤ z.readings → (any_wanted l.entries ≡ true → ⊥)
      → Active l.entries p → ((k : List ℕ) → Admitted l.settings.axes l.entries p k → ⊥) → answer_by z l (promote p) ≡ answer (promotion refining.promoted)

-- After every list of the third demand.
abbrev pub SpentExactly : Type 0
SpentExactly = (w : Storage) (first : LentCall) (later : List LentCall) (g : Settings) → AllLent w (first ∷ later)
    → first.call ≡ start g → (call_on (area_lent w first.part) (start g)).answer ≡ answer accepted → Admissions (log_after (start_log g) later)
