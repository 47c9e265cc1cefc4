-- The steps on an area: the machine's step on what the area holds, written into it. What changes nothing leaves the area itself.
use Rattle.std.specs.Prelude.{List, ℕ, ℤ}
use Rattle.area.specs.declared.Settings.{Settings}
use Rattle.area.specs.Encoding.{Area, machine_of, written}
use Rattle.machine.specs.Promote.{Outcome, spent, promoted, promote_within}
use Rattle.machine.specs.Steps.{started, deliver}

unfoldable pub start_on : Area → Settings → Area
start_on a g = written a (started g)

unfoldable pub deliver_on : Area → List ℤ → ℕ → Area
deliver_on a rs i = written a (deliver (machine_of a) rs i)

pub record AreaPromotion : Type 0 where
  pub outcome : Outcome
  pub area : Area

-- Spent changes nothing.
unfoldable pub changed_by : Outcome → Area → Area → Area
changed_by spent a b = a
changed_by promoted a b = b

-- Refining the place p, with a limit on the reserved readings.
unfoldable pub refine_on : (limit : ℕ) → Area → ℕ → AreaPromotion
refine_on limit a p =
    record {
      outcome = (promote_within limit (machine_of a).log p).outcome;
      area = changed_by (promote_within limit (machine_of a).log p).outcome a
          (written a (record { log = (promote_within limit (machine_of a).log p).log; mean = a.job.mean }));
    }

-- Promote of the place p: the limit is the recorded budget.
abbrev pub promote_on : Area → ℕ → AreaPromotion
promote_on a p = refine_on a.job.settings.budget a p
