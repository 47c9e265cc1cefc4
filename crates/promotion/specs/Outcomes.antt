-- What the answers of the code stand for.
use Rattle.std.specs.Prelude.{List, ℕ, ℤ}
use Rattle.area.specs.declared.JobRecord.{JobRecord}
use Rattle.area.specs.Encoding.{area_of}
use Rattle.machine.specs.Choose.{met, capped, place}
use Rattle.machine.specs.Choose as choice
use Rattle.machine.specs.Promote.{spent, promoted}
use Rattle.machine.specs.Promote as refining
use Rattle.machine.specs.Areas.{AreaPromotion}
use Rattle.promotion.specs.declared.Choice.{Choice}
use Rattle.promotion.specs.declared.Choice.TheVariants.{Met, Capped, Place}
use Rattle.promotion.specs.declared.Outcome.{Outcome}
use Rattle.promotion.specs.declared.Outcome.TheVariants.{Spent, Promoted}

-- The scope document's answer for each case: of choose,
unfoldable pub choice_of : Choice → choice.Choice
choice_of Met = met
choice_of Capped = capped
choice_of (Place p) = place p

-- and of promote.
unfoldable pub outcome_of : Outcome → refining.Outcome
outcome_of Spent = spent
outcome_of Promoted = promoted

-- The answer with the area that the job record, the cells and the store then hold.
abbrev pub promotion_of : Outcome → JobRecord → List ℕ → List ℤ → AreaPromotion
promotion_of o job c s = record { outcome = outcome_of o; area = area_of job c s }
